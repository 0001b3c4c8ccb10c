use Rattle.http_message.proofs.Seeking.{routes_begin}
use Rattle.http_message.proofs.laws.routes_begin_paths.Goals as goal

pub returns : goal.returns
returns c = routes_begin
