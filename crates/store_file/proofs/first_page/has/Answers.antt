use Rattle.store_file.{proofs.Finding.found_somewhere}
use Rattle.store_file.proofs.first_page.has.Goals as goal

pub returns : goal.returns
returns c =
    let found = found_somewhere c.args.page.now c.args.name.now c.find.result c.find.ensures in
    rw c.is_some.ensures found
