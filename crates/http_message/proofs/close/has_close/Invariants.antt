use Rattle.std.{proofs.Common.{◌≡◌, length}, specs.List.list_any}
use Rattle.room_entry.specs.Pieces.{pieces}
use Rattle.http_message.specs.Close.{is_close}
use Rattle.http_message.proofs.close.has_close.Given as goal

abbrev pub invariant-tokens : goal.invariant-tokens
invariant-tokens l = list_any is_close (pieces 44 l.value) ≡ list_any is_close (pieces 44 l.rest)

abbrev pub decreases-tokens : goal.decreases-tokens
decreases-tokens l = length l.rest
