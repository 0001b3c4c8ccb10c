use Rattle.std.{proofs.Common.{◌≡◌, true, length, take}, specs.List.list_all}
use Rattle.room_entry.specs.Pieces.{pieces}
use Rattle.room_rows.specs.Paths.{is_object_name}
use Rattle.room_rows.proofs.path.read_rest.Given as goal

-- the names so far are the first ones, and each is an object name
abbrev pub invariant-names : goal.invariant-names
invariant-names l = record {
  first : l.names.items ≡ take (length l.yielded) (pieces 47 l.fn.rest);
  good : list_all is_object_name l.names.items ≡ true;
}
