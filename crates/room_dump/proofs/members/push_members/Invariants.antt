use Rattle.std.proofs.Common.{◌≡◌, ◌++◌, drop, string_bytes}
use Rattle.room_dump.specs.Members.{members_text}
use Rattle.room_dump.proofs.members.push_members.Given as goal

-- the text so far and the lines of the pairs that are left are all
abbrev pub invariant-loop-pair : goal.invariant-loop-pair
invariant-loop-pair l =
    string_bytes l.text ++ members_text (drop l.pair-index l.pairs) ≡ string_bytes l.fn.text
    ++ members_text l.fn.pairs
