use Rattle.std.{proofs.Common.{◌≡◌, true, take}, specs.{List.list_all, Char.is_ascii_digit}}
use Rattle.room_http.proofs.fields.is_digits.Given as goal

abbrev pub invariant-loop-byte : goal.invariant-loop-byte
invariant-loop-byte l = list_all is_ascii_digit (take l.byte-index l.text) ≡ true
