use Rattle.std.proofs.Common.{◌≡◌, true, take}
use Rattle.room_entry.proofs.MaskLetters.{spelled, are_letters}
use Rattle.room_entry.proofs.mask.mask_in.Given as goal

-- the mask of the letters so far, each of which stands for a bit
abbrev pub invariant-loop-letter : goal.invariant-loop-letter
invariant-loop-letter l =
    record {
      mask : l.mask ≡ spelled (take l.letter-index l.letters);
      letters : are_letters (take l.letter-index l.letters) ≡ true;
    }
