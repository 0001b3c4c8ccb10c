-- Lists that are the same are equal.
use Rattle.std.proofs.{Common.{◌≡◌, ◌&&◌, Bool, true, false, refl, arith}, lemmas.Bool.and_parts}
use Rattle.std.proofs.lemmas.Bool.Decides.{nat_tests}
use Rattle.room_entry.specs.{Same.same_entries, declared.flags.ListFlags.ListFlags}
use Rattle.room_entry.proofs.{Same.entries_equal, Alike.entries_themselves}
use Rattle.room_rows.specs.HeldList.{Held}
use mathlib.Core.Bool.{beq}

abbrev pub flags_same : ListFlags → ListFlags → Bool
flags_same a b = beq a.auto b.auto && beq a.protect b.protect

beq_equal : (s t : Bool) → beq s t ≡ true → s ≡ t
beq_equal s t h = grind (arith, nat_tests)

beq_itself : (t : Bool) → beq t t ≡ true
beq_itself true = refl
beq_itself false = refl

pub held_equal : (held other : Held) → flags_same held.flags other.flags ≡ true
    → same_entries held.own other.own ≡ true → same_entries held.inh other.inh ≡ true → held ≡ other
held_equal held other flags own inh =
    let parts = and_parts (beq held.flags.auto other.flags.auto)
    (beq held.flags.protect other.flags.protect) flags in
    λ i. record {
      flags =
          record {
            auto = beq_equal held.flags.auto other.flags.auto parts.0 i;
            protect = beq_equal held.flags.protect other.flags.protect parts.1 i;
          };
      own = entries_equal held.own other.own own i;
      inh = entries_equal held.inh other.inh inh i;
    }

pub flags_itself : (held other : Held) → held ≡ other → flags_same held.flags other.flags ≡ true
flags_itself held other same = grind (arith, nat_tests, beq_itself)

pub own_itself : (held other : Held) → held ≡ other → same_entries held.own other.own ≡ true
own_itself held other same = cc (same, entries_themselves held.own)

pub inh_itself : (held other : Held) → held ≡ other → same_entries held.inh other.inh ≡ true
inh_itself held other same = cc (same, entries_themselves held.inh)
