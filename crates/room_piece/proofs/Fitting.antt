-- The lists of objects that come are sound.
use Rattle.std.proofs.Common.{◌≡◌, ℕ, ◌+◌, ◌||◌, Bool, true, false, cond, not, List, [], ◌∷◌}
use Rattle.std.proofs.Common.{length, Option, Some, None, refl, sym, ◌∙◌, arith}
use Rattle.std.proofs.lemmas.{Bool.{and_from, or_right, Decides.nat_tests}, Option.none-some}
use Rattle.std.specs.{Prelude.nat_le, List.list_all, Option.option_map_or}
use Rattle.room_entry.specs.{Ace.Ace, Same.same_entries, declared.object.ObjKind.ObjKind}
use Rattle.room_entry.specs.declared.object.{ObjKind.TheVariants.{Document, Folder}, Which.Which}
use Rattle.room_entry.specs.declared.object.Which.TheVariants.{Dacl, Sacl}
use Rattle.room_entry.proofs.Alike.{entries_themselves}
use Rattle.room_ace.specs.Sent.{Sent, inherited_of, limit_fault, own_of}
use Rattle.room_rows.specs.{HeldList.Held, Held.{full_of, is_linked}, Pass.pass}
use Rattle.room_rows.specs.Sound.{is_sound_held}
use Rattle.room_inherit.{specs.Laws.are_valid, proofs.Valid.pass_is_valid}
use Rattle.room_machine.specs.Changed.{passed_held}
use Rattle.room_desk.{specs.Setting.{fault_in, held_with}, proofs.Lists.ValidDown.held_parts}
use Rattle.room_desk.proofs.Lists.ValidDown.{passed_marked}
use Rattle.room_question.specs.declared.question.Listed.{Listed, TheVariants.{Follows, Unread}}
use Rattle.room_question.specs.declared.question.Listed.TheVariants.{Text}
use Rattle.room_piece.specs.Storing.{IsWithin, listed, misfit_of, passing, root_list}
use Rattle.room_piece.specs.{Storing.root_misfit_of, declared.refusal.RefusalWhy.RefusalWhy}
use Rattle.room_piece.specs.declared.refusal.RefusalWhy.TheVariants.{NotPassedDown, Room}

-- entries of which each may stand in a list: the own ones and the inherited ones
record AreParted (which : Which) (kind : ObjKind) (entries : List Ace) : Type 0 where
  own : list_all (λ entry. not entry.flags.inherited) (own_of entries) ≡ true
  inherited : list_all (λ entry. entry.flags.inherited) (inherited_of entries) ≡ true
  own_valid : are_valid which kind (own_of entries) ≡ true
  inherited_valid : are_valid which kind (inherited_of entries) ≡ true

parted : (which : Which) (kind : ObjKind) (place : ℕ) (entries : List Ace)
    → fault_in place which kind entries ≡ None → AreParted which kind entries
parted which kind place [] none =
    record { own = refl; inherited = refl; own_valid = refl; inherited_valid = refl }
parted which kind place (entry ∷ entries) none =
    record {
      own = grind (arith, nat_tests, parted which kind (place + 1) entries);
      inherited = grind (arith, nat_tests, parted which kind (place + 1) entries);
      own_valid = grind (arith, nat_tests, parted which kind (place + 1) entries);
      inherited_valid = grind (arith, nat_tests, parted which kind (place + 1) entries);
    }

few : (sent : Sent) → limit_fault sent.entries ≡ None
    → nat_le (length (own_of sent.entries)) 64 ≡ true
few sent none = grind (arith, nat_tests)

pub whole_sound : (kind : ObjKind) (sent : Sent) → fault_in 1 Dacl kind sent.entries ≡ None
    → limit_fault sent.entries ≡ None
    → is_sound_held Dacl kind (held_with sent (inherited_of sent.entries)) ≡ true
whole_sound kind sent none within =
    let parts = parted Dacl kind 1 sent.entries none in
    held_parts Dacl kind (held_with sent (inherited_of sent.entries))
    ∙ and_from _ _
    (and_from _ _ (few sent within) (and_from _ _ parts.own parts.own_valid))
    (and_from _ _ parts.inherited parts.inherited_valid)

-- the sacl of a new object is sound
pub sacl_sound : (kind : ObjKind) (above : Held) → is_sound_held Sacl Folder above ≡ true
    → is_sound_held Sacl kind (passed_held kind above) ≡ true
sacl_sound kind above is = grind (arith, nat_tests, pass_is_valid, passed_marked)

passing_sound : (kind : ObjKind) → is_sound_held Dacl kind passing ≡ true
passing_sound Document = refl
passing_sound Folder = refl

none_first : {X Y : Type 0} (o : Option X) (turn : X → Y) (other : Option Y)
    → option_map_or (λ x. Some (turn x)) o other ≡ None → (o ≡ None) × (other ≡ None)
none_first None turn other none = (refl, none)
none_first (Some x) turn other none = absurd (none-some (turn x) (sym none))

holds_so : (b : Bool) (why : RefusalWhy) → cond b None (Some why) ≡ None → b ≡ true
holds_so true why none = refl
holds_so false why none = absurd (none-some why (sym none))

-- the list of an object that comes is sound, and agrees with that of its folder
pub list_sound : (list : Listed) (kind : ObjKind) (above : Held) → IsWithin list
    → misfit_of list kind above ≡ None → is_sound_held Dacl Folder above ≡ true
    → is_sound_held Dacl kind (listed list kind above) ≡ true
list_sound Follows kind above within fits sound =
    grind (arith, nat_tests, pass_is_valid, passed_marked)
list_sound Unread kind above within fits sound = passing_sound kind
list_sound (Text sent) kind above within fits sound =
    whole_sound kind sent (none_first (fault_in 1 Dacl kind sent.entries) Room _ fits).0 within

pub list_agrees : (list : Listed) (kind : ObjKind) (above : Held)
    → misfit_of list kind above ≡ None
    → (not (is_linked (listed list kind above) (Some above))
    || same_entries (listed list kind above).inh (pass kind (full_of above))) ≡ true
list_agrees Follows kind above fits =
    or_right (not (is_linked (passed_held kind above) (Some above))) _
    (entries_themselves (pass kind (full_of above)))
list_agrees Unread kind above fits = refl
list_agrees (Text sent) kind above fits =
    holds_so _ NotPassedDown (none_first (fault_in 1 Dacl kind sent.entries) Room _ fits).1

pub root_list_sound : (list : Listed) → IsWithin list → root_misfit_of list ≡ None
    → is_sound_held Dacl Folder (root_list list) ≡ true
root_list_sound Follows within fits = refl
root_list_sound Unread within fits = refl
root_list_sound (Text sent) within fits =
    whole_sound Folder sent (none_first (fault_in 1 Dacl Folder sent.entries) Room None fits).0
    within
