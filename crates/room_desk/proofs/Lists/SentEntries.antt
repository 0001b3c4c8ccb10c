-- Sent entries gone through one by one.
use Rattle.std.proofs.Common.{◌≡◌, ℕ, ◌+◌, ◌<◌, Bool, true, false, cond, not, List, [], ◌∷◌, ◌++◌}
use Rattle.std.proofs.Common.{length, drop, get_or, sym, ap, ◌∙◌, append_assoc, arith}
use Rattle.std.proofs.lemmas.{List.drop_more, Bool.Decides.nat_tests}
use Rattle.room_entry.specs.{Ace.Ace, declared.flags.EntryFlags.EntryFlags}
use Rattle.room_desk.specs.Setting.{entries_marked}
use mathlib.Core.Bool.{beq}

module _ (entries : List Ace) (i : ℕ) (entry : Ace) (below : i < length entries)
    (is : entry ≡ get_or entries i entry) where
  next : drop i entries ≡ entry ∷ drop (i + 1) entries
  next = drop_more entries i entry below ∙ ap (λ e. e ∷ drop (i + 1) entries) (sym is)

  -- the entry is taken where its flag is the wanted one
  module _ (inherited : Bool) (taken : List Ace) where
    abbrev wanted : Bool → Bool
    wanted mark = cond inherited mark (not mark)

    pub takes_entry : wanted entry.flags.inherited ≡ true
        → (taken ++ entry ∷ []) ++ entries_marked inherited (drop (i + 1) entries) ≡ taken
        ++ entries_marked inherited (drop i entries)
    takes_entry is_wanted =
        cc (
          append_assoc taken (entry ∷ []) (entries_marked inherited (drop (i + 1) entries)),
          is_wanted,
          next,
        )

    pub leaves_entry : wanted entry.flags.inherited ≡ false
        → taken ++ entries_marked inherited (drop (i + 1) entries) ≡ taken
        ++ entries_marked inherited (drop i entries)
    leaves_entry isnt = grind (arith, nat_tests, next)

pub same_mark : (inherited mark : Bool) → beq mark inherited ≡ true
    → cond inherited mark (not mark) ≡ true
same_mark inherited mark same = grind (arith, nat_tests)

pub other_mark : (inherited mark : Bool) → beq mark inherited ≡ false
    → cond inherited mark (not mark) ≡ false
other_mark inherited mark isnt = grind (arith, nat_tests)

-- ---- in terms of the loop

module _ (entries items : List Ace) (same : items ≡ entries) (i : ℕ) (entry : Ace)
    (below : i < length items) (is : entry ≡ get_or items i entry) (inherited : Bool)
    (flags : EntryFlags) (of_entry : flags ≡ entry.flags) (taken : List Ace)
    (sofar : taken ++ entries_marked inherited (drop i entries)
    ≡ entries_marked inherited entries) where
  sofar_items : taken ++ entries_marked inherited (drop i items) ≡ entries_marked inherited entries
  sofar_items = ap (λ es. taken ++ entries_marked inherited (drop i es)) same ∙ sofar

  pub takes_next : (copy : Ace) (grown : List Ace) → beq flags.inherited inherited ≡ true
      → grown ≡ taken ++ copy ∷ [] → copy ≡ entry
      → grown ++ entries_marked inherited (drop (i + 1) entries) ≡ entries_marked inherited entries
  takes_next copy grown marks adds copied =
      grind (arith, nat_tests, same_mark, sofar_items, takes_entry)

  pub leaves_next : (still : List Ace) → beq flags.inherited inherited ≡ false → still ≡ taken
      → still ++ entries_marked inherited (drop (i + 1) entries) ≡ entries_marked inherited entries
  leaves_next still marks stays = grind (arith, nat_tests, leaves_entry, other_mark, sofar_items)
