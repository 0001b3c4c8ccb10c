-- The list of an object, in terms of a call.
use Rattle.std.proofs.Common.{◌≡◌, ℕ, Bool, true, List, [], ◌++◌, Option, Some, Result, Ok, Err}
use Rattle.std.proofs.Common.{sym, ap, ◌∙◌}
use Rattle.std.specs.{Prelude.{OnOk, if◌then◌else◌}, Option.option_map_or}
use Rattle.room_entry.specs.{Ace.Ace, declared.flags.ListFlags.ListFlags}
use Rattle.room_rows.specs.{Held.full_of, Paths.path_text, declared.node.{Node.Node, Walk.Walk}}
use Rattle.room_machine.specs.Rights.{last_of}
use Rattle.room_answer.specs.Answer.{list_part}
use Rattle.room_would.specs.Lists.{is_told, list_by}

module _ (unknown : List ℕ) (path : List (List ℕ)) (found : Walk) (node : Node)
    (told : is_told unknown found ≡ true) (last : last_of found.chain ≡ Some node)
    (text : List ℕ) (flags : ListFlags) (entries : List Ace) (text_is : text ≡ path_text path)
    (flags_are : flags ≡ node.dacl.flags) (entries_are : entries ≡ full_of node.dacl) where
  abbrev of_node : Node → List ℕ
  of_node it = list_part (path_text path) it.dacl.flags (full_of it.dacl)

  list_is : list_part text flags entries ≡ list_by unknown path found
  list_is =
      (λ i. list_part (text_is i) (flags_are i) (entries_are i))
      ∙ ap (λ (o : Option Node). option_map_or of_node o []) (sym last)
      ∙ ap (λ (t : Bool). if t then option_map_or of_node (last_of found.chain) [] else [])
      (sym told)

  pub list_pushed : {X E : Type 0} (r : Result X E) (old new : List ℕ)
      → OnOk r (new ≡ old ++ list_part text flags entries)
      → OnOk r (new ≡ old ++ list_by unknown path found)
  list_pushed (Ok x) old new pushed = pushed ∙ ap (λ (l : List ℕ). old ++ l) list_is
  list_pushed (Err fault) old new pushed = tt
