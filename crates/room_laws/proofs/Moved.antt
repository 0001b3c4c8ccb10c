-- Views after an object was moved.
use Rattle.std.proofs.Common.{ℕ, ◌≡◌, ◌⊎◌, inl, inr, Bool, true, false, List, [], ◌∷◌, ◌++◌, Some}
use Rattle.std.proofs.{Common.{None, refl, sym, ap, ◌∙◌, append-nil, arith}, lemmas.Bool.and_parts}
use Rattle.std.proofs.lemmas.{Bool.{cases_Bool, Decides.nat_tests}, Option.none-some}
use Rattle.std.specs.{Option.option_map, Prelude.{option_and_then, is_none}}
use Rattle.room_entry.{specs.Pieces.same_text, proofs.{Alike.text_itself, Texts.same_text-true}}
use Rattle.room_rows.specs.Content.{Content, child_of, root_of, has_parent, body_of, with_node}
use Rattle.room_rows.specs.{Content.are_names_apart, declared.node.Node.Node}
use Rattle.room_rows.proofs.Frames.{parent_is, has_its_parent}
use Rattle.room_machine.specs.Site.{front, last_name}
use Rattle.room_laws.specs.{Outside.{sight, found, found_from, unnumbered, view}, Tidy.IsNumbered}
use Rattle.room_laws.proofs.Grown.{GoesOn, found_append, front_shorter, is_child, is_target}
use Rattle.room_laws.proofs.{Grown.{its_parent, step_target, walk_below, walk_same}, Kept.is_named}
use Rattle.room_laws.proofs.OnePlace.{found_snoc, not_empty, one_place, split_last}
use Rattle.room_laws.proofs.Kept as kept

front_on : (l : List (List ℕ)) (x : List ℕ) (r : List (List ℕ))
    → front (l ++ x ∷ r) ≡ l ++ front (x ∷ r)
front_on [] x r = refl
front_on (y ∷ []) x r = refl
front_on (y ∷ z ∷ l) x r = ap (λ (k : List (List ℕ)). y ∷ k) (front_on (z ∷ l) x r)

longer : (l : List (List ℕ)) (x : List ℕ) (r : List (List ℕ)) → l ++ x ∷ r ≡ l → ⊥
longer [] x r is = not_empty x r (sym is)
longer (y ∷ l) x r is = longer l x r (tail is)
  where
    tail : y ∷ l ++ x ∷ r ≡ y ∷ l → l ++ x ∷ r ≡ l
    tail same = cc

module _ (a : Content) (numbered : IsNumbered a) (apart : are_names_apart a.nodes ≡ true)
    (name : List ℕ) (names : List (List ℕ)) (target : Node)
    (at : found a (name ∷ names) ≡ Some target)
    (from : Node) (above : found a (front (name ∷ names)) ≡ Some from)
    (first : List ℕ) (more : List (List ℕ)) (folder : Node)
    (place : found a (front (first ∷ more)) ≡ Some folder)
    (absent : found a (first ∷ more) ≡ None)
    (no_loop : GoesOn (name ∷ names) (front (first ∷ more)) → ⊥)
    (new : Node) (number : new.id ≡ target.id) (parent : new.parent ≡ Some folder.id)
    (named : new.name ≡ last_name (first ∷ more)) where
  abbrev pub old_path : List (List ℕ)
  old_path = name ∷ names

  abbrev pub new_path : List (List ℕ)
  new_path = first ∷ more

  abbrev pub moved : Content
  moved = with_node a new

  -- nothing was found at the new path or from it on
  nothing_on : (rest : List (List ℕ)) → found a (new_path ++ rest) ≡ None
  nothing_on rest = cc (found_append a new_path rest, absent)

  not_at_new : (q : List (List ℕ)) (n : Node) → found a q ≡ Some n → GoesOn new_path q → ⊥
  not_at_new q n is (rest, on) = grind (arith, nat_tests, nothing_on)

  -- the new path isn't below the old one
  not_below : (rest : List (List ℕ)) → old_path ++ rest ≡ new_path → ⊥
  not_below [] is =
      none-some target (sym absent ∙ ap (found a) (sym is ∙ append-nil old_path) ∙ at)
  not_below (x ∷ rest) is = grind (arith, nat_tests, front_on)

  fails_moved : (p : Node → Bool) → p target ≡ false → kept.Fails p new.id a.nodes
  fails_moved p fails = grind (arith, nat_tests, is_target, kept.fails_at)

  -- where it is the child of that name now, the path is the new one
  step_moved : (pre : List (List ℕ)) (node : Node) (x : List ℕ) → found a pre ≡ Some node
      → is_named node.id x new ≡ true → pre ++ x ∷ [] ≡ new_path
  step_moved pre node x is passes =
      let parts = and_parts (has_parent node.id new) (same_text new.name x) passes in
      let above_it : node.id ≡ folder.id = grind (arith, nat_tests, parent_is) in
      cc (
        one_place a numbered pre (front new_path) node folder is place above_it,
        same_text-true new.name x parts.1,
        named,
        split_last first more,
      )

  abbrev Ok : List (List ℕ) → Type 0
  Ok r = (r ≡ old_path → ⊥) × (r ≡ new_path → ⊥)

  step_other : (pre : List (List ℕ)) (node : Node) (x : List ℕ) → found a pre ≡ Some node
      → Ok (pre ++ x ∷ []) → child_of moved node.id x ≡ child_of a node.id x
  step_other pre node x is ok =
      on (cases_Bool (is_named node.id x new)) (cases_Bool (is_named node.id x target))
    where
      on : (is_named node.id x new ≡ true) ⊎ (is_named node.id x new ≡ false)
          → (is_named node.id x target ≡ true) ⊎ (is_named node.id x target ≡ false)
          → child_of moved node.id x ≡ child_of a node.id x
      on (inl passes) other = absurd (ok.1 (step_moved pre node x is passes))
      on (inr fails) (inl passes) = grind (arith, nat_tests, step_target)
      on (inr fails) (inr not_there) = search (fails_moved, is_named, kept.find-put)

  root_moved : root_of moved ≡ root_of a
  root_moved =
      kept.find-put (λ (n : Node). is_none n.parent) new a.nodes (ap is_none parent)
      (fails_moved (λ (n : Node). is_none n.parent)
      (ap is_none (its_parent a numbered name names target at from above)))

  pub moved_apart : (q : List (List ℕ)) → (GoesOn old_path q → ⊥) → (GoesOn new_path q → ⊥)
      → found moved q ≡ found a q
  moved_apart q not_old not_new =
      walk_same a moved root_moved Ok step_other q
      (grind (arith, nat_tests))

  -- ---- at the old path

  old_gone : child_of moved from.id (last_name old_path) ≡ None
  old_gone =
      kept.find-replaced 0 from.id (last_name old_path) new target number fails a.nodes numbered
      apart (is_child a numbered name names target at from above)
    where
      fails : is_named from.id (last_name old_path) new ≡ false
      fails = elim (cases_Bool (is_named from.id (last_name old_path) new)) [
        | inl passes ↦
            absurd (not_below [] (append-nil old_path ∙ split_last name names
            ∙ step_moved (front old_path) from (last_name old_path) above passes))
        | inr isnt ↦ isnt
      ]

  pub found_old : (rest : List (List ℕ)) → found moved (old_path ++ rest) ≡ None
  found_old rest =
      cc (
        found_append moved old_path rest,
        split_last name names,
        found_snoc moved (front old_path) (last_name old_path),
        moved_apart (front old_path) (front_shorter name names)
            (not_at_new (front old_path) from above),
        above,
        old_gone,
      )

  -- ---- at the new path

  new_there : child_of moved folder.id (last_name new_path) ≡ Some new
  new_there =
      kept.find-put_new (is_named folder.id (last_name new_path)) new a.nodes
      (grind (arith, nat_tests, has_its_parent, text_itself))
      (
      cc (
        place,
        found_snoc a (front new_path) (last_name new_path),
        split_last first more,
        absent,
      ))

  pub found_new : found moved new_path ≡ Some new
  found_new =
      cc (
        split_last first more,
        found_snoc moved (front new_path) (last_name new_path),
        moved_apart (front new_path) no_loop (front_shorter first more),
        place,
        new_there,
      )

  -- what was below it is below it
  pub found_below : (x : List ℕ) (rest : List (List ℕ))
      → found moved (new_path ++ x ∷ rest) ≡ found a (old_path ++ x ∷ rest)
  found_below x rest =
      found_append moved new_path (x ∷ rest)
      ∙ ap (option_and_then (λ n. found_from moved n (x ∷ rest))) found_new
      ∙ ap (λ (i : ℕ). option_and_then (λ child. found_from moved child rest) (child_of moved i x))
      number
      ∙ walk_below a moved root_moved Ok step_other (x ∷ rest) old_path target at
      (search (longer, not_below))
      ∙ sym (cc (found_append a old_path (x ∷ rest), at))

  -- ---- views

  pub view_apart : (q : List (List ℕ)) → (GoesOn old_path q → ⊥) → (GoesOn new_path q → ⊥)
      → view moved q ≡ view a q
  view_apart q not_old not_new = ap (option_map (sight a)) (moved_apart q not_old not_new)

  pub view_old : (rest : List (List ℕ)) → view moved (old_path ++ rest) ≡ None
  view_old rest = ap (option_map (sight a)) (found_old rest)

  pub view_new : view moved new_path ≡ Some (unnumbered new, body_of a target.id)
  view_new = grind (arith, nat_tests, found_new)

  pub view_below : (x : List ℕ) (rest : List (List ℕ))
      → view moved (new_path ++ x ∷ rest) ≡ view a (old_path ++ x ∷ rest)
  view_below x rest = ap (option_map (sight a)) (found_below x rest)
