-- What rows of several lists say, and the rows of one object.
use Rattle.std.proofs.Common.{rules, ◌≡◌, ℕ, ◌&&◌, ◌||◌, Bool, true, false, cond, not, List, []}
use Rattle.std.proofs.Common.{◌∷◌, ◌++◌, filter, map, Option, Some, None, refl, ap, subst, ◌∙◌}
use Rattle.std.proofs.{Common.{append_assoc, arith}, lemmas.List.append-nil}
use Rattle.std.proofs.lemmas.{List.Folds.list_any-append, Bool.Decides.nat_tests}
use Rattle.std.specs.{List.{flat_map, list_any, AllByRecursion as Each}, Option.option_or}
use Rattle.room_entry.specs.{Letters.mask_text, Pieces.same_text}
use Rattle.room_entry.proofs.{Alike.text_itself, Facts.Members.{any_filter, any_map, none_filter}}
use Rattle.room_machine.specs.Site.{Site}
use Rattle.room_rows.specs.Paths.{path_text}
use Rattle.room_review.specs.{declared.parties.Party.Party, LookedUp.{is_row_of, nearest, said_in}}
use Rattle.room_review.specs.{Standing.{granted, repeats}, Table.{row, rows_at, yes_or_no}}

-- ---- the first of several

pub or_assoc : {A : Type 0} (a b c : Option A)
    → option_or (option_or a b) c ≡ option_or a (option_or b c)
or_assoc None b c = refl
or_assoc (Some x) b c = refl

pub or_none : {A : Type 0} (o : Option A) → option_or o None ≡ o
or_none None = refl
or_none (Some x) = refl

no_cond : {A : Type 0} (t : Bool) → ◌≡◌ {A = Option A} (cond t None None) None
no_cond true = refl
no_cond false = refl

dropped_too : {A : Type 0} (t : Bool) (o : Option A) → cond (t && false) o None ≡ None
dropped_too true o = refl
dropped_too false o = refl

-- the same thing, said once or twice
said_twice : {A : Type 0} (t : Bool) (o : Option A) → option_or o (cond t o None) ≡ o
said_twice t None = no_cond t
said_twice t (Some x) = refl

module _ (path user : List ℕ) where
  pub said_append : (xs ys : List (List (List ℕ)))
      → said_in (xs ++ ys) path user ≡ option_or (said_in xs path user) (said_in ys path user)
  said_append [] ys = refl
  said_append (x ∷ xs) ys = grind (arith, nat_tests, or_assoc, said_append xs ys)

  -- those that pass the test say the same, and the others nothing
  pub said_those : {X : Type 0} (f : X → List (List (List ℕ))) (p : X → Bool)
      (o : Option (List ℕ × List ℕ)) (xs : List X)
      → Each (λ x. said_in (f x) path user ≡ cond (p x) o None) xs
      → said_in (flat_map f xs) path user ≡ cond (list_any p xs) o None
  said_those f p o [] all = refl
  said_those f p o (x ∷ xs) all =
      said_append (f x) (flat_map f xs)
      ∙ (λ i. option_or (all.0 i) (said_those f p o xs all.1 i)) ∙ on (p x)
    where
      on : (t : Bool)
          → option_or (cond t o None) (cond (list_any p xs) o None)
          ≡ cond (t || list_any p xs) o None
      on true = said_twice (list_any p xs) o
      on false = refl

  -- nobody says anything
  pub said_none : {X : Type 0} (f : X → List (List (List ℕ))) (xs : List X)
      → Each (λ x. said_in (f x) path user ≡ None) xs → said_in (flat_map f xs) path user ≡ None
  said_none f [] all = refl
  said_none f (x ∷ xs) all =
      said_append (f x) (flat_map f xs) ∙ (λ i. option_or (all.0 i) (said_none f xs all.1 i))

-- ---- the nearest row

module _ (user : List ℕ) where
  same_first : (one other : List (List (List ℕ))) (first : List (List ℕ))
      → ((rest : List (List ℕ)) → said_in one (path_text (first ++ rest)) user
      ≡ said_in other (path_text (first ++ rest)) user)
      → said_in one (path_text first) user ≡ said_in other (path_text first) user
  same_first one other first same =
      subst (λ (p : List (List ℕ)). said_in one (path_text p) user
      ≡ said_in other (path_text p) user) (append-nil first) (same [])

  -- two tables that say the same from a path on
  pub same_nearest : (one other : List (List (List ℕ))) (first names : List (List ℕ))
      → ((rest : List (List ℕ)) → said_in one (path_text (first ++ rest)) user
      ≡ said_in other (path_text (first ++ rest)) user)
      → nearest one user first names ≡ nearest other user first names
  same_nearest one other first [] same = same_first one other first same
  same_nearest one other first (name ∷ names) same =
      let here = same_first one other first same in
      let more = same_nearest one other (first ++ name ∷ []) names
      (search (rules, append_assoc, same)) in
      λ i. option_or (more i) (here i)

  -- what is found from a path on is found from further up
  pub found_from : (table : List (List (List ℕ))) (path first more : List (List ℕ))
      (value : List ℕ × List ℕ) → nearest table user (first ++ path) more ≡ Some value
      → nearest table user first (path ++ more) ≡ Some value
  found_from table [] first more value is =
      subst (λ (p : List (List ℕ)). nearest table user p more ≡ Some value) (append-nil first) is
  found_from table (name ∷ path) first more value is =
      ap (λ o. option_or o (said_in table (path_text first) user))
      (found_from table path (first ++ name ∷ []) more value
      (search (rules, value, append_assoc, is)))

-- ---- the rows of one object

-- as they are printed
abbrev pub printed : List ℕ × Bool → List ℕ × List ℕ
printed grant = (mask_text grant.0, yes_or_no grant.1)

module _ (above : List Site) (target : Site) where
  abbrev path : List ℕ
  path = path_text target.path

  -- no other path has such rows
  pub said_elsewhere : (all : Bool) (parties : List Party) (other user : List ℕ)
      → same_text path other ≡ false
      → said_in (rows_at all parties above target) other user ≡ None
  said_elsewhere all parties other user apart =
      each (filter (λ party. all || not (repeats party.caller above target)) parties)
    where
      each : (chosen : List Party) → said_in (map (row above target) chosen) other user ≡ None
      each [] = refl
      each (party ∷ chosen) =
          ap (λ t. option_or (cond (t && same_text party.label user)
          (Some (printed (granted party.caller above target))) None)
          (said_in (map (row above target) chosen) other user)) apart ∙ each chosen

  module _ (party : Party) where
    abbrev is : Party → Bool
    is other = same_text other.label party.label

    -- what the party's row says, if it stands
    said_chosen : (keep : Party → Bool) (parties : List Party)
        → Each (λ other. is other ≡ true → other ≡ party) parties
        → said_in (map (row above target) (filter keep parties)) path party.label
        ≡ cond (list_any is parties && keep party)
        (Some (printed (granted party.caller above target))) None
    said_chosen keep [] one = refl
    said_chosen keep (other ∷ parties) one =
        grind (arith, nat_tests, dropped_too, text_itself, said_chosen keep parties one.1)

    -- the row of one of the parties
    pub said_here : (all : Bool) (parties : List Party)
        → Each (λ other. is other ≡ true → other ≡ party) parties → list_any is parties ≡ true
        → said_in (rows_at all parties above target) path party.label
        ≡ cond (all || not (repeats party.caller above target))
        (Some (printed (granted party.caller above target))) None
    said_here all parties one among = grind (arith, nat_tests, said_chosen)

  -- ---- whether a name has rows

  pub has_row : (parties : List Party) (name : List ℕ)
      → list_any (λ party. same_text party.label name) parties ≡ true
      → list_any (is_row_of name) (rows_at true parties above target) ≡ true
  has_row parties name among = grind (arith, nat_tests, any_filter, any_map)

  pub has_none : (all : Bool) (parties : List Party) (name : List ℕ)
      → list_any (λ party. same_text party.label name) parties ≡ false
      → list_any (is_row_of name) (rows_at all parties above target) ≡ false
  has_none all parties name none = grind (arith, nat_tests, any_map, none_filter)

pub any_flat : {X Y : Type 0} (p : Y → Bool) (f : X → List Y) (xs : List X)
    → Each (λ x. list_any p (f x) ≡ false) xs → list_any p (flat_map f xs) ≡ false
any_flat p f [] none = refl
any_flat p f (x ∷ xs) none = grind (arith, nat_tests, list_any-append, any_flat p f xs none.1)
