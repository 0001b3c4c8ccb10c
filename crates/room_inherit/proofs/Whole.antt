-- Rows of which no number is bad.
use Rattle.std.proofs.Common.{◌≡◌, ℕ, ◌==◌, ◌||◌, Bool, true, false, List, [], ◌∷◌, Some, None}
use Rattle.std.proofs.{Common.{refl, sym, ap, ◌∙◌, inl, inr, arith, rules}, lemmas.Bool.cases_Bool}
use Rattle.std.proofs.lemmas.Bool.{eqb-true, or_left, or_right, false_from_ne_true}
use Rattle.std.{proofs.lemmas.Bool.Decides.nat_tests, specs.{Prelude.is_some, List.find}}
use Rattle.std.specs.List.{list_any}
use Rattle.room_entry.specs.Pieces.{is_among}
use Rattle.room_rows.specs.{declared.node.Node.Node, Content.node_at, Rows.{Rows, Unread}}
use Rattle.room_rows.specs.Rows.{is_unreadable, numbers_of, put_number, put_numbers}
use Rattle.room_rows.{specs.Sound.{first_bad_list, has_bad_list}, proofs.Sets.or_swap}
use Rattle.room_inherit.proofs.Children.{ids_of}

-- ---- numbers in use

or_group : (a b c : Bool) → (a || (b || c)) ≡ ((a || b) || c)
or_group a b c = grind (arith, nat_tests)

among_one_more : (new : ℕ) (ids : List ℕ) (id : ℕ)
    → is_among (put_number new ids) id ≡ ((new == id) || is_among ids id)
among_one_more new [] id = refl
among_one_more new (x ∷ xs) id = grind (arith, nat_tests, or_swap, among_one_more new xs id)

-- a number is among those put in, or among the others
pub among_numbers : (more ids : List ℕ) (id : ℕ)
    → is_among (put_numbers more ids) id ≡ (is_among more id || is_among ids id)
among_numbers [] ids id = refl
among_numbers (x ∷ xs) ids id = search (among_one_more, or_group, among_numbers xs ids id)

-- a number is one of the objects' numbers exactly if an object is found by it
pub among_found : (nodes : List Node) (id : ℕ)
    → is_among (ids_of nodes) id ≡ is_some (find (λ (n : Node). n.id == id) nodes)
among_found [] id = refl
among_found (x ∷ xs) id = grind (arith, nat_tests, ids_of, among_found xs id)

-- ---- no row is bad

pub any_at : (test : ℕ → Bool) (ids : List ℕ) (id : ℕ) → is_among ids id ≡ true → test id ≡ true
    → list_any test ids ≡ true
any_at test [] id among passes = among
any_at test (x ∷ xs) id among passes =
    elim (cases_Bool (x == id)) [
      | inl same ↦ or_left _ _ (ap test (eqb-true x id same) ∙ passes)
      | inr other ↦
          or_right _ _
          (any_at test xs id (ap (λ t. t || is_among xs id) (sym other) ∙ among) passes)
    ]

pub none_found : (test : ℕ → Bool) (ids : List ℕ) → find test ids ≡ None → list_any test ids ≡ false
none_found test [] none = refl
none_found test (x ∷ xs) none = grind (arith, nat_tests, none_found test xs)

pub all_read : (rows : Rows) (unreadable : List Unread) → rows.unreadable ≡ unreadable
    → first_bad_list rows ≡ None → unreadable ≡ []
all_read rows [] are none = refl
all_read rows (x ∷ xs) are none =
    let itself : is_unreadable rows x.id ≡ true = grind (arith, nat_tests) in
    let listed : is_among (numbers_of rows) x.id ≡ true = search (among_numbers, ids_of, or_left) in
    search (rules, or_left, none_found, any_at, none, itself, listed)

-- where no number in use is bad, each row can be read
pub none_unreadable : (rows : Rows) → first_bad_list rows ≡ None → rows.unreadable ≡ []
none_unreadable rows none = all_read rows rows.unreadable refl none

-- the row of an object that is found is none
pub not_bad : (rows : Rows) → first_bad_list rows ≡ None → (id : ℕ) (node : Node)
    → node_at rows.read id ≡ Some node → has_bad_list rows id ≡ false
not_bad rows none id node found =
    let listed : is_among (numbers_of rows) id ≡ true =
    search (rules, among_numbers, ids_of, or_right, among_found, found) in
    search (rules, false_from_ne_true, none_found, any_at, none, listed)
