-- Worked examples of what the law of a table says of whom: of a user with rows, of a name without,
-- of a caller without a name, and of one that is asked for alone.
use Rattle.std.proofs.Common.{◌≡◌, ℕ, Bool, true, false, List, [], ◌∷◌, ◌++◌, drop, Option, Some}
use Rattle.std.proofs.{Common.{None, refl, sym, ap, ◌∙◌, codes}, lemmas.Bool.cond-false}
use Rattle.std.{proofs.lemmas.Bool.cond-true, specs.List.list_any}
use Rattle.room_entry.specs.{Letters.mask_text, Names.is_name}
use Rattle.room_rows.specs.Content.{Content}
use Rattle.room_machine.specs.{Rights.{may_remove_at, rights_at}, Site.Site}
use Rattle.room_review.specs.{declared.question.Scope.Scope, LookedUp.{IsRow, SaysTheRoom}}
use Rattle.room_review.specs.{LookedUp.{StandsAt, is_row_of, label_in, looked_up}, Table.yes_or_no}

module _ (room : Content) (table : List (List (List ℕ))) (path : List (List ℕ)) (all : Bool) where
  abbrev of_all : Scope
  of_all = record { path = path; user = None; all = all }

  abbrev of_one : List ℕ → Scope
  of_one name = record { path = path; user = Some name; all = all }

  abbrev rights_of : Option (List ℕ) → List (List ℕ) → List ℕ
  rights_of user more = mask_text (rights_at room user (path ++ more))

  abbrev removal_of : Option (List ℕ) → List (List ℕ) → List ℕ
  removal_of user more = yes_or_no (may_remove_at room user (path ++ more))

  abbrev HasRows : List ℕ → Bool → Type 0
  HasRows name has = list_any (is_row_of name) table ≡ has

  -- whose rows are looked up
  own_rows : (name : List ℕ) → HasRows name true → label_in table (Some name) ≡ name
  own_rows name has = cond-true (list_any (is_row_of name) table) name (codes "*") has

  rows_of_others : (name : List ℕ) → HasRows name false → label_in table (Some name) ≡ codes "*"
  rows_of_others name none = cond-false (list_any (is_row_of name) table) name (codes "*") none

  -- ---- what is looked up

  module _ (more : List (List ℕ)) (site : Site) (stands : StandsAt room (path ++ more) site) where
    abbrev Finds : List ℕ → Option (List ℕ) → Type 0
    Finds label user =
        looked_up table (path ++ more) label ≡ Some (rights_of user more, removal_of user more)

    a_user_is_found : SaysTheRoom room of_all table → (name : List ℕ) → is_name name ≡ true
        → HasRows name true → Finds name (Some name)
    a_user_is_found says name is has =
        ap (looked_up table (path ++ more)) (sym (own_rows name has))
        ∙ says (Some name) more site is tt stands

    a_stranger_is_found : SaysTheRoom room of_all table → (name : List ℕ) → is_name name ≡ true
        → HasRows name false → Finds (codes "*") (Some name)
    a_stranger_is_found says name is none =
        ap (looked_up table (path ++ more)) (sym (rows_of_others name none))
        ∙ says (Some name) more site is tt stands

    nobody_is_found : SaysTheRoom room of_all table → Finds (codes "ANONYMOUS@") None
    nobody_is_found says = says None more site refl tt stands

    the_one_is_found : (name : List ℕ) → SaysTheRoom room (of_one name) table
        → is_name name ≡ true → HasRows name true → Finds name (Some name)
    the_one_is_found name says is has =
        ap (looked_up table (path ++ more)) (sym (own_rows name has))
        ∙ says (Some name) more site is refl stands

  -- ---- what a row says, wherever it stands in the table

  module _ (row : List (List ℕ)) where
    abbrev Tells : Option (List ℕ) → List (List ℕ) → Type 0
    Tells user more = drop 3 row ≡ rights_of user more ∷ removal_of user more ∷ []

    no_users_row_lies : (is : IsRow room of_all table row) → is_name is.label ≡ true
        → HasRows is.label true → Tells (Some is.label) is.more
    no_users_row_lies is name has = is.says (Some is.label) name tt (own_rows is.label has)

    no_strangers_row_lies : (is : IsRow room of_all table row) → is.label ≡ codes "*"
        → (name : List ℕ) → is_name name ≡ true → HasRows name false → Tells (Some name) is.more
    no_strangers_row_lies is star name named none =
        is.says (Some name) named tt (rows_of_others name none ∙ sym star)

    nobodys_row_doesnt_lie : (is : IsRow room of_all table row) → is.label ≡ codes "ANONYMOUS@"
        → Tells None is.more
    nobodys_row_doesnt_lie is label = is.says None refl tt (sym label)

    -- in a review of one user
    the_ones_row_doesnt_lie : (name : List ℕ) (is : IsRow room (of_one name) table row)
        → is_name name ≡ true → HasRows name true → Tells (Some name) is.more
    the_ones_row_doesnt_lie name is named has =
        is.says (Some name) named refl (own_rows name has ∙ sym is.is_asked)

    nobody_else_has_rows : (name : List ℕ) (is : IsRow room (of_one name) table row)
        → is.label ≡ name
    nobody_else_has_rows name is = is.is_asked
