-- The callers of a table by their labels: a user's name, `*` and `ANONYMOUS@` are apart.
use Rattle.std.proofs.Common.{rules, ◌≡◌, ℕ, ◌||◌, Bool, true, false, List, [], ◌∷◌, map, refl, sym}
use Rattle.std.proofs.{Common.{ap, ◌∙◌, codes, arith}, lemmas.Bool.{and_parts, false_from_ne_true}}
use Rattle.std.proofs.lemmas.Bool.{false≢true, or_from, or_left, or_right, Decides.nat_tests}
use Rattle.std.proofs.lemmas.List.Folds.{list_any-append}
use Rattle.std.specs.List.{list_all, list_any, AllByRecursion as Each}
use Rattle.room_entry.specs.{Names.is_name, Pieces.same_text}
use Rattle.room_entry.proofs.Facts.Members.{any_map, each_append, each_map, each_weaker}
use Rattle.room_entry.proofs.Texts.{same_text-true}
use Rattle.room_rows.specs.Content.{Content}
use Rattle.room_dump.proofs.Counting.{each_always}
use Rattle.room_review.specs.{declared.parties.Party.Party, Table.{everybody, named, nameless}}
use Rattle.room_review.specs.{Table.other_name, Users.is_listed}

-- neither of the labels that aren't names is one
no_names : (is_name (codes "*") ≡ false) × (is_name (codes "ANONYMOUS@") ≡ false)
unfolding is_name
no_names = (refl, refl)

-- what is no name isn't this one
other_than : (label name : List ℕ) → is_name label ≡ false → is_name name ≡ true
    → same_text label name ≡ false
other_than label name isnt is =
    search (rules, false_from_ne_true, false≢true, isnt, same_text-true, is)

-- what is no name is none of these users
not_called : (label : List ℕ) (party : Party) (name : List ℕ) (other : Party)
    → is_name label ≡ false → is_name name ≡ true → same_text name label ≡ true → other ≡ party
not_called label party name other isnt is same =
    absurd (false≢true (sym isnt ∙ ap is_name (sym (same_text-true name label same)) ∙ is))

pub each_of : {A : Type 0} (p : A → Bool) (xs : List A) → list_all p xs ≡ true
    → Each (λ x. p x ≡ true) xs
each_of p [] all = tt
each_of p (x ∷ xs) all =
    let parts = and_parts (p x) (list_all p xs) all in
    (parts.0, each_of p xs parts.1)

-- one of the parties, which has its label alone
pub record IsParty (parties : List Party) (party : Party) : Type 0 where
  pub one : Each (λ (other : Party). same_text other.label party.label ≡ true → other ≡ party)
      parties
  pub among : list_any (λ (other : Party). same_text other.label party.label) parties ≡ true

module _ (content : Content) (users : List (List ℕ)) (stranger : List ℕ)
    (names : list_all is_name users ≡ true) where
  abbrev star : Party
  star = other_name content stranger

  abbrev nobody : Party
  nobody = nameless content

  abbrev parties : List Party
  parties = everybody content users stranger

  -- whether a label is one of them
  labels : (label : List ℕ)
      → list_any (λ (other : Party). same_text other.label label) parties
      ≡ (is_listed label users
      || (same_text (codes "*") label || (same_text (codes "ANONYMOUS@") label || false)))
  labels label = grind (arith, nat_tests, any_map, list_any-append)

  pub user_party : (name : List ℕ) → is_name name ≡ true → is_listed name users ≡ true
      → IsParty parties (named content name)
  user_party name is listed = record {
    one = each_append (λ (other : Party). same_text other.label name ≡ true
        → other ≡ named content name) (map (named content) users) (star ∷ nobody ∷ [])
        (search (rules, each_map, each_always, same_text-true)) (
          (λ same. absurd
              (false≢true (sym (other_than (codes "*") name no_names.0 is) ∙ same))),
          (
            (λ same. absurd
                (false≢true (sym (other_than (codes "ANONYMOUS@") name no_names.1 is) ∙ same))),
            tt,
          ),
        );
    among = labels name ∙ or_left (is_listed name users) _ listed;
  }

  -- none of the users has the label of a party that is none of them
  users_apart : (party : Party) → is_name party.label ≡ false
      → Each (λ (other : Party). same_text other.label party.label ≡ true → other ≡ party)
      (map (named content) users)
  users_apart party isnt =
      each_map (λ (other : Party). same_text other.label party.label ≡ true → other ≡ party)
      (named content) users
      (each_weaker (λ (user : List ℕ). is_name user ≡ true)
      (λ (user : List ℕ). same_text user party.label ≡ true → named content user ≡ party)
      (λ user is same. not_called party.label party user (named content user) isnt is same) users
      (each_of is_name users names))

  pub star_party : IsParty parties star
  star_party = record {
    one = each_append (λ (other : Party). same_text other.label (codes "*") ≡ true
        → other ≡ star) (map (named content) users) (star ∷ nobody ∷ [])
        (users_apart star no_names.0)
        ((λ same. refl), ((λ same. absurd (false≢true same)), tt));
    among = labels (codes "*") ∙ or_right (is_listed (codes "*") users) true refl;
  }

  pub nobody_party : IsParty parties nobody
  nobody_party = record {
    one = each_append (λ (other : Party). same_text other.label (codes "ANONYMOUS@") ≡ true
        → other ≡ nobody) (map (named content) users) (star ∷ nobody ∷ [])
        (users_apart nobody no_names.1)
        ((λ same. absurd (false≢true same)), ((λ same. refl), tt));
    among = labels (codes "ANONYMOUS@")
        ∙ or_right (is_listed (codes "ANONYMOUS@") users) true refl;
  }

  -- a name that is none of the users labels no party
  pub no_label : (name : List ℕ) → is_name name ≡ true → is_listed name users ≡ false
      → list_any (λ (other : Party). same_text other.label name) parties ≡ false
  no_label name is none =
      labels name
      ∙ or_from (is_listed name users) _ none
      (or_from (same_text (codes "*") name) _ (other_than (codes "*") name no_names.0 is)
      (or_from (same_text (codes "ANONYMOUS@") name) false
      (other_than (codes "ANONYMOUS@") name no_names.1 is) refl))
