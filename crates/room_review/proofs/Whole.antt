-- A table of a review is the room: what is looked up in it of each caller is what the room allows.
use Rattle.std.proofs.Common.{rules, ◌≡◌, ℕ, Bool, true, false, List, [], ◌∷◌, ◌++◌, length, map}
use Rattle.std.proofs.Common.{Option, Some, None, refl, sym, ap, subst, ◌∙◌, codes, inl, inr, arith}
use Rattle.std.proofs.lemmas.Bool.{cond-false, cond-true, or_from, or_left, Decides.nat_tests}
use Rattle.std.{proofs.lemmas.List.Folds.list_any-append, specs.List.list_any}
use Rattle.std.specs.{List.AllByRecursion as Each, Option.{option_map, option_map_or}}
use Rattle.csv.specs.Reading.{default_config, records}
use Rattle.room_entry.specs.{Letters.mask_text, Names.is_name, Pieces.same_text}
use Rattle.room_entry.proofs.{Alike.text_itself, Facts.Members.{any_map, each_append, each_back}}
use Rattle.room_entry.proofs.Facts.Members.{each_map, each_weaker}
use Rattle.room_import.specs.Exports.{rows_text}
use Rattle.room_rows.specs.{declared.node.Node.Node, Content.{Content, child_of, children_of}}
use Rattle.room_rows.specs.{Meaning.meaning, Paths.path_text, Rows.{AreRows, Rows, numbers_of}}
use Rattle.room_rows.specs.Sound.{AreSound}
use Rattle.room_sound.proofs.{Filled.{site_filled, target_there}, Sites.{fill, sites_filled}}
use Rattle.room_sound.proofs.SoundParts.{sound_parts}
use Rattle.room_dump.proofs.{Counting.{each_always, each_both, each_filter}, Reached.all_there}
use Rattle.room_dump.{proofs.Reached.goes_down, specs.Visits.Reached}
use Rattle.room_machine.specs.{Rights.{may_remove_at, rights_at}, Site.{Site, site_at, sites_along}}
use Rattle.room_machine.specs.{Step.caller_in, Stored.{stored_along, stored_from, stored_site}}
use Rattle.room_review.specs.declared.{parties.Party.Party, question.Scope.Scope}
use Rattle.room_review.specs.{declared.question.Reviewed.TheVariants.Table, Laws.SaysAlike}
use Rattle.room_review.specs.Laws.{SaysAt, stored_above, told_at, told_there, users_on}
use Rattle.room_review.specs.LookedUp.{is_row_of, label_in, looked_up, nearest, IsAskedFor, IsLabel}
use Rattle.room_review.specs.LookedUp.{IsRow, SaysTheRoom, StandsAt, TableIsTheRoom, is_caller}
use Rattle.room_review.specs.Table.{AreAll, AreAsked, IsReviewAt, Place, header, kind_word, named}
use Rattle.room_review.specs.Table.{nameless, other_name, place_below, place_of, row, object_rows}
use Rattle.room_review.specs.{Table.{site_of, table_rows, yes_or_no}, Users.is_listed}
use Rattle.room_review.proofs.Labels.{IsParty, each_of, no_label, nobody_party, star_party}
use Rattle.room_review.proofs.{Labels.user_party, Lookups.{any_flat, found_from, has_none, has_row}}
use Rattle.room_review.proofs.Lookups.{or_none, printed, said_elsewhere, said_here}
use Rattle.room_review.proofs.{Named.{all_kids, all_named}, Others.{GoesOn, all_go_on}}
use Rattle.room_review.proofs.{ReadAs.{all_columns, read_as_rows}, Said.table_says_rights}
use Rattle.room_review.proofs.{Starred.star_speaks_for_others, Starting.starts_reached}
use Rattle.room_review.proofs.Visited.{Stands, each_stands, ends_along, some_same}
use Rattle.room_review.proofs.Below as below

-- ---- a walk that goes on from an object

module _ (content : Content) (more : List (List ℕ)) (target site : Site) where
  abbrev later : List (List ℕ) → List ℕ → List (List ℕ) → Option Node → List Site
  later at name names o =
      option_map_or (λ c. stored_from content (at ++ name ∷ []) c names) o []

  from_target : (names at : List (List ℕ)) (node : Node)
      → site_at (stored_from content at node names) names ≡ Some target
      → site_at (stored_from content at node (names ++ more)) (names ++ more) ≡ Some site
      → site_at (stored_from content target.path target.node more) more ≡ Some site
  from_target [] at node found whole = search (rules, some_same, node, found, whole)
  from_target (name ∷ names) at node found whole =
      on (child_of content node.id name) found whole
      (λ c f w. from_target names (at ++ name ∷ []) c f w)
    where
      on : (o : Option Node) → site_at (later at name names o) names ≡ Some target
          → site_at (later at name (names ++ more) o) (names ++ more) ≡ Some site
          → ((c : Node)
          → site_at (stored_from content (at ++ name ∷ []) c names) names ≡ Some target
          → site_at (stored_from content (at ++ name ∷ []) c (names ++ more)) (names ++ more)
          ≡ Some site
          → site_at (stored_from content target.path target.node more) more ≡ Some site)
          → site_at (stored_from content target.path target.node more) more ≡ Some site
      on None found whole rest = absurd (let wrong : ⊥ = cc in wrong)
      on (Some c) found whole rest = rest c found whole

  along_target : (path : List (List ℕ))
      → site_at (stored_along content path) path ≡ Some target
      → site_at (stored_along content (path ++ more)) (path ++ more) ≡ Some site
      → site_at (stored_from content target.path target.node more) more ≡ Some site
  along_target path found whole = grind (arith, nat_tests, from_target)

-- what stands at a path is found there among the rows
stored_there : (rows : Rows) → AreRows rows → AreSound rows → (path : List (List ℕ)) (site : Site)
    → StandsAt (meaning rows.read) path site
    → site_at (stored_along rows.read path) path ≡ Some (fill site)
stored_there rows are sound path site stands =
    ap (λ l. site_at l path) (sym (sites_filled rows are (sound_parts rows sound) path))
    ∙ site_filled (sites_along (meaning rows.read) path) path ∙ ap (option_map fill) stands

-- what holds of each member for each of some others
each_for_all : {A B : Type 0} (P : A → B → Type 0) (xs : List A)
    → ((b : B) → Each (λ x. P x b) xs) → Each (λ x. (b : B) → P x b) xs
each_for_all P [] all = tt
each_for_all P (x ∷ xs) all = ((λ b. (all b).0), each_for_all P xs (λ b. (all b).1))

-- ---- the table of an object

module _ (rows : Rows) (are : AreRows rows) (sound : AreSound rows) (question : Scope)
    (target : Site)
    (found : site_at (stored_along rows.read question.path) question.path ≡ Some target)
    (parties : List Party) where
  abbrev content : Content
  content = rows.read

  abbrev room : Content
  room = meaning content

  abbrev path : List (List ℕ)
  path = question.path

  abbrev most : ℕ
  most = length (numbers_of rows)

  abbrev place : Place
  place = place_of (stored_above rows path) target

  abbrev table : List (List (List ℕ))
  table = table_rows rows question.all parties place target.node

  abbrev answer : Option (List ℕ) → List (List ℕ) → List ℕ × Bool
  answer user at = (rights_at room user at, may_remove_at room user at)

  ends : target ≡ stored_site path target.node
  ends = ends_along content path target found

  at_path : target.path ≡ path
  at_path = ap (λ (s : Site). s.path) ends

  reached : Reached content (target.node ∷ []) most
  reached = grind (arith, nat_tests, ends, starts_reached)

  -- ---- whose rows are looked up for a caller

  -- one of the parties is, and the table says of it what the room allows the caller
  record Spoken (user : Option (List ℕ)) : Type 0 where
    pub party : Party
    pub is : IsParty parties party
    pub labelled : label_in table user ≡ party.label
    pub says : Each (λ it. told_there party.caller it ≡ answer user it.0.path)
        (told_at rows path target)

  -- one that is called by its name
  by_name : (name : List ℕ) → IsParty parties (named content name) → Spoken (Some name)
  by_name name is = record {
    party = named content name;
    is = is;
    labelled = search (rules, cond-true, list_any-append, or_left, has_row, is.among);
    says = table_says_rights rows are sound (Some name) path target found;
  }

  -- a caller without a name
  by_nobody : IsParty parties (nameless content) → Spoken None
  by_nobody is = record {
    party = nameless content;
    is = is;
    labelled = refl;
    says = table_says_rights rows are sound None path target found;
  }

  -- a name that has no rows
  no_rows_under : (name : List ℕ)
      → list_any (λ (p : Party). same_text p.label name) parties ≡ false
      → list_any (is_row_of name) (below.rows_under content (all_there rows are) most question.all
      parties place target.node) ≡ false
  no_rows_under name none =
      let rows_below = λ (child : Node). below.rows_in content (all_there rows are) most
      question.all parties most (place_below place target.node child) child in
      any_flat (is_row_of name) rows_below (children_of content target.node.id)
      (each_always (λ child. list_any (is_row_of name) (rows_below child) ≡ false)
      (λ child. below.no_rows content (all_there rows are) most question.all parties most
      (place_below place target.node child) child name none)
      (children_of content target.node.id))

  by_star : (name : List ℕ) (all : AreAll rows (users_on rows path target) parties)
      → is_name name ≡ true → is_listed name all.users ≡ false → Spoken (Some name)
  by_star name all is none =
      let star = other_name content all.stranger in
      let none_labelled : list_any (λ (p : Party). same_text p.label name) parties ≡ false =
      ap (list_any (λ (p : Party). same_text p.label name)) all.parties_are
      ∙ no_label content all.users all.stranger all.are.valid name is none in
      record {
        party = star;
        is = search (rules, all.parties_are, star_party, all.are.valid);
        labelled = cond-false (list_any (is_row_of name) table) name (codes "*")
            (list_any-append (is_row_of name) (object_rows true parties place target.node)
            (below.rows_under content (all_there rows are) most question.all parties place
            target.node)
            ∙ or_from _ _
            (has_none place.above (site_of place target.node) true parties name none_labelled)
            (no_rows_under name none_labelled));
        says = each_both (SaysAlike star.caller (caller_in content (Some name)))
            (SaysAt rows (Some name))
            (λ it. told_there star.caller it ≡ answer (Some name) it.0.path)
            (λ it alike says. alike ∙ says) (told_at rows path target)
            (star_speaks_for_others rows path target (map (named content) all.users) star
            (nameless content) name found
            (search (rules, all.are, all.is_other)) (search (rules, any_map, all.users, none))).1
            (table_says_rights rows are sound (Some name) path target found);
      }

  -- each caller that is asked for
  by_asked : (asked : Option (List ℕ))
      → AreAsked asked rows (users_on rows path target) parties → (user : Option (List ℕ))
      → is_caller user ≡ true → IsAskedFor asked user → Spoken user
  by_asked None all None caller is_for = grind (arith, nat_tests, by_nobody, nobody_party)
  by_asked None all (Some name) caller is_for =
      grind (arith, nat_tests, by_name, by_star, user_party)
  by_asked (Some name) alone user caller is_for = grind (arith, nat_tests, by_name, text_itself)

  module _ (more : List (List ℕ)) (site : Site) (stands : StandsAt room (path ++ more) site) where
    stored : site_at (stored_from content target.path target.node more) more ≡ Some (fill site)
    stored = grind (arith, nat_tests, along_target, fill, stored_there)

    -- what is looked up of a caller
    looked_up_of : (user : Option (List ℕ)) → Spoken user
        → looked_up table (path ++ more) (label_in table user)
        ≡ Some (printed (answer user (path ++ more)))
    looked_up_of user spoken =
        let party = spoken.party in
        let is = spoken.is in
        ap (looked_up table (path ++ more)) spoken.labelled
        ∙ found_from party.label table path [] more (printed (answer user (path ++ more)))
        (subst (λ p. nearest table party.label p more
        ≡ Some (printed (answer user (p ++ more)))) at_path
        (sym (or_none (nearest table party.label place.path more))
        ∙ below.finds_below content (all_there rows are) most question.all parties
        (λ id. all_kids rows are (sound_parts rows sound) id) party is.one is.among (answer user)
        more place target.node (object_rows true parties place target.node) None (fill site) reached
        stored spoken.says
        (search (rules, said_here, party, is.one, is.among, said_elsewhere, party.label))))

  -- ---- the rows

  module _ (asked : AreAsked question.user rows (users_on rows path target) parties) where
    -- a caller that is asked for
    abbrev Asked : Type 0
    Asked = (user : Option (List ℕ)) × (is_caller user ≡ true) × IsAskedFor question.user user

    -- at an object, the party says of the caller what the room allows, if its rows are looked up
    abbrev Speaks : Place × Node → Party → Asked → Type 0
    Speaks it party by = label_in table by.0 ≡ party.label
        → told_there party.caller it ≡ answer by.0 it.0.path

    each_speaks : (by : Asked)
        → Each (λ it. Each (λ party. Speaks it party by) parties) (told_at rows path target)
    each_speaks by = grind (arith, nat_tests, by_asked, each_weaker, text_itself)

    labels : (user : Option (List ℕ)) → AreAsked user rows (users_on rows path target) parties
        → Each (λ (party : Party). IsLabel user party.label) parties
    labels None all =
        subst (Each (λ (party : Party). IsLabel None party.label)) (sym all.parties_are)
        (each_append (λ (party : Party). IsLabel None party.label) (map (named content) all.users) _
        (each_map (λ (party : Party). IsLabel None party.label) (named content) all.users
        (each_weaker (λ (name : List ℕ). is_name name ≡ true)
        (λ (name : List ℕ). IsLabel None name) (λ name is. inr (inr is)) all.users
        (each_of is_name all.users all.are.valid)))
        (inl refl, (inr (inl refl), tt)))
    labels (Some name) alone =
        subst (Each (λ (party : Party). IsLabel (Some name) party.label)) (sym alone) (refl, tt)

    abbrev IsPlaced : Place × Node → Type 0
    IsPlaced it = GoesOn most target.path it × Stands content it.0 it.1
        × ((by : Asked) → Each (λ party. Speaks it party by) parties)

    all_placed : Each IsPlaced (told_at rows path target)
    all_placed =
        let start : Stands content place target.node = search (rules, at_path, ends) in
        each_both (GoesOn most target.path) (λ it. Stands content it.0 it.1
        × ((by : Asked) → Each (λ party. Speaks it party by) parties)) IsPlaced
        (λ it on stands. (on, stands.0, stands.1)) (told_at rows path target)
        (all_go_on content most place target.node)
        (each_both (λ it. Stands content it.0 it.1)
        (λ it. (by : Asked) → Each (λ party. Speaks it party by) parties)
        (λ it. Stands content it.0 it.1
        × ((by : Asked) → Each (λ party. Speaks it party by) parties))
        (λ it stands speaks. (stands, speaks)) (told_at rows path target)
        (each_stands content (λ id. all_named rows are (sound_parts rows sound) id) most place
        target.node start) (search (rules, each_for_all, each_speaks)))

    rows_placed : (all : Bool) (it : Place × Node) → IsPlaced it
        → Each (IsRow room question table) (object_rows all parties it.0 it.1)
    rows_placed all it placed =
        let there = target_there rows are (sound_parts rows sound) it.0.path (site_of it.0 it.1)
        placed.1.at in
        let at : it.0.path ≡ path ++ placed.0.0 =
        placed.0.1.0 ∙ ap (λ (p : List (List ℕ)). p ++ placed.0.0) at_path in
        let kind = ap (λ (s : Site). kind_word s.node.kind) there.filled in
        let row_of = row it.0.above (site_of it.0 it.1) in
        each_map (IsRow room question table) row_of _
        (each_filter (λ (party : Party). IsRow room question table (row_of party)) _ parties
        (each_both (λ (party : Party). IsLabel question.user party.label)
        (λ (party : Party). (by : Asked) → Speaks it party by)
        (λ (party : Party). IsRow room question table (row_of party))
        (λ party is speaks. record {
          more = placed.0.0;
          site = there.planned;
          label = party.label;
          stands = subst (λ (p : List (List ℕ)). StandsAt room p there.planned) at there.at;
          is_asked = is;
          begins = λ i. path_text (at i) ∷ sym kind i ∷ party.label ∷ [];
          says = λ user caller is_for labelled.
              let told = speaks (user, caller, is_for) labelled ∙ ap (answer user) at in
              λ i. mask_text ((told i).0) ∷ yes_or_no ((told i).1) ∷ [];
        }) parties (labels question.user asked)
        (each_for_all (λ party by. Speaks it party by) parties placed.2)))

    all_rows : Each (IsRow room question table) table
    all_rows =
        let whole = subst (Each IsPlaced)
        (goes_down content (all_there rows are) [] target.node most reached place_below
        (λ p n. (p, n) ∷ []) place most (omega arith)) all_placed in
        each_append (IsRow room question table) (object_rows true parties place target.node) _
        (rows_placed true (place, target.node) whole.0)
        (each_back (IsRow room question table)
        (object_rows question.all parties place target.node) _
        (subst (Each (IsRow room question table))
        (goes_down content (all_there rows are) [] target.node most reached place_below
        (object_rows question.all parties) place most (omega arith))
        (below.each_row content (all_there rows are) most question.all parties IsPlaced
        (IsRow room question table) (rows_placed question.all) most place target.node all_placed)))

-- ---- the law

pub table_is_the_room : TableIsTheRoom
table_is_the_room rows question reviewed site are sound review stands =
    on (site_at (stored_along rows.read question.path) question.path) refl review
    (stored_there rows are sound question.path site stands)
  where
    Whole : Type 0
    Whole =
        (text : List ℕ) × (table : List (List (List ℕ))) × (reviewed ≡ Table text)
        × (text ≡ rows_text (header ∷ table)) × (records default_config text ≡ header ∷ table)
        × SaysTheRoom (meaning rows.read) question table
        × Each (IsRow (meaning rows.read) question table) table

    on : (o : Option Site) → site_at (stored_along rows.read question.path) question.path ≡ o
        → IsReviewAt rows.read.members question o rows reviewed
        → site_at (stored_along rows.read question.path) question.path ≡ Some (fill site) → Whole
    on None none is there = absurd (let wrong : ⊥ = cc in wrong)
    on (Some target) found is there =
        let parties = is.parties in
        let table = table_rows rows question.all parties
        (place_of (stored_above rows question.path) target) target.node in
        let all = all_rows rows are sound question target found parties is.are in (
          rows_text (header ∷ table),
          table,
          is.is,
          refl,
          read_as_rows (header ∷ table)
              (refl, all_columns (meaning rows.read) question table table all),
          λ user more at caller is_for stands.
              looked_up_of rows are sound question target found parties more at stands user
              (by_asked rows are sound question target found parties question.user is.are user
              caller is_for),
          all,
        )
