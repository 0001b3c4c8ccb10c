-- The rows of objects, one after the other.
use Rattle.std.proofs.Common.{rules, ℕ, suc, ◌≡◌, ◌||◌, ◌∷◌, ◌++◌, ◌+◌, ◌<◌, Bool, true, false}
use Rattle.std.proofs.Common.{List, [], not, filter, map, length, get_or, drop, min, refl, sym, ap}
use Rattle.std.proofs.Common.{◌∙◌, add-one, append_assoc, arith, drop-cons, ◌==◌, Some}
use Rattle.std.proofs.lemmas.{List.{append-nil, drop_all}, Slice.Zip.{get_or-zip, length-zip}}
use Rattle.std.{proofs.lemmas.Grind.flat_map-append, specs.{Prelude.if◌then◌else◌, List.zip}}
use Rattle.std.specs.{List.{flat_map, find}, Option.option_map}
use Rattle.room_import.specs.Exports.{rows_text}
use Rattle.room_entry.{specs.Letters.mask_text}
use Rattle.room_inherit.proofs.Renewing.{map_map}
use Rattle.room_rows.specs.declared.node.Node.{Node}
use Rattle.room_review.specs.{declared.parties.Party.Party, Table.{Place, site_of}}
use Rattle.room_review.proofs.Told.{shown_path}
use Rattle.room_answer.specs.Answer.{kind_word, unknown, yes_or_no}
use Rattle.room_turns.specs.Turns.{View, follows_clear, is_clear, is_said, rows_at, rows_of, row}
use Rattle.room_turns.specs.{Turns.{turn_at, is_known, object_of}, Stands.{entry_of, grant_of}}
use Rattle.room_turns.specs.{Stands.{noted, noted_by, spot_in, stand_of}, Telling.{line, lines_of}}
use Rattle.room_turns.specs.{Telling.{rows_told, told_rows}, declared.spot.{Stand.Stand, Told.Told}}

rows_append : (xs ys : List (List (List ℕ))) → rows_text (xs ++ ys) ≡ rows_text xs ++ rows_text ys
rows_append xs ys = flat_map-append _ xs ys

-- a text and what is left of the rows
grown : (before after total : List ℕ) (more rows left : List (List (List ℕ)))
    → after ≡ before ++ rows_text more → rows ≡ more ++ left → before ++ rows_text rows ≡ total
    → after ++ rows_text left ≡ total
grown before after total more rows left grows are sofar =
    ap (λ (text : List ℕ). text ++ rows_text left) grows
    ∙ append_assoc before (rows_text more) (rows_text left)
    ∙ ap (λ (text : List ℕ). before ++ text) (sym (rows_append more left) ∙ ap rows_text (sym are))
    ∙ sofar

-- ---- the callers at an object

module _ (all : Bool) (told : Told) (parties : List Party) (stands : List Stand) where
  abbrev left : ℕ → List (List (List ℕ))
  left n = lines_of all told (drop n (zip parties stands))

  abbrev stays : Party × Stand → Bool
  stays caller = all || not caller.1.repeats

  module _ (i : ℕ) (party : Party) (stand : Stand)
      (first : i < length parties) (second : i < length stands)
      (at : (d : Party) → party ≡ get_or parties i d)
      (beside : (d : Stand) → stand ≡ get_or stands i d) where
    turn : drop i (zip parties stands) ≡ (party, stand) ∷ drop (i + 1) (zip parties stands)
    turn =
        let pair : Party × Stand = (party, stand) in
        rw add-one
        (drop-cons (zip parties stands) i pair
        (let many = length-zip parties stands in omega arith)
        ∙ ap (λ (z : Party × Stand). z ∷ drop (suc i) (zip parties stands))
        (search (rules, get_or-zip, pair)))

    abbrev next : Bool → List (List (List ℕ))
    next t =
        map (line told)
        (if t then (party, stand) ∷ filter stays (drop (i + 1) (zip parties stands))
        else filter stays (drop (i + 1) (zip parties stands)))

    -- a row that stands
    pub line_shown : (before after total : List ℕ) → (all || not stand.repeats) ≡ true
        → after ≡ before ++ rows_text (line told (party, stand) ∷ [])
        → before ++ rows_text (left i) ≡ total → after ++ rows_text (left (i + 1)) ≡ total
    line_shown before after total shown grows sofar =
        grown before after total (line told (party, stand) ∷ []) (left i) (left (i + 1)) grows
        (ap (lines_of all told) turn ∙ ap next shown) sofar

    -- one that is left out
    pub line_hidden : (before total : List ℕ) → (all || not stand.repeats) ≡ false
        → before ++ rows_text (left i) ≡ total → before ++ rows_text (left (i + 1)) ≡ total
    line_hidden before total hidden sofar =
        ap (λ (rows : List (List (List ℕ))). before ++ rows_text rows)
        (sym (ap (lines_of all told) turn ∙ ap next hidden)) ∙ sofar

  -- no row is left
  pub lines_all : (n : ℕ) (text total : List ℕ) → n ≡ min (length parties) (length stands)
      → text ++ rows_text (left n) ≡ total → text ≡ total
  lines_all n text total many sofar =
      sym (append-nil text)
      ∙ ap (λ (callers : List (Party × Stand)). text ++ rows_text (lines_of all told callers))
      (sym (drop_all n (zip parties stands)
      (let long = length-zip parties stands in omega (arith, long, many))))
      ∙ sofar

-- ---- the objects

-- the rows of these, where all of the first stand or not
abbrev pub rows_left : List Party → Bool → List Told → List (List (List ℕ))
rows_left parties all [] = []
rows_left parties all (told ∷ more) =
    told_rows parties all told ++ flat_map (told_rows parties false) more

-- ---- by what is kept of them

-- those of a list, each with what belongs to it, that pass a test
passing : {A B : Type 0} (f : A → B) (p : A × B → Bool) (xs : List A)
    → filter p (zip xs (map f xs)) ≡ map (λ x. (x, f x)) (filter (λ x. p (x, f x)) xs)
passing f p [] = refl
passing {A} {B} f p (x ∷ xs) = on (p (x, f x)) (passing f p xs)
  where
    on : (t : Bool)
        → filter p (zip xs (map f xs)) ≡ map (λ y. (y, f y)) (filter (λ y. p (y, f y)) xs)
        → (if t then (x, f x) ∷ filter p (zip xs (map f xs)) else filter p (zip xs (map f xs)))
        ≡ map (λ y. (y, f y))
        (if t then x ∷ filter (λ y. p (y, f y)) xs else filter (λ y. p (y, f y)) xs)
    on true rest = ap (λ (l : List (A × B)). (x, f x) ∷ l) rest
    on false rest = rest

module _ (view : View) (parties : List Party) where
  rows_there : (all : Bool) (object : Place × Node)
      → told_rows parties all (entry_of view parties object) ≡ rows_at view parties all object
  rows_there all (place, node) =
      let above = place.above in
      let target = site_of place node in
      let told = entry_of view parties (place, node) in
      let stand : Party → Stand = λ party. stand_of view party.caller above target in
      let with : Party → Party × Stand = λ party. (party, stand party) in
      let lined : List ℕ → Party → List (List ℕ) = λ path party.
      let turn = turn_at view party.caller above target in
      path ∷ kind_word node.kind ∷ party.label ∷ mask_text turn.had.0 ∷ yes_or_no turn.had.1
      ∷ mask_text turn.has.0 ∷ yes_or_no turn.has.1 ∷ [] in
      let lines : lines_of all told (zip parties (map stand parties))
      ≡ map (λ party. row target party.label (turn_at view party.caller above target))
      (filter (λ party. all || not (is_said view party.caller above target)) parties) =
      ap (map (line told))
      (passing stand (λ (caller : Party × Stand). all || not caller.1.repeats) parties)
      ∙ map_map (line told) with
      (filter (λ party. all || not (stand party).repeats) parties)
      ∙ ap (λ (path : List ℕ). map (lined path)
      (filter (λ party. all || not (stand party).repeats) parties)) (shown_path place.path) in
      λ i. if is_clear view above target then lines i else
      (if all || follows_clear view above
      then unknown (shown_path place.path i) node.kind ∷ [] else [])

  -- all rows
  pub rows_are : (objects : List (Place × Node))
      → rows_told parties (map (entry_of view parties) objects) ≡ rows_of view parties objects
  rows_are [] = refl
  rows_are (object ∷ objects) = λ i. rows_there true object i ++ more objects i
    where
      more : (objects : List (Place × Node))
          → flat_map (told_rows parties false) (map (entry_of view parties) objects)
          ≡ flat_map (rows_at view parties false) objects
      more [] = refl
      more (object ∷ objects) = λ i. rows_there false object i ++ more objects i

-- ---- the whole text

-- rows behind the first one
pub rows_behind : (first : List (List ℕ)) (rows : List (List (List ℕ))) (text more : List ℕ)
    → text ≡ rows_text (first ∷ []) → more ≡ text ++ rows_text rows
    → more ≡ rows_text (first ∷ rows)
rows_behind first rows text more begun grows =
    grows ∙ ap (λ (bytes : List ℕ). bytes ++ rows_text rows) begun
    ∙ sym (rows_append (first ∷ []) rows)

-- ---- the objects by their numbers

module _ (view : View) (parties : List Party) where
  noted_there : (object : Place × Node)
      → noted (entry_of view parties object).spot ≡ noted_by view.own view.hidden parties object
  noted_there object =
      ap (λ (grants : List (List ℕ × Bool)).
      (is_known view.hidden object.0.above (site_of object.0 object.1), grants))
      (map_map grant_of (λ (party : Party). stand_of view party.caller object.0.above
      (site_of object.0 object.1)) parties)

  pub table_there : (objects : List (Place × Node)) (number : ℕ)
      → option_map noted (spot_in (map (entry_of view parties) objects) number)
      ≡ option_map (noted_by view.own view.hidden parties) (object_of objects number)
  table_there [] number = refl
  table_there (object ∷ objects) number =
      on (object.1.id == number) (table_there objects number)
    where
      on : (t : Bool)
          → option_map noted (spot_in (map (entry_of view parties) objects) number)
          ≡ option_map (noted_by view.own view.hidden parties) (object_of objects number)
          → option_map noted (option_map (λ (told : Told). told.spot)
          (if t then Some (entry_of view parties object)
          else find (λ told. told.id == number) (map (entry_of view parties) objects)))
          ≡ option_map (noted_by view.own view.hidden parties)
          (if t then Some object else find (λ o. o.1.id == number) objects)
      on true rest = ap Some (noted_there object)
      on false rest = rest
