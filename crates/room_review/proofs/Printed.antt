-- The rows of an object, by what is kept of it for each caller.
use Rattle.std.proofs.Common.{rules, ℕ, suc, ◌≡◌, ◌||◌, ◌∷◌, ◌++◌, ◌+◌, ◌<◌, Bool, true, false}
use Rattle.std.proofs.Common.{List, [], not, filter, map, length, get_or, drop, min, refl, ap, ◌∙◌}
use Rattle.std.proofs.Common.{add-one, append_assoc, arith, drop-cons, OnOk, Result, Ok, Err}
use Rattle.std.proofs.lemmas.{List.{append-nil, drop_all}, Slice.Zip.{get_or-zip, length-zip}}
use Rattle.std.{proofs.lemmas.Bool.Decides.nat_tests, specs.{Prelude.if◌then◌else◌, List.zip}}
use Rattle.std.specs.Result.{is_ok}
use Rattle.csv.specs.Writing.{default_writer, row_text}
use Rattle.room_import.specs.Exports.{rows_text}
use Rattle.room_entry.{specs.declared.object.ObjKind.ObjKind, proofs.Facts.Members.filter_map}
use Rattle.room_rows.specs.Paths.{path_text}
use Rattle.room_machine.specs.Site.{Site}
use Rattle.room_review.specs.declared.{parties.Party.Party, standing.Standing.Standing}
use Rattle.room_review.specs.{Lines.{line, lines}, Standing.{standing, standings}, Table.rows_at}
use Rattle.room_inherit.proofs.Renewing.{map_map}

zip_map : {A B : Type 0} (f : A → B) (xs : List A) → zip xs (map f xs) ≡ map (λ x. (x, f x)) xs
zip_map f [] = refl
zip_map f (x ∷ xs) = ap (λ l. (x, f x) ∷ l) (zip_map f xs)

-- by what is kept of them for all callers at an object
pub lines_at : (path : List ℕ) (kind : ObjKind) (all : Bool) (parties : List Party)
    (here : List Standing) (above : List Site) (target : Site) → path ≡ path_text target.path
    → kind ≡ target.node.kind → here ≡ standings parties above target
    → lines path kind all (zip parties here) ≡ rows_at all parties above target
lines_at path kind all parties here above target at of_kind kept =
    let with : Party → Party × Standing = λ party. (party, standing party.caller above target) in
    (λ i. lines (at i) (of_kind i) all (zip parties (kept i)))
    ∙ ap (λ pairs. lines (path_text target.path) target.node.kind all pairs)
    (zip_map (λ party. standing party.caller above target) parties)
    ∙ ap (map (line (path_text target.path) target.node.kind))
    (filter_map (λ party. all || not (standing party.caller above target).repeats)
    (λ (at : Party × Standing). all || not at.1.repeats) with (λ party. refl) parties)
    ∙ map_map (line (path_text target.path) target.node.kind) with
    (filter (λ party. all || not (standing party.caller above target).repeats) parties)

module _ (path : List ℕ) (kind : ObjKind) (all : Bool) (parties : List Party)
    (here : List Standing) (i : ℕ) (party : Party) (standing : Standing)
    (first : i < length parties) (second : i < length here)
    (at : (d : Party) → party ≡ get_or parties i d)
    (beside : (d : Standing) → standing ≡ get_or here i d) where
  abbrev left : ℕ → List ℕ
  left n = rows_text (lines path kind all (drop n (zip parties here)))

  turn : drop i (zip parties here) ≡ (party, standing) ∷ drop (i + 1) (zip parties here)
  turn =
      let pair : Party × Standing = (party, standing) in
      rw add-one
      (drop-cons (zip parties here) i pair (let many = length-zip parties here in omega arith)
      ∙ ap (λ (z : Party × Standing). z ∷ drop (suc i) (zip parties here))
      (search (rules, get_or-zip, pair)))

  -- a row that stands
  pub line_shown : (before after total : List ℕ) → (all || not standing.repeats) ≡ true
      → after ≡ before ++ row_text default_writer (line path kind (party, standing))
      → before ++ left i ≡ total → after ++ left (i + 1) ≡ total
  line_shown before after total shown grows sofar =
      search (rules, grows, append_assoc, turn, shown, sofar)

  -- one that is left out
  pub line_hidden : (before total : List ℕ) → (all || not standing.repeats) ≡ false
      → before ++ left i ≡ total → before ++ left (i + 1) ≡ total
  line_hidden before total hidden sofar = grind (arith, nat_tests, turn)

-- no row is left
pub lines_all : (path : List ℕ) (kind : ObjKind) (all : Bool) (parties : List Party)
    (here : List Standing) (n : ℕ) (text total : List ℕ)
    → n ≡ min (length parties) (length here)
    → text ++ rows_text (lines path kind all (drop n (zip parties here))) ≡ total → text ≡ total
lines_all path kind all parties here n text total many sofar =
    grind (arith, nat_tests, append-nil, drop_all, length-zip)

-- a text that was added, unless memory ran out
pub on_ok_append : {X E : Type 0} (r : Result X E) (new old more total : List ℕ)
    → new ≡ (if is_ok r then old ++ more else old) → old ++ more ≡ total → OnOk r (new ≡ total)
on_ok_append (Ok x) new old more total is whole = is ∙ whole
on_ok_append (Err e) new old more total is whole = tt
