-- A whole table, of its parts.
use Rattle.std.proofs.Common.{rules, ◌≡◌, ℕ, zero, suc, ◌<◌, List, [], ◌∷◌, ◌++◌, map, length, take}
use Rattle.std.proofs.{Common.{Some, refl, ap, arith}, lemmas.List.append-nil}
use Rattle.std.{proofs.lemmas.Bool.Decides.nat_tests, specs.List.flat_map}
use Rattle.room_import.specs.Exports.{rows_text}
use Rattle.room_rows.specs.{Keep.HasNoRoot, Rows.Rows, Walk.walk_of}
use Rattle.room_machine.specs.{Site.{Site, site_at}, Stored.{stored_along, stored_site}}
use Rattle.room_review.specs.declared.question.{Scope.Scope, Reviewed.TheVariants.Table}
use Rattle.room_review.specs.{declared.question.Start.Start, Table.{IsReview, header, users_of}}
use Rattle.room_review.specs.Telling.{GathersAll, GivesReview, IsLostAt, Starts, ended_at}
use Rattle.room_review.{specs.Users.{Gathers, users_at}, proofs.Ending.{ended, strayed}}
use Rattle.room_review.proofs.Gathers.{gathers_on}

-- ---- the table

-- under the header
pub under_header : (before more : List ℕ) (rows : List (List (List ℕ)))
    → before ≡ rows_text (header ∷ []) → more ≡ before ++ rows_text rows
    → more ≡ rows_text (header ∷ rows)
under_header before more rows begun grows = grind (arith, nat_tests, append-nil)

-- ---- the users

flat_nodes : (sites : List Site)
    → flat_map users_at (map (λ (s : Site). s.node) sites)
    ≡ flat_map (λ (s : Site). users_at s.node) sites
flat_nodes [] = refl
flat_nodes (site ∷ sites) = ap (λ (l : List (List ℕ)). users_at site.node ++ l) (flat_nodes sites)

pub gathers_users : (rows : Rows) (pairs : List (List ℕ × List ℕ)) (most : ℕ) (start : Start)
    (sites : List Site) (paired above all : List (List ℕ)) → Starts most start sites rows
    → Gathers [] (map (λ pair. pair.1) pairs) paired
    → Gathers paired (flat_map users_at start.above) above
    → GathersAll most (start.node ∷ []) above all rows tt
    → Gathers [] (users_of rows pairs sites start.node) all
gathers_users rows pairs most start sites paired above all starts first second third =
    let on_way = flat_map (λ (s : Site). users_at s.node) sites in
    gathers_on [] paired all (map (λ pair. pair.1) pairs) _ first
    (gathers_on paired above all on_way _ (search (rules, starts.way.0, flat_nodes, second))
    (third start.path start.node starts.there refl))

-- ---- the answer

module _ (question : Scope) (start : Start) (rows : Rows)
    (same : start.path ≡ question.path) where
  abbrev pub Walked : ℕ → Type 0
  Walked rest =
      record { chain = start.above ++ start.node ∷ []; rest = rest }
      ≡ walk_of rows.read question.path

  abbrev sites : List Site
  sites = take (length question.path) (stored_along rows.read question.path)

  stands : Walked 0
      → site_at (stored_along rows.read start.path) start.path
      ≡ Some (stored_site start.path start.node)
  stands walked = grind (arith, nat_tests, ended)

  -- the table of the object that the walk came to
  pub table_given : (pairs : List (List ℕ × List ℕ)) (bytes : List ℕ) → Walked 0
      → GivesReview pairs question start rows bytes → IsReview pairs question rows (Table bytes)
  table_given pairs bytes walked gives = grind (arith, nat_tests, ended, stands)

  -- the refusal where it ended before
  pub refusal_given : (pairs : List (List ℕ × List ℕ)) (rest : ℕ) → 0 < rest → Walked rest
      → IsReview pairs question rows (ended_at question.path start.node.kind rest)
  refusal_given pairs zero some walked = absurd (omega (arith, some))
  refusal_given pairs (suc rest) some walked =
      let end = strayed rows question.path start.above start.node rest walked in
      search (rules, end.0, end.1)

  pub lost_there : (row : ℕ) → Walked 0 → IsLostAt start rows row → HasNoRoot rows row
  lost_there row walked lost =
      lost sites (stands walked) (ended rows question.path start.above start.node walked).1
