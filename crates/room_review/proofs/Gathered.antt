-- The names that are gathered from a walk.
use Rattle.std.proofs.Common.{◌≡◌, List, [], ◌∷◌, ℕ, length, refl, sym, ap, subst, ◌∙◌}
use Rattle.std.{proofs.lemmas.List.append-nil, specs.List.flat_map}
use Rattle.room_rows.specs.{declared.node.Node.Node, Rows.{AreRows, Rows, numbers_of}}
use Rattle.room_dump.specs.{declared.visiting.{Below.Below, Visit.Visit}, Visits.{GoesOn, IsFrom}}
use Rattle.room_dump.specs.Visits.{Way, coming, first_visit, visit_on, way_below}
use Rattle.room_dump.proofs.Walks.{goes_from, told_by}
use Rattle.room_review.specs.{Telling.{GathersComing, StartsAt}, Users.{Gathers, users_at}}
use Rattle.room_review.{specs.Table.users_below, proofs.Starting.starts_reached}
use Rattle.room_review.proofs.Gathers.{gathers_on}

abbrev users_of : Visit → List (List ℕ)
users_of visit = users_at visit.node

-- With the users at what is still to come, those that are gathered are all.
pub record Gathering (rows : Rows) (first walk : Below) (old new : List (List ℕ)) : Type 0 where
  pub goes : GoesOn rows walk
  pub gathers : (all : List (List ℕ)) → Gathers new (flat_map users_of (coming rows walk)) all
      → Gathers old (flat_map users_of (coming rows first)) all

pub gathers_next : (rows : Rows) (first old new : Below) (visit : Visit) (a b c : List (List ℕ))
    → Gathering rows first old a b → coming rows old ≡ visit ∷ coming rows new → GoesOn rows new
    → Gathers b (users_at visit.node) c → Gathering rows first new a c
gathers_next rows first old new visit a b c g comes goes more = record {
  goes = goes;
  gathers = λ all rest. g.gathers all
      (subst (λ (l : List Visit). Gathers b (flat_map users_of l) all) (sym comes)
      (gathers_on b c all (users_at visit.node) (flat_map users_of (coming rows new)) more rest));
}

-- from an object at a path on
pub gathered_below : (rows : Rows) → AreRows rows → (most : ℕ) (path : List (List ℕ))
    (first node : Node) → StartsAt most path node rows → first ∷ [] ≡ node ∷ [] → (walk : Below)
    → IsFrom most (first_visit first) walk
    → GoesOn rows walk
    × ((old new : List (List ℕ)) → GathersComing walk old new rows tt
    → Gathers old (users_below rows node) new)
gathered_below rows are most path first node start alone walk from =
    let is : first ≡ node = cc in
    let begun = goes_from rows most (first_visit node) walk start.most_is
    (starts_reached rows are most path node start)
    (subst (λ (n : Node). IsFrom most (first_visit n) walk) is from) in (
      begun.0,
      λ old new all. subst (λ (names : List (List ℕ)). Gathers old names new)
          (ap (flat_map users_of) begun.1
          ∙ told_by way_below visit_on (λ (place : Unit {0}) above child. place)
          (λ place object. users_at object) (λ (w : Way). tt) users_of (λ w n child. refl)
          (λ w n. append-nil (users_at n)) rows.read (length (numbers_of rows)) ([], 0) node)
          (all begun.0),
    )
