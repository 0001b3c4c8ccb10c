-- The rows that are told of a walk.
use Rattle.std.proofs.Common.{rules, ◌≡◌, ℕ, zero, suc, Bool, true, List, [], ◌∷◌, ◌++◌, length}
use Rattle.std.proofs.Common.{take, refl, sym, ap, subst, ◌∙◌, append_assoc, arith}
use Rattle.std.proofs.lemmas.{Grind.flat_map-append, List.{append-nil, length-append, length-map}}
use Rattle.std.{proofs.lemmas.List.take_all, specs.List.flat_map}
use Rattle.room_import.specs.Exports.{rows_text}
use Rattle.room_entry.specs.Bytes.{slash}
use Rattle.room_rows.specs.{declared.node.Node.Node, Content.{Content, children_of}}
use Rattle.room_rows.specs.{Paths.path_text, Rows.{AreRows, Rows, numbers_of}}
use Rattle.room_dump.specs.{declared.visiting.{Below.Below, Visit.Visit}, Dump.{shown, tree_of}}
use Rattle.room_dump.specs.Visits.{GoesOn, IsFrom, Way, coming, visit_on, visits_from, way_below}
use Rattle.room_dump.proofs.{Reached.{all_there, goes_down}, Walks.{goes_from, told_below, told_by}}
use Rattle.room_machine.specs.Site.{Site}
use Rattle.room_review.specs.declared.{parties.Party.Party, question.Start.Start}
use Rattle.room_review.specs.declared.{standing.Standing.Standing, telling.Audience.Audience}
use Rattle.room_review.specs.{Standing.standings, Table.{Place, object_rows, place_below, site_of}}
use Rattle.room_review.specs.{Table.table_rows, Telling.{Comes, InOrder, Starts, TellsOne, along}}
use Rattle.room_review.specs.Telling.{parent_path, place_at, rows_of, start_visit, visit_at}
use Rattle.room_review.{specs.Telling.visits_at, proofs.Starting.starts_reached}

-- ---- objects in order

all_taken : (sites : List Site) → take (length sites) sites ≡ sites
all_taken sites = take_all (length sites) sites (omega arith)

shorter : (xs zs : List Site) (y : Site) → take (length (xs ++ y ∷ [])) zs ≡ xs ++ y ∷ []
    → take (length xs) zs ≡ xs
shorter [] zs y is = refl
shorter (x ∷ xs) [] y is = absurd (let wrong : ⊥ = cc in wrong)
shorter (x ∷ xs) (z ∷ zs) y is =
    let first : z ≡ x = cc in
    let rest : take (length (xs ++ y ∷ [])) zs ≡ xs ++ y ∷ [] = cc in
    λ i. first i ∷ shorter xs zs y rest i

module _ (content : Content) where
  abbrev tree : ℕ → Place → Node → List (Place × Node)
  tree depth place node =
      tree_of place_below (λ p n. (p, n) ∷ []) depth content place node

  -- the sites on the way to the place are the first of these
  abbrev StandsOn : Place → List Site → Type 0
  StandsOn place sites = take (length place.above) sites ≡ place.above

  abbrev GoOn : Place → List (Place × Node) → Type 0
  GoOn place objects = (sites : List Site) → StandsOn place sites → InOrder sites objects

  children_in_order : (depth : ℕ)
      → ((place : Place) (node : Node) (sites : List Site) (after : List (Place × Node))
      → StandsOn place sites → GoOn place after → InOrder sites (tree depth place node ++ after))
      → (place : Place) (node : Node) (nodes : List Node) (sites : List Site)
      (after : List (Place × Node))
      → take (length (place.above ++ site_of place node ∷ [])) sites
      ≡ place.above ++ site_of place node ∷ []
      → GoOn place after
      → InOrder sites
      (flat_map (λ child. tree depth (place_below place node child) child) nodes ++ after)
  children_in_order depth each place node [] sites after on rest =
      rest sites (shorter place.above sites (site_of place node) on)
  children_in_order depth each place node (child ∷ nodes) sites after on rest =
      subst (InOrder sites) (search (rules, append_assoc, after))
      (each (place_below place node child) child sites _ on
      (λ later is. children_in_order depth each place node nodes later after is rest))

  -- an object, then all below it, then others
  in_order : (depth : ℕ) (place : Place) (node : Node) (sites : List Site)
      (after : List (Place × Node)) → StandsOn place sites → GoOn place after
      → InOrder sites (tree depth place node ++ after)
  in_order zero place node sites after on rest = rest sites on
  in_order (suc depth) place node sites after on rest = (
    on,
    children_in_order depth (λ p n s a o r. in_order depth p n s a o r) place node
        (children_of content node.id) (place.above ++ site_of place node ∷ []) after
        (all_taken (place.above ++ site_of place node ∷ [])) rest,
  )

-- ---- callers on the way

along_front : (parties : List Party) (n : ℕ) (before sites : List Site)
    → take n (along parties before sites) ≡ along parties before (take n sites)
along_front parties zero before sites = refl
along_front parties (suc n) before [] = refl
along_front parties (suc n) before (site ∷ sites) =
    ap (λ (l : List (List Standing)). standings parties before site ∷ l)
    (along_front parties n (before ++ site ∷ []) sites)

-- ---- what is told so far

abbrev rows_at_all : Audience → List (Place × Node) → List (List (List ℕ))
rows_at_all asked objects =
    flat_map (λ next. object_rows asked.all asked.parties.items next.0 next.1) objects

alike : (asked : Audience) (objects : List (Place × Node))
    → rows_of asked asked.all objects ≡ rows_at_all asked objects
alike asked [] = refl
alike asked (object ∷ objects) = refl

pub record Telling (asked : Audience) (rows : Rows) (walk : Below) (way : List (List Standing))
    (all : Bool) (before text : List ℕ) (whole : List (Place × Node)) : Type 0 where
  pub sites : List Site
  pub objects : List (Place × Node)
  pub comes : Comes asked.parties.items rows walk way sites objects
  pub told : text ++ rows_text (rows_of asked all objects) ≡ before
      ++ rows_text (rows_of asked true whole)

-- one object further
pub tells_next : (asked : Audience) (rows : Rows) (old new : Below)
    (way next : List (List Standing)) (all : Bool) (before text more : List ℕ) (whole : List (Place × Node)) (visit : Visit)
    → Telling asked rows old way all before text whole → coming rows old ≡ visit ∷ coming rows new
    → GoesOn rows new → TellsOne asked.parties.items all visit way next text more
    → Telling asked rows new next asked.all before more whole
tells_next asked rows old new way next all before text more whole visit t comes goes one =
    on t.objects (sym comes ∙ t.comes.visits) t.comes.ordered t.told
  where
    on : (objects : List (Place × Node)) → visit ∷ coming rows new ≡ visits_at objects
        → InOrder t.sites objects
        → text ++ rows_text (rows_of asked all objects) ≡ before
        ++ rows_text (rows_of asked true whole)
        → Telling asked rows new next asked.all before more whole
    on [] visits ordered told = absurd (let wrong : ⊥ = cc in wrong)
    on ((place, node) ∷ objects) visits ordered told =
        let parties = asked.parties.items in
        let first : visit ≡ visit_at place node = cc in
        let rest : coming rows new ≡ visits_at objects = cc in
        let n = length place.above in
        let done = one place node first
        (grind (arith, n, t.comes.way_is, along_front, parties, t.sites)) in
        record {
          sites = place.above ++ site_of place node ∷ [];
          objects = objects;
          comes = record { goes = goes; visits = rest; way_is = done.1; ordered = ordered.1 };
          told =
              (λ i. done.0 i ++ rows_text (alike asked objects i))
              ∙ append_assoc text (rows_text (object_rows all parties place node))
              (rows_text (rows_at_all asked objects))
              ∙ ap (λ (l : List ℕ). text ++ l)
              (grind (arith, flat_map-append, parties, asked, objects))
              ∙ told;
        }

-- ---- from the object that a review starts at

-- its path as it is printed
pub shown_path : (path : List (List ℕ)) → shown (parent_path path) ≡ path_text path
shown_path [] = refl
shown_path (name ∷ path) = refl

abbrev place_way : Place → Way
place_way place = (parent_path place.path, length place.above)

ways_below : (place : Place) (node child : Node)
    → place_way (place_below place node child) ≡ way_below (place_way place) node child
ways_below place node child = λ i. (
  (flat_map-append (λ (name : List ℕ). slash ∷ name) place.path (child.name ∷ [])
      ∙ ap (λ (l : List ℕ). parent_path place.path ++ l) (append-nil (slash ∷ child.name))) i,
  length-append place.above (site_of place node ∷ []) i,
)

module _ (asked : Audience) (rows : Rows) (are : AreRows rows) (most : ℕ) (start : Start)
    (sites : List Site) (starts : Starts most start sites rows) (walk : Below)
    (from : IsFrom most (start_visit start) walk) where
  abbrev place : Place
  place = place_at start sites

  abbrev parties : List Party
  parties = asked.parties.items

  abbrev deep : ℕ
  deep = length (numbers_of rows)

  abbrev pub objects : List (Place × Node)
  objects = tree rows.read deep place start.node

  begun : GoesOn rows walk
      × (coming rows walk ≡ visits_from deep rows.read (start_visit start))
  begun =
      goes_from rows most (start_visit start) walk starts.there.most_is
      (starts_reached rows are most start.path start.node starts.there) from

  many : length start.above ≡ length sites
  many = ap length starts.way.0 ∙ length-map sites (λ (s : Site). s.node)

  pub come : (way : List (List Standing)) → way ≡ along parties [] sites
      → Comes parties rows walk way sites objects
  come way is = record {
    goes = begun.0;
    visits =
        begun.1
        ∙ (λ i. visits_from deep rows.read
        (record { path = parent_path start.path; depth = many i; node = start.node }))
        ∙ sym (told_by place_below (λ p n. (p, n) ∷ []) way_below visit_on place_way
        (λ object. visit_at object.0 object.1 ∷ []) ways_below (λ p n. refl) rows.read deep place
        start.node);
    way_is = is;
    ordered =
        subst (InOrder sites) (append-nil objects)
        (in_order rows.read deep place start.node sites [] (all_taken sites) (λ s on. tt));
  }

  -- their rows are those of the table
  pub rows_are : rows_of asked true objects ≡ table_rows rows asked.all parties place start.node
  rows_are =
      ap (rows_of asked true)
      (goes_down rows.read (all_there rows are) [] start.node most
      (starts_reached rows are most start.path start.node starts.there) place_below
      (λ p n. (p, n) ∷ []) place deep (let is = starts.there.most_is in omega (arith, is)))
      ∙ ap (λ (l : List (List (List ℕ))). object_rows true parties place start.node ++ l)
      (told_below place_below (λ p n. (p, n) ∷ []) place_below (object_rows asked.all parties)
      (λ p. p) (λ object. object_rows asked.all parties object.0 object.1) (λ p n child. refl)
      (λ p n. append-nil (object_rows asked.all parties p n)) rows.read deep place start.node)
