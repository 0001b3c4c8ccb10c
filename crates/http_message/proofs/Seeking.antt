-- The route of a path, by a walk over the table of patterns.
use Rattle.std.proofs.Common.{rules, ◌≡◌, ◌⊎◌, ℕ, zero, suc, ◌-◌, Bool, true, false, not, cond}
use Rattle.std.proofs.Common.{◌==◌, ◌&&◌, List, [], ◌∷◌, ◌++◌, length, Option, Some, None}
use Rattle.std.proofs.Common.{option_map, nat_eq, refl, ap, ◌∙◌, inl, inr, true≢false, arith}
use Rattle.std.proofs.lemmas.Bool.{and_parts, Decides.nat_tests}
use Rattle.std.specs.{Prelude.⊤, List.starts_with}
use Rattle.matchit.specs.{Rows.{RowsOf, param_token, catch_all_token}, Router.RouteOf, Seek.own}
use Rattle.matchit.specs.Seek.{step, or_else, seek, param_step, has_slash}
use Rattle.matchit.proofs.OnLiterals.{matchit_on_literals}
use Rattle.http_message.specs.{declared.route.Route.Route, Laws.{RoutesBeginPaths, route_start}}
use Rattle.http_message.specs.Router.{routes, with_pattern, route_of}

-- ---- rows without a parameter

param_none : {K : Type 0} (p : List ℕ) → (param_step {K = K} [] p).1 ≡ []
unfolding param_step
param_none {K} p =
    elim (has_slash p) as (λ v. (cond {A = ℕ × RowsOf K} v (0, []) (length p, [])).1 ≡ []) [
      | true ↦ refl
      | false ↦ refl
    ]

seek_none : {K : Type 0} (k : ℕ) (p : List ℕ) → seek {K = K} k [] p ≡ None
unfolding seek
seek_none k [] = refl
seek_none (suc k) (b ∷ p) = seek_none k p
seek_none {K} zero (b ∷ p) =
    simp (
      seek_none {K = K} 0 p,
      param_none {K = K} (b ∷ p),
      seek_none {K = K} (((param_step {K = K} [] (b ∷ p)).0) - 1) p,
    )

after_none : {K : Type 0} (rs : RowsOf K) (path p : List ℕ) → rs ≡ []
    → seek ((param_step rs path).0 - 1) (param_step rs path).1 p ≡ None
after_none {K} rs path p none = search (rules, none, param_none, seek_none)

at_byte : {K : Type 0} (b : ℕ) (rs : RowsOf K) (p : List ℕ) → step param_token rs ≡ []
    → seek 0 rs (b ∷ p) ≡ or_else (seek 0 (step b rs) p) (own (step catch_all_token rs))
unfolding seek
at_byte {K} b rs p none =
    ap (λ (x : Option K). or_else (seek 0 (step b rs) p)
    (or_else x (own (step catch_all_token rs))))
    (after_none (step param_token rs) (b ∷ p) p none)

-- ---- a path with a route

abbrev steps : {K : Type 0} → List ℕ → RowsOf K → RowsOf K
steps [] rs = rs
steps (b ∷ w) rs = steps w (step b rs)

found_first : {K : Type 0} (b : ℕ) (rs : RowsOf K) (p : List ℕ) (k : K)
    → seek 0 (step b rs) p ≡ Some k
    → seek 0 rs (b ∷ p) ≡ Some k
unfolding seek
found_first b rs p k is = rw is refl

reaches : {K : Type 0} (w : List ℕ) (rs : RowsOf K) (p : List ℕ) (k : K)
    → seek 0 (steps w rs) p ≡ Some k
    → seek 0 rs (w ++ p) ≡ Some k
reaches [] rs p k is = is
reaches (b ∷ w) rs p k is = found_first b rs (w ++ p) k (reaches w (step b rs) p k is)

abbrev two_rows : {K : Type 0} → K → K → RowsOf K
two_rows below here = (catch_all_token ∷ [], below) ∷ ([], here) ∷ []

or_below : {K : Type 0} (x : Option K) (below : K) → (x ≡ None) ⊎ (x ≡ Some below)
    → or_else x (Some below) ≡ Some below
or_below x below (inl none) = rw none refl
or_below x below (inr some) = rw some refl

one_row : {K : Type 0} (below : K) (p : List ℕ) → (seek 0 (([], below) ∷ []) p ≡ None)
    ⊎ (seek 0 (([], below) ∷ []) p ≡ Some below)
unfolding seek
one_row below [] = inr refl
one_row {K} below (c ∷ p) =
    inl (at_byte c (([], below) ∷ []) p refl
    ∙ ap (λ (x : Option K). or_else x None) (seek_none {K = K} 0 p))

past_row : {K : Type 0} (v : Bool) (below : K) (p : List ℕ)
    → (seek 0 (cond v (([], below) ∷ []) []) p ≡ None)
    ⊎ (seek 0 (cond v (([], below) ∷ []) []) p ≡ Some below)
past_row true below p = one_row below p
past_row {K} false below p = inl (seek_none {K = K} 0 p)

at_two : {K : Type 0} (below here : K) (p : List ℕ)
    → (seek 0 (two_rows below here) p ≡ Some below) ⊎ (seek 0 (two_rows below here) p ≡ Some here)
unfolding seek
at_two below here [] = inr refl
at_two {K} below here (b ∷ p) =
    inl (at_byte b (two_rows below here) p refl
    ∙ or_below (seek 0 (step b (two_rows below here)) p) below
    (past_row (catch_all_token == b) below p))

route_at : (w rest : List ℕ) (route : Route) (below here : RouteOf Route)
    → steps w routes ≡ two_rows below here
    → below.value ≡ route → here.value ≡ route → route_of (w ++ rest) ≡ Some route
route_at w rest route below here rows b h = elim (at_two below here rest) [
  | inl is ↦ search (rules, option_map, reaches, below, rows, is, b)
  | inr is ↦ search (rules, option_map, reaches, here, rows, is, h)
]

begins : (route : Route) (rest : List ℕ) → route_of (route_start route ++ rest) ≡ Some route
unfolding routes with_pattern matchit_on_literals
begins Route.Doc rest = route_at (route_start Route.Doc) rest Route.Doc _ _ refl refl refl
begins Route.Folder rest = route_at (route_start Route.Folder) rest Route.Folder _ _ refl refl refl
begins Route.Object rest = route_at (route_start Route.Object) rest Route.Object _ _ refl refl refl
begins Route.Move rest = route_at (route_start Route.Move) rest Route.Move _ _ refl refl refl
begins Route.Dacl rest = route_at (route_start Route.Dacl) rest Route.Dacl _ _ refl refl refl
begins Route.Sacl rest = route_at (route_start Route.Sacl) rest Route.Sacl _ _ refl refl refl
begins Route.Attr rest = route_at (route_start Route.Attr) rest Route.Attr _ _ refl refl refl
begins Route.Can rest = route_at (route_start Route.Can) rest Route.Can _ _ refl refl refl

-- ---- a path without a route

-- the bytes of a pattern, up to a catch-all
abbrev front : List ℕ → List ℕ
front [] = []
front (x ∷ t) = cond (x == catch_all_token) [] (x ∷ front t)

abbrev plain : List ℕ → Bool
plain [] = true
plain (x ∷ t) = not (x == param_token) && plain t

abbrev ArePlain : {K : Type 0} → RowsOf K → Type 0
ArePlain [] = ⊤
ArePlain ((t, key) ∷ rs) = (plain t ≡ true) × ArePlain rs

-- the path begins as none of the rows
abbrev Blocked : {K : Type 0} → RowsOf K → List ℕ → Type 0
Blocked [] p = ⊤
Blocked ((t, key) ∷ rs) p = (starts_with nat_eq p (front t) ≡ false) × Blocked rs p

no_param : {K : Type 0} (rs : RowsOf K) → ArePlain rs → step param_token rs ≡ []
no_param [] h = refl
no_param (([], key) ∷ rs) h = no_param rs h.1
no_param ((x ∷ t, key) ∷ rs) h = grind (arith, nat_tests, no_param rs h.1)

plain_step : {K : Type 0} (b : ℕ) (rs : RowsOf K) → ArePlain rs → ArePlain (step b rs)
plain_step b [] h = tt
plain_step b (([], key) ∷ rs) h = plain_step b rs h.1
plain_step {K} b ((x ∷ t, key) ∷ rs) h = search (rules, and_parts, h.0, h.1, plain_step b rs h.1)

-- one byte more on both sides
cut_front : (v w : Bool) (x b : ℕ) (t p : List ℕ) → (x == b) ≡ true
    → starts_with nat_eq (b ∷ p) (cond w [] (x ∷ front t)) ≡ false
    → starts_with nat_eq p (front t) ≡ false
cut_front v true x b t p same h = absurd (true≢false h)
cut_front v false x b t p same h = rw same at h

blocked_step : {K : Type 0} (b : ℕ) (rs : RowsOf K) (p : List ℕ) → Blocked rs (b ∷ p)
    → Blocked (step b rs) p
blocked_step b [] p h = tt
blocked_step b (([], key) ∷ rs) p h = blocked_step b rs p h.1
blocked_step {K} b ((x ∷ t, key) ∷ rs) p h =
    let rest = blocked_step b rs p h.1 in search (rules, cut_front, h.0, rest)

own_none : {K : Type 0} (rs : RowsOf K) → Blocked rs [] → own rs ≡ None
own_none [] h = refl
own_none (([], key) ∷ rs) h = absurd (true≢false h.0)
own_none ((x ∷ t, key) ∷ rs) h = own_none rs h.1

catch_none : {K : Type 0} (rs : RowsOf K) (p : List ℕ) → Blocked rs p
    → own (step catch_all_token rs) ≡ None
catch_none [] p h = refl
catch_none (([], key) ∷ rs) p h = catch_none rs p h.1
catch_none {K} ((x ∷ t, key) ∷ rs) p h = grind (arith, nat_tests, catch_none rs p h.1)

blocked : {K : Type 0} (p : List ℕ) (rs : RowsOf K) → ArePlain rs → Blocked rs p
    → seek 0 rs p ≡ None
unfolding seek
blocked [] rs plain h = own_none rs h
blocked {K} (b ∷ p) rs plain h =
    at_byte b rs p (no_param rs plain)
    ∙ ap (λ (x : Option K). or_else x (own (step catch_all_token rs)))
    (blocked p (step b rs) (plain_step b rs plain) (blocked_step b rs p h))
    ∙ catch_none rs (b ∷ p) h

plain_routes : ArePlain routes
unfolding routes with_pattern matchit_on_literals
plain_routes = (
  refl,
  (
    refl,
    (
      refl,
      (
        refl,
        (
          refl,
          (
            refl,
            (refl, (refl, (refl, (refl, (refl, (refl, (refl, (refl, (refl, (refl, tt)))))))))),
          ),
        ),
      ),
    ),
  ),
)

blocked_routes : (path : List ℕ)
    → ((route : Route) → starts_with nat_eq path (route_start route) ≡ false) → Blocked routes path
unfolding routes with_pattern matchit_on_literals
blocked_routes path none =
    let attr = none Route.Attr in
    let can = none Route.Can in
    let dacl = none Route.Dacl in
    let doc = none Route.Doc in
    let folder = none Route.Folder in
    let move = none Route.Move in
    let object = none Route.Object in
    let sacl = none Route.Sacl in (
      attr,
      (
        attr,
        (
          can,
          (
            can,
            (
              dacl,
              (
                dacl,
                (
                  doc,
                  (doc, (folder, (folder, (move, (move, (object, (object, (sacl, (sacl, tt))))))))),
                ),
              ),
            ),
          ),
        ),
      ),
    )

no_route : (path : List ℕ) → ((route : Route) → starts_with nat_eq path (route_start route) ≡ false)
    → route_of path ≡ None
no_route path none = search (rules, option_map, blocked, plain_routes, blocked_routes, none)

pub routes_begin : RoutesBeginPaths
routes_begin = (begins, no_route)
