-- A pattern that is added.
use Rattle.std.proofs.Common.{◌≡◌, ℕ, List, [], Result, Ok, Err, OnOk, refl, sym, ◌∙◌, inl, inr}
use Rattle.std.proofs.{Common.arith, lemmas.Bool.Decides.nat_tests}
use Rattle.matchit.specs.{Route.{Scan, parse_route}, Router.InsertsRead}
use Rattle.matchit.specs.declared.error.InsertError.{InsertError}
use Rattle.matchit.proofs.OnLiterals.{matchit_on_literals}
use Rattle.http_message.specs.{declared.route.Route.Route, Router.{Table, TakesPattern, TakesScan}}
use Rattle.http_message.specs.Router.{TakesRoutes, every_route, with_pattern, with_scan}

ok-is-no-err : {A E : Type 0} {a : A} {e : E} → Ok a ≡ Err e → ⊥
ok-is-no-err {A} {E} e = grind (arith, nat_tests)

adds-scan : (scan : Result Scan InsertError) (route : Route) (old new : Table) (u : Unit {0})
    → InsertsRead scan route old new (Ok u) → new ≡ with_scan scan route old
adds-scan (Ok s) route old new u h = h.1
adds-scan (Err e) route old new u h =
    absurd (elim h.1 [ inl x ↦ ok-is-no-err x | inr y ↦ ok-is-no-err y ])

pub adds-pattern : (text : List ℕ) (route : Route) (old new : Table)
    (result : Result (Unit {0}) InsertError)
    → InsertsRead (parse_route text) route old new result
    → OnOk result (new ≡ with_pattern text route old)
unfolding with_pattern
adds-pattern text route old new (Ok u) h = adds-scan (parse_route text) route old new u h
adds-pattern text route old new (Err e) h = tt

-- ---- a pattern that can be added is refused for memory alone

by-scan : (scan : Result Scan InsertError) (route : Route) (old new : Table) (fault : InsertError)
    → TakesScan scan old → InsertsRead scan route old new (Err fault)
    → fault ≡ InsertError.OutOfMemory
by-scan (Ok s) route old new (InsertError.Conflict with) takes h =
    absurd (let none = sym takes ∙ h.1.1 in cc)
by-scan (Ok s) route old new InsertError.InvalidParamSegment takes h = absurd h.1
by-scan (Ok s) route old new InsertError.InvalidParam takes h = absurd h.1
by-scan (Ok s) route old new InsertError.InvalidCatchAll takes h = absurd h.1
by-scan (Ok s) route old new InsertError.OutOfMemory takes h = refl
by-scan (Err e) route old new fault takes h = absurd takes

pub only-memory : (text : List ℕ) (route : Route) (old new : Table) (fault : InsertError)
    → TakesPattern text old → InsertsRead (parse_route text) route old new (Err fault)
    → fault ≡ InsertError.OutOfMemory
unfolding TakesPattern
only-memory text route old new fault takes h =
    by-scan (parse_route text) route old new fault takes h

-- ---- each route can be added after those before it

pub takes-every : TakesRoutes [] every_route
unfolding TakesPattern with_pattern matchit_on_literals
takes-every = (
  (refl, refl),
  (
    (refl, refl),
    (
      (refl, refl),
      ((refl, refl), ((refl, refl), ((refl, refl), ((refl, refl), ((refl, refl), tt))))),
    ),
  ),
)
