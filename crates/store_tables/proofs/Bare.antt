-- A text without RETURNING writes nothing where it shows rows, whatever the tables are.
use Rattle.std.proofs.Common.{◌≡◌, ℕ, List, Bool, true, false, Option, None, Ok, Err, IfOk}
use Rattle.std.proofs.{Common.{if◌then◌else◌, arith}, lemmas.Bool.Decides.nat_tests}
use Rattle.sqlite.specs.{Order.Row, Listing.{understood, reads_listing, if_select, listing_schema}}
use Rattle.sqlite.specs.State.{State, IsUnchanged, Shown, ShowsRows}
use Rattle.sqlite_resolve.specs.Compile.{compiled, first, meaning, planned, returning, with_command}
use Rattle.sqlite_resolve.specs.{Lowering.{Checked, and_then}, Scope.Name}
use Rattle.sqlite_resolve.specs.declared.compiled.Compiled.{Compiled}
use Rattle.sqlite_resolve.specs.declared.error.CompileError.TheVariants.{NoSuchTable}
use Rattle.sqlite_schema.specs.declared.command.{Command.Command, Returning.Returning}
use Rattle.sqlite_schema.specs.declared.schema.Schema.{Schema}

-- the statement of the text has no RETURNING, over any schema
abbrev pub LacksReturning : List ℕ → Type 0
LacksReturning sql =
    IfOk (first sql) (λ p. (schema : Schema) (base : ℕ)
    → returning schema base p.statement ≡ Ok None)

-- whatever the text is understood as, it has no RETURNING
abbrev pub IsReading : List ℕ → Type 0
IsReading sql =
    (schema : Schema) (c : Compiled) → understood schema sql ≡ Ok c → c.returning ≡ None

abbrev Plan : Type 0
Plan = List Name × (Command × Option Returning)

by_command : (formats : List Name) (r : Checked Command) (plan : Plan)
    → ◌≡◌ {A = Checked Plan} (and_then (and_then r (λ c. Ok (c, None)))
    (λ found. Ok (formats, found))) (Ok plan)
    → plan.1.1 ≡ None
by_command formats r plan is = grind (arith, nat_tests)

unplanned : (schema : Schema) (p : _) (plan : Plan) → planned schema p ≡ Ok plan
    → ((schema : Schema) (base : ℕ) → returning schema base p.statement ≡ Ok None)
    → plan.1.1 ≡ None
unfolding planned meaning
unplanned schema p plan is bare = by_command _ _ plan (rw (bare schema _) at is)

by_plan : (p : _) (r : Checked Plan) → ((plan : Plan) → r ≡ Ok plan → plan.1.1 ≡ None)
    → (c : Compiled) → and_then r (λ plan. Ok (with_command p plan)) ≡ Ok c → c.returning ≡ None
by_plan p r none c is = grind (arith, nat_tests)

by_first : (schema : Schema) (r : Checked _) (c : Compiled)
    → and_then r (λ p. and_then (planned schema p) (λ plan. Ok (with_command p plan))) ≡ Ok c
    → IfOk r (λ p. (schema : Schema) (base : ℕ) → returning schema base p.statement ≡ Ok None)
    → c.returning ≡ None
by_first schema (Ok p) c is bare =
    by_plan p (planned schema p) (λ plan so. unplanned schema p plan so bare) c is
by_first schema (Err e) c is bare = absurd (cc)

by_compiled : (schema : Schema) (sql : List ℕ) → LacksReturning sql → (c : Compiled)
    → compiled schema sql ≡ Ok c → c.returning ≡ None
unfolding compiled
by_compiled schema sql bare c is = by_first schema (first sql) c is bare

by_test : (b : Bool) (x c : Compiled)
    → ◌≡◌ {A = Checked Compiled} (if b then Ok x else Err NoSuchTable) (Ok c) → c ≡ x
by_test true x c is = cc
by_test false x c is = absurd (cc)

by_select : (r : Checked Compiled) → ((c : Compiled) → r ≡ Ok c → c.returning ≡ None)
    → (c : Compiled) → if_select r ≡ Ok c → c.returning ≡ None
by_select r none c is = grind (arith, nat_tests, by_test)

by_listing : (b : Bool) (one two : Checked Compiled)
    → ((c : Compiled) → one ≡ Ok c → c.returning ≡ None)
    → ((c : Compiled) → two ≡ Ok c → c.returning ≡ None)
    → (c : Compiled) → (if b then if_select one else two) ≡ Ok c → c.returning ≡ None
by_listing true one two f g c is = by_select one f c is
by_listing false one two f g c is = g c is

-- a text whose statement has no RETURNING is understood as one without it, over any schema
pub reads_by : (sql : List ℕ) → LacksReturning sql → IsReading sql
unfolding understood
reads_by sql bare schema c is =
    by_listing (reads_listing schema sql) (compiled listing_schema sql) (compiled schema sql)
    (by_compiled listing_schema sql bare) (by_compiled schema sql bare) c is

by_rows : (old new : State) (sql : List ℕ) (c : Compiled) (full : Row) (rows : List Row)
    (r : Option Returning) → r ≡ None → ShowsRows old new sql c full rows r → IsUnchanged old new
by_rows old new sql c full rows r none h = grind (arith, nat_tests)

-- where it showed rows, the connection is as it was
pub shown_same : (sql : List ℕ) (params : Row) (old new : State) (rows : List Row) → IsReading sql
    → Shown sql params old new rows → IsUnchanged old new
unfolding Shown
shown_same sql params old new rows reads h =
    by_rows old new sql h.0 _ rows h.0.returning (reads old.now.schema h.0 h.1.is) h.2
