-- Requests that are carried out in turn.
use Rattle.std.proofs.Common.{rules, ◌≡◌, ℕ, ◌<◌, ◌+◌, ℤ, List, [], ◌∷◌, ◌++◌, length, take, get_or}
use Rattle.std.proofs.{Common.{Option, arith}, lemmas.{List.take_more, Bool.Decides.nat_tests}}
use Rattle.room_rows.specs.{Sound.AreSound, Rows.Rows}
use Rattle.room_judge.specs.{declared.asker.Asker.Asker, Closed.{IsClosed, IsServed, Performs}}
use Rattle.room_judge.specs.Judged.{CarriesOut, IsStepOfRows}
use Rattle.room_machine.specs.declared.{reply.Reply.Reply, request.Request.Request}
use Rattle.room_machine.specs.{Closed.FailsClosed, Step.caller_in}
use Rattle.room_desk.specs.{Counted.most_writes, declared.running.Asked.Asked, InTurn.GoInTurn}
use Rattle.room_desk.specs.InTurn.{IsDamagedAfter, IsRunOfRows, RunsAll}
use Rattle.room_sound.proofs.Blamed.{sound_undamaged}

-- ---- one request

-- the groups of the caller are those of the rows, so that the request is carried out from there
carried : (user : Option (List ℕ)) (moment : ℤ) (asker : Asker) (request : Request)
    (old mid new : Rows) (reply : Reply) → asker.moment ≡ moment
    → (asker.caller ≡ caller_in old.read user) × (mid ≡ old)
    → CarriesOut asker request mid reply new → AreSound old
    → IsStepOfRows user moment request old reply new
carried user moment asker request old mid new reply at both carries sound = grind (arith, nat_tests)

-- and that it is judged by the stored lists
closed_for : (user : Option (List ℕ)) (moment : ℤ) (asker : Asker) (request : Request)
    (old mid new : Rows) (reply : Reply) → asker.moment ≡ moment
    → (asker.caller ≡ caller_in old.read user) × (mid ≡ old)
    → IsClosed asker request mid reply new → FailsClosed user moment request old reply new
closed_for user moment asker request old mid new reply at both closed = grind (arith, nat_tests)

pub performed : (user : Option (List ℕ)) (moment : ℤ) (asker : Asker) (request : Request)
    (old mid new : Rows) (reply : Reply) → asker.moment ≡ moment
    → (asker.caller ≡ caller_in old.read user) × (mid ≡ old)
    → IsServed asker request mid reply new → Performs user moment request old reply new
performed user moment asker request old mid new reply at both served = search (carried, closed_for)

-- ---- several requests

-- from sound rows they are a run, and the rows are sound again
pub go_run : (asked : List Asked) (replies : List Reply) (old new : Rows) (most : ℕ)
    → GoInTurn asked replies old new most → RunsAll asked old replies new
go_run [] [] old new most go sound = grind (arith, nat_tests)
go_run [] (r ∷ replies) old new most go sound = absurd go
go_run (a ∷ asked) [] old new most go sound = absurd go
go_run (a ∷ asked) (r ∷ replies) old new most (mid, rest, does, go, is) sound =
    let step : IsStepOfRows a.user a.moment a.request old r mid = does.step sound in
    let then = go_run asked replies mid new rest go step.sound in
    grind (arith, nat_tests)

sum_one : (most more same : ℕ) → most ≡ 0 → more ≡ same → most + more ≡ same + 0
sum_one most more same none is = omega (arith, none, is)

sum_more : (most first rest more : ℕ) → most ≡ first + rest → most + more ≡ first + (rest + more)
sum_more most first rest more is = omega (arith, is)

-- one request more
go_more : (asked : List Asked) (one : Asked) (replies : List Reply) (reply : Reply)
    (old mid new : Rows) (most : ℕ) → GoInTurn asked replies old mid most
    → Performs one.user one.moment one.request mid reply new
    → GoInTurn (asked ++ one ∷ []) (replies ++ reply ∷ []) old new
    (most + most_writes one.request reply mid new)
go_more [] one [] reply old mid new most go does = grind (arith, nat_tests, sum_one)
go_more [] one (r ∷ replies) reply old mid new most go does = absurd go
go_more (a ∷ asked) one [] reply old mid new most go does = absurd go
go_more (a ∷ asked) one (r ∷ replies) reply old mid new most (next, rest, first, go, is) does =
    search (sum_more, go_more asked one replies reply next mid new rest go does)

pub goes_more : (asked : List Asked) (n : ℕ) (one : Asked) (replies all : List Reply)
    (reply : Reply) (old mid new : Rows) (most : ℕ) → n < length asked → one ≡ get_or asked n one
    → all ≡ replies ++ reply ∷ [] → GoInTurn (take n asked) replies old mid most
    → Performs one.user one.moment one.request mid reply new
    → GoInTurn (take (n + 1) asked) all old new (most + most_writes one.request reply mid new)
goes_more asked n one replies all reply old mid new most below is made go does =
    let longer : take n asked ++ one ∷ [] ≡ take (n + 1) asked =
    cc (is, take_more asked n one below) in search (rules, one.request, reply, mid, new, go_more)

-- from sound rows they stay sound, and nothing is damaged
pub never_after : (asked : List Asked) (rows : Rows) (row : ℕ) → AreSound rows
    → IsDamagedAfter asked rows row → ⊥
never_after asked rows row sound after =
    let run : IsRunOfRows (take after.count asked) rows after.replies after.rows =
    go_run (take after.count asked) after.replies rows after.rows after.most after.first sound in
    sound_undamaged after.rows row run.sound after.damaged
