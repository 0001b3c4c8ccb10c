use Rattle.std.proofs.{Common.{◌≡◌, ◌∙◌, ap, sym, drop, arith}, lemmas.Bool.{ltb-true, ltb-false}}
use Rattle.std.proofs.lemmas.List.{take_rest}
use Rattle.room_http.proofs.FieldLines.{ended-behind, ended-exceeds, ended-nowhere, exceeds-ended}
use Rattle.room_http.proofs.FieldLines.{feeds}
use Rattle.room_http.proofs.cut.has_too_many.Goals as goal

pub returns-in-Some-clause-few : goal.returns-in-Some-clause-few
returns-in-Some-clause-few c = λ is exceeds.
    let window = c.args.window.now in
    let many = exceeds-ended 64 window exceeds in
    let below = ended-behind window c.in-Some.start (sym c.in-Some.is ∙ c.head_start.ensures) in
    let all : c.ended_lines.result ≡ feeds (drop c.in-Some.start window) =
    c.ended_lines.ensures ∙ ap feeds (take_rest window c.in-Some.start) in
    grind (arith, ltb-false, many, below)

pub returns-in-Some-clause-many : goal.returns-in-Some-clause-many
returns-in-Some-clause-many c = λ is none may.
    let window = c.args.window.now in
    let below = ended-behind window c.in-Some.start (sym c.in-Some.is ∙ c.head_start.ensures) in
    let all : c.ended_lines.result ≡ feeds (drop c.in-Some.start window) =
    c.ended_lines.ensures ∙ ap feeds (take_rest window c.in-Some.start) in
    let many = ltb-true 65 c.ended_lines.result is in
    ended-exceeds 64 window none may (omega (arith, below, all, many))

pub returns-in-None-clause-few : goal.returns-in-None-clause-few
returns-in-None-clause-few c = λ _ exceeds.
    let window = c.args.window.now in
    let many = exceeds-ended 64 window exceeds in
    grind (arith, ended-nowhere, window, c.in-None.is, c.head_start.ensures, many)
