use Rattle.std.proofs.Common.{ℕ, List, [], ◌∷◌, ◌++◌, ap, ◌∙◌}
use Rattle.cli_check.proofs.Front.{told_of}
use Rattle.cli_check.proofs.answering.line_for.Goals as goal

pub returns-clause-line : goal.returns-clause-line
returns-clause-line g c =
    let value = c.deref.ensures.value in
    let said = rw value at c.in_ok-text.ensures.0 in
    let line = c.in_ok-text-2.ensures ∙ ap (λ (text : List ℕ). text ++ 10 ∷ []) said in
    told_of (g.R.Read.remaining c.args.reader.now) c.in_ok-input.input.items _ _
    c.in_ok-input.ensures.front line (rw value at c.in_ok-text.ensures.1)
