use Rattle.std.{proofs.Common.{arith, ◌≡◌, ◌∙◌, List, ℕ, ap}, specs.Prelude.IfOk}
use Rattle.serde_json.specs.Written.{has_float}
use Rattle.http_message.{specs.Form.json_text_form, proofs.NoFloat.no-float-rulings}
use Rattle.http_message.proofs.reply.rulings_reply.Goals as goal

pub returns : goal.returns
returns c =
    let P : List ℕ → Type 0 = λ body. IfOk c.print_json.result
    (λ text. text.items ≡ json_text_form 200 body c.args.close) in
    let whole = ap has_float c.in_ok-value.ensures ∙ no-float-rulings c.args.rulings.now in
    grind (arith, c.in_ok-body.ensures.text, whole, c.in_ok-value.ensures, c.print_json.ensures)
