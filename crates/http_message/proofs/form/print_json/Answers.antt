use Rattle.std.{proofs.Common.{◌≡◌, List, ℕ, subst}, specs.Prelude.IfOk}
use Rattle.http_message.specs.Form.{json_text_form}
use Rattle.http_message.proofs.form.print_json.Goals as goal

pub returns : goal.returns
returns c =
    let P : List ℕ → Type 0 = λ body. IfOk c.print_reply.result
    (λ text. text.items ≡ json_text_form c.args.status body c.args.close) in
    subst P c.as_slice.ensures.value c.print_reply.ensures
