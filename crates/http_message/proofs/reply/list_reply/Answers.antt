use Rattle.std.{proofs.Common.{◌≡◌, ◌∙◌, List, ℕ, subst}, specs.Prelude.IfOk}
use Rattle.http_message.specs.Reply.{bytes_form, plain_text}
use Rattle.http_message.proofs.reply.list_reply.Goals as goal

pub returns : goal.returns
returns c =
    let P : List ℕ → Type 0 = λ body.
    IfOk c.print_bytes.result (λ text. text.items ≡ bytes_form plain_text body c.args.close) in
    subst P (c.as_bytes.ensures.value ∙ c.in_ok-list.ensures) c.print_bytes.ensures
