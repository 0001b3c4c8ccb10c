use Rattle.std.{proofs.Common.{◌≡◌, ◌∙◌, ◌++◌, List, ℕ, subst}, specs.Prelude.OnOk}
use Rattle.http.specs.StatusCode.{code_digits}
use Rattle.http_message.specs.Form.{first_line}
use Rattle.http_message.proofs.form.push_status.Goals as goal

pub returns : goal.returns
returns c =
    let P : List ℕ → List ℕ → Type 0 = λ digits phrase.
    OnOk c.push_first.result
    (c.push_first.new.text.items ≡ c.args.text.now.items ++ first_line digits phrase) in
    let D : List ℕ → Type 0 = λ digits. P digits c.as_bytes-2.result.now in
    let digits = subst D (c.as_bytes.ensures.value ∙ c.as_str.ensures) c.push_first.ensures in
    subst (P (code_digits c.args.status))
    (c.as_bytes-2.ensures.value ∙ c.phrase_of-phrase.ensures) digits
