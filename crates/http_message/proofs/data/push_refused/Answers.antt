use Rattle.std.{proofs.Common.{◌≡◌, ◌∙◌, ◌++◌, List, ℕ, codes, subst}, specs.Prelude.OnOk}
use Rattle.http_message.specs.{Bodies.at_data, Form.data_tokens}
use Rattle.http_message.proofs.data.push_refused.Goals as goal

pub returns-in-NotFolder-clause-tokens : goal.returns-in-NotFolder-clause-tokens
returns-in-NotFolder-clause-tokens c =
    let P : List ℕ → Type 0 = λ at. OnOk c.push_at-in-NotFolder.result
    (c.push_at-in-NotFolder.new.out.tokens ≡ c.args.out.now.tokens
    ++ data_tokens (at_data at (codes "not-folder"))) in
    rw c.in-NotFolder.is
    (subst P (c.as_str-in-NotFolder.ensures.value ∙ c.in_ok-text.ensures)
    c.push_at-in-NotFolder.ensures.tokens)

pub returns-in-WrongKind-clause-tokens : goal.returns-in-WrongKind-clause-tokens
returns-in-WrongKind-clause-tokens c =
    let P : List ℕ → Type 0 = λ at. OnOk c.push_at-in-WrongKind.result
    (c.push_at-in-WrongKind.new.out.tokens ≡ c.args.out.now.tokens
    ++ data_tokens (at_data at (codes "wrong-kind"))) in
    rw c.in-WrongKind.is
    (subst P (c.as_str-in-WrongKind.ensures.value ∙ c.in_ok-text.ensures)
    c.push_at-in-WrongKind.ensures.tokens)

pub returns-in-NotEmpty-clause-tokens : goal.returns-in-NotEmpty-clause-tokens
returns-in-NotEmpty-clause-tokens c =
    let P : List ℕ → Type 0 = λ at. OnOk c.push_at-in-NotEmpty.result
    (c.push_at-in-NotEmpty.new.out.tokens ≡ c.args.out.now.tokens
    ++ data_tokens (at_data at (codes "not-empty"))) in
    rw c.in-NotEmpty.is
    (subst P (c.as_str-in-NotEmpty.ensures.value ∙ c.in_ok-text.ensures)
    c.push_at-in-NotEmpty.ensures.tokens)

pub returns-clause-tokens : goal.returns-clause-tokens
returns-clause-tokens c =
    let P : List ℕ → Type 0 = λ at. OnOk c.push_at-in-TooLarge.result
    (c.push_at-in-TooLarge.new.out.tokens ≡ c.args.out.now.tokens
    ++ data_tokens (at_data at (codes "too-large"))) in
    rw c.in-TooLarge.is
    (subst P (c.as_str-in-TooLarge.ensures.value ∙ c.in_ok-text.ensures)
    c.push_at-in-TooLarge.ensures.tokens)
