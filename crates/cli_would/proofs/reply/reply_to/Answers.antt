use Rattle.std.proofs.Common.{◌≡◌, ◌∙◌, ap, refl, inl, inr}
use Rattle.cli_would.specs.Answering.{refusal_line}
use Rattle.cli_would.proofs.Front.{refused_for}
use Rattle.cli_would.proofs.reply.reply_to.Goals as goal

pub returns-in-Ok : goal.returns-in-Ok
returns-in-Ok c = rw c.into_bytes.ensures (inl (refl, c.in-Ok.ensures))

pub returns-in_ok-refusal_line-in-Err-Fault : goal.returns-in_ok-refusal_line-in-Err-Fault
returns-in_ok-refusal_line-in-Err-Fault c =
    let text : c.from_vec.result ≡ refusal_line c.in-Err-Fault.fault =
    c.from_vec.ensures
    ∙ ap (λ vec. vec.items) c.into_bytes-in-Err-Fault.ensures.value
    ∙ c.in_ok-refusal_line-in-Err-Fault.ensures in
    let why = refused_for c.args.question.now c.in-Err-Fault.field-0 c.in-Err-Fault.fault
    c.in-Err-Fault.field-0-is c.in-Err-Fault.ensures in
    inr (refl, (c.in-Err-Fault.fault, why, text))
