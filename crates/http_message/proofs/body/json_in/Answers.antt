use Rattle.std.proofs.{Common.{◌∙◌, sym}, lemmas.Bool.true≢false}
use Rattle.http_message.proofs.InJson.{no-text, of-text}
use Rattle.http_message.proofs.body.json_in.Goals as goal

pub returns-in-None : goal.returns-in-None
returns-in-None c = no-text _ c.in-None.ensures

pub returns-in-Ok : goal.returns-in-Ok
returns-in-Ok c = of-text _ _ _ c.in-Some.ensures.1 c.in-Some.ensures.0 c.in-Ok.ensures.ok

pub returns-else-is_memory : goal.returns-else-is_memory
returns-else-is_memory c =
    of-text _ _ _ c.in-Some.ensures.1 c.in-Some.ensures.0
    (c.in-Err.ensures.err (λ m. true≢false (sym (c.is_memory.ensures.1 m) ∙ c.if-is_memory.false)))
