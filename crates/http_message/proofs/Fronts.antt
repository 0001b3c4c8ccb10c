-- A reply's text as what comes before its body, and the body.
use Rattle.std.proofs.Common.{◌≡◌, ℕ, List, ◌++◌, Option, Bool, Result, Ok, Err, IfOk, refl, ap}
use Rattle.std.proofs.Common.{◌∙◌}
use Rattle.http_message.specs.Form.{body_bytes, head_form, reply_form}

pub head-and-body : (status : ℕ) (kind allow body : Option (List ℕ)) (close : Bool)
    → head_form status kind allow body close ++ body_bytes body
    ≡ reply_form status kind allow body close
unfolding reply_form
head-and-body status kind allow body close = refl

-- the body after what a call answered
pub then-body : {T E : Type 0} (result : Result T E) (seen : T → List ℕ) (head body whole : List ℕ)
    → head ++ body ≡ whole
    → IfOk result (λ text. seen text ≡ head) → IfOk result (λ text. seen text ++ body ≡ whole)
then-body (Ok text) seen head body whole same is = ap (λ (t : List ℕ). t ++ body) is ∙ same
then-body (Err why) seen head body whole same is = tt
