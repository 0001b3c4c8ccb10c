-- A value written a token at a time.
use Rattle.std.proofs.Common.{arith, ◌≡◌, ℕ, List, [], ◌++◌, Result, Ok, Err, OnOk, ap, ◌∙◌}
use Rattle.std.{proofs.Common.append_assoc, specs.declared.alloc.AllocError.AllocError}
use Rattle.json.specs.{Print.print, Token.Token}
use Rattle.serde_json.{specs.{Data.Data, Written.compact_text}, proofs.Texts.print-outline}
use Rattle.http_message.specs.Form.{data_tokens}

-- tokens are written, and then the rest
pub before : (r : Result (Unit {0}) AllocError) (old new end front rest : List Token)
    → new ≡ old ++ front → OnOk r (end ≡ new ++ rest) → OnOk r (end ≡ old ++ (front ++ rest))
before (Ok done) old new end front rest e h =
    h ∙ ap (λ (t : List Token). t ++ rest) e ∙ append_assoc old front rest
before (Err why) old new end front rest e h = tt

-- what a buffer that was empty holds
pub printed : (value : Data) (bytes same text : List ℕ) (none wrote : List Token)
    → bytes ≡ [] → none ≡ [] → same ≡ bytes → wrote ≡ none ++ data_tokens value
    → text ≡ same ++ print wrote → text ≡ compact_text value
printed value bytes same text none wrote empty new still is whole =
    grind (arith, whole, still, empty, is, value, new, print-outline)
