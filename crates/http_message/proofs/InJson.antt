-- The value that bytes are.
use Rattle.std.proofs.Common.{◌≡◌, ℕ, Bool, true, false, List, Option, None, if◌then◌else◌, refl}
use Rattle.std.proofs.Common.{sym, ap, ◌∙◌}
use Rattle.room_entry.specs.Utf8.{is_utf8}
use Rattle.serde_json.specs.{Data.Data, Read.read}
use Rattle.http_message.specs.Json.{json_of}

by-test : (body : List ℕ) (b : Bool) (d : Option Data) → is_utf8 body ≡ b → read body ≡ d
    → (if b then d else None) ≡ json_of body
unfolding json_of
by-test body b d e f =
    ap (λ (x : Option Data). if b then x else None) (sym f)
    ∙ ap (λ (t : Bool). if t then read body else None) (sym e)

pub no-text : (body : List ℕ) → is_utf8 body ≡ false → None ≡ json_of body
no-text body h = by-test body false (read body) h refl

pub of-text : (body text : List ℕ) (d : Option Data) → text ≡ body → is_utf8 body ≡ true
    → read text ≡ d → d ≡ json_of body
of-text body text d e h r = by-test body true d h (ap read (sym e) ∙ r)
