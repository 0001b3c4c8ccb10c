-- A set with a text more.
use Rattle.std.proofs.Common.{ℕ, ◌≡◌, ◌∷◌, ◌++◌, Bool, true, cond, List, []}
use Rattle.std.proofs.lemmas.List.Folds.{list_any-append}
use Rattle.std.specs.{List.list_any, Str.bytes_eq}
use Rattle.room_entry.proofs.{Facts.Booleans.one_more, Texts.same_text-sym}

pub text_more : (texts : List (List ℕ)) (key text : List ℕ) (was now : Bool)
    → was ≡ list_any (bytes_eq text) texts → now ≡ cond (bytes_eq key text) true was
    → now ≡ list_any (bytes_eq text) (texts ++ key ∷ [])
text_more texts key text was now had adds =
    rw (list_any-append, adds, had, same_text-sym key text)
    (one_more (bytes_eq text key) (list_any (bytes_eq text) texts))
