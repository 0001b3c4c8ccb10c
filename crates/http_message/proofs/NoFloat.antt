-- The JSON of rulings has no float in it.
use Rattle.std.proofs.Common.{◌≡◌, ℕ, false, List, [], ◌∷◌, Ordering, Less, Equal, Greater, nat_cmp}
use Rattle.std.proofs.{Common.refl, lemmas.Bool.{or_parts, or_from}}
use Rattle.std.specs.{Ordering.match_ordering, Cmp.Lexicographic.slice_cmp}
use Rattle.serde_json.specs.Data.{Data, string, Members, no_members, member, put}
use Rattle.serde_json.specs.Written.{has_float, members_have_float}
use Rattle.room_entry.specs.Letters.{mask_text}
use Rattle.room_eval.specs.declared.outcome.Ruling.{Ruling}
use Rattle.http_message.specs.Bodies.{ruling_text, with_rulings, rulings_data}

put-at : (o : Ordering) (k s l : List ℕ) (e : Data) (ms more : Members)
    → has_float e ≡ false → members_have_float ms ≡ false → members_have_float more ≡ false
    → members_have_float
    (match_ordering o (member k (string s) (member l e ms)) (member l (string s) ms)
    (member l e more)) ≡ false
put-at Less k s l e ms more one all new = or_from (has_float e) (members_have_float ms) one all
put-at Equal k s l e ms more one all new = all
put-at Greater k s l e ms more one all new = or_from (has_float e) (members_have_float more) one new

put-text : (k s : List ℕ) (ms : Members) → members_have_float ms ≡ false
    → members_have_float (put k (string s) ms) ≡ false
put-text k s no_members none = refl
put-text k s (member l e ms) none =
    let parts = or_parts (has_float e) (members_have_float ms) none in
    put-at (slice_cmp nat_cmp k l) k s l e ms (put k (string s) ms) parts.0 parts.1
    (put-text k s ms parts.1)

put-all : (ms : Members) (rulings : List (List ℕ × Ruling)) → members_have_float ms ≡ false
    → members_have_float (with_rulings ms rulings) ≡ false
put-all ms [] none = none
put-all ms (ruling ∷ rulings) none =
    put-all (put (mask_text ruling.0) (string (ruling_text ruling.1)) ms) rulings
    (put-text (mask_text ruling.0) (ruling_text ruling.1) ms none)

pub no-float-rulings : (rulings : List (List ℕ × Ruling)) → has_float (rulings_data rulings) ≡ false
no-float-rulings rulings = put-all no_members rulings refl
