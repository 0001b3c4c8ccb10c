-- The number of a Content-Length, digit by digit.
use Rattle.std.proofs.Common.{rules, ◌≡◌, ℕ, ◌+◌, ◌*◌, ◌%◌, ◌&&◌, ◌<◌, ◌≤◌, Bool, true, false, List}
use Rattle.std.proofs.Common.{[], ◌∷◌, ◌++◌, length, take, get_or, refl, sym, ap, subst, ◌∙◌, arith}
use Rattle.std.proofs.{Common.{Result, Ok, Err, if◌then◌else◌, nat_le}, lemmas.Bool.lt-leb}
use Rattle.std.proofs.lemmas.{Bool.{le-leb, leb-true, Decides.nat_tests}, List.take_all}
use Rattle.std.proofs.lemmas.{List.{take_more, Sums.AllPass-from_list_all}, Str.digit_value_digit}
use Rattle.std.proofs.lemmas.Str.Parse.{digits_value-take-le}
use Rattle.std.specs.{Int.IsInRange, Str.Parse.{digits_value, digits_value_after}, List.list_all}
use Rattle.std.specs.Char.{digit_value, is_ascii_digit}
use Rattle.room_http.specs.{declared.refusal.Refusal.Refusal, Limits.max_body, Message.is_number}
use Rattle.room_http.specs.Message.{length_of_text}

pub refused-text : (text : List ℕ) → is_number text ≡ false
    → Err Refusal.BadLength ≡ length_of_text text
unfolding length_of_text
refused-text text h =
    let R = Result ℕ Refusal in
    let F : Bool → R = λ b. if b then
    (if nat_le (digits_value 10 text) max_body then Ok
    (digits_value 10 text) else Err Refusal.TooLarge) else Err Refusal.BadLength in
    ap F (sym h)

fits-or : (text : List ℕ) (b : Bool) → is_number text ≡ true
    → nat_le (digits_value 10 text) max_body ≡ b
    → (if b then Ok (digits_value 10 text) else Err Refusal.TooLarge) ≡ length_of_text text
unfolding length_of_text
fits-or text b h k =
    let R = Result ℕ Refusal in
    let F : Bool → R = λ x. if x then
    (if nat_le (digits_value 10 text) max_body then Ok
    (digits_value 10 text) else Err Refusal.TooLarge) else Err Refusal.BadLength in
    let G : Bool → R = λ x. if x then Ok (digits_value 10 text) else Err Refusal.TooLarge in
    ap G (sym k) ∙ ap F (sym h)

pub too-large : (text : List ℕ) (i n : ℕ) → is_number text ≡ true
    → n ≡ digits_value 10 (take i text) → max_body < n → Err Refusal.TooLarge ≡ length_of_text text
too-large text i n h is over =
    let grows : digits_value 10 (take i text) ≤ digits_value 10 text =
    digits_value-take-le 10 text i (omega arith) in
    let above : max_body < digits_value 10 text = omega (arith, grows, is, over) in
    fits-or text false h (lt-leb (digits_value 10 text) max_body above)

pub whole-number : (text : List ℕ) (i n : ℕ) → is_number text ≡ true
    → n ≡ digits_value 10 (take i text) → n ≤ max_body → length text ≤ i
    → Ok n ≡ length_of_text text
whole-number text i n h is below end =
    let whole : n ≡ digits_value 10 text = is ∙ ap (λ t. digits_value 10 t) (take_all i text end) in
    ap Ok whole
    ∙ fits-or text true h
    (le-leb (digits_value 10 text) max_body (subst (λ k. k ≤ max_body) whole below))

after-append : (n : ℕ) (xs ys : List ℕ)
    → digits_value_after 10 n (xs ++ ys) ≡ digits_value_after 10 (digits_value_after 10 n xs) ys
after-append n [] ys = refl
after-append n (x ∷ xs) ys = after-append (n * 10 + digit_value x) xs ys

pub one-more : (text : List ℕ) (i : ℕ) → i < length text
    → digits_value 10 (take (i + 1) text)
    ≡ digits_value 10 (take i text) * 10 + digit_value (get_or text i 0)
one-more text i lt =
    ap (λ t. digits_value 10 t) (take_more text i 0 lt)
    ∙ after-append 0 (take i text) (get_or text i 0 ∷ [])

and-left : (a b : Bool) → (a && b) ≡ true → a ≡ true
and-left true b h = refl
and-left false b h = h

and-right : (a b : Bool) → (a && b) ≡ true → b ≡ true
and-right true b h = h
and-right false true h = refl
and-right false false h = h

-- each byte of a number is a digit
pub digit-at : (text : List ℕ) (i : ℕ) → i < length text → is_number text ≡ true
    → IsInRange 48 57 (get_or text i 0)
digit-at text i lt h =
    let all : list_all is_ascii_digit text ≡ true = search (rules, and-right, h) in
    let one : (nat_le 48 (get_or text i 0) && nat_le (get_or text i 0) 57) ≡ true =
    AllPass-from_list_all is_ascii_digit text all i 0 lt in (
      search (rules, leb-true, and-left, one),
      search (rules, leb-true, and-right, one),
    )

pub digit-is : (c d : ℕ) → IsInRange 48 57 c → d ≡ (c + 208) % 256 % 10 → d ≡ digit_value c
digit-is c d h is = grind (arith, nat_tests, digit_value_digit)

-- the number so far and one digit more
pub next-number : (text : List ℕ) (i n d : ℕ) → i < length text → is_number text ≡ true
    → n ≡ digits_value 10 (take i text)
    → d ≡ (get_or text i 0 + 208) % 256 % 10 → n * 10 + d ≡ digits_value 10 (take (i + 1) text)
next-number text i n d lt h is digit = grind (arith, nat_tests, digit-at, digit-is, one-more)
