-- A stream is these messages and no others.
use Rattle.std.proofs.Common.{◌≡◌, ℕ, List, ◌++◌, length, take, drop, refl, sym, ap, ◌∙◌}
use Rattle.std.proofs.{Common.{append_assoc, Result, Ok, arith}, Math.Seq.take-append_seam}
use Rattle.std.proofs.{Math.Seq.drop-append_seam, lemmas.Bool.Decides.nat_tests}
use Rattle.httparse.specs.Grammar.{RequestHead, print_request}
use Rattle.httparse.proofs.GrammarLemmas.{request_unique}
use Rattle.room_http.specs.{Laws.MessageUnique, Message.{print_message, body_size_of}}

ok-same : {A E : Type 0} (d x y : A) (r : Result A E) → r ≡ Ok x → r ≡ Ok y → x ≡ y
ok-same {A} {E} d x y r e f = grind (arith, nat_tests)

pub same-front : (a b p q : List ℕ) → length a ≡ length b → a ++ p ≡ b ++ q → (a ≡ b) × (p ≡ q)
same-front a b p q len e = (
  sym (take-append_seam a p) ∙ ap (λ t. take (length a) t) e ∙ ap (λ n. take n (b ++ q)) len
      ∙ take-append_seam b q,
  sym (drop-append_seam a p) ∙ ap (λ t. drop (length a) t) e ∙ ap (λ n. drop n (b ++ q)) len
      ∙ drop-append_seam b q,
)

-- bytes begin with one message at most, and one rest
pub message-unique : MessageUnique
unfolding print_message
message-unique bytes p q m k im ik e f =
    let u = request_unique bytes m.head k.head (m.body ++ p) (k.body ++ q)
    (im.head.valid, e ∙ append_assoc (print_request m.head) m.body p)
    (ik.head.valid, f ∙ append_assoc (print_request k.head) k.body q) in
    let len : length m.body ≡ length k.body =
    ok-same 0 (length m.body) (length k.body) (body_size_of m.head) im.size
    (ap (λ (h : RequestHead). body_size_of h) u.0 ∙ ik.size) in
    let same = same-front m.body k.body p q len u.1 in
    (rw (u.0, same.0) refl, same.1)
