-- The texts of replies, one after another, of the exchanges alone.
use Rattle.std.proofs.Common.{◌≡◌, ◌<◌, ℕ, suc, ◌+◌, Bool, false, List, [], ◌∷◌, ◌++◌, length, None}
use Rattle.std.proofs.Common.{Option, Some, IsSome, refl, sym, ap, subst, ◌∙◌, append_assoc, arith}
use Rattle.std.proofs.{Common.{true≢false, rules}, lemmas.List.append-nil}
use Rattle.std.{proofs.lemmas.List.Elements.recursion_from_All, specs.Io.KnownBytes.Appends}
use Rattle.std.specs.List.{AllByRecursion}
use Rattle.room_http.specs.{Limits.max_messages, Message.closes, Stream.{EndsStream, Exchange}}
use Rattle.room_http.specs.Stream.{IsOpen, Last, exchange_text, last_exchange, last_text}
use Rattle.room_http.specs.Stream.{says_close, texts_of}
use Rattle.cli_listen.specs.{Peers.Wire, Visits.{EndsTalk, failed_last}}
use Rattle.cli_runs.specs.Sent.{ExchangesAreBytes, IsNoRefusal}

-- the texts of the replies to messages that come after n others
abbrev texts_after : ℕ → List Exchange → List ℕ
texts_after n [] = []
texts_after n (x ∷ xs) = exchange_text (says_close x.message n) x ++ texts_after (n + 1) xs

-- a message that closes nothing, and isn't the last that is served
stays_open : (n : ℕ) (x : Exchange) → closes x.message ≡ false → n + 1 < max_messages
    → says_close x.message n ≡ false
stays_open n x stays more =
    grind (arith, stays, more)

-- messages that leave the connection open, and then others
open_texts : (n : ℕ) (xs rest : List Exchange) → AllByRecursion IsOpen xs
    → n + length xs < max_messages
    → texts_after n (xs ++ rest) ≡ texts_of xs ++ texts_after (n + length xs) rest
open_texts n [] rest all few =
    grind arith
open_texts n (x ∷ xs) rest all few =
    let all_few : n + suc (length xs) < max_messages = few in
    let more : n + 1 < max_messages = omega (arith, all_few) in
    let left : n + 1 + length xs < max_messages = omega (arith, all_few) in
    let here : n + 1 + length xs ≡ n + suc (length xs) = omega arith in
    ap (λ (close : Bool). exchange_text close x ++ texts_after (n + 1) (xs ++ rest))
    (stays_open n x all.0.stays more)
    ∙ ap (λ (text : List ℕ). exchange_text false x ++ text)
    (open_texts (n + 1) xs rest all.1 left)
    ∙ sym (append_assoc (exchange_text false x) (texts_of xs)
    (texts_after (n + 1 + length xs) rest))
    ∙ ap (λ (k : ℕ). texts_of (x ∷ xs) ++ texts_after k rest) here

-- the text of the end
end_text : (left : List ℕ) (n k : ℕ) (last : Last) → k ≡ n → EndsStream left n last
    → IsNoRefusal last → None ≡ failed_last last
    → texts_after k (last_exchange last) ≡ last_text last
end_text left n k Last.Clean same ends calm none = refl
end_text left n k Last.Cut same ends calm none = refl
end_text left n k (Last.Refused refusal) same ends calm none = absurd calm
end_text left n k (Last.Failed m) same ends calm none = absurd (cc)
end_text left n k (Last.Closing x) same ends calm none =
    grind (arith, append-nil, same, ends, ends.1)

-- what was written of a connection that ended so
all_texts : (had has : Wire) (exchanges : List Exchange) (one : EndsTalk had has exchanges None)
    → IsNoRefusal one.last → Appends had.sent has.sent (texts_after 0 exchanges)
all_texts had has exchanges one calm =
    let stream = one.talks.stream in
    let count : 0 + length one.before ≡ length one.before = omega arith in
    let few : 0 + length one.before < max_messages = omega (arith, stream.few) in
    let whole = open_texts 0 one.before (last_exchange one.last)
    (recursion_from_All IsOpen one.before stream.opens.each) few in
    let text : texts_after 0 exchanges ≡ texts_of one.before ++ last_text one.last =
    ap (texts_after 0) one.whole ∙ whole
    ∙ ap (λ (t : List ℕ). texts_of one.before ++ t)
    (search (rules, end_text, calm, count, stream.ends, one.failed_is)) in
    subst (λ (t : List ℕ). Appends had.sent has.sent t) (sym text) one.talks.writes

same_written : (before one two : Option (List ℕ)) (text : List ℕ) → IsSome before
    → Appends before one text → Appends before two text → one ≡ two
same_written None one two text known first second = absurd (true≢false (sym known))
same_written (Some bytes) None two text known first second = absurd first
same_written (Some bytes) (Some xs) None text known first second = absurd second
same_written (Some bytes) (Some xs) (Some ys) text known first second =
    ap Some (first ∙ sym second)

pub exchanges_are_bytes : ExchangesAreBytes
exchanges_are_bytes had has had' has' exchanges one two calm still known same =
    same_written had.sent has.sent has'.sent (texts_after 0 exchanges) known
    (all_texts had has exchanges one calm)
    (subst (λ (s : Option (List ℕ)). Appends s has'.sent (texts_after 0 exchanges)) (sym same)
    (all_texts had' has' exchanges two still))
