-- Pairs that are joined one by one.
use Rattle.std.proofs.Common.{◌≡◌, ℕ, ◌+◌, ◌<◌, List, [], ◌∷◌, drop, get_or, length, sym, ap, ◌∙◌}
use Rattle.std.{proofs.{Common.arith, lemmas.List.{drop_all, drop_more}}, specs.Prelude.◌-◌}
use Rattle.room_rows.specs.{Content.{put_pair, set_of, with_members}, Keep.with_content, Rows.Rows}

abbrev pub Joined : Rows → List (List ℕ × List ℕ) → Rows
Joined old pairs = with_content old (with_members old.read pairs)

pub joined_next : (old mid new : Rows) (pairs : List (List ℕ × List ℕ)) (pair : List ℕ × List ℕ)
    → mid ≡ Joined old pairs → set_of mid.read.members ≡ mid.read.members
    → new ≡ Joined mid (pair ∷ mid.read.members) → new ≡ Joined old (pair ∷ pairs)
joined_next old mid new pairs pair is ordered becomes =
    let members : mid.read.members ≡ set_of pairs = ap (λ (r : Rows). r.read.members) is in
    becomes
    ∙ ap (λ (m : List (List ℕ × List ℕ)).
    with_content mid (record mid.read { members = put_pair pair m })) (ordered ∙ members)
    ∙ ap (λ (r : Rows).
    with_content r (record r.read { members = put_pair pair (set_of pairs) })) is

pub next_drop : {X : Type 0} (xs : List X) (i k : ℕ) (x : X) → i < length xs
    → k ≡ length xs - (i + 1) → x ≡ get_or xs k x
    → x ∷ drop (length xs - i) xs ≡ drop (length xs - (i + 1)) xs
next_drop xs i k x below same is =
    let here : k < length xs = omega arith in
    let behind : k + 1 ≡ length xs - i = omega arith in
    ap (λ y. y ∷ drop (length xs - i) xs) is
    ∙ ap (λ (n : ℕ). get_or xs k x ∷ drop n xs) (sym behind)
    ∙ sym (drop_more xs k x here) ∙ ap (λ (n : ℕ). drop n xs) same

pub joined_none : (old : Rows) (pairs : List (List ℕ × List ℕ)) → old.read.members ≡ []
    → old ≡ Joined old (drop (length pairs - 0) pairs)
joined_none old pairs none =
    ap (λ (m : List (List ℕ × List ℕ)). with_content old (record old.read { members = m }))
    (none ∙ sym (ap set_of (drop_all (length pairs - 0) pairs (omega arith))))
