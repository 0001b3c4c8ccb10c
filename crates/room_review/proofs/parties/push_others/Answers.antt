use Rattle.std.proofs.Common.{rules, ◌≡◌, ◌∷◌, ◌++◌, [], List, ap, ◌∙◌, append_assoc}
use Rattle.room_dump.proofs.Reading.{Knows, answered, learns}
use Rattle.room_review.specs.{declared.parties.Party.Party, Table.other_name}
use Rattle.room_review.proofs.parties.push_others.Goals as goal

pub returns : goal.returns
returns g c =
    let k = g.K.Keep in
    let laws = g.met.K.Keep.laws in
    let a = c.args.keep.now in
    let b = c.party_of.new.keep in
    let d = c.party_of-2.new.keep in
    let other = c.in_ok-other.other in
    let nobody = c.in_ok-nobody.nobody in
    let before = c.args.parties.now.items in
    let one : Knows k laws a b (λ rows. other ≡ other_name rows.read c.args.stranger.now) =
    search (rules, learns, c.in_ok-other.ensures.read) in
    record {
      read =
          answered k laws a d tt
          (learns k laws a b d nobody one c.in_ok-nobody.ensures.read (λ rows are first second.
          c.in_ok-push_party-2.ensures
          ∙ ap (λ (l : List Party). l ++ nobody ∷ []) c.in_ok-push_party.ensures
          ∙ append_assoc before (other ∷ []) (nobody ∷ [])
          ∙ (λ i. before ++ first i ∷ second i ∷ [])));
    }
