use Rattle.std.proofs.{Common.{◌≡◌, ℕ, ◌==◌, filter, not, rules}, lemmas.Fn.filter_same}
use Rattle.room_piece.proofs.marking.without.Goals as goal

pub returns : goal.returns
returns c =
    let kept : c.retain.new.self.items
    ≡ filter (λ (other : ℕ). not (other == c.args.id)) c.into_vec-others.result.items =
    filter_same _ (λ (other : ℕ). not (other == c.args.id)) _ (λ x b f' k. search rules) _ _
    c.retain.ensures.filtered in
    cc (kept, c.from_vec.ensures, c.into_vec-others.ensures, c.in_ok-copy_of.ensures)
