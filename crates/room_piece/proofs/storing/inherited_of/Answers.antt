use Rattle.std.proofs.{Common.{◌≡◌, filter, rules}, lemmas.Fn.filter_same}
use Rattle.room_entry.specs.Ace.{Ace}
use Rattle.room_piece.proofs.storing.inherited_of.Goals as goal

pub returns : goal.returns
returns c =
    let kept : c.retain.new.self.items
    ≡ filter (λ (entry : Ace). entry.flags.inherited) c.into_vec-inherited.result.items =
    filter_same _ (λ (entry : Ace). entry.flags.inherited) _ (λ x b f' k. search rules) _ _
    c.retain.ensures.filtered in
    cc (
      kept,
      c.from_vec.ensures,
      c.into_vec-inherited.ensures,
      c.in_ok-copy.ensures,
      c.entries.ensures.list,
    )
