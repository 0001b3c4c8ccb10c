use Rattle.std.proofs.{Common.{Global, String, sym, ◌∙◌}, lemmas.Bool.{not-false, not-true}}
use Rattle.room_import.proofs.SeenFacts.{key_named, seen_more, seen_same, with_new, with_old}
use Rattle.room_import.proofs.gathered.Gathered.with.Goals.{then-branch+in_ok-push, else-branch}
use Rattle.room_import.proofs.gathered.Gathered.with.Goals as goal

pub invariant_of-result : goal.invariant_of-result
invariant_of-result c =
    let key : String Global × String Global =
    (c.in_ok-from_str.field-0, c.in_ok-from_str-2.field-0) in
    let bytes =
    key_named c.in_ok-from_str.field-0 c.in_ok-from_str-2.field-0 c.args.group c.args.user
    (c.in_ok-from_str.ensures.ok ∙ c.as_str.ensures)
    (c.in_ok-from_str-2.ensures.ok ∙ c.as_str-2.ensures) in
    elim c.if-branch.branch [
      | then-branch+in_ok-push w ↦
          rw (w.pairs-is, w.in_ok-push.ensures.ok, sym bytes)
          (seen_more c.self.inside.seen c.insert.new.self c.self.inside.pairs key c.self.invariant
          c.in_ok-insert.ensures.updates.0)
      | else-branch w ↦
          rw w.pairs-is
          (seen_same c.self.inside.seen c.insert.new.self c.self.inside.pairs c.self.invariant
          (rw w.if-branch.false at c.in_ok-insert.ensures.unchanged))
    ]

pub returns : goal.returns
returns c =
    let key : String Global × String Global =
    (c.in_ok-from_str.field-0, c.in_ok-from_str-2.field-0) in
    let bytes =
    key_named c.in_ok-from_str.field-0 c.in_ok-from_str-2.field-0 c.args.group c.args.user
    (c.in_ok-from_str.ensures.ok ∙ c.as_str.ensures)
    (c.in_ok-from_str-2.ensures.ok ∙ c.as_str-2.ensures) in
    elim c.if-branch.branch [
      | then-branch+in_ok-push w ↦
          let isnt = rw bytes at
          (sym (c.self.invariant key)
          ∙ not-true _ (sym c.in_ok-insert.ensures.added ∙ w.if-branch.true)) in
          let more = with_new c.self.inside.pairs (c.args.group, c.args.user) isnt in
          let pushed = w.in_ok-push.ensures.ok in
          let pairs = w.pairs-is in
          let view = c.self.view_is in
          cc (more, pushed, pairs, view)
      | else-branch w ↦
          let is = rw bytes at
          (sym (c.self.invariant key)
          ∙ not-false _ (sym c.in_ok-insert.ensures.added ∙ w.if-branch.false)) in
          let same = with_old c.self.inside.pairs (c.args.group, c.args.user) is in
          let pairs = w.pairs-is in
          let view = c.self.view_is in
          cc (same, pairs, view)
    ]
