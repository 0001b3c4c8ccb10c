use Rattle.std.proofs.Common.{rules, ◌≡◌, ◌∙◌}
use Rattle.room_desk.proofs.Lists.SentEntries.{takes_next, leaves_next}
use Rattle.room_desk.proofs.setting.sent_entries.Goals as goal
use Rattle.room_desk.proofs.setting.sent_entries.Goals.{then-flags-inherited+in_ok-clone+in_ok-push}
use Rattle.room_desk.proofs.setting.sent_entries.Goals.{else-flags-inherited}

pub sent-preserved : goal.sent-preserved
sent-preserved c =
    let same = c.as_slice-entry-items.ensures ∙ c.entries.ensures.list in
    elim c.if-flags-inherited.branch [
      | then-flags-inherited+in_ok-clone+in_ok-push w ↦
          let copied : w.in_ok-clone.field-0 ≡ c.entry-item.result = search rules in
          takes_next c.args.sent.now.entries c.as_slice-entry-items.result.now same
          c.sent.entry-index c.entry-item.result c.sent-test.true c.entry-item.is c.args.inherited
          c.flags.result c.flags.ensures c.sent.entries c.sent.invariant
          w.in_ok-clone.field-0 c.if-flags-inherited.entries w.if-flags-inherited.true
          (w.entries-is ∙ w.in_ok-push.ensures.ok) copied
      | else-flags-inherited w ↦
          leaves_next c.args.sent.now.entries c.as_slice-entry-items.result.now same
          c.sent.entry-index c.entry-item.result c.sent-test.true c.entry-item.is c.args.inherited
          c.flags.result c.flags.ensures c.sent.entries c.sent.invariant
          c.if-flags-inherited.entries w.if-flags-inherited.false w.entries-is
    ]
