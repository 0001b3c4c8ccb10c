use Rattle.http_message.proofs.FieldValues.{values-other, values-same}
use Rattle.http_message.proofs.fields.values_under.Goals.{then-is_same_name, else-is_same_name}
use Rattle.http_message.proofs.fields.values_under.Goals as goal

pub loop-field-preserved : goal.loop-field-preserved
loop-field-preserved c =
    elim c.if-is_same_name.branch [
      | then-is_same_name w ↦
          rw w.found-is
          (values-same _ _ _ _ _ _ c.field-item.result w.one_more-found.result
          c.loop-field-test.true c.field-item.is c.as_slice.ensures c.is_same_name.ensures
          w.if-is_same_name.true w.as_slice-then-is_same_name.ensures
          (w.one_more-found.ensures _ c.loop-field.invariant))
      | else-is_same_name w ↦
          rw w.found-is
          (values-other _ _ _ _ _ c.field-item.result _ c.loop-field-test.true c.field-item.is
          c.as_slice.ensures c.is_same_name.ensures w.if-is_same_name.false c.loop-field.invariant)
    ]
