use Rattle.std.proofs.Common.{take}
use Rattle.http_message.specs.{Fields.field_values, Values.AreValues}
use Rattle.http_message.proofs.fields.values_under.Given as goal

abbrev pub invariant-loop-field : goal.invariant-loop-field
invariant-loop-field l = AreValues (field_values l.name (take l.field-index l.fields)) l.found
