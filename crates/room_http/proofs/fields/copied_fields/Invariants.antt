use Rattle.std.proofs.Common.{◌≡◌, map, take}
use Rattle.httparse.specs.Spans.{header_bytes}
use Rattle.room_http.specs.Message.{field_of}
use Rattle.room_http.proofs.fields.copied_fields.Given as goal

abbrev pub invariant-loop-span : goal.invariant-loop-span
invariant-loop-span l =
    l.fields.items ≡ map field_of (map (header_bytes l.bytes) (take l.span-index l.spans))
