use Rattle.std.proofs.Common.{◌≡◌, IsTrue, pos, subst}
use Rattle.sqlite.specs.{Held.state, Schema.Schema}
use Rattle.store_tables.specs.Tables.{room_schema}
use Rattle.store_schema.proofs.Recognized.{adopts_known, fails_known, tables_known}
use Rattle.store_schema.proofs.adopting.adopt.Goals as goal

pub returns-clause-adopts : goal.returns-clause-adopts
returns-clause-adopts g c =
    let same = subst (λ (schema : Schema). (IsTrue c.is_room-known.result → schema ≡ room_schema)
    × (schema ≡ room_schema → IsTrue c.is_room-known.result)) c.schema.ensures.value
    c.is_room-known.ensures in
    rw c.if_known.ensures (adopts_known (state g.S.Store c.args.conn.now) c.is_room-known.result same
    (state g.S.Store c.read_version-answer.new.conn) (pos 2) c.read_version-answer.result
    c.read_version-answer.ensures.reads)

pub returns-clause-fails : goal.returns-clause-fails
returns-clause-fails g c =
    let same = subst (λ (schema : Schema). (IsTrue c.is_room-known.result → schema ≡ room_schema)
    × (schema ≡ room_schema → IsTrue c.is_room-known.result)) c.schema.ensures.value
    c.is_room-known.ensures in
    rw c.if_known.ensures (fails_known (state g.S.Store c.args.conn.now) c.is_room-known.result same
    (state g.S.Store c.read_version-answer.new.conn) c.read_version-answer.result
    c.read_version-answer.ensures.fails)

pub returns-clause-tables : goal.returns-clause-tables
returns-clause-tables g c =
    let same = subst (λ (schema : Schema). (IsTrue c.is_room-known.result → schema ≡ room_schema)
    × (schema ≡ room_schema → IsTrue c.is_room-known.result)) c.schema.ensures.value
    c.is_room-known.ensures in
    rw c.if_known.ensures (tables_known (state g.S.Store c.args.conn.now)
    c.is_room-known.result same c.read_version-answer.result)
