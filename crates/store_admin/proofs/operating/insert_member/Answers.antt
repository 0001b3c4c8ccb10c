use Rattle.std.proofs.Common.{subst, sym, ◌∷◌, [], arith}
use Rattle.sqlite.specs.{declared.types.Value.TheVariants.Text, Held.state}
use Rattle.store_tables.{specs.{Shown.Stays, Trust.stays_itself}, proofs.Asked.writes}
use Rattle.store_admin.proofs.Exchanging.{join_room, join_text, joined}
use Rattle.store_admin.proofs.operating.insert_member.Goals as goal

pub returns-clause-writes : goal.returns-clause-writes
returns-clause-writes g c =
    let old = state g.S.Store c.args.tx.now.conn.now in
    let new = state g.S.Store c.execute.new.self.conn.now in
    let group = c.args.group.now in
    let user = c.args.user.now in
    let given = c.params-to_sql.ensures in
    let given-2 = c.params-to_sql-2.ensures in
    writes join_text (Text group ∷ Text user ∷ []) old new c.execute.result _ _
    c.execute.ensures.survives (λ inside. join_room group user old new inside)
    (grind (arith, joined, group, user))
    (λ off. (
      (c.execute.ensures.ended off).0,
      subst (λ h. Stays old (state g.S.Store h)) (sym (c.execute.ensures.ended off).1)
          (stays_itself old),
    )) (rw (given, given-2) at c.execute.ensures.runs)
