use Rattle.std.proofs.Common.{arith, ◌∷◌, []}
use Rattle.sqlite.specs.{declared.types.Value.TheVariants.Text, Held.state}
use Rattle.store_schema.proofs.{FirstRows.makes_root, Meant.owner_line, Texts.folder_text}
use Rattle.store_schema.proofs.Within.{makes_by}
use Rattle.store_schema.proofs.first_rows.insert_folder.Goals as goal

pub returns-clause-makes : goal.returns-clause-makes
returns-clause-makes g c =
    let old = state g.S.Store c.args.tx.now.conn.now in
    let new = state g.S.Store c.execute.new.self.conn.now in
    let owners = c.args.owners.now in
    let runs = simp (
      c.params-to_sql.ensures,
      c.params-to_sql-2.ensures,
      c.params-to_sql-3.ensures,
      c.as_str.ensures,
      c.as_str-2.ensures,
    ) at c.execute.ensures.runs in
    makes_by old new c.execute.ensures.survives folder_text
    (Text owners.owner ∷ Text owners.group ∷ Text owner_line ∷ []) c.execute.result _ _ _
    (λ off. (
      (c.execute.ensures.ended off).0,
      grind (arith, old, g.S.Store, c.execute.ensures.ended),
    )) runs
    (makes_root owners c.is_known.ensures c.is_known-2.ensures
    (c.names_are_text.ensures owners.owner c.is_known.ensures)
    (c.names_are_text.ensures owners.group c.is_known-2.ensures) old new)
