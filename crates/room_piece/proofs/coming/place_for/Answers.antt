use Rattle.std.{proofs.Common.{◌≡◌, ℕ, List, refl, sym, ap, subst, ◌∙◌}, specs.Prelude.is_some}
use Rattle.room_rows.specs.{Content.child_of, Rows.{AreRows, Rows}}
use Rattle.room_memory.specs.Memory.{rows_in}
use Rattle.room_piece.specs.{Coming.IsBarred, Holding.IsWell, Refusing.Blames}
use Rattle.room_piece.{specs.declared.refusal.Refusal.Refusal, proofs.Placing.taken}
use Rattle.room_piece.proofs.coming.place_for.Goals as goal

pub returns-then-branch-clause-refused : goal.returns-then-branch-clause-refused
returns-then-branch-clause-refused c =
    let path = c.args.object.now.path in
    let old = rows_in c.args.keep.now in
    let folder = c.in_ok-folder.folder in
    subst (Blames (λ (refusal : Refusal). (refusal.line ≡ c.args.object.now.line)
    × (IsWell c.args.keep.now → IsBarred path old refusal.why))) (sym c.refused.ensures) (
      refl,
      λ well.
          let found = c.in_ok-folder.ensures.found well.rows in
          let said = c.in_ok-is_taken.ensures.found
          (subst (λ (r : Rows). AreRows r) (sym found.1) well.rows) in
          taken path c.requires.some old well.rows well.sound folder found.0.ends found.0.folds
          (ap (λ (text : List ℕ). is_some (child_of old.read folder.id text)) (sym c.requires.last)
          ∙ ap (λ (r : Rows). is_some (child_of r.read folder.id c.args.name.now)) (sym found.1)
          ∙ sym said.0 ∙ c.if-branch.true),
    )
