-- What was granted to who asked.
use Rattle.std.proofs.Common.{rules, ℕ, ◌≡◌, true, not, List, [], ◌∷◌, Some, None, ap, arith}
use Rattle.std.{proofs.lemmas.Bool.Decides.nat_tests, specs.Prelude.is_none}
use Rattle.room_entry.specs.Rights.{execute, write_data, append_data}
use Rattle.room_entry.specs.declared.parties.Caller.{Caller}
use Rattle.room_rows.specs.Content.{Content, children_of, is_empty}
use Rattle.room_machine.specs.{Judge.{failure, first_failure, passes}, Plan.{Item, Check, Deletion}}
use Rattle.room_machine.specs.Plan.{Refusal, plan_of, move_items, where_found, right_to_add}
use Rattle.room_machine.specs.{Plan.to_target, Site.{Site, front, site_at, parent_at, sites_along}}
use Rattle.room_machine.specs.declared.reply.Reason.TheVariants.{NotEmpty, Root}
use Rattle.room_machine.specs.declared.request.Request.TheVariants.{Remove, Put, MakeFolder}
use Rattle.room_laws.proofs.Passing.{passed, passed_on}

module _ (caller : Caller) (content : Content) where
  pub passes_by : (item : Item) → failure caller item ≡ None → passes caller item ≡ true
  passes_by item none = ap is_none none

  -- what is asked of the object at a path passes
  pub target_passed : (path : List (List ℕ)) (items : Site → List Item) (s : Site)
      → site_at (sites_along content path) path ≡ Some s
      → first_failure caller (to_target content path items) ≡ None
      → first_failure caller (items s) ≡ None
  target_passed path items s at none = grind (arith, nat_tests, passed_on)

  pub check_passed : (path : List (List ℕ)) (bits : List ℕ) (more : Site → List Item) (s : Site)
      → site_at (sites_along content path) path ≡ Some s
      → first_failure caller (to_target content path (λ t. Check t bits ∷ more t)) ≡ None
      → passes caller (Check s bits) ≡ true
  check_passed path bits more s at none =
      passes_by (Check s bits) (passed caller (Check s bits) (more s)
      (target_passed path (λ t. Check t bits ∷ more t) s at none)).0

  pub removal_passed : (path : List (List ℕ)) (s d : Site)
      → site_at (sites_along content path) path ≡ Some s
      → parent_at (sites_along content path) path ≡ Some d
      → first_failure caller (plan_of content (Remove path)) ≡ None
      → passes caller (Deletion s d) ≡ true
  removal_passed path s d at above none =
      let here = target_passed path (λ target. Refusal path Root (is_empty path)
      ∷ where_found (parent_at (sites_along content path) path) (λ folder.
      Deletion target folder
      ∷ Refusal path NotEmpty
      (not (is_empty (children_of content target.node.id))) ∷ [])) s at none in
      search (rules, passed, s, s.node.id, here, passes_by)

  -- a move to a place in a folder
  pub move_granted : (first : List ℕ) (more : List (List ℕ)) (s d e : Site)
      → site_at (sites_along content (front (first ∷ more))) (front (first ∷ more)) ≡ Some e
      → first_failure caller (move_items (sites_along content) content (first ∷ more) s d) ≡ None
      → (passes caller (Deletion s d) ≡ true) × (passes caller (Check e (execute ∷ [])) ≡ true)
      × (passes caller (Check e (right_to_add s.node ∷ [])) ≡ true)
  move_granted first more s d e at none = grind (arith, nat_tests, passed, passed_on, passes_by)

  -- what is asked of the folder that something is put into
  pub put_granted : (path : List (List ℕ)) (bytes : List ℕ) (d : Site)
      → site_at (sites_along content path) path ≡ None
      → parent_at (sites_along content path) path ≡ Some d
      → first_failure caller (plan_of content (Put path bytes)) ≡ None
      → passes caller (Check d (write_data ∷ [])) ≡ true
  put_granted path bytes d at above none = grind (arith, nat_tests, passed, passed_on, passes_by)

  pub folder_granted : (name : List ℕ) (names : List (List ℕ)) (d : Site)
      → parent_at (sites_along content (name ∷ names)) (name ∷ names) ≡ Some d
      → first_failure caller (plan_of content (MakeFolder (name ∷ names))) ≡ None
      → passes caller (Check d (append_data ∷ [])) ≡ true
  folder_granted name names d above none = grind (arith, nat_tests, passed, passed_on, passes_by)
