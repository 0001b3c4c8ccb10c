-- The way of a reset: what is refused, by where the walk comes to.
use Rattle.std.proofs.Common.{rules, ◌≡◌, ℕ, zero, suc, ◌-◌, true, false, cond, not, List, [], ◌∷◌}
use Rattle.std.proofs.Common.{◌++◌, filter, length, take, Option, Some, None, refl, sym, ap, ◌∙◌}
use Rattle.std.proofs.{Common.{append_assoc, arith, length-append}, Math.Seq.take-append_seam}
use Rattle.std.{proofs.lemmas.{List.append-nil, Bool.Decides.nat_tests}, specs.Option.option_map_or}
use Rattle.room_entry.specs.declared.{parties.Caller.Caller, object.ObjKind.ObjKind}
use Rattle.room_entry.specs.declared.object.ObjKind.TheVariants.{Document, Folder}
use Rattle.room_rows.specs.{declared.node.{Node.Node, Walk.Walk}, Content.{Content, child_of}}
use Rattle.room_rows.specs.{Content.{is_folder, node_at}, Walk.{behind, walk_from}}
use Rattle.room_rows.proofs.Frames.{Rises, child_of-is_there}
use Rattle.room_machine.specs.declared.reply.{Reason.TheVariants.{NoSuch, NotFolder}, Reply.Reply}
use Rattle.room_machine.specs.{declared.reply.Reply.TheVariants.Refused, Judge.first_failure}
use Rattle.room_machine.specs.{Judge.or_else, Plan.{Item, way, where_found}, Site.{Site, site_at}}
use Rattle.room_machine.specs.{Step.is_refusal, Stored.{stored_from, stored_site}}
use Rattle.room_judge.specs.Judged.{ended_at}

-- ---- paths

front_is : (front back : List (List ℕ)) (n : ℕ) → n ≡ length back
    → take (length (front ++ back) - n) (front ++ back) ≡ front
front_is front back n is =
    ap (λ k. take k (front ++ back))
    (search (rules, front, length-append)) ∙ take-append_seam front back

module _ (rows : Content) (rises : Rises rows) (caller : Caller) (items : Site → List Item)
    (folders : (n child : Node) (name : List ℕ) → node_at rows n.id ≡ Some n
    → child_of rows n.id name ≡ Some child → is_folder n ≡ true) where
  abbrev later : List (List ℕ) → List ℕ → List (List ℕ) → Option Node → List Site
  later p name names o = option_map_or (λ child. stored_from rows (p ++ name ∷ []) child names) o []

  -- the last object on the way, and how many names are left over
  abbrev pub end_from : Node → List (List ℕ) → Node × ℕ
  end_from node [] = (node, zero)
  end_from node (name ∷ names) =
      option_map_or (λ child. end_from child names) (child_of rows node.id name)
      (node, suc (length names))

  pub record IsWalkEnd (walk : Walk) (end : Node × ℕ) : Type 0 where
    pub front : List Node
    pub chain : walk.chain ≡ front ++ end.0 ∷ []
    pub rest : walk.rest ≡ end.1
    pub stands : node_at rows end.0.id ≡ Some end.0

  pub walk_end : (names : List (List ℕ)) (node : Node) → node_at rows node.id ≡ Some node
      → IsWalkEnd (walk_from rows node names) (end_from node names)
  walk_end [] node there = record { front = []; chain = refl; rest = refl; stands = there }
  walk_end (name ∷ names) node there =
      on (child_of rows node.id name)
      (λ child found. walk_end names child (child_of-is_there rows rises node.id name child found))
    where
      on : (o : Option Node)
          → ((child : Node) → o ≡ Some child
          → IsWalkEnd (walk_from rows child names) (end_from child names))
          → IsWalkEnd (option_map_or (λ child. behind node (walk_from rows child names)) o
          (record { chain = node ∷ []; rest = length (name ∷ names) }))
          (option_map_or (λ child. end_from child names) o (node, suc (length names)))
      on None next = record { front = []; chain = refl; rest = refl; stands = there }
      on (Some child) next = let end = next child refl in
          record {
            front = node ∷ end.front;
            chain = ap (λ l. node ∷ l) end.chain;
            rest = end.rest;
            stands = end.stands;
          }

  -- the refusals of the way and of the items at its end
  abbrev pub refusals : List Site → List (List ℕ) → List Item
  refusals sites names =
      filter is_refusal (way false sites names ++ where_found (site_at sites names) items)

  -- the target is there and its items decide, or the walk ended before it
  abbrev pub Comes : List (List ℕ) → List Site → List (List ℕ) → Option Reply → Node → ℕ → Type 0
  Comes path sites names answer last zero = (site_at sites names ≡ Some (stored_site path last))
      × (answer ≡ first_failure caller (filter is_refusal (items (stored_site path last))))
  Comes path sites names answer last (suc rest) = answer ≡ Some (ended_at path last.kind (suc rest))

  pub comes : (names p path : List (List ℕ)) (node : Node) → node_at rows node.id ≡ Some node
      → path ≡ p ++ names
      → Comes path (stored_from rows p node names) names
      (first_failure caller (refusals (stored_from rows p node names) names))
      (end_from node names).0 (end_from node names).1
  comes [] p path node there is = grind (arith, nat_tests, append-nil)
  comes (name ∷ names) p path node there is =
      on (child_of rows node.id name) refl
      (λ child found. comes names (p ++ name ∷ []) path child
      (child_of-is_there rows rises node.id name child found)
      (is ∙ sym (append_assoc p (name ∷ []) names)))
    where
      ends : (kind : ObjKind)
          → or_else (cond (not (not (Rattle.room_entry.specs.Valid.is_document kind)))
          (Some (Refused p NotFolder)) None) (Some (Refused (p ++ name ∷ []) NoSuch))
          ≡ Some (ended_at path kind (suc (length names)))
      ends Document = grind (arith, nat_tests, front_is)
      ends Folder =
          cc (
            front_is (p ++ name ∷ []) names (suc (length names) - 1) (omega arith),
            append_assoc p (name ∷ []) names,
            is,
          )

      on : (o : Option Node) → child_of rows node.id name ≡ o
          → ((child : Node) → o ≡ Some child
          → Comes path (stored_from rows (p ++ name ∷ []) child names) names
          (first_failure caller (refusals (stored_from rows (p ++ name ∷ []) child names) names))
          (end_from child names).0 (end_from child names).1)
          → Comes path (stored_site p node ∷ later p name names o) (name ∷ names)
          (first_failure caller
          (refusals (stored_site p node ∷ later p name names o) (name ∷ names)))
          (option_map_or (λ child. end_from child names) o (node, suc (length names))).0
          (option_map_or (λ child. end_from child names) o (node, suc (length names))).1
      on None found next = ends node.kind
      on (Some child) found next = grind (arith, nat_tests)
