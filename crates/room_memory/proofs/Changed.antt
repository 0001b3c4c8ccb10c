-- What a keeper in memory holds after a call.
use Rattle.std.proofs.Common.{◌≡◌, ℕ, ◌<◌, ◌==◌, true, false, not, List, ◌∷◌, map, filter, Option}
use Rattle.std.proofs.Common.{Some, None, Result, Err, IfOk, refl, sym, ap, subst, ◌∙◌, arith, inl}
use Rattle.std.proofs.{Common.{inr, if◌then◌else◌}, lemmas.Bool.{cases_Bool, false≢true, eq-eqb}}
use Rattle.std.proofs.lemmas.Bool.{cond-true, cond-false, Decides.nat_tests}
use Rattle.std.specs.{Prelude.is_some, Option.option_map_or}
use Rattle.room_entry.specs.{Valid.is_document, declared.object.Which.{Which, TheVariants.Dacl}}
use Rattle.room_entry.specs.declared.{object.Which.TheVariants.Sacl, parties.Owners.Owners}
use Rattle.room_rows.specs.declared.{keep.KeepFault.KeepFault, node.{AuditRow.AuditRow, Node.Node}}
use Rattle.room_rows.specs.{HeldList.Held, Content.{put_body, put_node, is_rising, without_node}}
use Rattle.room_rows.specs.{Finding.find_id, Held.with_held, Keep.{Addition, Changes, node_of}}
use Rattle.room_rows.specs.{Keep.{with_content, with_new, with_owners, writes_after}, Rows.AreRows}
use Rattle.room_memory.specs.{Memory.memory_rows, Objects.{StandsAsBefore, greatest}}
use Rattle.room_memory.proofs.{Found.{found_put, found_above}, Kept.{put_rows, body_rows}}
use Rattle.room_memory.proofs.{Kept.removed_rows, Tying.no_less}
use Rattle.room_rows.proofs.Lookups.{found_number}

-- ---- a call that memory ended

pub err_writes : {X : Type 0} (r : Result X KeepFault) (e : KeepFault) (n : ℕ) → r ≡ Err e
    → n ≡ writes_after 1 r n
err_writes r e n is = sym (ap (λ q. writes_after 1 q n) is)

pub err_becomes : {X : Type 0} (r : Result X KeepFault) (e : KeepFault) (P : X → Type 0) → r ≡ Err e
    → IfOk r P
err_becomes r e P is = subst (λ q. IfOk q P) (sym is) tt

-- ---- an object that changes

pub found_itself : (nodes : List Node) (id : ℕ) (node : Node) → find_id id nodes ≡ Some node
    → find_id node.id nodes ≡ Some node
found_itself nodes id node found = ap (λ i. find_id i nodes) (found_number id nodes node found) ∙ found

pub stands_held : (which : Which) (held : Held) (nodes : List Node) (id : ℕ) (node new : Node)
    → find_id id nodes ≡ Some node → new ≡ with_held which held node → StandsAsBefore new nodes
stands_held which held nodes id node new found is =
    subst (λ (n : Node). StandsAsBefore n nodes) (sym is) (at which)
  where
    at : (w : Which) → StandsAsBefore (with_held w held node) nodes
    at Dacl =
        record {
          before = node;
          is_there = found_itself nodes id node found;
          same_parent = refl;
          same_name = refl;
        }
    at Sacl =
        record {
          before = node;
          is_there = found_itself nodes id node found;
          same_parent = refl;
          same_name = refl;
        }

pub stands_owned : (owners : Owners) (nodes : List Node) (id : ℕ) (node new : Node)
    → find_id id nodes ≡ Some node → new ≡ with_owners owners node → StandsAsBefore new nodes
stands_owned owners nodes id node new found is =
    subst (λ (n : Node). StandsAsBefore n nodes) (sym is)
    (record {
      before = node;
      is_there = found_itself nodes id node found;
      same_parent = refl;
      same_name = refl;
    })

number_above : (nodes : List Node) (id : ℕ) (node : Node)
    → is_rising (0 ∷ map (λ (n : Node). n.id) nodes) ≡ true → find_id id nodes ≡ Some node
    → 0 < node.id
number_above nodes id node rises found =
    found_above (λ (m : Node). m.id == id) 0 nodes node rises found

-- an object that is there is put at its number
pub keeps_rows : (nodes new_nodes : List Node) (bodies : List (ℕ × List ℕ))
    (members : List (List ℕ × List ℕ)) (audits : List AuditRow) (id : ℕ) (node new : Node)
    → find_id id nodes ≡ Some node → new.id ≡ node.id → new_nodes ≡ put_node new nodes
    → AreRows (memory_rows nodes bodies members audits)
    → AreRows (memory_rows new_nodes bodies members audits)
keeps_rows nodes new_nodes bodies members audits id node new found same puts old =
    let above = number_above nodes id node old.numbers found in
    subst (λ (l : List Node). AreRows (memory_rows l bodies members audits)) (sym puts)
    (put_rows nodes bodies members audits new (omega (arith, above, same)) old)

pub changes : (nodes new_nodes : List Node) (bodies : List (ℕ × List ℕ))
    (members : List (List ℕ × List ℕ)) (audits : List AuditRow) (id : ℕ) (change : Node → Node)
    (node new : Node) → find_id id nodes ≡ Some node → new ≡ change node
    → new_nodes ≡ put_node new nodes
    → Changes id change (memory_rows nodes bodies members audits)
    (memory_rows new_nodes bodies members audits)
changes nodes new_nodes bodies members audits id change node new found is puts =
    grind (arith, nat_tests)

-- ---- a new object

pub none_past : (nodes : List Node) (id : ℕ) → greatest nodes < id → find_id id nodes ≡ None
none_past nodes id past = grind (arith, nat_tests, no_less)

pub added : (nodes new_nodes : List Node) (bodies new_bodies : List (ℕ × List ℕ))
    (members : List (List ℕ × List ℕ)) (audits : List AuditRow) (id : ℕ) (new : Addition)
    → new_nodes ≡ put_node (node_of id new.node) nodes
    → new_bodies ≡ (if is_document new.node.kind then put_body id new.bytes bodies else bodies)
    → memory_rows new_nodes new_bodies members audits
    ≡ with_content (memory_rows nodes bodies members audits)
    (with_new (memory_rows nodes bodies members audits).read id new)
added nodes new_nodes bodies new_bodies members audits id new puts fills = grind (arith, nat_tests)

pub node_rows : (nodes new_nodes : List Node) (bodies new_bodies : List (ℕ × List ℕ))
    (members : List (List ℕ × List ℕ)) (audits : List AuditRow) (new : Node) → 0 < new.id
    → new_nodes ≡ put_node new nodes → new_bodies ≡ bodies
    → AreRows (memory_rows nodes bodies members audits)
    → AreRows (memory_rows new_nodes new_bodies members audits)
node_rows nodes new_nodes bodies new_bodies members audits new above puts same old =
    subst (λ (l : List (ℕ × List ℕ)). AreRows (memory_rows new_nodes l members audits)) (sym same)
    (subst (λ (l : List Node). AreRows (memory_rows l bodies members audits)) (sym puts)
    (put_rows nodes bodies members audits new above old))

pub added_rows : (nodes new_nodes : List Node) (bodies new_bodies : List (ℕ × List ℕ))
    (members : List (List ℕ × List ℕ)) (audits : List AuditRow) (id : ℕ) (new : Addition) → 0 < id
    → new_nodes ≡ put_node (node_of id new.node) nodes
    → new_bodies ≡ (if is_document new.node.kind then put_body id new.bytes bodies else bodies)
    → AreRows (memory_rows nodes bodies members audits)
    → AreRows (memory_rows new_nodes new_bodies members audits)
added_rows nodes new_nodes bodies new_bodies members audits id new above puts fills old =
    let nodes_in = put_rows nodes bodies members audits (node_of id new.node) above old in
    let there : is_some (find_id id (put_node (node_of id new.node) nodes)) ≡ true = ap is_some
    (found_put (node_of id new.node) id nodes ∙ cond-true _ _ _ (eq-eqb id id refl)) in
    subst (λ (l : List Node). AreRows (memory_rows l new_bodies members audits)) (sym puts)
    (elim (cases_Bool (is_document new.node.kind)) [
      | inl is ↦
          subst (λ (l : List (ℕ × List ℕ)). AreRows
          (memory_rows (put_node (node_of id new.node) nodes) l members audits))
          (sym (fills ∙ cond-true _ _ _ is))
          (body_rows (put_node (node_of id new.node) nodes) bodies members audits id new.bytes above
          there nodes_in)
      | inr isnt ↦
          subst (λ (l : List (ℕ × List ℕ)). AreRows
          (memory_rows (put_node (node_of id new.node) nodes) l members audits))
          (sym (fills ∙ cond-false _ _ _ isnt)) nodes_in
    ])

-- ---- an object that is gone, and bytes

pub gone_rows : (nodes new_nodes : List Node) (bodies new_bodies : List (ℕ × List ℕ))
    (members : List (List ℕ × List ℕ)) (audits : List AuditRow) (id : ℕ)
    → new_nodes ≡ filter (λ node. not (node.id == id)) nodes
    → new_bodies ≡ filter (λ row. not (row.0 == id)) bodies
    → AreRows (memory_rows nodes bodies members audits)
    → AreRows (memory_rows new_nodes new_bodies members audits)
gone_rows nodes new_nodes bodies new_bodies members audits id left rest old =
    subst (λ (l : List Node). AreRows (memory_rows l new_bodies members audits)) (sym left)
    (subst (λ (l : List (ℕ × List ℕ)). AreRows
    (memory_rows (filter (λ node. not (node.id == id)) nodes) l members audits)) (sym rest)
    (removed_rows nodes bodies members audits id old))

pub gone : (nodes new_nodes : List Node) (bodies new_bodies : List (ℕ × List ℕ))
    (members : List (List ℕ × List ℕ)) (audits : List AuditRow) (id : ℕ)
    → new_nodes ≡ filter (λ node. not (node.id == id)) nodes
    → new_bodies ≡ filter (λ row. not (row.0 == id)) bodies
    → memory_rows new_nodes new_bodies members audits
    ≡ with_content (memory_rows nodes bodies members audits)
    (without_node (memory_rows nodes bodies members audits).read id)
gone nodes new_nodes bodies new_bodies members audits id left rest =
    λ i. memory_rows (left i) (rest i) members audits

pub filled_rows : (nodes : List Node) (bodies new_bodies : List (ℕ × List ℕ))
    (members : List (List ℕ × List ℕ)) (audits : List AuditRow) (id : ℕ) (bytes : List ℕ)
    → option_map_or (λ (node : Node). is_document node.kind) (find_id id nodes) false ≡ true
    → new_bodies ≡ put_body id bytes bodies
    → AreRows (memory_rows nodes bodies members audits)
    → AreRows (memory_rows nodes new_bodies members audits)
filled_rows nodes bodies new_bodies members audits id bytes document fills old =
    subst (λ (l : List (ℕ × List ℕ)). AreRows (memory_rows nodes l members audits)) (sym fills)
    (by (find_id id nodes) refl (document))
  where
    by : (o : Option Node) → find_id id nodes ≡ o
        → option_map_or (λ (node : Node). is_document node.kind) o false ≡ true
        → AreRows (memory_rows nodes (put_body id bytes bodies) members audits)
    by None is document = absurd (false≢true document)
    by (Some n) is document =
        let above = number_above nodes id n old.numbers is in
        let same = found_number id nodes n is in
        body_rows nodes bodies members audits id bytes (omega (arith, above, same))
        (ap is_some is) old
