-- Objects in memory that inherit the same, one after the other.
use Rattle.std.proofs.Common.{rules, ◌≡◌, ℕ, ◌&&◌, ◌++◌, Bool, true, false, List, [], ◌∷◌, Ok, Some}
use Rattle.std.proofs.{Common.{refl, ◌∙◌, arith}, lemmas.List.Folds.list_all-append}
use Rattle.std.{proofs.lemmas.Bool.Decides.nat_tests, specs.Prelude.is_some}
use Rattle.room_entry.specs.{Ace.Ace, declared.object.Which.Which}
use Rattle.room_rows.specs.{declared.node.Node.Node, Content.put_node, Finding.find_id}
use Rattle.room_rows.{specs.Keep.with_inh, proofs.{InPlace.place-with_inh, Many.none_changed}}
use Rattle.room_rows.proofs.Many.{then_changed, with_inh-once}
use Rattle.room_memory.specs.Memory.{Inherits, StayRows, are_found, memory_rows}
use Rattle.room_memory.proofs.Found.{found_put}

-- an object that is put in the place of one that is there is no new one
pub same_put : (nodes : List Node) (new node : Node) (id : ℕ) → find_id id nodes ≡ Some node
    → new.id ≡ id → (at : ℕ)
    → is_some (find_id at (put_node new nodes)) ≡ is_some (find_id at nodes)
same_put nodes new node id found is at = grind (arith, nat_tests, found_put)

same_found : (a b : List Node) → ((id : ℕ) → is_some (find_id id b) ≡ is_some (find_id id a))
    → (ids : List ℕ) → are_found ids b ≡ are_found ids a
same_found a b same [] = refl
same_found a b same (id ∷ ids) = grind (arith, nat_tests, same_found a b same ids)

-- none so far
pub inherits_none : (which : Which) (entries : List Ace) (nodes : List Node)
    → Inherits [] which entries nodes nodes (Ok true)
inherits_none which entries nodes = search (rules, none_changed)

module _ (which : Which) (entries : List Ace) (a b c : List Node) (ids more : List ℕ)
    (before : Inherits ids which entries a b (Ok true)) where
  rows_on : StayRows b c → StayRows a c
  rows_on after bodies members audits are =
      after bodies members audits (before.rows bodies members audits are)

  -- and some more, which are all there
  pub inherits_more : Inherits more which entries b c (Ok true)
      → Inherits (ids ++ more) which entries a c (Ok true)
  inherits_more after =
      record {
        rows = rows_on after.rows;
        same = λ id. after.same id ∙ before.same id;
        found = search (rules, after.found, same_found, list_all-append);
        changed =
            λ _ bodies members audits are. then_changed (with_inh which entries)
            (place-with_inh which entries) (with_inh-once which entries) ids more
            (memory_rows a bodies members audits) (memory_rows b bodies members audits)
            (memory_rows c bodies members audits)
            (before.changed refl bodies members audits are)
            (after.changed refl bodies members audits (before.rows bodies members audits are));
      }
    where
      both : (p q : Bool) → true ≡ p → true ≡ q → p ≡ (p && q)
      both true true one two = refl
      both true false one two = absurd (let e = two in cc)
      both false q one two = absurd (let e = one in cc)
