-- What changes elsewhere leaves the objects along a path.
use Rattle.std.proofs.Common.{rules, ℕ, ◌≡◌, Bool, true, false, List, [], ◌∷◌, ◌++◌, Option, Some}
use Rattle.std.proofs.Common.{None, refl, sym, ap, ◌∙◌, append_assoc, append-nil, take, drop}
use Rattle.std.proofs.{Common.{take-append-drop, arith}, lemmas.Bool.Decides.nat_tests}
use Rattle.std.specs.{Option.option_map, Prelude.if◌then◌else◌}
use Rattle.room_entry.specs.declared.{object.Which.{Which, TheVariants.Sacl}, parties.Owners.Owners}
use Rattle.room_ace.specs.Sent.{Sent}
use Rattle.room_rows.specs.Content.{Content, with_node, with_body, without_node, child_of}
use Rattle.room_rows.specs.{Content.{with_records, are_names_apart}, Held.with_held, HeldList.Held}
use Rattle.room_rows.specs.{Keep.with_owners, declared.node.{AuditRow.AuditRow, Node.Node}}
use Rattle.room_machine.specs.{Effect.set_list, Site.{Site, front, last_name}, Step.IsFree}
use Rattle.room_laws.specs.{Outside.{found, view, Seen}, Tidy.IsNumbered, WhoChanged.basis}
use Rattle.room_laws.specs.WhoChanged.{deciding}
use Rattle.room_laws.proofs.Changed.{nodes_found, owners_view, relisted, list_view, is_child}
use Rattle.room_laws.proofs.{Grown.{GoesOn, found_append, grown_view, gone_view}, Moved.view_apart}
use Rattle.room_laws.proofs.{OnePlace.split_last, Placed.{same_names, names_decide}}
use Rattle.room_laws.proofs.{Settings.{setting, keeper, keeper_blank}, Deciding.deciding_along}

-- the same objects at each part of the path
pub record SameDown (q : List (List ℕ)) (a c : Content) : Type 0 where
  pub down : (r s : List (List ℕ)) → q ≡ r ++ s
      → option_map deciding (found a r) ≡ option_map deciding (found c r)

pub down_itself : (q : List (List ℕ)) (a : Content) → SameDown q a a
down_itself q a = record { down = λ r s is. refl }

pub basis_down : (q : List (List ℕ)) (a c : Content) → SameDown q a c → basis a q ≡ basis c q
basis_down q a c same =
    deciding_along a c q (λ i. same.down (take i q) (drop i q) (sym (take-append-drop i q)))

-- an object stands at each part of a path where one stands at the end
pub part_there : (a : Content) (q r s : List (List ℕ)) (n : Node) → found a q ≡ Some n
    → q ≡ r ++ s → found a r ≡ None → ⊥
part_there a q r s n at is none = grind (arith, nat_tests, found_append)

-- a part doesn't go on from where the path doesn't
pub part_apart : (p q r s : List (List ℕ)) → (GoesOn p q → ⊥) → q ≡ r ++ s → GoesOn p r → ⊥
part_apart p q r s apart is (rest, on) =
    apart (rest ++ s, is ∙ ap (λ (l : List (List ℕ)). l ++ s) on ∙ append_assoc p rest s)

pub not_at : (p q r s : List (List ℕ)) → (GoesOn p q → ⊥) → q ≡ r ++ s → r ≡ p → ⊥
not_at p q r s apart is same = grind (arith, nat_tests, part_apart)

unlike : (r p : List (List ℕ)) → (r ≡ p → ⊥) → same_names r p ≡ false
unlike r p other = grind (arith, nat_tests, names_decide, same_names)

as_it_was : (o : Option Seen) → option_map (λ (v : Seen). (v.0, v.1)) o ≡ o
as_it_was None = refl
as_it_was (Some v) = refl

-- what is seen, changed
abbrev pub changed : (Node → Node) → Seen → Seen
changed G v = (G v.0, v.1)

-- a change that deciding can't tell
pub decided_by : (a c : Content) (r : List (List ℕ)) (G : Node → Node)
    → ((v : Node) → deciding (G v) ≡ deciding v)
    → view c r ≡ option_map (changed G) (view a r)
    → option_map deciding (found a r) ≡ option_map deciding (found c r)
decided_by a c r G same is = grind (arith, nat_tests)

decided : (a c : Content) (r : List (List ℕ)) → view c r ≡ view a r
    → option_map deciding (found a r) ≡ option_map deciding (found c r)
decided a c r is = grind (arith, nat_tests, as_it_was, decided_by)

-- ---- an object is changed in its place

module _ (a : Content) (numbered : IsNumbered a) (p : List (List ℕ)) (s : Site)
    (at : found a p ≡ Some s.node) (q : List (List ℕ)) (apart : GoesOn p q → ⊥) where
  pub owners_apart : (owners : Owners)
      → SameDown q a (with_node a (record s.node { owners = owners }))
  owners_apart owners = record {
    down = λ r t is. decided a (with_node a (with_owners owners s.node)) r
        (owners_view a numbered p s.node at owners r
        ∙ ap (λ (b : Bool). option_map
        (λ (v : Seen). (if b then with_owners owners v.0 else v.0, v.1)) (view a r))
        (unlike r p (not_at p q r t apart is))
        ∙ as_it_was (view a r));
  }

  no_child_at : (r t : List (List ℕ)) → q ≡ r ++ t → is_child a numbered p s.node at r ≡ false
  no_child_at [] t is = refl
  no_child_at (name ∷ names) t is =
      unlike (front (name ∷ names)) p (λ same.
      part_apart p q (name ∷ names) t apart is (
        last_name (name ∷ names) ∷ [],
        split_last name names ∙ ap (λ (l : List (List ℕ)). l ++ last_name (name ∷ names) ∷ []) same,
      ))

  pub list_apart : (which : Which) (sent : Sent) (o : Option Site)
      → SameDown q a (set_list a which sent o s)
  list_apart which sent o = record {
    down = λ r t is.
        cc (decided a (set_list a which sent o s) r
        (list_view a numbered p s.node at which (setting which sent o s).0
        (keeper which (setting which sent o s).1 (setting which sent o s).0.flags.auto
        (setting which sent o s).2) (search (rules, keeper_blank, sent)) r ∙ left
        (keeper which (setting which sent o s).1 (setting which sent o s).0.flags.auto
        (setting which sent o s).2) r t is));
  }
    where
      left : (keep : Node → Held) (r t : List (List ℕ)) → q ≡ r ++ t
          → option_map (λ (v : Seen). (
            relisted a numbered p s.node at which (setting which sent o s).0 keep r v.0,
            v.1,
          )) (view a r) ≡ view a r
      left keep r t is =
          grind (arith, nat_tests, as_it_was, is_child, no_child_at, not_at, setting, unlike)

-- a list of audits and alarms decides nothing
module _ (a : Content) (numbered : IsNumbered a) (p : List (List ℕ)) (s : Site)
    (at : found a p ≡ Some s.node) (q : List (List ℕ)) where
  pub audits_apart : (sent : Sent) (o : Option Site) → SameDown q a (set_list a Sacl sent o s)
  audits_apart sent o = record {
    down = λ r t is. decided_by a (set_list a Sacl sent o s) r
        (relisted a numbered p s.node at Sacl (setting Sacl sent o s).0 keep r) (silent r)
        (list_view a numbered p s.node at Sacl (setting Sacl sent o s).0 keep
        (search (rules, sent)) r);
  }
    where
      keep : Node → Held
      keep node =
          keeper Sacl (setting Sacl sent o s).1 (setting Sacl sent o s).0.flags.auto
          (setting Sacl sent o s).2 node

      silent : (r : List (List ℕ)) (v : Node)
          → deciding (relisted a numbered p s.node at Sacl (setting Sacl sent o s).0 keep r v)
          ≡ deciding v
      silent r v = on (same_names r p) (is_child a numbered p s.node at r)
        where
          on : (t u : Bool) → deciding
              (if t then with_held Sacl (setting Sacl sent o s).0 v else
              if u then with_held Sacl (keep v) v else v) ≡ deciding v
          on t u = grind (arith, nat_tests)

-- ---- bytes and records aren't seen

pub bytes_apart : (q : List (List ℕ)) (a c : Content) (id : ℕ) (bytes : List ℕ) → SameDown q a c
    → SameDown q a (with_body c id bytes)
bytes_apart q a c id bytes same = grind (arith, nat_tests, nodes_found)

pub records_apart : (q : List (List ℕ)) (a c : Content) (rows : List AuditRow) → SameDown q a c
    → SameDown q a (with_records c rows)
records_apart q a c rows same = grind (arith, nat_tests, nodes_found)

-- ---- an object is made, removed or moved

module _ (a : Content) (numbered : IsNumbered a) (q : List (List ℕ)) (n : Node)
    (there : found a q ≡ Some n) where
  pub grown_apart : (name : List ℕ) (names : List (List ℕ)) (folder : Node)
      → found a (front (name ∷ names)) ≡ Some folder → found a (name ∷ names) ≡ None
      → (new : Node) → IsFree a new.id → new.parent ≡ Some folder.id
      → new.name ≡ last_name (name ∷ names) → ((x : List ℕ) → child_of a new.id x ≡ None)
      → SameDown q a (with_node a new)
  grown_apart name names folder at absent new free parent named orphans = record {
    down = λ r t is. decided a (with_node a new) r
        (grown_view a numbered name names folder at absent new free parent named orphans r
        (λ same. part_there a q r t n there is (ap (found a) same ∙ absent)));
  }

  pub gone_apart : are_names_apart a.nodes ≡ true → (name : List ℕ) (names : List (List ℕ))
      (target : Node) → found a (name ∷ names) ≡ Some target
      → ((x : List ℕ) → child_of a target.id x ≡ None) → (folder : Node)
      → found a (front (name ∷ names)) ≡ Some folder → (GoesOn (name ∷ names) q → ⊥)
      → SameDown q a (without_node a target.id)
  gone_apart differ name names target at childless folder above apart =
      grind (arith, nat_tests, decided, gone_view, not_at)

  pub moved_apart : are_names_apart a.nodes ≡ true → (name : List ℕ) (names : List (List ℕ))
      (target : Node) → found a (name ∷ names) ≡ Some target → (from : Node)
      → found a (front (name ∷ names)) ≡ Some from → (first : List ℕ) (more : List (List ℕ))
      (folder : Node) → found a (front (first ∷ more)) ≡ Some folder
      → found a (first ∷ more) ≡ None → (GoesOn (name ∷ names) (front (first ∷ more)) → ⊥)
      → (new : Node) → new.id ≡ target.id → new.parent ≡ Some folder.id
      → new.name ≡ last_name (first ∷ more) → (GoesOn (name ∷ names) q → ⊥)
      → SameDown q a (with_node a new)
  moved_apart differ name names target at from above first more folder place absent no_loop new
      number parent named apart = search (decided, not_new, part_apart, view_apart)
    where
      not_new : (r t : List (List ℕ)) → q ≡ r ++ t → GoesOn (first ∷ more) r → ⊥
      not_new r t is (rest, on) =
          part_there a q (first ∷ more) (rest ++ t) n there
          (is ∙ ap (λ (l : List (List ℕ)). l ++ t) on ∙ append_assoc (first ∷ more) rest t) absent

  -- nothing is below an object without children
  pub childless_end : (p rest : List (List ℕ)) (target : Node) → found a p ≡ Some target
      → ((x : List ℕ) → child_of a target.id x ≡ None) → q ≡ p ++ rest → q ≡ p
  childless_end p [] target at none is = is ∙ append-nil p
  childless_end p (y ∷ ys) target at none is = grind (arith, nat_tests, found_append)
