-- The operator's reset of a list on rows that needn't be sound.
use Rattle.std.proofs.Common.{rules, ◌≡◌, ℕ, zero, suc, List, [], ◌∷◌, ◌++◌, length, Option, Some}
use Rattle.std.proofs.Common.{None, refl, sym, ap, subst, ◌⊎◌, inl, inr, append_assoc, arith}
use Rattle.std.proofs.lemmas.{List.append-nil, Bool.Decides.nat_tests}
use Rattle.std.specs.{Prelude.{◌-◌, slice_get}, Option.option_map_or}
use Rattle.room_ace.specs.Sent.{Sent}
use Rattle.room_entry.specs.declared.{fault.EntryFault.EntryFault, object.ObjKind.ObjKind}
use Rattle.room_entry.specs.declared.object.{ObjKind.TheVariants.{Document, Folder}, Which.Which}
use Rattle.room_rows.specs.{declared.node.{Node.Node, Walk.Walk}, Content.{Content, child_of}}
use Rattle.room_rows.specs.{Content.node_at, Rows.{Rows, AreRows}, Walk.{behind, walk_from}}
use Rattle.room_rows.specs.Walk.{walk_of}
use Rattle.room_machine.specs.Closed.{IsResetClosed, failure_told, listed_reply}
use Rattle.room_machine.specs.{declared.reply.Reply.{Reply, TheVariants.{Done, Refused}}, Site.Site}
use Rattle.room_machine.specs.{Site.site_at, Stored.{stored_along, stored_from, stored_site}}
use Rattle.room_judge.specs.Judged.{RefusesEnd, Resets, ended_at}
use Rattle.room_desk.specs.Setting.{Beneath, IsResetAtEnd, IsSetOrRefused, reason_of}
use Rattle.room_sound.proofs.Ends.{same_last}
use Rattle.room_desk.proofs.{Lists.SetReset.reset_done, Sound.RootedWays.{above_end, stands_last}}

-- ---- where a walk ends

-- all names are used up at this object, or some are left over
abbrev pub EndsAt : List (List ℕ) → List (List ℕ) → List Site → Node → ℕ → Type 0
EndsAt path names sites last rest =
    ((rest ≡ zero) × (site_at sites names ≡ Some (stored_site (path ++ names) last)))
    ⊎ ((more : ℕ) × (rest ≡ suc more) × (site_at sites names ≡ None))

record Ends (path names : List (List ℕ)) (walk : Walk) (sites : List Site) : Type 0 where
  pub front : List Node
  pub last : Node
  pub chain : walk.chain ≡ front ++ last ∷ []
  pub ends : EndsAt path names sites last walk.rest

ends_from : (rows : Content) (path names : List (List ℕ)) (node : Node)
    → Ends path names (walk_from rows node names) (stored_from rows path node names)
ends_from rows path [] node = record {
  front = [];
  last = node;
  chain = refl;
  ends = inl (refl, ap (λ (p : List (List ℕ)). Some (stored_site p node)) (sym (append-nil path)));
}
ends_from rows path (name ∷ names) node =
    on (child_of rows node.id name) (λ child. ends_from rows (path ++ name ∷ []) names child)
  where
    deeper : (child : Node) (sites : List Site) (last : Node) (rest : ℕ)
        → EndsAt (path ++ name ∷ []) names sites last rest
        → EndsAt path (name ∷ names) (stored_site path node ∷ sites) last rest
    deeper child sites last rest (inl here) = inl (search (rules, append_assoc))
    deeper child sites last rest (inr over) = inr over

    on : (o : Option Node)
        → ((child : Node) → Ends (path ++ name ∷ []) names (walk_from rows child names)
        (stored_from rows (path ++ name ∷ []) child names))
        → Ends path (name ∷ names)
        (option_map_or (λ child. behind node (walk_from rows child names)) o
        (record { chain = node ∷ []; rest = length (name ∷ names) }))
        (stored_site path node
        ∷ option_map_or (λ child. stored_from rows (path ++ name ∷ []) child names) o [])
    on None below = record {
      front = [];
      last = node;
      chain = refl;
      ends = inr (length names, refl, refl);
    }
    on (Some child) below = let end = below child in record {
      front = node ∷ end.front;
      last = end.last;
      chain = ap (λ (l : List Node). node ∷ l) end.chain;
      ends = deeper child (stored_from rows (path ++ name ∷ []) child names) end.last _ end.ends;
    }

-- the last of the chain is where the walk by stored lists ends
pub ends_along : (rows : Content) (path : List (List ℕ)) (walk : Walk) (front : List Node)
    (last : Node) → walk ≡ walk_of rows path → walk.chain ≡ front ++ last ∷ []
    → EndsAt [] path (stored_along rows path) last walk.rest
ends_along rows path walk front last is chain = grind (arith, nat_tests, on)
  where
    on : (o : Option Node)
        → (option_map_or (λ root. walk_from rows root path) o
        (record { chain = []; rest = length path })).chain ≡ front ++ last ∷ []
        → EndsAt [] path (option_map_or (λ root. stored_from rows [] root path) o []) last
        (option_map_or (λ root. walk_from rows root path) o
        (record { chain = []; rest = length path })).rest
    on None none = absurd (no_last front none)
      where
        no_last : (l : List Node) → [] ≡ l ++ last ∷ [] → ⊥
        no_last [] e = cc
        no_last (x ∷ xs) e = cc
    on (Some root) same =
        let end = ends_from rows [] path root in
        grind (arith, nat_tests, same_last)

-- ---- what is answered there

module _ (path : List (List ℕ)) (which : Which) (sent : Sent) (last : Node) (old new : Rows)
    (reply : Reply) where
  ended_told : (kind : ObjKind) (rest : ℕ)
      → failure_told (ended_at path kind rest) ≡ Some (ended_at path kind rest)
  ended_told Document rest = refl
  ended_told Folder rest = refl

  none_some : (r failed : Reply) {A : Type 0} → failure_told r ≡ Some failed
      → failure_told r ≡ None → A
  none_some r failed some none = grind (arith, nat_tests)

  listed : (faults : Option EntryFault)
      → option_map_or (λ why. Refused path why) (reason_of faults) Done ≡ listed_reply path faults
  listed None = refl
  listed (Some fault) = refl

  at_object : (there : node_at old.read last.id ≡ Some last)
      → site_at (stored_along old.read path) path ≡ Some (stored_site path last)
      → IsSetOrRefused path which sent last old reply new
      → IsResetClosed path which sent old reply new
  at_object there found said = grind (arith, nat_tests, listed, none_some)

  at_end : (rest : ℕ) → node_at old.read last.id ≡ Some last
      → EndsAt [] path (stored_along old.read path) last rest
      → IsResetAtEnd path which sent last rest old reply new
      → IsResetClosed path which sent old reply new
  at_end rest there given said = grind (arith, nat_tests, at_object, ended_told, none_some)

-- ---- in terms of the calls

-- a walk that ends before its last name ends at the last of the chain, with as many names left over
told_end : (path : List (List ℕ)) (which : Which) (sent : Sent) (old new : Rows) (walk : Walk)
    (front : List Node) (last : Node) (reply : Reply) → walk ≡ walk_of old.read path
    → walk.chain ≡ front ++ last ∷ []
    → IsResetAtEnd path which sent last walk.rest old reply new → RefusesEnd path old reply
told_end path which sent old new walk front last reply is chain said front' last' rest ends =
    grind (arith, nat_tests, same_last)

pub reset_told : (path : List (List ℕ)) (which : Which) (sent : Sent) (old mid : Rows)
    (walk : Walk) (front : List Node) (last : Node) → walk ≡ walk_of old.read path → mid ≡ old
    → walk.chain ≡ front ++ last ∷ [] → (above : Option Node)
    → above ≡ slice_get front (length front - 1) → (new : Rows) (reply : Reply) → AreRows old
    → Beneath above last (IsResetAtEnd path which sent last walk.rest) mid reply new
    → Resets path which sent old reply new
reset_told path which sent old mid walk front last is same chain above read new reply are beneath =
    let said = beneath (
    cc (same, above_end old are.numbers path walk front last above is chain read)) in
    let at = IsResetAtEnd path which sent last walk.rest in
    let here = subst (λ (r : Rows). at r reply new) same said in
    record {
      step = reset_done path which sent old mid walk front last is same chain above read new reply
          are beneath;
      closed =
          at_end path which sent last old new reply walk.rest
          (stands_last old are.numbers path walk front last is chain)
          (ends_along old.read path walk front last is chain) here;
      ended = told_end path which sent old new walk front last reply is chain here;
    }
