-- Worked examples of what changes rights: each of these events does.
use Rattle.std.proofs.Common.{arith, ℕ, ℤ, ◌≡◌, ◌⊎◌, inl, inr, List, [], ◌∷◌, ◌++◌, Some, None}
use Rattle.std.proofs.{Common.{refl, true, false, codes, sym, subst}, lemmas.Bool.false≢true}
use Rattle.std.specs.Prelude.{pos}
use Rattle.room_entry.specs.{Bits.{has, all_bits}, Rights.{write_acl, write_owner}}
use Rattle.room_entry.specs.declared.entry.{EntryKind.TheVariants.Allow, Who.TheVariants.User}
use Rattle.room_entry.specs.declared.entry.Who.TheVariants.{Owner, Members}
use Rattle.room_entry.specs.declared.object.ObjKind.TheVariants.{Document, Folder}
use Rattle.room_entry.specs.declared.object.Which.TheVariants.{Dacl, Sacl}
use Rattle.room_ace.specs.Sent.{Sent}
use Rattle.room_rows.specs.{Content.{Content, with_members}, declared.node.Node.Node}
use Rattle.room_machine.specs.{Rights.{rights_at, may_remove_at}, Run.Asked, Step.{step, reset}}
use Rattle.room_machine.specs.declared.reply.Reply.{Reply, TheVariants.Denied}
use Rattle.room_machine.specs.declared.request.Request.{Request, TheVariants.{Put, Remove, Move}}
use Rattle.room_machine.specs.declared.request.Request.TheVariants.{SetList, SetOwners}
use Rattle.room_machine.proofs.Worked.Worlds.{none, fd, entry, root, alice, everything, held, plain}
use Rattle.room_machine.proofs.Worked.Worlds.{object, world, root_may_all}
use Rattle.room_laws.proofs.OnePlace.{head_same, tail_same, not_empty}
use Rattle.room_laws.specs.WhoChanged.{IsHarmless}

abbrev q : List (List ℕ)
q = codes "q" ∷ []

abbrev q_f : List (List ℕ)
q_f = codes "q" ∷ codes "f" ∷ []

abbrev h_f : List (List ℕ)
h_f = codes "h" ∷ codes "f" ∷ []

-- its owner may read it, the editors may write it, and root may do all
abbrev folder_q : Node
folder_q =
    object 2 1 (codes "q") Folder
    (held true false (entry Allow none Owner (0x1 ∷ [])
    ∷ entry Allow none (Members (codes "editors")) (0x2 ∷ [])
    ∷ root_may_all ∷ []) [])

abbrev document_f : Node
document_f = object 3 2 (codes "f") Document plain

-- alice's own folder
abbrev folder_h : Node
folder_h =
    object 5 1 (codes "h") Folder
    (held true false (root_may_all ∷ entry Allow fd (User alice) everything ∷ []) [])

abbrev room : Content
room = world (folder_q ∷ document_f ∷ folder_h ∷ []) ((3, codes "hi") ∷ [])

before : rights_at room (Some alice) q ≡ []
unfolding all_bits
before = refl

before_below : rights_at room (Some alice) q_f ≡ []
before_below = refl

-- a list above gives her the way, and what is below inherits from it
abbrev opened : Sent
opened =
    record {
      flags = record { auto = true; protect = false };
      entries = root_may_all ∷ entry Allow fd (User alice) (0x1 ∷ 0x20 ∷ []) ∷ [];
    }

a_list_changes_what_is_below :
    rights_at (step room (Some root) (pos 0) (SetList q Dacl opened) 9).1 (Some alice) q_f
    ≡ 0x1 ∷ 0x20 ∷ []
unfolding all_bits
a_list_changes_what_is_below = refl

the_operators_too : rights_at (reset room q Dacl opened).1 (Some alice) q_f ≡ 0x1 ∷ 0x20 ∷ []
unfolding all_bits
the_operators_too = refl

a_list_of_audits_changes_nothing :
    rights_at (step room (Some root) (pos 0) (SetList q Sacl opened) 9).1 (Some alice) q_f ≡ []
a_list_of_audits_changes_nothing = refl

-- she herself is denied it, and nothing changes
she_may_not : (step room (Some alice) (pos 0) (SetList q Dacl opened) 9).0
    ≡ Denied q (0x40000 ∷ []) None None
she_may_not = refl

owners_change_them :
    rights_at (step room (Some root) (pos 0)
    (SetOwners q (record { owner = alice; group = codes "staff" })) 9).1 (Some alice) q ≡ 0x1 ∷ []
unfolding all_bits
owners_change_them = refl

pairs_change_them :
    rights_at (with_members room ((codes "editors", alice) ∷ [])) (Some alice) q ≡ 0x2 ∷ []
unfolding all_bits
pairs_change_them = refl

-- what is moved goes from its old path, and is hers at the new one
a_move_takes : rights_at (step room (Some root) (pos 0) (Move q_f h_f) 9).1 (Some root) q_f ≡ []
a_move_takes = refl

a_move_gives : rights_at (step room (Some root) (pos 0) (Move q_f h_f) 9).1 (Some alice) h_f
    ≡ all_bits
unfolding all_bits
a_move_gives = refl

a_removal_takes : rights_at (step room (Some root) (pos 0) (Remove q_f) 9).1 (Some root) q_f ≡ []
a_removal_takes = refl

a_new_document_gives :
    rights_at (step room (Some root) (pos 0) (Put h_f (codes "new")) 9).1 (Some alice) h_f
    ≡ all_bits
unfolding all_bits
a_new_document_gives = refl

-- ---- alice may change nothing at the document or above it, so that she can't come to

parts : (at rest : List (List ℕ)) → q_f ≡ at ++ rest
    → (at ≡ []) ⊎ ((at ≡ q) ⊎ (at ≡ q_f))
parts [] rest is = inl refl
parts (x ∷ []) rest is = grind (arith, head_same, is)
parts (x ∷ y ∷ []) rest is = grind (arith, tail_same, is, head_same)
parts (x ∷ y ∷ z ∷ at) rest is = grind (arith, not_empty, tail_same, is)

abbrev MayNothing : List (List ℕ) → Type 0
MayNothing at =
    (has (rights_at room (Some alice) at) write_acl ≡ true → ⊥)
    × (has (rights_at room (Some alice) at) write_owner ≡ true → ⊥)
    × (may_remove_at room (Some alice) at ≡ true → ⊥)

at_root : MayNothing []
unfolding all_bits
at_root = (λ is. false≢true is, λ is. false≢true is, λ is. false≢true is)

at_folder : MayNothing q
unfolding all_bits
at_folder = (λ is. false≢true is, λ is. false≢true is, λ is. false≢true is)

at_document : MayNothing q_f
unfolding all_bits
at_document = (λ is. false≢true is, λ is. false≢true is, λ is. false≢true is)

alice_is_harmless : (moment : ℤ) (request : Request) (reply : Reply)
    → IsHarmless q_f room (Asked (Some alice) moment request reply)
alice_is_harmless moment request reply at (rest, is) = on (parts at rest is)
  where
    on : (at ≡ []) ⊎ ((at ≡ q) ⊎ (at ≡ q_f)) → MayNothing at
    on (inl here) = subst MayNothing (sym here) at_root
    on (inr (inl here)) = subst MayNothing (sym here) at_folder
    on (inr (inr here)) = subst MayNothing (sym here) at_document
