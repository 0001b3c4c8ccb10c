-- No request changes the pairs.
use Rattle.std.proofs.{Common.{ℕ, ◌≡◌, List, Option, refl, arith}, lemmas.Bool.Decides.nat_tests}
use Rattle.room_entry.specs.declared.{object.Which.Which, parties.Caller.Caller}
use Rattle.room_ace.specs.Sent.{Sent}
use Rattle.room_rows.specs.Content.{Content, with_node, with_body, without_node}
use Rattle.room_rows.specs.declared.node.Node.{Node}
use Rattle.room_machine.specs.{Effect.{effect, put_bytes, set_list}, Site.{Site, sites_along}}
use Rattle.room_machine.specs.{Site.{site_at, parent_at}, Step.failure_or}
use Rattle.room_machine.specs.declared.{reply.Reply.Reply, request.Request.Request}
use Rattle.room_machine.specs.declared.request.Request.TheVariants.{Read, List as ListFolder, Put}
use Rattle.room_machine.specs.declared.request.Request.TheVariants.{Append, MakeFolder, Remove}
use Rattle.room_machine.specs.declared.request.Request.TheVariants.{Move, ReadList, SetList}
use Rattle.room_machine.specs.declared.request.Request.TheVariants.{ReadAttr, SetOwners, Can}
use Rattle.room_laws.proofs.Behind.{act_on}

pub record KeepsMembers (a c : Content) : Type 0 where
  pub members : c.members ≡ a.members

pub kept_by : (a c : Content) → c.members ≡ a.members → KeepsMembers a c
kept_by a c same = record { members = same }

node_m : (a : Content) (new : Node) → KeepsMembers a (with_node a new)
node_m a new = record { members = refl }

body_m : (a c : Content) (id : ℕ) (bytes : List ℕ) → KeepsMembers a c
    → KeepsMembers a (with_body c id bytes)
body_m a c id bytes keeps = record { members = keeps.members }

gone_m : (a : Content) (id : ℕ) → KeepsMembers a (without_node a id)
gone_m a id = record { members = refl }

list_m : (a : Content) (which : Which) (sent : Sent) (folder : Option Site) (target : Site)
    → KeepsMembers a (set_list a which sent folder target)
list_m a which sent folder target = record { members = refl }

pub members_stay : (a : Content) (caller : Caller) (id : ℕ) (request : Request)
    → KeepsMembers a (effect a caller id request).1
members_stay a caller id (Read path) = grind (arith, nat_tests, act_on, kept_by)
members_stay a caller id (ListFolder path) = grind (arith, nat_tests, act_on, kept_by)
members_stay a caller id (Put path bytes) =
    on (site_at (sites_along a path) path) (parent_at (sites_along a path) path)
  where
    on : (o p : Option Site) → KeepsMembers a (put_bytes a caller id path bytes o p).1
    on o p = grind (arith, nat_tests, act_on, body_m, kept_by, node_m)
members_stay a caller id (Append path bytes) = grind (arith, nat_tests, act_on, body_m, kept_by)
members_stay a caller id (MakeFolder path) =
    act_on (KeepsMembers a) a _ _ (kept_by a a refl) (λ s is. node_m a _)
members_stay a caller id (Remove path) = grind (arith, nat_tests, act_on, gone_m, kept_by)
members_stay a caller id (Move path to) = grind (arith, nat_tests, act_on, kept_by, node_m)
members_stay a caller id (ReadList path which) = grind (arith, nat_tests, act_on, kept_by)
members_stay a caller id (SetList path which sent) =
    grind (arith, nat_tests, act_on, kept_by, list_m)
members_stay a caller id (ReadAttr path) = grind (arith, nat_tests, act_on, kept_by)
members_stay a caller id (SetOwners path owners) = grind (arith, nat_tests, act_on, kept_by, node_m)
members_stay a caller id (Can path mask) = grind (arith, nat_tests, act_on, kept_by)

pub either_members : (a : Content) (o : Option Reply) (done : Reply × Content)
    → KeepsMembers a done.1
    → KeepsMembers a (failure_or o a done).1
either_members a o done keeps = grind (arith, nat_tests, kept_by)
