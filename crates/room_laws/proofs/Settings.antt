-- What a list that is set depends on, and what has no children.
use Rattle.std.proofs.Common.{ℕ, ◌≡◌, Bool, true, List, Option, None, arith}
use Rattle.std.{proofs.lemmas.Bool.Decides.nat_tests, specs.Option.option_map}
use Rattle.room_entry.specs.{Ace.Ace, declared.object.Which.Which}
use Rattle.room_ace.specs.Sent.{Sent}
use Rattle.room_rows.specs.Content.{Content, child_of, children_of, is_empty, are_names_apart}
use Rattle.room_rows.specs.{Held.held_of, HeldList.Held, declared.node.Node.Node}
use Rattle.room_machine.specs.{Effect.{kept_by_child, sent_held}, Site.{Site, full_at}}
use Rattle.room_laws.{specs.Outside.unnumbered, proofs.{ByName.{by_name, child_by_name}, Seen.Both}}
use Rattle.room_laws.proofs.Seen.{IsLike}

-- the inherited entries that a child keeps when a list above it is set
abbrev pub keeper : Which → Bool → Bool → List Ace → Node → Held
keeper which before after full node =
    kept_by_child before after node.kind full (held_of which node)

pub keeper_blank : (which : Which) (before after : Bool) (full : List Ace) (n : Node)
    → keeper which before after full n ≡ keeper which before after full (unnumbered n)
keeper_blank which before after full n = grind (arith, nat_tests)

-- what a list that is set depends on
abbrev pub Setting : Type 0
Setting = Held × Bool × List Ace

abbrev pub setting : Which → Sent → Option Site → Site → Setting
setting which sent folder target = (
  sent_held (option_map (λ (site : Site). held_of which site.node) folder) sent,
  (held_of which target.node).flags.auto,
  full_at which target,
)

pub setting_like : (which : Which) (sent : Sent) (o p : Option Site) (s t : Site) → Both IsLike o p
    → IsLike s t → setting which sent o s ≡ setting which sent p t
setting_like which sent o p s t above like = grind (arith, nat_tests)

pub no_children : (c : Content) (id : ℕ) → are_names_apart c.nodes ≡ true
    → is_empty (children_of c id) ≡ true → (name : List ℕ) → child_of c id name ≡ None
no_children c id apart empty name = grind (arith, nat_tests, by_name, child_by_name)
