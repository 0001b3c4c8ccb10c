-- What a request that sets a list makes of what the rows mean.
use Rattle.std.proofs.Common.{◌≡◌, ℕ, ◌&&◌, Bool, cond, not, List, [], ◌∷◌, Option, Some, None}
use Rattle.std.proofs.{Common.{refl, sym, ap, ◌∙◌, arith}, lemmas.Bool.Decides.nat_tests}
use Rattle.std.specs.Option.{option_map}
use Rattle.room_ace.specs.Sent.{Sent, inherited_of, own_of}
use Rattle.room_entry.specs.declared.object.Which.{Which, TheVariants.{Dacl, Sacl}}
use Rattle.room_entry.specs.declared.parties.Caller.{Caller}
use Rattle.room_rows.specs.{HeldList.Held, declared.node.Node.Node, Content.{Content, parent_of}}
use Rattle.room_rows.specs.{Held.held_of, Meaning.meaning, Rows.{Rows, AreRows}}
use Rattle.room_machine.specs.declared.reply.Reply.TheVariants.{Done}
use Rattle.room_machine.specs.{declared.request.Request.TheVariants.SetList, Effect.effect}
use Rattle.room_machine.specs.{Effect.{sent_held, set_list, with_site}, Site.{Site, front}}
use Rattle.room_machine.specs.{Site.{parent_at, site_at, sites_along}, Stored.stored_along}
use Rattle.room_machine.specs.Stored.{stored_site}
use Rattle.room_desk.specs.Setting.{kept_site}
use Rattle.room_sound.proofs.{Filled.{IsTarget, site_filled, target_there}, Sites.fill}
use Rattle.room_sound.proofs.{Sites.sites_filled, SoundParts.SoundParts}
use Rattle.room_desk.proofs.Made.Uplink.{IsAbove, root_alone, target_above}

-- of the parent, only the flag AUTO_INHERIT counts
abbrev sent_under : Option Bool → Sent → Held
sent_under None sent =
    record { flags = sent.flags; own = own_of sent.entries; inh = inherited_of sent.entries }
sent_under (Some auto) sent = let held : Held =
    record { flags = sent.flags; own = own_of sent.entries; inh = inherited_of sent.entries } in
    cond (not sent.flags.protect && auto) (record held { inh = [] }) held

by_auto : (sent : Sent) (o : Option Held)
    → sent_held o sent ≡ sent_under (option_map (λ h. h.flags.auto) o) sent
by_auto sent None = refl
by_auto sent (Some above) = refl

abbrev auto_at : Which → Site → Bool
auto_at which site = (held_of which site.node).flags.auto

of_sites : (which : Which) (o : Option Site)
    → option_map (λ (h : Held). h.flags.auto) (option_map (λ site. held_of which site.node) o)
    ≡ option_map (auto_at which) o
of_sites which None = refl
of_sites which (Some site) = refl

auto_filled : (which : Which) (o : Option Site)
    → option_map (auto_at which) (option_map fill o) ≡ option_map (auto_at which) o
auto_filled which o = grind (arith, nat_tests)

auto_kept : (which : Which) (rows : Content) (o : Option Node)
    → option_map (auto_at which) (option_map (kept_site rows) o)
    ≡ option_map (λ n. (held_of which n).flags.auto) o
auto_kept which rows None = refl
auto_kept which rows (Some n) = grind (arith, nat_tests)

-- two folders with the same flag, and two targets with the same object and entries
same_folder : (content : Content) (which : Which) (sent : Sent) (a b : Option Site) (target : Site)
    → option_map (auto_at which) a ≡ option_map (auto_at which) b
    → set_list content which sent a target ≡ set_list content which sent b target
same_folder content which sent a b target same = grind (arith, nat_tests, by_auto, of_sites)

same_site : (content : Content) (which : Which) (sent : Sent) (folder : Option Site) (a b : Site)
    → a.node ≡ b.node → a.dacl ≡ b.dacl → a.sacl ≡ b.sacl
    → set_list content which sent folder a ≡ set_list content which sent folder b
same_site content Dacl sent folder a b nodes dacls sacls = grind (arith, nat_tests)
same_site content Sacl sent folder a b nodes dacls sacls = grind (arith, nat_tests)

module _ (old : Rows) (are : AreRows old) (parts : SoundParts old) (which : Which) (sent : Sent)
    (node : Node) where
  abbrev rows : Content
  rows = old.read

  -- the folder of a target that is found
  folder_flag : (path : List (List ℕ))
      → site_at (stored_along rows path) path ≡ Some (stored_site path node)
      → option_map (auto_at which) (parent_at (sites_along (meaning rows) path) path)
      ≡ option_map (auto_at which) (option_map (kept_site rows) (parent_of rows node))
  folder_flag [] found = grind (arith, nat_tests, root_alone)
  folder_flag (name ∷ names) found =
      let above : IsAbove rows are.numbers (stored_along rows (name ∷ names)) (name ∷ names) node =
      target_above rows are.numbers name names (name ∷ names) node found in
      sym (auto_filled which
      (site_at (sites_along (meaning rows) (name ∷ names)) (front (name ∷ names))))
      ∙ ap (option_map (auto_at which))
      (sym (site_filled (sites_along (meaning rows) (name ∷ names)) (front (name ∷ names)))
      ∙ ap (λ sites. site_at sites (front (name ∷ names)))
      (sites_filled old are parts (name ∷ names)) ∙ above.at)
      ∙ sym (auto_kept which rows (Some above.above) ∙ refl)
      ∙ ap (λ o. option_map (auto_at which) (option_map (kept_site rows) o)) (sym above.parent)

  pub set_effect : (path : List (List ℕ))
      → site_at (stored_along rows path) path ≡ Some (stored_site path node)
      → (caller : Caller) (id : ℕ)
      → effect (meaning rows) caller id (SetList path which sent)
      ≡ (
        Done,
        set_list (meaning rows) which sent
            (option_map (kept_site rows) (parent_of rows node)) (kept_site rows node),
      )
  set_effect path found caller id =
      let target : IsTarget rows path (stored_site path node) = target_there old are parts path
      (stored_site path node) found in
      let folder = parent_at (sites_along (meaning rows) path) path in
      ap (λ o. with_site (meaning rows) o
      (λ t. (Done, set_list (meaning rows) which sent folder t))) target.at
      ∙ ap (λ (c : Content). (Done, c))
      (same_folder (meaning rows) which sent folder
      (option_map (kept_site rows) (parent_of rows node)) target.planned (folder_flag path found)
      ∙ same_site (meaning rows) which sent
      (option_map (kept_site rows) (parent_of rows node)) target.planned
      (kept_site rows node) target.kept (ap (λ (s : Site). s.dacl) target.filled)
      (ap (λ (s : Site). s.sacl) target.filled))
