-- What passed was held: the rights that a plan asked for stand in the table of rights.
use Rattle.std.proofs.Common.{ℕ, zero, suc, ◌≡◌, Bool, true, false, not, ◌&&◌, List, [], ◌∷◌, ◌++◌}
use Rattle.std.proofs.Common.{length, take, Option, Some, None, refl, sym, ap, ◌∙◌, append-nil}
use Rattle.std.proofs.{Common.arith, lemmas.Bool.{true≢false, and_from, Decides.nat_tests}}
use Rattle.std.specs.{Option.option_map_or, Prelude.if◌then◌else◌}
use Rattle.room_entry.specs.{Bits.{all_bits, has}, Rights.{execute, write_acl, write_owner}}
use Rattle.room_entry.specs.{Rights.{write_data, append_data}, Valid.is_document}
use Rattle.room_entry.specs.declared.parties.Caller.{Caller}
use Rattle.room_rows.specs.Content.{Content, child_of, is_folder, is_empty}
use Rattle.room_rows.specs.declared.node.Node.{Node}
use Rattle.room_machine.specs.{Judge.{failure, first_failure, passes}, Plan.{Check, Deletion, Item}}
use Rattle.room_machine.specs.{Plan.{Refusal, way, right_to_add}, Rights.{grants, last_of}}
use Rattle.room_machine.specs.Rights.{lets_through, may_remove, may_remove_at, reaches, rights_at}
use Rattle.room_machine.specs.{Rights.sites_above, Site.{Site, front, parent_at, site_at}}
use Rattle.room_machine.specs.{Site.{sites_along, site_below, last_name}, Step.caller_in}
use Rattle.room_machine.specs.declared.reply.Reason.TheVariants.{NotFolder, NoSuch}
use Rattle.room_machine.proofs.Rights.{folder_is_last, has_kept}
use Rattle.room_laws.proofs.{OnePlace.split_last, Passing.{passed, not_refused}, Seen.sites_from}
use Rattle.room_laws.proofs.Seen.{along_from}

-- ---- the way to a part of a path

part_from : (content : Content) (site : Site) (names more : List (List ℕ))
    → take (length names) (sites_from content site (names ++ more))
    ≡ take (length names) (sites_from content site names)
part_from content site [] more = refl
part_from content site (name ∷ names) more =
    ap (λ (l : List Site). site ∷ l)
    (on (child_of content site.node.id name)
    (λ child. part_from content (site_below site child) names more))
  where
    on : (o : Option Node)
        → ((child : Node)
        → take (length names) (sites_from content (site_below site child) (names ++ more))
        ≡ take (length names) (sites_from content (site_below site child) names))
        → take (length names)
        (option_map_or (λ child. sites_from content (site_below site child) (names ++ more)) o [])
        ≡ take (length names)
        (option_map_or (λ child. sites_from content (site_below site child) names) o [])
    on None rest = refl
    on (Some child) rest = rest child

at_part_from : (content : Content) (site : Site) (names more : List (List ℕ))
    → site_at (sites_from content site (names ++ more)) names
    ≡ site_at (sites_from content site names) names
at_part_from content site [] [] = refl
at_part_from content site [] (x ∷ more) = refl
at_part_from content site (name ∷ names) more =
    on (child_of content site.node.id name)
    (λ child. at_part_from content (site_below site child) names more)
  where
    on : (o : Option Node)
        → ((child : Node)
        → site_at (sites_from content (site_below site child) (names ++ more)) names
        ≡ site_at (sites_from content (site_below site child) names) names)
        → site_at
        (option_map_or (λ child. sites_from content (site_below site child) (names ++ more)) o [])
        names
        ≡ site_at (option_map_or (λ child. sites_from content (site_below site child) names) o [])
        names
    on None rest = refl
    on (Some child) rest = rest child

take_none : (n : ℕ) → take {A = Site} n [] ≡ []
take_none zero = refl
take_none (suc n) = refl

part_along : (content : Content) (names more : List (List ℕ))
    → take (length names) (sites_along content (names ++ more))
    ≡ take (length names) (sites_along content names)
part_along content names more = grind (arith, nat_tests, along_from, part_from, sites_from)

at_part : (content : Content) (names more : List (List ℕ))
    → site_at (sites_along content (names ++ more)) names
    ≡ site_at (sites_along content names) names
at_part content names more = grind (arith, nat_tests, along_from, at_part_from, sites_from)

-- ---- checks and ways that pass

module _ (caller : Caller) where
  -- a check of one right that passes was granted
  pub granted_by : (s : Site) (right : ℕ) → failure caller (Check s (right ∷ [])) ≡ None
      → grants caller right s ≡ true
  granted_by s right none = grind (arith, nat_tests)

  is_true : (b : Bool) → not b ≡ false → b ≡ true
  is_true true is = refl
  is_true false is = absurd (true≢false is)

  -- a way that passes lets the caller through
  pub open_way : (lack : Bool) (sites : List Site) (names more : List (List ℕ)) (rest : List Item)
      → first_failure caller (way lack sites (names ++ more) ++ rest) ≡ None
      → reaches caller (take (length names) sites) ≡ true
  open_way lack [] names more rest none = search (take_none)
  open_way lack (site ∷ sites) [] more rest none = refl
  open_way lack (site ∷ sites) (name ∷ names) more rest none =
      let tail : List Item = way lack sites (names ++ more) ++ rest in
      let lacks : Item = Refusal (site.path ++ name ∷ []) NoSuch
      (is_empty sites && not (lack && is_empty (names ++ more))) in
      let one = passed caller (Refusal site.path NotFolder (not (is_folder site.node)))
      (Check site (execute ∷ []) ∷ lacks ∷ tail) none in
      let two = passed caller (Check site (execute ∷ [])) (lacks ∷ tail) one.1 in
      let three = passed caller lacks tail two.1 in
      and_from (lets_through caller site) (reaches caller (take (length names) sites))
      (search (and_from, granted_by, is_true, not_refused))
      (open_way lack sites names more rest three.1)

-- ---- in the table

module _ (content : Content) (user : Option (List ℕ)) where
  abbrev caller : Caller
  caller = caller_in content user

  pub in_table : (path : List (List ℕ)) (s : Site) (right : ℕ)
      → site_at (sites_along content path) path ≡ Some s
      → reaches caller (sites_above content path) ≡ true
      → passes caller (Check s (right ∷ [])) ≡ true → has all_bits right ≡ true
      → has (rights_at content user path) right ≡ true
  in_table path s right at free passing bit = grind (arith, nat_tests, granted_by, has_kept)

  -- the way to the object at a path passed
  pub open_to : (lack : Bool) (path : List (List ℕ)) (rest : List Item)
      → first_failure caller (way lack (sites_along content path) path ++ rest) ≡ None
      → reaches caller (sites_above content path) ≡ true
  open_to lack path rest none =
      open_way caller lack (sites_along content path) path [] rest
      (cc (append-nil path, none))

  -- the way to the folder that the last name is looked for in
  pub open_before : (lack : Bool) (name : List ℕ) (names : List (List ℕ)) (rest : List Item)
      → first_failure caller (way lack (sites_along content (name ∷ names)) (name ∷ names) ++ rest)
      ≡ None
      → reaches caller (sites_above content (front (name ∷ names))) ≡ true
  open_before lack name names rest none =
      ap (reaches caller) (sym (part_along content (front (name ∷ names))
      (last_name (name ∷ names) ∷ [])))
      ∙ open_way caller lack
      (sites_along content (front (name ∷ names) ++ last_name (name ∷ names) ∷ []))
      (front (name ∷ names)) (last_name (name ∷ names) ∷ []) rest
      (cc (split_last name names, none))

  pub folder_at : (name : List ℕ) (names : List (List ℕ)) (d : Site)
      → parent_at (sites_along content (name ∷ names)) (name ∷ names) ≡ Some d
      → site_at (sites_along content (front (name ∷ names))) (front (name ∷ names)) ≡ Some d
  folder_at name names d at =
      cc (
        at_part content (front (name ∷ names)) (last_name (name ∷ names) ∷ []),
        split_last name names,
        at,
      )

  pub may_take : (name : List ℕ) (names : List (List ℕ)) (s d : Site)
      → site_at (sites_along content (name ∷ names)) (name ∷ names) ≡ Some s
      → parent_at (sites_along content (name ∷ names)) (name ∷ names) ≡ Some d
      → reaches caller (sites_above content (name ∷ names)) ≡ true
      → passes caller (Deletion s d) ≡ true
      → may_remove_at content user (name ∷ names) ≡ true
  may_take name names s d at above free passing =
      ap (λ o. option_map_or (may_remove caller (sites_above content (name ∷ names))) o false) at
      ∙ ap (λ b. b && option_map_or (λ folder. passes caller (Deletion s folder))
      (last_of (sites_above content (name ∷ names))) false) free
      ∙ ap (λ o. option_map_or (λ folder. passes caller (Deletion s folder)) o false)
      (folder_is_last (sites_along content (name ∷ names)) name names s at ∙ above)
      ∙ passing

-- each right is a bit
pub bits_known : (has all_bits write_acl ≡ true) × (has all_bits write_owner ≡ true)
    × (has all_bits write_data ≡ true) × (has all_bits append_data ≡ true)
    × (has all_bits execute ≡ true)
unfolding all_bits
bits_known = (refl, refl, refl, refl, refl)

pub adding_known : (node : Node) → has all_bits (right_to_add node) ≡ true
adding_known node = on (is_document node.kind)
  where
    on : (b : Bool) → has all_bits (if b then write_data else append_data) ≡ true
    on true = bits_known.2
    on false = bits_known.3
