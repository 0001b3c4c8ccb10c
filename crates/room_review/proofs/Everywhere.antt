-- Names that a content doesn't know get the same reply to each request.
use Rattle.std.proofs.Common.{rules, ℕ, ◌≡◌, ◌==◌, ◌&&◌, ◌||◌, Bool, true, false, cond, not, List}
use Rattle.std.proofs.Common.{[], ◌∷◌, ◌++◌, map, length, Option, Some, None, refl, sym, ap, subst}
use Rattle.std.proofs.{Common.{◌∙◌, arith}, lemmas.Bool.{and_parts, or_parts, Decides.nat_tests}}
use Rattle.std.specs.{Prelude.is_some, List.{cons_option, find, list_all, list_any}}
use Rattle.std.specs.Option.{option_map, option_map_or}
use Rattle.room_entry.specs.{Ace.Ace, Rights.{execute, write_data}}
use Rattle.room_entry.specs.declared.{fault.EntryFault.EntryFault, flags.EntryFlags.EntryFlags}
use Rattle.room_entry.specs.declared.object.ObjKind.{ObjKind, TheVariants.Folder}
use Rattle.room_entry.specs.declared.parties.Caller.{Caller}
use Rattle.room_rows.specs.{declared.node.Node.Node, Content.{Content, child_of, is_folder}}
use Rattle.room_rows.specs.{Content.with_node, Pass.{pass, passed_flags}, Walk.{behind, walk_from}}
use Rattle.room_machine.specs.declared.reply.Reply.{Reply, TheVariants.{Done, Made, Rulings}}
use Rattle.room_machine.specs.declared.reply.Reason.TheVariants.{Exists, Loop, NotFolder}
use Rattle.room_machine.specs.declared.request.Request.{Request, TheVariants.Read}
use Rattle.room_machine.specs.declared.request.Request.TheVariants.{List as ListFolder, Put, Append}
use Rattle.room_machine.specs.declared.request.Request.TheVariants.{MakeFolder, Remove, Move}
use Rattle.room_machine.specs.declared.request.Request.TheVariants.{ReadList, SetList, ReadAttr}
use Rattle.room_machine.specs.{declared.request.Request.TheVariants.{SetOwners, Can}, Effect.effect}
use Rattle.room_machine.specs.Effect.{new_node, put_bytes, rulings as rulings_of, with_site}
use Rattle.room_machine.specs.{Judge.{failure, first_failure, or_else}, Plan.{Check, Deletion}}
use Rattle.room_machine.specs.Plan.{Item, Refusal, bad_list, move_items, plan_of, put_items}
use Rattle.room_machine.specs.{Plan.{right_to_add, to_target, way, where_found}, Site.{Site, front}}
use Rattle.room_machine.specs.Site.{last_name, parent_at, site_at, site_below, sites_along}
use Rattle.room_machine.{specs.Site.{sites_below, sites_of}, proofs.Replies.{or_reply, reply_of}}
use Rattle.room_review.specs.Laws.{IsUnknownIn, StrangersGetTheSame, is_known_at, is_known_to}
use Rattle.room_review.{specs.Laws.{is_paired, is_user_named}, proofs.Strangers.{IsUnknown, alone}}
use Rattle.room_review.proofs.Strangers.{are_unknown, at_unknown, first_unknown, is_alone, is_not}
use Rattle.room_review.proofs.Strangers.{others_unknown, rulings}

found_passes : (p q : Node → Bool) (nodes : List Node) (node : Node) → list_all q nodes ≡ true
    → find p nodes ≡ Some node → q node ≡ true
found_passes p q [] node all found = absurd (let wrong : ⊥ = cc in wrong)
found_passes p q (x ∷ xs) node all found =
    let parts = and_parts (q x) (list_all q xs) all in
    on (p x) found parts.0 (found_passes p q xs node parts.1)
  where
    on : (t : Bool) → cond t (Some x) (find p xs) ≡ Some node → q x ≡ true
        → (find p xs ≡ Some node → q node ≡ true) → q node ≡ true
    on true is here later = subst (λ n. q n ≡ true) (ap (λ o. option_map_or (λ n. n) o x) is) here
    on false is here later = later is

-- ---- along a walk one name is known nowhere

module _ (a : List ℕ) where
  abbrev names : Ace → Bool
  names entry = is_user_named a entry.who

  abbrev pub is_free : Node → Bool
  is_free node = not (is_known_to a node)

  unnamed_both : (xs ys : List Ace) → list_any names xs ≡ false → list_any names ys ≡ false
      → list_any names (xs ++ ys) ≡ false
  unnamed_both [] ys one two = two
  unnamed_both (x ∷ xs) ys one two =
      let parts = or_parts (names x) (list_any names xs) one in
      (λ i. parts.0 i || list_any names (xs ++ ys)) ∙ unnamed_both xs ys parts.1 two

  unnamed_parts : (xs ys : List Ace) → list_any names (xs ++ ys) ≡ false
      → (list_any names xs ≡ false) × (list_any names ys ≡ false)
  unnamed_parts [] ys none = (refl, none)
  unnamed_parts (x ∷ xs) ys none =
      let parts = or_parts (names x) (list_any names (xs ++ ys)) none in
      let rest = unnamed_parts xs ys parts.1 in
      ((λ i. parts.0 i || rest.0 i), rest.1)

  unnamed_passed : (kind : ObjKind) (entries : List Ace) → list_any names entries ≡ false
      → list_any names (pass kind entries) ≡ false
  unnamed_passed kind [] none = refl
  unnamed_passed kind (entry ∷ entries) none =
      let parts = or_parts (names entry) (list_any names entries) none in
      on (passed_flags kind entry.flags) parts.0 (unnamed_passed kind entries parts.1)
    where
      on : (o : Option EntryFlags) → names entry ≡ false
          → list_any names (pass kind entries) ≡ false
          → list_any names (cons_option
          (option_map (λ (flags : EntryFlags). record entry { flags = flags }) o)
          (pass kind entries)) ≡ false
      on None here rest = rest
      on (Some flags) here rest = λ i. here i || rest i

  -- an object that doesn't know the name, below one that doesn't
  unknown_below : (above : Site) (node : Node) → is_known_at a above ≡ false
      → is_known_to a node ≡ false → is_known_at a (site_below above node) ≡ false
  unknown_below above node over here =
      grind (arith, nat_tests, unnamed_both, unnamed_parts, unnamed_passed)

  unknown_sites : (above : Site) (chain : List Node) → is_known_at a above ≡ false
      → list_all is_free chain ≡ true
      → list_all (λ site. not (is_known_at a site)) (sites_below above chain) ≡ true
  unknown_sites above [] over free = refl
  unknown_sites above (node ∷ chain) over free =
      let parts = and_parts (is_free node) (list_all is_free chain) free in
      let here = unknown_below above node over (is_not (is_known_to a node) parts.0) in
      let rest = unknown_sites (site_below above node) chain here parts.1 in
      λ i. not (here i) && rest i

  pub unknown_chain : (chain : List Node) → list_all is_free chain ≡ true
      → list_all (λ site. not (is_known_at a site)) (sites_of chain) ≡ true
  unknown_chain [] free = refl
  unknown_chain (root ∷ chain) free = grind (arith, nat_tests, is_not, unknown_sites)

  module _ (content : Content) (free : list_all is_free content.nodes ≡ true) where
    free_from : (node : Node) (path : List (List ℕ)) → is_free node ≡ true
        → list_all is_free (walk_from content node path).chain ≡ true
    free_from node [] here = λ i. here i && true
    free_from node (name ∷ path) here =
        on (child_of content node.id name) refl (λ child is. free_from child path is)
      where
        on : (o : Option Node) → child_of content node.id name ≡ o
            → ((child : Node) → is_free child ≡ true
            → list_all is_free (walk_from content child path).chain ≡ true)
            → list_all is_free (option_map_or
            (λ child. behind node (walk_from content child path)) o
            (record { chain = node ∷ []; rest = length (name ∷ path) })).chain ≡ true
        on None is later = λ i. here i && true
        on (Some child) is later = search (rules, found_passes, node.id, here)

    free_along : (path : List (List ℕ))
        → list_all (λ site. not (is_known_at a site)) (sites_along content path) ≡ true
    free_along path = grind (arith, nat_tests, found_passes, free_from, unknown_chain)

-- ---- plans

module _ (a b : List ℕ) where
  abbrev IsAlike : Item → Type 0
  IsAlike item = failure (alone a) item ≡ failure (alone b) item

  abbrev AreAlike : List Item → Type 0
  AreAlike [] = Unit {0}
  AreAlike (item ∷ items) = IsAlike item × AreAlike items

  alike_both : (items more : List Item) → AreAlike items → AreAlike more
      → AreAlike (items ++ more)
  alike_both [] more one two = two
  alike_both (item ∷ items) more one two = (one.0, alike_both items more one.1 two)

  same_failure : (items : List Item) → AreAlike items
      → first_failure (alone a) items ≡ first_failure (alone b) items
  same_failure [] alike = refl
  same_failure (item ∷ items) alike =
      let here = alike.0 in
      let rest = same_failure items alike.1 in
      λ i. or_else (here i) (rest i)

  check : (site : Site) (bits : List ℕ) → IsUnknown a b site → IsAlike (Check site bits)
  check site bits unknown = grind (arith, nat_tests, rulings)

  deletes : (target folder : Site) → IsUnknown a b target → IsUnknown a b folder
      → IsAlike (Deletion target folder)
  deletes target folder at above = grind (arith, nat_tests, rulings)

  way_alike : (lack : Bool) (sites : List Site) (path : List (List ℕ)) → are_unknown a b sites
      → AreAlike (way lack sites path)
  way_alike lack [] path unknown = tt
  way_alike lack (site ∷ sites) [] unknown = tt
  way_alike lack (site ∷ sites) (name ∷ path) unknown = (
    refl,
    (
      check site (execute ∷ []) (first_unknown a b site sites unknown),
      (refl, way_alike lack sites path (others_unknown a b site sites unknown)),
    ),
  )

  where_alike : (o : Option Site) (items : Site → List Item)
      → ((site : Site) → o ≡ Some site → AreAlike (items site)) → AreAlike (where_found o items)
  where_alike None items each = tt
  where_alike (Some site) items each = each site refl

  module _ (content : Content) (first : IsUnknownIn content a)
      (second : IsUnknownIn content b) where
    along : (path : List (List ℕ)) → are_unknown a b (sites_along content path)
    along path = (free_along a content first.1 path, free_along b content second.1 path)

    at : (path : List (List ℕ)) (site : Site)
        → site_at (sites_along content path) path ≡ Some site → IsUnknown a b site
    at path site found = at_unknown a b (sites_along content path) path site (along path) found

    over : (path : List (List ℕ)) (site : Site)
        → parent_at (sites_along content path) path ≡ Some site → IsUnknown a b site
    over [] site found = absurd (let wrong : ⊥ = cc in wrong)
    over (name ∷ path) site found = search (rules, at_unknown, site, along, found)

    to_target_alike : (path : List (List ℕ)) (items : Site → List Item)
        → ((site : Site) → IsUnknown a b site → AreAlike (items site))
        → AreAlike (to_target content path items)
    to_target_alike path items each =
        grind (arith, nat_tests, alike_both, along, at, way_alike, where_alike)

    put_alike : (path : List (List ℕ)) (size : ℕ) (o p : Option Site)
        → site_at (sites_along content path) path ≡ o
        → parent_at (sites_along content path) path ≡ p → AreAlike (put_items path size o p)
    put_alike path size (Some target) p here above =
        (refl, (check target (write_data ∷ []) (at path target here), (refl, tt)))
    put_alike path size None None here above = tt
    put_alike path size None (Some folder) here above =
        (check folder (write_data ∷ []) (over path folder above), (refl, tt))

    bad_alike : (path : List (List ℕ)) (o : Option EntryFault) → AreAlike (bad_list path o)
    bad_alike path None = tt
    bad_alike path (Some fault) = (refl, tt)

    abbrev into : Content → List (List ℕ) → Site → Site → Site → List Item
    into room to target from folder =
        Refusal folder.path NotFolder (not (is_folder folder.node))
        ∷ Check folder (execute ∷ [])
        ∷ Deletion target from
        ∷ Check folder (right_to_add target.node ∷ [])
        ∷ Refusal to Exists (is_some (child_of room folder.node.id (last_name to)))
        ∷ Refusal to Loop (list_any (λ site. site.node.id == target.node.id)
        (sites_along room (front to)))
        ∷ []

    move_alike : (to : List (List ℕ)) (target from : Site) → IsUnknown a b target
        → IsUnknown a b from → AreAlike (move_items (sites_along content) content to target from)
    move_alike [] target from here above = (deletes target from here above, (refl, tt))
    move_alike (name ∷ more) target from here above =
        let path = front (name ∷ more) in
        alike_both (way false (sites_along content path) path)
        (where_found (site_at (sites_along content path) path)
        (into content (name ∷ more) target from))
        (way_alike false (sites_along content path) path (along path))
        (where_alike (site_at (sites_along content path) path)
        (into content (name ∷ more) target from) (λ folder found. (
          refl,
          (
            check folder (execute ∷ []) (at path folder found),
            (
              deletes target from here above,
              (
                check folder (right_to_add target.node ∷ []) (at path folder found),
                (refl, (refl, tt)),
              ),
            ),
          ),
        )))

    plans : (request : Request) → AreAlike (plan_of content request)
    plans (Read path) = search (rules, to_target_alike, check)
    plans (ListFolder path) = search (rules, to_target_alike, check)
    plans (Put path bytes) = search (rules, alike_both, way_alike, along, put_alike)
    plans (Append path bytes) = search (rules, to_target_alike, check)
    plans (MakeFolder []) = (refl, tt)
    plans (MakeFolder (name ∷ more)) =
        search (rules, alike_both, way_alike, along, where_alike, check, over)
    plans (Remove path) = grind (arith, nat_tests, to_target_alike, where_alike, deletes, over)
    plans (Move path to) = search (rules, to_target_alike, where_alike, move_alike, over)
    plans (ReadList path which) = search (rules, to_target_alike, check)
    plans (SetList path which sent) = search (rules, to_target_alike, check, bad_alike)
    plans (ReadAttr path) = search (rules, to_target_alike, check)
    plans (SetOwners path owners) = search (rules, to_target_alike, check)
    plans (Can path mask) = to_target_alike path (λ target. []) (λ site u. tt)

    -- ---- what is done

    found_same : (o : Option Site) (f g : Site → Reply × Content)
        → ((site : Site) → o ≡ Some site → (f site).0 ≡ (g site).0)
        → (option_map_or f o (Done, content)).0 ≡ (option_map_or g o (Done, content)).0
    found_same None f g each = refl
    found_same (Some site) f g each = each site refl

    put_same : (path : List (List ℕ)) (bytes : List ℕ) (i j : ℕ) (o p : Option Site)
        → (put_bytes content (alone a) i path bytes o p).0
        ≡ (put_bytes content (alone b) j path bytes o p).0
    put_same path bytes i j (Some target) p = refl
    put_same path bytes i j None None = refl
    put_same path bytes i j None (Some folder) = refl

    effects : (request : Request) (i j : ℕ)
        → (effect content (alone a) i request).0 ≡ (effect content (alone b) j request).0
    effects (Read path) i j = refl
    effects (ListFolder path) i j = refl
    effects (Put path bytes) i j = search (rules, put_same)
    effects (Append path bytes) i j = refl
    effects (MakeFolder path) i j = made (parent_at (sites_along content path) path)
      where
        made : (o : Option Site)
            → (with_site content o (λ folder. (
              Made,
              with_node content (new_node i (alone a) Folder folder (last_name path)),
            ))).0
            ≡ (with_site content o (λ folder. (
              Made,
              with_node content (new_node j (alone b) Folder folder (last_name path)),
            ))).0
        made None = refl
        made (Some folder) = refl
    effects (Remove path) i j = refl
    effects (Move path to) i j = refl
    effects (ReadList path which) i j = refl
    effects (SetList path which sent) i j = refl
    effects (ReadAttr path) i j = refl
    effects (SetOwners path owners) i j = refl
    effects (Can path mask) i j =
        found_same (site_at (sites_along content path) path)
        (λ site. (Rulings (rulings_of (alone a) mask site), content))
        (λ site. (Rulings (rulings_of (alone b) mask site), content)) (λ site found.
        let says = rulings a b site (at path site found) in
        λ t. Rulings (map (λ bit. (bit ∷ [], says bit t)) mask))

pub strangers_get_the_same : StrangersGetTheSame
strangers_get_the_same content a b moment request reply another after later first second one two =
    let first_alone = is_alone content a (is_not (is_paired content a) first.0) in
    let second_alone = is_alone content b (is_not (is_paired content b) second.0) in
    let replies = λ (caller : Caller) (id : ℕ).
    or_reply (first_failure caller (plan_of content request)) (effect content caller id request).0
    in
    reply_of content (Some a) moment request reply after one
    ∙ ap (λ caller. replies caller one.0) first_alone
    ∙ ap (λ failed. or_reply failed (effect content (alone a) one.0 request).0)
    (same_failure a b (plan_of content request) (plans a b content first second request))
    ∙ ap (or_reply (first_failure (alone b) (plan_of content request)))
    (effects a b content first second request one.0 two.0)
    ∙ ap (λ caller. replies caller two.0) (sym second_alone)
    ∙ sym (reply_of content (Some b) moment request another later two)
