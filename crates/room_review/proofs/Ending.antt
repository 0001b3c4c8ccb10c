-- The last object on a way, and those before it.
use Rattle.std.proofs.Common.{rules, ◌≡◌, ℕ, suc, ◌+◌, ◌-◌, List, [], ◌∷◌, ◌++◌, map, length, take}
use Rattle.std.proofs.Common.{Option, Some, None, refl, sym, ap, subst, ◌∙◌, arith, append_assoc}
use Rattle.std.proofs.{Common.{cond, inr, not, length-append}, Math.Seq.take-append_seam}
use Rattle.std.proofs.lemmas.{List.append-nil, Bool.Decides.nat_tests}
use Rattle.std.specs.{List.AllByRecursion as Each, Option.option_map_or}
use Rattle.room_entry.specs.{Valid.is_document, declared.object.ObjKind.ObjKind}
use Rattle.room_entry.specs.declared.object.ObjKind.TheVariants.{Document, Folder}
use Rattle.room_rows.specs.{declared.node.{Node.Node, Walk.Walk}, Content.{Content, child_of}}
use Rattle.room_rows.specs.{Content.root_of, Keep.HasNoRoot, Rows.Rows, Walk.{behind, walk_from}}
use Rattle.room_rows.specs.Walk.{walk_of}
use Rattle.room_machine.specs.{declared.reply.Reason.TheVariants.{NoSuch, NotFolder}, Site.Site}
use Rattle.room_machine.specs.{Site.site_at, Stored.{stored_along, stored_from, stored_site}}
use Rattle.room_machine.specs.Rights.{last_of}
use Rattle.room_sound.proofs.Ends.{same_front, same_last}
use Rattle.room_review.specs.{declared.question.Reviewed.TheVariants.Refused, Standing.before_last}
use Rattle.room_review.specs.{Table.IsRefusal, Telling.{AreOn, ended_at}}

-- ---- lists with one more

pub last_after : {A : Type 0} (xs : List A) (x : A) → last_of (xs ++ x ∷ []) ≡ Some x
last_after [] x = refl
last_after (y ∷ []) x = refl
last_after (y ∷ z ∷ zs) x = last_after (z ∷ zs) x

-- all but so many at the end
take_front : {A : Type 0} (front back : List A) (n : ℕ) → n ≡ length back
    → take (length (front ++ back) - n) (front ++ back) ≡ front
take_front front back n is =
    ap (λ k. take k (front ++ back))
    (search (rules, front, length-append)) ∙ take-append_seam front back

pub before_after : (xs : List Site) (x : Site) → before_last (xs ++ x ∷ []) ≡ xs
before_after xs x = take_front xs (x ∷ []) 1 refl

-- ---- where a walk ends

abbrev pub IsStored : Site → Type 0
IsStored site = site ≡ stored_site site.path site.node

module _ (content : Content) where
  -- what the sites of a walk are at its end, where these names are left over
  abbrev AtEnd : List (List ℕ) → List Site → List Site → List (List ℕ) → Site → Type 0
  AtEnd names sites front [] site =
      (site_at sites names ≡ Some site) × (take (length names) sites ≡ front)
  AtEnd names sites front (name ∷ left) site = site_at sites names ≡ None

  -- a walk from an object at a path, and its sites
  record Ends (path : List (List ℕ)) (names : List (List ℕ)) (walk : Walk) (sites : List Site)
      : Type 0 where
    pub front : List Site
    pub last : Node
    pub used : List (List ℕ)
    pub left : List (List ℕ)
    pub names_are : names ≡ used ++ left
    pub sites_are : sites ≡ front ++ stored_site (path ++ used) last ∷ []
    pub chain : walk.chain ≡ map (λ (s : Site). s.node) front ++ last ∷ []
    pub rest : walk.rest ≡ length left
    pub stored : Each IsStored front
    pub at_end : AtEnd names sites front left (stored_site (path ++ used) last)

  ends_here : (path : List (List ℕ)) (node : Node)
      → stored_site path node ∷ [] ≡ [] ++ stored_site (path ++ []) node ∷ []
  ends_here path node = ap (λ p. stored_site p node ∷ []) (sym (append-nil path))

  further : (path : List (List ℕ)) (name : List ℕ) (used : List (List ℕ)) (last : Node)
      → stored_site ((path ++ name ∷ []) ++ used) last ≡ stored_site (path ++ name ∷ used) last
  further path name used last = ap (λ p. stored_site p last) (append_assoc path (name ∷ []) used)

  ends : (names path : List (List ℕ)) (node : Node)
      → Ends path names (walk_from content node names) (stored_from content path node names)
  ends [] path node =
      record {
        front = [];
        last = node;
        used = [];
        left = [];
        names_are = refl;
        sites_are = ends_here path node;
        chain = refl;
        rest = refl;
        stored = tt;
        at_end = (ap (λ p. Some (stored_site p node)) (sym (append-nil path)), refl);
      }
  ends (name ∷ names) path node =
      on (child_of content node.id name) (λ child. ends names (path ++ name ∷ []) child)
    where
      later : (left : List (List ℕ)) (sites front : List Site) (site site' : Site) → site ≡ site'
          → AtEnd names sites front left site
          → AtEnd (name ∷ names) (stored_site path node ∷ sites) (stored_site path node ∷ front)
          left site'
      later [] sites front site site' same h =
          (h.0 ∙ ap Some same, ap (λ l. stored_site path node ∷ l) h.1)
      later (other ∷ left) sites front site site' same h = h

      on : (o : Option Node)
          → ((child : Node) → Ends (path ++ name ∷ []) names (walk_from content child names)
          (stored_from content (path ++ name ∷ []) child names))
          → Ends path (name ∷ names)
          (option_map_or (λ child. behind node (walk_from content child names)) o
          (record { chain = node ∷ []; rest = length (name ∷ names) }))
          (stored_site path node
          ∷ option_map_or (λ child. stored_from content (path ++ name ∷ []) child names) o [])
      on None next =
          record {
            front = [];
            last = node;
            used = [];
            left = name ∷ names;
            names_are = refl;
            sites_are = ends_here path node;
            chain = refl;
            rest = refl;
            stored = tt;
            at_end = refl;
          }
      on (Some child) next =
          let end = next child in
          record {
            front = stored_site path node ∷ end.front;
            last = end.last;
            used = name ∷ end.used;
            left = end.left;
            names_are = ap (λ l. name ∷ l) end.names_are;
            sites_are = search (rules, end.sites_are, further, end.last);
            chain = ap (λ l. node ∷ l) end.chain;
            rest = end.rest;
            stored = (refl, end.stored);
            at_end =
                later end.left
                (stored_from content (path ++ name ∷ []) child names) end.front
                (stored_site ((path ++ name ∷ []) ++ end.used) end.last)
                (stored_site (path ++ name ∷ end.used) end.last)
                (further path name end.used end.last) end.at_end;
          }

no_end : (nodes : List Node) (node : Node) → nodes ++ node ∷ [] ≡ [] → ⊥
no_end [] node none = let wrong : ⊥ = cc in wrong
no_end (x ∷ xs) node none = let wrong : ⊥ = cc in wrong

-- a walk that finds nothing
pub rootless : (rows : Rows) (path : List (List ℕ)) (walk : Walk) → walk ≡ walk_of rows.read path
    → walk.chain ≡ [] → HasNoRoot rows 0
rootless rows path walk is none =
    on (root_of rows.read) refl (sym (ap (λ (w : Walk). w.chain) is) ∙ none)
  where
    on : (o : Option Node) → root_of rows.read ≡ o
        → (option_map_or (λ root. walk_from rows.read root path) o
        (record { chain = []; rest = length path })).chain ≡ [] → HasNoRoot rows 0
    on None known none = inr (refl, known)
    on (Some root) known none =
        let end = ends rows.read path [] root in
        absurd (no_end (map (λ (s : Site). s.node) end.front) end.last (sym end.chain ∙ none))

-- from the root on, where there is one
module _ (rows : Rows) (path : List (List ℕ)) (above : List Node) (node : Node) where
  abbrev Walked : ℕ → Type 0
  Walked rest = record { chain = above ++ node ∷ []; rest = rest } ≡ walk_of rows.read path

  abbrev sites : List Site
  sites = stored_along rows.read path

  end_of : (rest : ℕ) → Walked rest → Ends rows.read [] path (walk_of rows.read path) sites
  end_of rest is = grind (arith, nat_tests, ends, no_end)

  -- the walk came to its end: the object is at the path, and the others are on the way
  pub ended : Walked 0
      → (site_at sites path ≡ Some (stored_site path node)) × AreOn above (take (length path) sites)
  ended is =
      let end = end_of 0 is in
      let chain = ap (λ (w : Walk). w.chain) is ∙ end.chain in
      let rest = ap (λ (w : Walk). w.rest) is ∙ end.rest in
      on end.front end.used end.left end.last end.names_are rest
      (same_front above (map (λ (s : Site). s.node) end.front) node end.last chain)
      (same_last above (map (λ (s : Site). s.node) end.front) node end.last chain) end.stored
      end.at_end
    where
      on : (front : List Site) (used left : List (List ℕ)) (last : Node) → path ≡ used ++ left
          → 0 ≡ length left → above ≡ map (λ (s : Site). s.node) front → node ≡ last
          → Each IsStored front
          → AtEnd rows.read path sites front left (stored_site used last)
          → (site_at sites path ≡ Some (stored_site path node))
          × AreOn above (take (length path) sites)
      on front used [] last names rest nodes same stored h = (
        search (rules, append-nil, used),
        subst (AreOn above) (sym h.1) (nodes, stored),
      )
      on front used (name ∷ left) last names rest nodes same stored h =
          absurd (let wrong : ⊥ = cc in wrong)

  -- the walk ended before: there is no object at the path, and the last one says why
  pub strayed : (rest : ℕ) → Walked (suc rest)
      → (site_at sites path ≡ None) × IsRefusal path rows (ended_at path node.kind (suc rest))
  strayed rest is =
      let end = end_of (suc rest) is in
      let chain = ap (λ (w : Walk). w.chain) is ∙ end.chain in
      let over = ap (λ (w : Walk). w.rest) is ∙ end.rest in
      on end.front end.used end.left end.last end.names_are over
      (same_last above (map (λ (s : Site). s.node) end.front) node end.last chain)
      (ap last_of end.sites_are ∙ last_after end.front (stored_site end.used end.last))
      end.at_end
    where
      on : (front : List Site) (used left : List (List ℕ)) (last : Node) → path ≡ used ++ left
          → suc rest ≡ length left → node ≡ last
          → last_of sites ≡ Some (stored_site used last)
          → AtEnd rows.read path sites front left (stored_site used last)
          → (site_at sites path ≡ None) × IsRefusal path rows (ended_at path node.kind (suc rest))
      on front used [] last names over same is_last h = absurd (let wrong : ⊥ = cc in wrong)
      on front used (name ∷ left) last names over same is_last h = (
        h,
        record {
          last = stored_site used last;
          is_last = is_last;
          is = ap (λ (n : Node). ended_at path n.kind (suc rest)) same ∙ why last.kind;
        },
      )
        where
          why : (kind : ObjKind)
              → ended_at path kind (suc rest)
              ≡ cond (not (is_document kind))
              (Refused (take (length used + 1) path) NoSuch) (Refused used NotFolder)
          why Document =
              ap (λ p. Refused p NotFolder) (search (rules, rest, take_front, used, left, over))
          why Folder =
              ap (λ p. Refused p NoSuch) (search (rules, rest, used, over, length-append, left))
