-- What rights at the end of a way depend on: the kinds, owners and dacls of the objects on it.
use Rattle.std.proofs.Common.{◌≡◌, ℕ, zero, suc, Bool, false, cond, List, [], ◌∷◌, ◌++◌}
use Rattle.std.proofs.Common.{filter, length, take, Option, Some, None, refl, ap, ◌∙◌}
use Rattle.std.specs.{Prelude.is_none, Option.option_map_or}
use Rattle.room_entry.specs.{Ace.Ace, Bits.all_bits, declared.object.Which.TheVariants.Dacl}
use Rattle.room_entry.specs.declared.parties.{Caller.Caller, Owners.Owners}
use Rattle.room_eval.specs.{Deletion.deletion, Verdict.{is_allowed, ruling_of}}
use Rattle.room_eval.specs.declared.deletion.DeleteVerdict.{DeleteVerdict}
use Rattle.room_eval.specs.declared.deletion.DeleteVerdict.TheVariants.{AtParent, AtTarget, Granted}
use Rattle.room_rows.specs.{declared.node.Node.Node}
use Rattle.room_machine.specs.{Judge.{of_deletion, passes}, Plan.Deletion}
use Rattle.room_machine.specs.Rights.{grants, last_of, may_remove, reaches, rights}
use Rattle.room_machine.specs.Site.{Site, full_at, site_at, site_below, sites_along}
use Rattle.room_change.specs.Changes.{grant_along}
use Rattle.room_change.specs.Laws.{APieceSaysAsMuch, AreAlike, Follows, IsAlike, LikeOnesAreAlike}

-- ---- ways that are alike

abbrev FoundAlike : Option Site → Option Site → Type 0
FoundAlike None None = Unit {0}
FoundAlike None (Some other) = ⊥
FoundAlike (Some one) None = ⊥
FoundAlike (Some one) (Some other) = IsAlike one other

at_alike : (ones others : List Site) → AreAlike ones others → (names : List (List ℕ))
    → FoundAlike (site_at ones names) (site_at others names)
at_alike [] [] like names = tt
at_alike [] (other ∷ others) like names = absurd like
at_alike (one ∷ ones) [] like names = absurd like
at_alike (one ∷ ones) (other ∷ others) like [] = like.0
at_alike (one ∷ ones) (other ∷ others) like (name ∷ names) = at_alike ones others like.1 names

take_alike : (n : ℕ) (ones others : List Site) → AreAlike ones others
    → AreAlike (take n ones) (take n others)
take_alike zero ones others like = tt
take_alike (suc n) [] [] like = tt
take_alike (suc n) [] (other ∷ others) like = absurd like
take_alike (suc n) (one ∷ ones) [] like = absurd like
take_alike (suc n) (one ∷ ones) (other ∷ others) like =
    (like.0, take_alike n ones others like.1)

last_alike : (ones others : List Site) → AreAlike ones others
    → FoundAlike (last_of ones) (last_of others)
last_alike [] [] like = tt
last_alike [] (other ∷ others) like = absurd like
last_alike (one ∷ ones) [] like = absurd like
last_alike (one ∷ []) (other ∷ []) like = like.0
last_alike (one ∷ []) (other ∷ next ∷ others) like = absurd like.1
last_alike (one ∷ next ∷ ones) (other ∷ []) like = absurd like.1
last_alike (one ∷ next ∷ ones) (other ∷ then ∷ others) like =
    last_alike (next ∷ ones) (then ∷ others) like.1

alike_itself : (sites : List Site) → AreAlike sites sites
alike_itself [] = tt
alike_itself (site ∷ sites) =
    (record { kind = refl; owners = refl; dacl = refl }, alike_itself sites)

-- ---- what they grant

module _ (caller : Caller) where
  grants_alike : (one other : Site) → IsAlike one other → (right : ℕ)
      → grants caller right one ≡ grants caller right other
  grants_alike one other like right =
      ap (λ (l : List Ace). is_allowed (ruling_of l caller one.node.owners right)) like.dacl
      ∙ ap (λ (o : Owners). is_allowed (ruling_of (full_at Dacl other) caller o right)) like.owners

  reach_alike : (ones others : List Site) → AreAlike ones others
      → reaches caller ones ≡ reaches caller others
  reach_alike [] [] like = refl
  reach_alike [] (other ∷ others) like = absurd like
  reach_alike (one ∷ ones) [] like = absurd like
  reach_alike (one ∷ ones) (other ∷ others) like =
      let through = grants_alike one other like.0
      Rattle.room_entry.specs.Rights.execute in
      let kind = like.0.kind in
      let rest = reach_alike ones others like.1 in
      cc (through, kind, rest)

  bits_alike : (one other : Site) → IsAlike one other
      → filter (λ right. grants caller right one) all_bits
      ≡ filter (λ right. grants caller right other) all_bits
  bits_alike one other like =
      ap (λ (l : List Ace). filter
      (λ right. is_allowed (ruling_of l caller one.node.owners right)) all_bits) like.dacl
      ∙ ap (λ (o : Owners). filter
      (λ right. is_allowed (ruling_of (full_at Dacl other) caller o right)) all_bits) like.owners

  pub rights_alike : (ones others : List Site) (one other : Site) → AreAlike ones others
      → IsAlike one other → rights caller ones one ≡ rights caller others other
  rights_alike ones others one other like last =
      ap (λ b. cond b (filter (λ right. grants caller right one) all_bits) [])
      (reach_alike ones others like)
      ∙ ap (λ bits. cond (reaches caller others) bits []) (bits_alike one other last)

  same_words : (target parent other above : Site) (verdict : DeleteVerdict)
      → is_none (of_deletion target parent verdict) ≡ is_none (of_deletion other above verdict)
  same_words target parent other above (Granted by_add) = refl
  same_words target parent other above (AtTarget place) = refl
  same_words target parent other above (AtParent bits place) = refl

  deletion_alike : (one other folder above : Site) → IsAlike one other → IsAlike folder above
      → passes caller (Deletion one folder) ≡ passes caller (Deletion other above)
  deletion_alike one other folder above like over =
      same_words one folder other above
      (deletion (full_at Dacl one) one.node.owners (full_at Dacl folder) folder.node.owners caller)
      ∙ ap (λ (v : DeleteVerdict). is_none (of_deletion other above v)) same
    where
      same : deletion (full_at Dacl one) one.node.owners (full_at Dacl folder) folder.node.owners
          caller
          ≡ deletion (full_at Dacl other) other.node.owners (full_at Dacl above) above.node.owners
          caller
      same = cc (like.dacl, like.owners, over.dacl, over.owners)

  in_folder : (one other : Site) → IsAlike one other → (o p : Option Site) → FoundAlike o p
      → option_map_or (λ folder. passes caller (Deletion one folder)) o false
      ≡ option_map_or (λ folder. passes caller (Deletion other folder)) p false
  in_folder one other like None None over = refl
  in_folder one other like None (Some above) over = absurd over
  in_folder one other like (Some folder) None over = absurd over
  in_folder one other like (Some folder) (Some above) over =
      deletion_alike one other folder above like over

  pub removal_alike : (ones others : List Site) (one other : Site) → AreAlike ones others
      → IsAlike one other → may_remove caller ones one ≡ may_remove caller others other
  removal_alike ones others one other like last =
      let reach = reach_alike ones others like in
      let over = in_folder one other last (last_of ones) (last_of others)
      (last_alike ones others like) in
      cc (reach, over)

  -- rights and removal at the end of a way behind these, if there is one
  abbrev end_of : List Site → Option Site → List ℕ × Bool
  end_of above found = (
    option_map_or (rights caller above) found [],
    option_map_or (may_remove caller above) found false,
  )

  at_end : (ones others : List Site) → AreAlike ones others → (o p : Option Site)
      → FoundAlike o p → end_of ones o ≡ end_of others p
  at_end ones others like None None last = refl
  at_end ones others like None (Some other) last = absurd last
  at_end ones others like (Some one) None last = absurd last
  at_end ones others like (Some one) (Some other) last =
      ap (λ bits. pair bits (may_remove caller ones one))
      (rights_alike ones others one other like last)
      ∙ ap (λ flag. pair (rights caller others other) flag)
      (removal_alike ones others one other like last)
    where
      pair : List ℕ → Bool → List ℕ × Bool
      pair bits flag = (bits, flag)

  along_alike : (ones others : List Site) (path : List (List ℕ)) → AreAlike ones others
      → grant_along caller ones path ≡ grant_along caller others path
  along_alike ones others path like =
      at_end (take (length path) ones) (take (length path) others)
      (take_alike (length path) ones others like) (site_at ones path) (site_at others path)
      (at_alike ones others like path)

-- ---- the laws

pub a_piece_says_as_much : APieceSaysAsMuch
a_piece_says_as_much piece room path like caller =
    along_alike caller (sites_along piece path) (sites_along room path) path like

follows_alike : (folder : Site) (one other : Node) → one.kind ≡ other.kind
    → one.owners ≡ other.owners → Follows folder one → Follows folder other
    → IsAlike (site_below folder one) (site_below folder other)
follows_alike folder one other kinds owners first second = record {
  kind = kinds;
  owners = owners;
  dacl = cc (first.own, first.linked, second.own, second.linked, kinds);
}

pub like_ones_are_alike : LikeOnesAreAlike
like_ones_are_alike above folder one other kinds owners first second caller =
    let way = alike_itself (above ++ folder ∷ []) in
    let like = follows_alike folder one other kinds owners first second in (
      rights_alike caller (above ++ folder ∷ []) (above ++ folder ∷ []) (site_below folder one)
          (site_below folder other) way like,
      removal_alike caller (above ++ folder ∷ []) (above ++ folder ∷ [])
          (site_below folder one) (site_below folder other) way like,
    )
