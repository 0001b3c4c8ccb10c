-- What is kept of an object, by what is kept of the folder that it stands in.
use Rattle.std.proofs.Common.{rules, ℕ, suc, ◌-◌, ◌≡◌, Bool, true, false, cond, not, ◌&&◌, ◌||◌}
use Rattle.std.proofs.Common.{List, [], ◌∷◌, ◌++◌, length, take, filter, Option, Some, None, refl}
use Rattle.std.proofs.{Common.{sym, ap, ◌∙◌, arith, map, get_or, min, ◌+◌, ◌<◌}, Math.Bool.and-true}
use Rattle.std.proofs.{Math.Bool.or-false, lemmas.List.{get_or-map, length-map, map-append}}
use Rattle.std.proofs.lemmas.List.{take_all, take_more, Folds.list_all-append}
use Rattle.std.{proofs.lemmas.Bool.Decides.nat_tests, specs.{Prelude.is_none, Option.option_map}}
use Rattle.std.specs.Option.{option_map_or}
use Rattle.room_entry.specs.{BitLaws.has-chosen, Bits.{all_bits, has, shares}, Rights.delete}
use Rattle.room_entry.specs.Rights.{delete_child, execute, write_data}
use Rattle.room_entry.specs.declared.{object.Which.TheVariants.Dacl, parties.Caller.Caller}
use Rattle.room_eval.specs.Deletion.{by_adding, deletion_by}
use Rattle.room_eval.specs.declared.{deletion.DeleteVerdict.DeleteVerdict, outcome.Ruling.Ruling}
use Rattle.room_eval.specs.declared.outcome.Ruling.TheVariants.{Allowed, Denied, Silent}
use Rattle.room_eval.specs.{declared.outcome.Verdict.Verdict, Verdict.{is_allowed, ruling_of}}
use Rattle.room_eval.{specs.Verdict.verdict_by, proofs.Steps.verdict_agree}
use Rattle.room_rows.specs.{declared.node.Node.Node, Content.is_folder, Held.full_of}
use Rattle.room_machine.specs.{Judge.{of_deletion, passes}, Plan.Deletion, Site.{Site, full_at}}
use Rattle.room_machine.specs.{Stored.stored_site, Rights.{grants, last_of, may_remove, reaches}}
use Rattle.room_machine.specs.Rights.{rights}
use Rattle.room_review.specs.Standing.{before_last, is_denied, keeps_children, repeats, same_grant}
use Rattle.room_review.specs.{Standing.standing, declared.standing.Standing.Standing}

-- ---- the last object on a way

split_last : (above : List Site) (folder : Site) → last_of above ≡ Some folder
    → above ≡ before_last above ++ folder ∷ []
split_last [] folder last = absurd (let wrong : ⊥ = cc in wrong)
split_last (site ∷ []) folder last = let same : site ≡ folder = cc in ap (λ s. s ∷ []) same
split_last (site ∷ next ∷ more) folder last =
    let count : length (site ∷ next ∷ more) - 1 ≡ suc (length (next ∷ more) - 1) = omega arith in
    search (rules, count, split_last (next ∷ more) folder last)

pub none_last : (above : List Site) → last_of above ≡ None → above ≡ []
none_last [] none = refl
none_last (site ∷ []) none = absurd (let wrong : ⊥ = cc in wrong)
none_last (site ∷ next ∷ more) none =
    absurd (let wrong : ⊥ = (let rest = none_last (next ∷ more) none in cc) in wrong)

-- where a change of it is none, there is none
pub mapped_none : {A B : Type 0} (f : A → B) (o : Option A) → option_map f o ≡ None → o ≡ None
mapped_none f None is = refl
mapped_none f (Some x) is = absurd (let wrong : ⊥ = cc in wrong)

-- where there is a change of it, there is one
pub mapped_some : {A B : Type 0} (f : A → B) (o : Option A) (y : B) → option_map f o ≡ Some y
    → (x : A) × (o ≡ Some x) × (f x ≡ y)
mapped_some f None y is = absurd (let wrong : ⊥ = cc in wrong)
mapped_some f (Some x) y is = (x, refl, let same : f x ≡ y = cc in same)

-- one more of two lists, of which each member of the second comes from that of the first
pub next_mapped : {A B C : Type 0} (f : A → B) (g : A → C) (xs : List A) (ys : List B) (i : ℕ)
    (x : A) (y : B) (zs : List C) (z : C) → i < length xs → ((d : A) → x ≡ get_or xs i d)
    → ((d : B) → y ≡ get_or ys i d) → ys ≡ map f xs → (y ≡ f x → z ≡ g x)
    → zs ≡ map g (take i xs) → zs ++ z ∷ [] ≡ map g (take (i + 1) xs)
next_mapped f g xs ys i x y zs z below at beside are turns sofar =
    let same : y ≡ f x =
    beside (f x) ∙ ap (λ l. get_or l i (f x)) are ∙ get_or-map f xs i x (f x) below
    ∙ ap f (sym (at x)) in
    (λ j. sofar j ++ turns same j ∷ []) ∙ sym (map-append g (take i xs) (x ∷ []))
    ∙ ap (map g) (ap (λ v. take i xs ++ v ∷ []) (at x) ∙ sym (take_more xs i x below))

-- all of them
pub all_mapped : {A B C : Type 0} (f : A → B) (g : A → C) (xs : List A) (ys : List B) (n : ℕ)
    (zs : List C) → n ≡ min (length xs) (length ys) → ys ≡ map f xs → zs ≡ map g (take n xs)
    → zs ≡ map g xs
all_mapped f g xs ys n zs many are sofar = grind (arith, nat_tests, length-map, take_all)

-- ---- rights that a mask may have

known_delete : has all_bits delete ≡ true
unfolding all_bits
known_delete = refl

known_delete_child : has all_bits delete_child ≡ true
unfolding all_bits
known_delete_child = refl

known_execute : has all_bits execute ≡ true
unfolding all_bits
known_execute = refl

known_write_data : has all_bits write_data ≡ true
unfolding all_bits
known_write_data = refl

-- ---- the deletion rule by rulings

module _ (target folder : Site) where
  abbrev is_passed : DeleteVerdict → Bool
  is_passed v = is_none (of_deletion target folder v)

  by_rulings : (own above : Ruling) (adding : Verdict) (added : Bool)
      → is_passed (by_adding adding) ≡ added
      → is_passed (deletion_by own above adding)
      ≡ ((is_allowed own || is_allowed above)
      || ((not (is_denied own) && not (is_denied above)) && added))
  by_rulings (Allowed p) above adding added is = refl
  by_rulings (Denied p) (Allowed q) adding added is = refl
  by_rulings (Denied p) (Denied q) adding added is = refl
  by_rulings (Denied p) Silent adding added is = refl
  by_rulings Silent (Allowed q) adding added is = refl
  by_rulings Silent (Denied q) adding added is = refl
  by_rulings Silent Silent adding added is = is

  -- the verdict on one bit
  by_ruling : (bit : ℕ) (r : Ruling) → is_passed (by_adding (verdict_by (λ b. r) (bit ∷ [])))
      ≡ is_allowed r
  by_ruling bit (Allowed p) = refl
  by_ruling bit (Denied p) = refl
  by_ruling bit Silent = refl

  by_right : (says : ℕ → Ruling) (bit : ℕ)
      → is_passed (by_adding (verdict_by says (bit ∷ []))) ≡ is_allowed (says bit)
  by_right says bit = grind (arith, nat_tests, by_ruling, verdict_agree)

  passes_by : (caller : Caller)
      → passes caller (Deletion target folder)
      ≡ ((grants caller delete target || grants caller delete_child folder)
      || ((not (is_denied (ruling_of (full_at Dacl target) caller target.node.owners delete))
      && not (keeps_children caller folder)) && grants caller write_data folder))
  passes_by caller = grind (arith, nat_tests, by_right, by_rulings)

-- ---- an object behind others

module _ (caller : Caller) (path : List (List ℕ)) (node : Node) (above : List Site) where
  abbrev target : Site
  target = stored_site path node

  abbrev allowed : List ℕ
  allowed =
      filter (λ right. is_allowed (ruling_of (full_of node.dacl) caller node.owners right)) all_bits

  abbrev denied : List ℕ
  denied =
      filter (λ right. is_denied (ruling_of (full_of node.dacl) caller node.owners right)) all_bits

  has_allowed : (right : ℕ) → has all_bits right ≡ true
      → has allowed right ≡ grants caller right target
  has_allowed right known = has-chosen (λ b. grants caller b target) right known

  has_denied : (right : ℕ) → has all_bits right ≡ true
      → has denied right
      ≡ is_denied (ruling_of (full_at Dacl target) caller target.node.owners right)
  has_denied right known =
      has-chosen (λ b. is_denied (ruling_of (full_of node.dacl) caller node.owners b)) right known

  module _ (free : reaches caller above ≡ true) where
    rights_open : allowed ≡ rights caller above target
    rights_open = sym (ap (λ t. cond t allowed []) free)

    opens_open : (is_folder node && has allowed execute) ≡ reaches caller (above ++ target ∷ [])
    opens_open = search (rules, list_all-append, and-true, has_allowed, known_execute)

    keeps_open : shares (delete_child ∷ []) denied
        ≡ (reaches caller above && keeps_children caller target)
    keeps_open = search (rules, or-false, has_denied, known_delete_child)

  -- the root
  pub root_standing : (granted : List ℕ) (opens keeps : Bool) (refused : List ℕ) → above ≡ []
      → granted ≡ allowed → refused ≡ denied → opens ≡ (is_folder node && has granted execute)
      → keeps ≡ shares (delete_child ∷ []) refused
      → record { rights = granted; remove = false; opens = opens; keeps = keeps; repeats = false }
      ≡ standing caller above target
  root_standing granted opens keeps refused top grants denies lets keep =
      grind (arith, nat_tests, keeps_open, opens_open, rights_open)

  module _ (folder : Site) (last : last_of above ≡ Some folder) (kept : Standing)
      (is : kept ≡ standing caller (before_last above) folder) where
    opens_is : kept.opens ≡ reaches caller above
    opens_is =
        ap (λ (s : Standing). s.opens) is ∙ sym (ap (reaches caller) (split_last above folder last))

    repeats_is : (granted : List ℕ) (remove : Bool) → granted ≡ rights caller above target
        → remove ≡ may_remove caller above target
        → same_grant (granted, remove) (kept.rights, kept.remove) ≡ repeats caller above target
    repeats_is granted remove grants removes = grind (arith, nat_tests)

    -- an object that the caller doesn't come to
    pub closed_standing : kept.opens ≡ false
        → record {
          rights = [];
          remove = false;
          opens = false;
          keeps = false;
          repeats = same_grant ([], false) (kept.rights, kept.remove);
        } ≡ standing caller above target
    closed_standing shut = grind (arith, nat_tests, list_all-append, opens_is, repeats_is)

    module _ (free : reaches caller above ≡ true) where
      -- the caller comes to the folder
      before : reaches caller (before_last above) ≡ true
      before = grind (arith, nat_tests, list_all-append, split_last)

      folder_has : (right : ℕ) → has all_bits right ≡ true
          → has kept.rights right ≡ grants caller right folder
      folder_has right known =
          ap (λ (s : Standing). has s.rights right) is
          ∙ ap (λ t. has (cond t (filter (λ b. grants caller b folder) all_bits) []) right) before
          ∙ has-chosen (λ b. grants caller b folder) right known

      folder_keeps : kept.keeps ≡ keeps_children caller folder
      folder_keeps =
          ap (λ (s : Standing). s.keeps) is ∙ ap (λ t. t && keeps_children caller folder) before

      removes : ((has allowed delete || has kept.rights delete_child)
          || ((not (has denied delete) && not kept.keeps) && has kept.rights write_data))
          ≡ may_remove caller above target
      removes =
          (λ i. (has_allowed delete known_delete i || folder_has delete_child known_delete_child i)
          || ((not (has_denied delete known_delete i) && not (folder_keeps i))
          && folder_has write_data known_write_data i))
          ∙ sym (passes_by target folder caller)
          ∙ sym (ap (λ (o : Option Site). option_map_or (λ site.
          passes caller (Deletion target site)) o false) last)
          ∙ sym (ap (λ t. t && option_map_or (λ site. passes caller (Deletion target site))
          (last_of above) false) free)

    -- an object that the caller comes to
    pub open_standing : (granted refused : List ℕ) (remove opens keeps : Bool) → kept.opens ≡ true
        → granted ≡ allowed → refused ≡ denied
        → remove ≡ ((has granted delete || has kept.rights delete_child)
        || ((not (has refused delete) && not kept.keeps) && has kept.rights write_data))
        → opens ≡ (is_folder node && has granted execute)
        → keeps ≡ shares (delete_child ∷ []) refused
        → record {
          rights = granted;
          remove = remove;
          opens = opens;
          keeps = keeps;
          repeats = same_grant (granted, remove) (kept.rights, kept.remove);
        } ≡ standing caller above target
    open_standing granted refused remove opens keeps free' grants denies rule lets keep =
        grind (arith, nat_tests, keeps_open, opens_is, opens_open, removes, repeats_is, rights_open)
