-- Sound rows have no fault.
use Rattle.std.proofs.Common.{◌≡◌, ℕ, Bool, true, not, ap, List, [], ◌∷◌, filter, length, Option}
use Rattle.std.proofs.{Common.{None, refl, sym, ◌∙◌, arith}, Math.Bool.not-not}
use Rattle.std.proofs.lemmas.Bool.Decides.{nat_tests}
use Rattle.std.specs.{List.{find, list_all}, Option.option_map}
use Rattle.room_rows.specs.declared.{node.Node.Node, report.Report.{Report, TheVariants.Sound}}
use Rattle.room_rows.specs.declared.report.{Report.TheVariants.Fault, Unsound.TheVariants.Loop}
use Rattle.room_rows.specs.declared.report.Unsound.TheVariants.{BadList, BrokenLaw, BadRoot}
use Rattle.room_rows.specs.declared.report.Unsound.TheVariants.{BadParent, BadName, BadBody}
use Rattle.room_rows.specs.{Content.{has_folder_above, is_root}, Rows.{Rows, numbers_of}}
use Rattle.room_rows.specs.Sound.{AreSound, bad_root, fault_of, first_bad_list, first_failing}
use Rattle.room_rows.specs.Sound.{first_fault, has_bad_list, has_sound_body, has_sound_name}
use Rattle.room_rows.specs.Sound.{keeps_law, or_else, or_sound, path_by_number, reaches, true_path}
use Rattle.room_inherit.specs.Laws.{CheckedIsTree, HasNoFault, SoundIsNoFault}

-- ---- a test that finds nothing, passed by all

-- where no member is found that fails, all pass
pub all_pass : {X : Type 0} (test : X → Bool) (xs : List X) → find (λ x. not (test x)) xs ≡ None
    → list_all test xs ≡ true
all_pass test [] none = refl
all_pass test (x ∷ xs) none = grind (arith, nat_tests, all_pass test xs)

-- where all pass, none is found that fails
pub none_fails : {X : Type 0} (test : X → Bool) (xs : List X) → list_all test xs ≡ true
    → find (λ x. not (test x)) xs ≡ None
none_fails test [] all = refl
none_fails test (x ∷ xs) all = grind (arith, nat_tests, none_fails test xs)

-- the search for a bad list, as one for a number that fails
pub unbad : (rows : Rows)
    → find (λ id. not (not (has_bad_list rows id))) (numbers_of rows) ≡ first_bad_list rows
unbad rows = λ i. find (λ id. not-not (has_bad_list rows id) i) (numbers_of rows)

-- ---- the report by what each test found

module _ (path : Node → List ℕ) where
  abbrev by_six : Option ℕ → Option ℕ → Option Node → Option Node → Option Node → Option Node
      → Option Report
  by_six list root parent reach name body =
      or_else (option_map (λ id. Fault (path_by_number id) BadList) list) (
      or_else (or_else (option_map (λ id. Fault (path_by_number id) BadRoot) root) (
      or_else (fault_of (λ node. path_by_number node.id) BadParent parent) (
      or_else (fault_of (λ node. path_by_number node.id) Loop reach) (fault_of path BadName name))))
      (fault_of path BadBody body))

  abbrev by_tests : Option ℕ → Option ℕ → Option Node → Option Node → Option Node → Option Node
      → Option Node → Report
  by_tests list root parent reach name body law =
      or_sound (or_else (by_six list root parent reach name body) (fault_of path BrokenLaw law))

  each_none : (list root : Option ℕ) (parent reach name body law : Option Node)
      → by_tests list root parent reach name body law ≡ Sound
      → (list ≡ None) × (root ≡ None) × (parent ≡ None) × (reach ≡ None) × (name ≡ None)
      × (body ≡ None) × (law ≡ None)
  each_none list root parent reach name body law sound = grind (arith, nat_tests)

-- the first six tests find nothing
pub record IsChecked (rows : Rows) : Type 0 where
  pub lists : list_all (λ id. not (has_bad_list rows id)) (numbers_of rows) ≡ true
  pub root : bad_root (filter is_root rows.read.nodes) ≡ None
  pub parents : list_all (has_folder_above rows.read) rows.read.nodes ≡ true
  pub reach : list_all (reaches rows.read) rows.read.nodes ≡ true
  pub names : list_all (has_sound_name rows.read) rows.read.nodes ≡ true
  pub bodies : list_all (has_sound_body rows.read) rows.read.nodes ≡ true

-- nor does a last one
pub nothing_found : (rows : Rows) (law : Option Node)
    → or_sound (or_else (first_fault rows) (fault_of (true_path rows.read) BrokenLaw law)) ≡ Sound
    → IsChecked rows × (law ≡ None)
nothing_found rows law sound = grind (arith, nat_tests, all_pass, each_none, unbad)

-- where the first six tests report no fault, all rows pass each of the six
pub checked : (rows : Rows) → first_fault rows ≡ None → IsChecked rows
checked rows unfaulted = (nothing_found rows None (ap (λ f. or_sound (or_else f None)) unfaulted)).0

-- where all rows pass the six, the search for a bad list finds nothing
pub list_checked : (rows : Rows) → IsChecked rows → first_bad_list rows ≡ None
list_checked rows none =
    sym (unbad rows) ∙ none_fails (λ id. not (has_bad_list rows id)) (numbers_of rows) none.lists

pub unfaulted : (rows : Rows) → IsChecked rows → first_fault rows ≡ None
unfaulted rows none = grind (arith, nat_tests, list_checked, none_fails)

-- sound rows pass the six
pub sound_checked : (rows : Rows) → AreSound rows → IsChecked rows
sound_checked rows sound =
    (nothing_found rows (first_failing (keeps_law rows.read) rows.read) sound).0

-- rows that are reported to be sound pass all seven tests
pub no_fault : (rows : Rows) → AreSound rows → HasNoFault rows
no_fault rows sound = grind (arith, nat_tests, all_pass, nothing_found)

-- what is left is the last test
pub last_passes : (rows : Rows) (test : Node → Bool) → first_fault rows ≡ None
    → list_all test rows.read.nodes ≡ true
    → or_sound
    (or_else (first_fault rows)
    (fault_of (true_path rows.read) BrokenLaw (first_failing test rows.read))) ≡ Sound
last_passes rows test unfaulted law = grind (arith, nat_tests, none_fails, unfaulted)

-- rows that pass all seven tests are reported to be sound
pub sound : (rows : Rows) → HasNoFault rows → AreSound rows
sound rows none = grind (arith, nat_tests, last_passes, unfaulted)

-- in rows without a fault no row is unreadable, and no object has a bad list
pub none_bad : (rows : Rows) → HasNoFault rows → first_bad_list rows ≡ None
none_bad rows none =
    sym (unbad rows) ∙ none_fails (λ id. not (has_bad_list rows id)) (numbers_of rows) none.lists

-- to be reported sound and to pass the seven tests is the same
pub sound_is_no_fault : SoundIsNoFault
sound_is_no_fault rows = (no_fault rows, sound rows)

-- ---- a tree, where all tests but the last find nothing

-- where the root isn't bad, one object and no other has no parent
pub root_alone : (roots : List Node) → bad_root roots ≡ None → length roots ≡ 1
root_alone roots none = grind (arith, nat_tests)

-- rows that pass the six tests are a tree: one root, folders above all, and no loop
pub checked_is_tree : CheckedIsTree
checked_is_tree rows unfaulted =
    let none = checked rows unfaulted in
    search (root_alone)
