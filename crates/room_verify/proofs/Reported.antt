-- What is reported, by the tests that found something.
use Rattle.std.proofs.Common.{◌≡◌, ℕ, zero, suc, false, not, List, [], ◌∷◌, ◌++◌, length, Option}
use Rattle.std.proofs.Common.{Some, None, refl, sym, ap, ◌∙◌, arith}
use Rattle.std.proofs.lemmas.Bool.Decides.{nat_tests}
use Rattle.std.specs.{List.find, Option.{option_map, option_map_or}}
use Rattle.room_rows.specs.declared.{node.Node.Node, report.Report.{Report, TheVariants.Sound}}
use Rattle.room_rows.specs.declared.report.{Report.TheVariants.Fault, Unsound.TheVariants.BadList}
use Rattle.room_rows.specs.declared.report.Unsound.TheVariants.{BrokenLaw, BadBody}
use Rattle.room_rows.specs.{Content.{Content, node_at, parent_of, reaches_root}, Paths.path_text}
use Rattle.room_rows.specs.{Rows.Rows, Sound.{fault_of, first_bad_list, first_failing}}
use Rattle.room_rows.specs.Sound.{has_sound_body, names_up, or_else, or_sound, path_by_number}
use Rattle.room_rows.specs.Sound.{tree_fault, true_path}
use Rattle.room_verify.specs.{declared.verifying.Holding.Holding, Kept.{is_lawful, report_by}}
use Rattle.room_verify.specs.Objects.{only}

-- ---- the objects alone decide

names_same : (n : ℕ) (rows : Content) (node : Node)
    → names_up n (only rows.nodes) node ≡ names_up n rows node
names_same zero rows node = refl
names_same (suc n) rows node =
    λ i. option_map_or (λ parent. names_same n rows parent i ++ node.name ∷ [])
    (parent_of rows node) []

path_same : (rows : Content) (node : Node) → true_path (only rows.nodes) node ≡ true_path rows node
path_same rows node = ap path_text (names_same (length rows.nodes) rows node)

reaches_same : (n : ℕ) (rows : Content) (id : Option ℕ)
    → reaches_root n (only rows.nodes) id ≡ reaches_root n rows id
reaches_same zero rows None = refl
reaches_same zero rows (Some id) = refl
reaches_same (suc n) rows None = refl
reaches_same (suc n) rows (Some id) =
    λ i. option_map_or (λ (parent : Node). reaches_same n rows parent.parent i)
    (node_at rows id) false

tree_same : (rows : Content) → tree_fault (only rows.nodes) ≡ tree_fault rows
tree_same rows = search (path_same, reaches_same)

law_same : (holding : Holding) (rows : Content)
    → first_failing (is_lawful holding (only rows.nodes)) (only rows.nodes)
    ≡ first_failing (is_lawful holding rows) rows
law_same holding rows = grind (arith, nat_tests)

-- ---- the report, by what each part found

abbrev outcome : Content → Option ℕ → Option Report → Option Node → Option Node → Report
outcome rows list tree body law =
    or_sound (or_else (
    or_else (option_map (λ id. Fault (path_by_number id) BadList) list)
    (or_else tree (fault_of (true_path rows) BadBody body)))
    (fault_of (true_path rows) BrokenLaw law))

parts : (holding : Holding) (rows : Rows) (list : Option ℕ) (tree : Option Report)
    (body law : Option Node) → list ≡ first_bad_list rows → tree ≡ tree_fault rows.read
    → body ≡ first_failing (has_sound_body rows.read) rows.read
    → law ≡ first_failing (is_lawful holding rows.read) rows.read
    → outcome rows.read list tree body law ≡ report_by holding rows
parts holding rows list tree body law lists trees bodies laws =
    λ i. outcome rows.read (lists i) (trees i) (bodies i) (laws i)

module _ (holding : Holding) (rows : Rows) (nodes : List Node) (are : nodes ≡ rows.read.nodes)
    (lists : first_bad_list rows ≡ None) where
  tree_is : (found : Option Report) → found ≡ tree_fault (only nodes) → found ≡ tree_fault rows.read
  tree_is found is = is ∙ ap (λ ns. tree_fault (only ns)) are ∙ tree_same rows.read

  body_is : (found : Option Node) → found ≡ find (λ node. not (has_sound_body rows.read node)) nodes
      → found ≡ first_failing (has_sound_body rows.read) rows.read
  body_is found is = is ∙ ap (find (λ node. not (has_sound_body rows.read node))) are

  law_is : (found : Option Node)
      → found ≡ first_failing (is_lawful holding (only nodes)) (only nodes)
      → found ≡ first_failing (is_lawful holding rows.read) rows.read
  law_is found is = grind (arith, nat_tests, law_same)

  path_is : (node : Node) → true_path (only nodes) node ≡ true_path rows.read node
  path_is node = ap (λ ns. true_path (only ns) node) are ∙ path_same rows.read node

  pub by_tree : (report : Report) → Some report ≡ tree_fault (only nodes)
      → report ≡ report_by holding rows
  by_tree report tree =
      parts holding rows None (Some report) _ _ (sym lists) (tree_is _ tree) refl refl

  module _ (tree : None ≡ tree_fault (only nodes)) where
    pub by_body : (node : Node) → Some node ≡ find (λ n. not (has_sound_body rows.read n)) nodes
        → Fault (true_path (only nodes) node) BadBody ≡ report_by holding rows
    by_body node body =
        cc (
          path_is node,
          parts holding rows None None (Some node) _ (sym lists) (tree_is _ tree) (body_is _ body)
              refl,
        )

    module _ (body : None ≡ find (λ n. not (has_sound_body rows.read n)) nodes) where
      pub by_law : (node : Node)
          → Some node ≡ first_failing (is_lawful holding (only nodes)) (only nodes)
          → Fault (true_path (only nodes) node) BrokenLaw ≡ report_by holding rows
      by_law node law =
          cc (
            path_is node,
            parts holding rows None None None (Some node) (sym lists) (tree_is _ tree)
                (body_is _ body) (law_is _ law),
          )

      pub by_none : None ≡ first_failing (is_lawful holding (only nodes)) (only nodes)
          → Sound ≡ report_by holding rows
      by_none law =
          parts holding rows None None None None (sym lists) (tree_is _ tree) (body_is _ body)
          (law_is _ law)
