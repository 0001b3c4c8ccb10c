use Rattle.std.proofs.Common.{◌≡◌, ◌∙◌, ◌++◌, ◌∷◌, [], ℕ, List, true, false, ap, arith, length}
use Rattle.std.proofs.{Common.{refl, sym, take, lit<}, lemmas.Bool.and_from}
use Rattle.std.proofs.lemmas.Iterator.Consumers.{YieldsList-turn, YieldsList-end}
use Rattle.std.proofs.lemmas.{Iterator.Splits.YieldsList-from_str_split, List.length_push}
use Rattle.std.proofs.lemmas.List.{take_all, take_more, Folds.{list_all-append, list_all_at}}
use Rattle.std.specs.List.{list_all}
use Rattle.room_entry.specs.Pieces.{pieces}
use Rattle.room_rows.specs.Paths.{is_object_name}
use Rattle.room_rows.proofs.Cutting.{bad_name, good_names, read_is_path}
use Rattle.room_rows.proofs.path.read_rest.Goals as goal

pub returns-then-not-is_object_name : goal.returns-then-not-is_object_name
returns-then-not-is_object_name c =
    let name = c.in-Some.name.now in
    let turn = YieldsList-turn
    (YieldsList-from_str_split 47 c.args.rest.now (lit< tt) (cc) (cc) (cc)) c.names.yielded _
    c.names.yielded_by _ _ c.in-Some.name c.in-Some.is c.next.ensures.steps in
    let bad : is_object_name name ≡ false = sym c.if-not-is_object_name.ensures in
    grind (arith, bad_name, list_all_at, c.names.yielded, name, turn.0, turn.1, bad)

pub names-preserved : goal.names-preserved
names-preserved c =
    let all = pieces 47 c.args.rest.now in
    let name = c.in-Some.name.now in
    let before = c.names.names.items in
    let count = length c.names.yielded in
    let turn = YieldsList-turn
    (YieldsList-from_str_split 47 c.args.rest.now (lit< tt) (cc) (cc) (cc)) c.names.yielded _
    c.names.yielded_by _ _ c.in-Some.name c.in-Some.is c.next.ensures.steps in
    let good : is_object_name name ≡ true = sym c.if-not-is_object_name.ensures in
    record {
      first = c.in_ok-push_name.ensures
          ∙ ap (λ (l : List (List ℕ)). l ++ name ∷ []) c.names.invariant.first
          ∙ ap (λ (x : List ℕ). take count all ++ x ∷ []) turn.1
          ∙ sym (take_more all count name turn.0)
          ∙ ap (λ (n : ℕ). take n all) (sym (length_push c.names.yielded c.in-Some.name));
      good = ap (list_all is_object_name) c.in_ok-push_name.ensures
          ∙ list_all-append is_object_name before (name ∷ [])
          ∙ and_from (list_all is_object_name before)
          (list_all is_object_name (name ∷ [])) c.names.invariant.good
          (and_from (is_object_name name) true good refl);
    }

pub invariant_of-result : goal.invariant_of-result
invariant_of-result c =
    let all = pieces 47 c.args.rest.now in
    let end = YieldsList-end
    (YieldsList-from_str_split 47 c.args.rest.now (lit< tt) (cc) (cc) (cc)) c.names.yielded _
    c.names.yielded_by _ _ c.in-None.is c.next.ensures.steps in
    let cut : c.names.names.items ≡ all = c.names.invariant.first
    ∙ take_all (length c.names.yielded) all (omega (arith, end.1)) in
    read_is_path c.args.rest.now c.names.names.items c.requires cut c.names.invariant.good

pub returns : goal.returns
returns c =
    let all = pieces 47 c.args.rest.now in
    let end = YieldsList-end
    (YieldsList-from_str_split 47 c.args.rest.now (lit< tt) (cc) (cc) (cc)) c.names.yielded _
    c.names.yielded_by _ _ c.in-None.is c.next.ensures.steps in
    let cut : c.names.names.items ≡ all = c.names.invariant.first
    ∙ take_all (length c.names.yielded) all (omega (arith, end.1)) in
    grind (arith, good_names, cut, c.names.invariant.good)
