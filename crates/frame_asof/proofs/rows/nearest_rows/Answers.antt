use Rattle.{
  std.proofs.lemmas.List.{nil_from_length},
  frame_parts.proofs.Common.{◌≡◌, ◌≤◌, ◌∙◌, ap, arith, nat_tests, sym, subst, length},
  column_core.specs.Views.{borrowed_column},
  factorize.specs.row_keys.Keys.{same_tuple},
  meaning_nearest.specs.asof.AsOf.{asof_merged},
  asof_merge.specs.Answers.{MatchesBy},
  frame_merge.proofs.RowLaws.{both_fit},
  frame_asof.proofs.RowLaws.{rows_alone, rows_beside, few_labels, others_alike, keys_count},
}
use Rattle.frame_asof.proofs.rows.nearest_rows.Goals as goal

pub returns-then-is_empty : goal.returns-then-is_empty
returns-then-is_empty c =
    λ texts.
    let none : length c.args.left_by.now ≡ 0 = grind (arith, nat_tests) in
    let none_right : length c.args.right_by.now ≡ 0 = omega (arith, none, c.requires.same) in
    let left = rows_alone texts c.args.left.now c.args.left_by.now _ _ (nil_from_length _ none) (ap borrowed_column (sym c.in-Ints.is) ∙ c.left.view_is) in
    let right = rows_alone texts c.args.right.now c.args.right_by.now _ _ (nil_from_length _ none_right) (ap borrowed_column (sym c.in-Ints-lanes.is) ∙ c.right.view_is) in
    subst (MatchesBy c.asof_rows_ungrouped.result) (λ i. asof_merged same_tuple c.args.asof.now.direction c.args.asof.now.tolerance (sym left i) (sym right i)) c.asof_rows_ungrouped.ensures

pub of-of_left-requires-clause-alike : goal.of-of_left-requires-clause-alike
of-of_left-requires-clause-alike c = others_alike c.args.left.now _ _ _ (ap borrowed_column (sym c.in-Ints.is) ∙ c.left.view_is) c.requires.left

pub of-of_right-requires-clause-alike : goal.of-of_right-requires-clause-alike
of-of_right-requires-clause-alike c = others_alike c.args.right.now _ _ _ (ap borrowed_column (sym c.in-Ints-lanes.is) ∙ c.right.view_is) c.requires.right

pub of-left_by-requires : goal.of-left_by-requires
of-left_by-requires c =
    let few : length c.of-of_left.result.columns.now ≤ 4 = omega (arith, c.requires.few, ap length c.of-of_left.ensures.columns) in
    few_labels _ _ few

pub of-right_by-requires : goal.of-right_by-requires
of-right_by-requires c =
    let few : length c.of-of_right.result.columns.now ≤ 4 = omega (arith, c.requires.few, c.requires.same, ap length c.of-of_right.ensures.columns) in
    few_labels _ _ few

pub asof_rows-requires-clause-left : goal.asof_rows-requires-clause-left
asof_rows-requires-clause-left c = keys_count _ _ _ (cc (c.of-left_by.ensures, c.of-of_left.ensures.count))

pub asof_rows-requires-clause-alike : goal.asof_rows-requires-clause-alike
asof_rows-requires-clause-alike c =
    (both_fit c.of-left_by.result.rows.now.columns.now c.of-right_by.result.rows.now.columns.now c.of-left_by.result.rows.now.count c.of-right_by.result.rows.now.count (length c.args.left_by.now)
    (cc (c.of-left_by.ensures, c.of-of_left.ensures.columns)) (cc (c.of-right_by.ensures, c.of-of_right.ensures.columns, c.requires.same)) c.requires.few).0

pub returns : goal.returns
returns c =
    λ texts.
    let left =
    rows_beside texts c.args.left.now c.args.left_by.now c.of-left_by.result.rows.now.columns.now c.of-left_by.result.rows.now.count _ _
    (cc (c.of-left_by.ensures, c.of-of_left.ensures.columns)) (cc (c.of-left_by.ensures, c.of-of_left.ensures.count)) (ap borrowed_column (sym c.in-Ints.is) ∙ c.left.view_is) in
    let right =
    rows_beside texts c.args.right.now c.args.right_by.now c.of-right_by.result.rows.now.columns.now c.of-right_by.result.rows.now.count _ _
    (cc (c.of-right_by.ensures, c.of-of_right.ensures.columns)) (cc (c.of-right_by.ensures, c.of-of_right.ensures.count)) (ap borrowed_column (sym c.in-Ints-lanes.is) ∙ c.right.view_is) in
    subst (MatchesBy c.asof_rows.result) (λ i. asof_merged same_tuple c.args.asof.now.direction c.args.asof.now.tolerance (sym left i) (sym right i)) c.asof_rows.ensures
