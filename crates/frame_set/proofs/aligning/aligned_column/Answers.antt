use Rattle.{
  frame_parts.proofs.Common.{arith, ◌≡◌, ◌∙◌, length, true, ap, Ok, All, length-map, IsPlaceOf, same_tuples, table_value, labels_value},
  frame_select.proofs.AnswerLaws.{column_seen as first_column},
  frame_set.proofs.{PutCases.{column_is_given, has_column, own_cells, series_column, taken_column}, AlignLaws.{own_column, taken_given}},
}
use Rattle.frame_set.proofs.aligning.aligned_column.Goals as goal

pub returns-then-same_rows-clause-column : goal.returns-then-same_rows-clause-column
returns-then-same_rows-clause-column c =
    let texts = c.args.dict.now in
    let s = c.args.series.now in
    let same : same_tuples (labels_value texts c.args.labels.now.tuples) (labels_value texts s.labels) ≡ true = grind arith in
    own_column _ _ (table_value texts s) same (search (first_column, length-map, own_cells))
    ∙ ap Ok (series_column _ s _ _ c.column.ensures.column c.in_ok-to_column.ensures)

pub returns-then-same_rows-clause-given : goal.returns-then-same_rows-clause-given
returns-then-same_rows-clause-given c =
    let s = c.args.series.now in
    column_is_given _ s 0 _ _ c.requires.series.given (has_column s c.requires.series.whole c.requires.single) c.column.ensures.column c.in_ok-to_column.ensures

pub returns-clause-column : goal.returns-clause-column
returns-clause-column c =
    grind (arith, c.in_ok-rows.ensures.rows, taken_column c.args.dict.now c.args.series.now c.in_ok-rows.rows c.column-2.result c.in_ok-take.field-0 c.column-2.ensures.column c.in_ok-take.ensures.kind c.in_ok-take.ensures.cells)

pub returns-clause-given : goal.returns-clause-given
returns-clause-given c =
    let below : All (IsPlaceOf (length c.column-2.result.cells)) c.in_ok-rows.rows = grind arith in
    rw c.in_ok-take.ensures.cells (taken_given _ _ _
    (search (column_is_given, has_column)) below)
