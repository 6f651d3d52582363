use Rattle.{
  frame_parts.proofs.Common.{◌≡◌, length, arith, [], ◌++◌, err_from_is_err_and, cells_given, refused_on},
  frame_make.proofs.FrameLaws.{axis_count, series_made, series_is},
}
use Rattle.frame_make.proofs.series.series_of.Goals as goal

pub cast_to-requires : goal.cast_to-requires
cast_to-requires c = cells_given _ _ (λ more. grind (arith, c.in_ok-listed.ensures (c.args.dict.now ++ more), c.in_ok-listed.ensures c.args.dict.now, c.requires.values more))

pub returns-in_err-axis-clause-answer : goal.returns-in_err-axis-clause-answer
returns-in_err-axis-clause-answer c =
    let p = err_from_is_err_and c.from_residual-in_err-axis.result c.from_residual-in_err-axis.ensures.1 in
    rw (p.1, p.2, series_is _ c.args.values.now _ c.args.name _ _ c.in_ok-column.column c.len.result (c.in_ok-listed.ensures _) c.requires.index _ c.in_ok-column.ensures.longer c.in_ok-column.ensures.answer (grind arith)) (grind (arith, refused_on, c.in_err-axis.ensures.labels))

pub series_table-requires : goal.series_table-requires
series_table-requires c = grind (arith, axis_count, c.in_ok-axis.ensures.labels [])

pub returns-clause-answer : goal.returns-clause-answer
returns-clause-answer c =
    let count : c.len.result ≡ length c.in_ok-column.column.cells = grind arith in
    series_made _ c.args.values.now _ _ _ _ _ _ (c.in_ok-listed.ensures _) c.requires.index _ _ c.in_ok-axis.ensures c.requires.name c.in_ok-series_table.ensures _ c.in_ok-column.ensures count
