use Rattle.{
  column_core.proofs.cells.Common.{of_z, to_z, arith, rules, FitsSigned, unwrap_or},
  std.{proofs.Math.Facts.{to_z-of_z}, specs.Int.{w64}},
  nullable_array.proofs.ExtremeLaws.{last_more},
}
use Rattle.nullable_array.proofs.extremes.last_or.Goals as goal

pub loop-row-preserved : goal.loop-row-preserved
loop-row-preserved g c =
    let a = c.args.a.now in
    let row = c.loop-row.row in
    let x = c.value.result in
    let best_fits : FitsSigned w64 c.loop-row.best = search rules in
    let x_fits : FitsSigned w64 x = search rules in
    let blank_fits : FitsSigned w64 c.args.blank = search rules in
    let next_fits : FitsSigned w64 c.or_blank.result = search rules in
    let later_fits : FitsSigned w64 c.later-best.result = search rules in
    let more = last_more (g.K.Order.cmp _) c.args.blank (g.A.Source.row_of a) row c.loop-row.best _ x (grind (arith, unwrap_or, to_z-of_z)) (g.met.A.Side.row_at a row x c.value.ensures) (c.requires.first _ best_fits) (c.requires.alone x x_fits) in
    grind (arith, to_z-of_z, to_z, of_z, unwrap_or)
