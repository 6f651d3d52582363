use Rattle.{
  column_core.proofs.cells.Common.{◌≡◌, ◌+◌, ap, arith, Some, None, is_some},
  nullable_array.{specs.Folds.{folded, running_row}, proofs.{FoldLaws.{folded_more}, PairRows.{row_pushed}}},
}
use Rattle.nullable_array.proofs.cumulations.running_rows.Goals as goal

pub loop-row-preserved : goal.loop-row-preserved
loop-row-preserved g c =
    let step = g.F.Fold.step_of c.args.fold.now in
    let row = g.A.Source.row_of c.args.a.now in
    let so_far = c.loop-row.invariant in
    let more : c.next-so_far.result ≡ folded step None (c.loop-row.row + 1) row = grind (arith, folded_more) in
    let value : running_row step row c.loop-row.row ≡ c.kept-value.result = cc (c.kept-value.ensures, c.is_some-is_present.ensures, c.get-x.ensures) in
    record {
      values = grind arith;
      present = grind arith;
      counted = grind arith;
      marked = grind arith;
      room = grind arith;
      places = grind arith;
      so_far = more;
      written = rw (c.push_reserved.ensures.items, c.push_reserved-in-loop-row.ensures.items, c.unwrap_or.ensures, c.is_some.ensures) (row_pushed _ _ _ _ _ _ so_far.written so_far.values so_far.present (ap Some value));
    }
