use Rattle.nullable_array.proofs.FoldLaws.{folded_more}
use Rattle.nullable_array.proofs.folds.fold_rows.Goals as goal

pub loop-row-preserved : goal.loop-row-preserved
loop-row-preserved g c =
    cc (c.next-so_far.ensures, c.get.ensures, c.loop-row.invariant, folded_more (g.F.Fold.step_of c.args.fold.now) c.args.start c.loop-row.row (g.A.Source.row_of c.args.a.now))
