use Rattle.{
  column_core.proofs.cells.Common.{◌≡◌, ◌+◌, ◌-◌, arith},
  nullable_array.proofs.FoldLaws.{folded_more, folded_stays, changed},
}
use Rattle.nullable_array.proofs.folds.fold_until.Goals as goal

pub returns-then-so_far-start : goal.returns-then-so_far-start
returns-then-so_far-start g c =
    let rest : c.loop-row.row + 1 + (g.A.Source.count_of c.args.a.now - (c.loop-row.row + 1)) ≡ g.A.Source.count_of c.args.a.now = omega arith in
    grind (arith, folded_more, changed, folded_stays)
