use Rattle.{
  column_core.proofs.{cells.Common.{subst, Result, ColumnValue, ColumnFault}, CellRows.{total_column}},
  nullable_array.specs.Answers.{Answers},
  column_operators.proofs.Laws.{not_law, not_some},
}
use Rattle.column_operators.proofs.kernels.inverted.Goals as goal

pub returns : goal.returns
returns g c = λ texts.
    subst (λ (w : Result ColumnValue ColumnFault). Answers texts c.operate.result w)
    (total_column _ _ _ _ _ _ _ _ _ (λ k. not_some _) (λ k. not_law _ ((g.A.Source.row_of c.args.a.now) k)))
    (c.operate.ensures.answer texts)
