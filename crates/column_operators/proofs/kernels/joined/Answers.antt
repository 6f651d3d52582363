use Rattle.{
  column_core.proofs.{cells.Common.{ap, sym, ◌∙◌, Ok}, CellRows.{pairs_column}},
  cell_core.specs.declared.cell.Kind.TheVariants.{Text as string},
  column_operators.{specs.Tasks.{task_cell}, proofs.Laws.{join_law}},
}
use Rattle.column_operators.specs.declared.ops.Task.TheVariants as task
use Rattle.column_operators.proofs.kernels.joined.Goals as goal

pub returns-clause-answer : goal.returns-clause-answer
returns-clause-answer g c =
    let texts = c.args.dict.now in
    pairs_column texts string (task_cell task.Sum) _ _ _ _ _ c.requires.same (λ k. join_law texts ((g.A.Source.row_of _) k) ((g.B.Source.row_of c.args.b.now) k))
    ∙ ap Ok (sym c.in_ok-text_column.ensures.cells)
