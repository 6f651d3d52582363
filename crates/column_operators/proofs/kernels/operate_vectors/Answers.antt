use Rattle.column_core.{proofs.{cells.Common.{ap, sym, ◌∙◌, Ok}, CellRows.{made_column}, ColumnLaws.{given-plain}, RowsMade.{rows_written}}, specs.Columns.{column_value}}
use Rattle.column_operators.proofs.kernels.operate_vectors.Goals as goal

pub returns-clause-answer : goal.returns-clause-answer
returns-clause-answer g c = λ texts.
    made_column _ _ _ _ _ _ _ _ _ (rows_written _ _ _ _ c.in_ok-rows.ensures.rows) c.in_ok-rows.ensures.count
    ∙ ap (λ col. Ok (column_value texts col)) (sym c.column.ensures)

pub returns-clause-given : goal.returns-clause-given
returns-clause-given g c = λ texts. given-plain _ _ _ _ _ _ (g.met.U.Plain.plain texts) c.column.ensures
