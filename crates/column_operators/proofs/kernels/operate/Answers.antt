use Rattle.column_core.{proofs.{cells.Common.{ap, sym, ◌∙◌, Ok}, CellRows.{made_column}, ColumnLaws.{given-plain}}, specs.Columns.{column_value}}
use Rattle.column_operators.proofs.kernels.operate.Goals as goal

pub returns-in-Ok-clause-answer : goal.returns-in-Ok-clause-answer
returns-in-Ok-clause-answer g c = λ texts.
    made_column _ _ _ _ _ _ _ _ _ c.in-Ok.ensures.rows c.in-Ok.ensures.count
    ∙ ap (λ col. Ok (column_value texts col)) (sym c.column.ensures)

pub returns-in-Ok-clause-given : goal.returns-in-Ok-clause-given
returns-in-Ok-clause-given g c = λ texts. given-plain _ _ _ _ _ _ (g.met.U.Plain.plain texts) c.column.ensures
