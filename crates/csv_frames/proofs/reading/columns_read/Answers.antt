use Rattle.{
  column_core.proofs.cells.Common.{arith, ◌∙◌},
  csv_frames.proofs.ColumnLaws.{columns_settled, columns_right, again_grown, again_kept, again_same},
}
use Rattle.csv_frames.proofs.reading.columns_read.Goals as goal

pub columns_of-requires-2 : goal.columns_of-requires-2
columns_of-requires-2 c =
    again_kept _ _ _ _ c.requires.grown _ _ (grind arith) _ c.requires.within c.in_ok-again.ensures.grown

pub returns-clause-settled : goal.returns-clause-settled
returns-clause-settled c =
    columns_settled _ _ _ _ (again_grown _ _ _ _ c.requires.grown _ _ (grind arith) _ c.requires.within c.in_ok-again.ensures.grown) _ c.requires.rows _ c.in_ok-columns_of-2.ensures

pub returns-clause-read : goal.returns-clause-read
returns-clause-read c =
    let found = c.as_slice-2.ensures.value ∙ c.in_ok-found.ensures in
    columns_right _ _ _ _ (again_grown _ _ _ _ c.requires.grown _ _ found _ c.requires.within c.in_ok-again.ensures.grown) _ c.requires.rows _ c.in_ok-columns_of-2.ensures (again_kept _ _ _ _ c.requires.grown _ _ found _ c.requires.within c.in_ok-again.ensures.grown)
    ∙ again_same _ _ _ _ c.requires.grown _ _ found _ c.requires.within c.in_ok-again.ensures.grown
