use Rattle.{
  column_core.proofs.cells.Common.{arith},
  nullable_array.proofs.FoldLaws.{numbers_reduced},
}
use Rattle.nullable_array.proofs.reductions.reduced_side.Goals as goal

pub returns-in-Min-clause-value : goal.returns-in-Min-clause-value
returns-in-Min-clause-value g c = λ texts. numbers_reduced _ _ _ _ _ _ c.in-Min.is (grind arith)

pub returns-in-Max-clause-value : goal.returns-in-Max-clause-value
returns-in-Max-clause-value g c = λ texts. numbers_reduced _ _ _ _ _ _ c.in-Max.is (grind arith)
