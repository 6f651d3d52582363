use Rattle.{
  column_core.proofs.cells.Common.{arith},
  std.proofs.Math.Facts.{to_z-of_z},
  nullable_array.proofs.FoldLaws.{truths_reduced},
}
use Rattle.nullable_array.proofs.reductions.reduced_truths.Goals as goal

pub returns-in-Sum-clause-value : goal.returns-in-Sum-clause-value
returns-in-Sum-clause-value g c = λ texts. truths_reduced _ _ _ _ _ _ c.in-Sum.is (grind (arith, to_z-of_z))

pub returns-in-Min-clause-value : goal.returns-in-Min-clause-value
returns-in-Min-clause-value g c = λ texts. truths_reduced _ _ _ _ _ _ c.in-Min.is (grind (arith, to_z-of_z))

pub returns-in-Max-clause-value : goal.returns-in-Max-clause-value
returns-in-Max-clause-value g c = λ texts. truths_reduced _ _ _ _ _ _ c.in-Max.is (grind (arith, to_z-of_z))

pub returns-in-Any-clause-value : goal.returns-in-Any-clause-value
returns-in-Any-clause-value g c = λ texts. truths_reduced _ _ _ _ _ _ c.in-Any.is (grind (arith, to_z-of_z))

pub returns-in-All-clause-value : goal.returns-in-All-clause-value
returns-in-All-clause-value g c = λ texts. truths_reduced _ _ _ _ _ _ c.in-All.is (grind (arith, to_z-of_z))

pub returns-in-Count-clause-value : goal.returns-in-Count-clause-value
returns-in-Count-clause-value g c = λ texts. truths_reduced _ _ _ _ _ _ c.in-Count.is (grind (arith, to_z-of_z))
