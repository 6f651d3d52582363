use Rattle.{
  column_core.proofs.cells.Common.{arith, refl},
  std.proofs.Math.Facts.{to_z-of_z},
  nullable_array.proofs.FoldLaws.{texts_reduced, rows_keep},
}
use Rattle.nullable_array.proofs.reductions.reduce_texts.Goals as goal

pub returns-in-Min-clause-answer : goal.returns-in-Min-clause-answer
returns-in-Min-clause-answer c = texts_reduced _ _ _ _ _ _ c.in-Min.is (grind (arith, to_z-of_z)) refl

pub returns-in-Max-clause-answer : goal.returns-in-Max-clause-answer
returns-in-Max-clause-answer c = texts_reduced _ _ _ _ _ _ c.in-Max.is (grind (arith, to_z-of_z)) refl

pub returns-in-Count-clause-answer : goal.returns-in-Count-clause-answer
returns-in-Count-clause-answer c = texts_reduced _ _ _ _ _ _ c.in-Count.is (grind (arith, to_z-of_z)) refl

pub returns-in-Min-clause-given : goal.returns-in-Min-clause-given
returns-in-Min-clause-given c = rows_keep _ _ _ _ _ _ c.requires c.cell_of_text.ensures c.fold_rows.ensures (grind arith)

pub returns-in-Max-clause-given : goal.returns-in-Max-clause-given
returns-in-Max-clause-given c = rows_keep _ _ _ _ _ _ c.requires c.cell_of_text-in-Max.ensures c.fold_rows-in-Max.ensures (grind arith)
