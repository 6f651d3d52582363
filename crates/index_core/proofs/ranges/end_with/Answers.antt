use Rattle.{
  meaning_pick.proofs.cells.Common.{arith, to_z-of_z},
  index_core.proofs.NumberLaws.{left_number, left_below},
}
use Rattle.index_core.proofs.ranges.end_with.Goals as goal

pub returns-then-number-lt0 : goal.returns-then-number-lt0
returns-then-number-lt0 c =
    let fits = c.ranges.number in
    λ texts. left_below _ _ _ (simp to_z-of_z at c.if-number-lt0.true)

pub returns : goal.returns
returns c =
    let fits = c.ranges.number in
    λ texts. left_number _ _ _ _ _ (simp to_z-of_z at c.if-number-lt0.false) (grind (arith, to_z-of_z)) c.min.ensures
