use Rattle.{
  column_core.proofs.cells.Common.{◌∙◌, ap, Some},
  std.specs.Int.{from_bool},
  column_operators.proofs.VectorLaws.{both_lane, either_lane, number_again, number_passes},
}
use Rattle.column_operators.proofs.vectors.ByNumberVectorOrderI64.passing.Goals as goal

pub returns : goal.returns
returns c = λ k m n below m_is n_is.
    let x = number_again _ k m m_is in
    let y = number_again _ k n n_is in
    let less = both_lane _ _ k _ _ (c.are_less.ensures k m n below x y) (c.splat.ensures k below) in
    let equal = both_lane _ _ k _ _ (c.are_equal.ensures k m n below x y) (c.splat-2.ensures k below) in
    let greater = both_lane _ _ k _ _ (c.are_less-2.ensures k n m below y x) (c.splat-3.ensures k below) in
    either_lane _ _ k _ _ (either_lane _ _ k _ _ less equal) greater ∙ ap (λ b. Some (from_bool b)) (number_passes c.args.relation m n)
