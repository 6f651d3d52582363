use Rattle.{
  column_core.proofs.cells.Common.{◌∙◌, ap, Some},
  std.specs.Int.{from_bool},
  column_operators.proofs.VectorLaws.{both_lane, either_lane, one_lane, except_lane, without_lane, truth_passes},
}
use Rattle.column_operators.proofs.vectors.ByTruthVectorOrderBool.passing.Goals as goal

pub returns : goal.returns
returns c = λ k m n below x y.
    let less = both_lane _ _ k _ _ (without_lane _ _ k m n x y) (c.splat.ensures k below) in
    let equal = without_lane _ _ k _ _ (one_lane _ _ k m n x y) (c.splat-2.ensures k below) in
    let greater = both_lane _ _ k _ _ (except_lane _ _ k m n x y) (c.splat-3.ensures k below) in
    either_lane _ _ k _ _ (either_lane _ _ k _ _ less equal) greater ∙ ap (λ b. Some (from_bool b)) (truth_passes c.args.relation m n)
