use Rattle.column_operators.proofs.VectorLaws.{both_lane}
use Rattle.column_operators.proofs.vectors.BothVectorOpBoolBool.values.Goals as goal

pub returns : goal.returns
returns c = λ s t k m n below x y. both_lane _ _ k m n x y
