use Rattle.column_operators.proofs.VectorLaws.{one_lane}
use Rattle.column_operators.proofs.vectors.OneOfVectorOpBoolBool.values.Goals as goal

pub returns : goal.returns
returns c = λ s t k m n below x y. one_lane _ _ k m n x y
