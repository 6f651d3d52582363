use Rattle.column_operators.proofs.VectorLaws.{either_lane}
use Rattle.column_operators.proofs.vectors.EitherVectorOpBoolBool.values.Goals as goal

pub returns : goal.returns
returns c = λ s t k m n below x y. either_lane _ _ k m n x y
