use Rattle.column_operators.proofs.VectorLaws.{both_lane}
use Rattle.column_operators.proofs.vectors.CompareVectorOpBool.flags.Goals as goal

pub returns : goal.returns
returns g c = λ k m n s t below x p y q. both_lane _ _ k s t p q
