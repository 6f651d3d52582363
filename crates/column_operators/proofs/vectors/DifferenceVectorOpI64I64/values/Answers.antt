use Rattle.std.proofs.lemmas.Int.{wrapping_sub_is}
use Rattle.std.specs.Int.{w64}
use Rattle.column_operators.proofs.VectorLaws.{wrapped}
use Rattle.column_operators.proofs.vectors.DifferenceVectorOpI64I64.values.Goals as goal

pub returns : goal.returns
returns c = λ s t k m n below x y. wrapped _ _ _ k m n _ x y (wrapping_sub_is w64 m n x.1 y.1)
