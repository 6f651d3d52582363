use Rattle.{
  column_core.proofs.cells.Common.{rules, ℕ, refl, replicate},
  std.{proofs.lemmas.{Int.{to_z-of_z}, Simd.{Each1-replicate}}, specs.{Prelude.{int_lt}, Int.{w64, cast_signed}}},
  column_operators.proofs.VectorLaws.{chosen, Each1-sel_l},
}
use Rattle.std.proofs.Common.{ap₂}
use borrow.Rule.Simd.Lanes.{Asks1}
use borrow.Table.Row.{s_int}
use mir.Syntax.{cast, signed, unsigned, w8}
use Rattle.column_operators.proofs.vectors.are_less.Goals as goal

pub overflow_cast-result : goal.overflow_cast-result
overflow_cast-result c =
    let fits : ℕ → Type 0 = Asks1 (cast signed unsigned w8) (s_int w64) in
    Each1-sel_l fits _ (replicate 16 1) (replicate 16 0) (Each1-replicate fits 16 1 (search rules)) (Each1-replicate fits 16 0 (search rules))

pub returns : goal.returns
returns c = λ k m n below x y.
    chosen _ (λ p q. int_lt (cast_signed w64 p) (cast_signed w64 q)) _ _ k m n _ refl refl below x y (ap₂ int_lt (to_z-of_z w64 m x.1) (to_z-of_z w64 n y.1))
