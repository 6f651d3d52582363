use Rattle.{
  column_core.proofs.cells.Common.{rules, ℕ, refl, replicate},
  std.{proofs.lemmas.Simd.{Each1-replicate}, specs.{Prelude.{nat_eq}, Int.{w64}}},
  column_operators.proofs.VectorLaws.{chosen, same_bits, Each1-sel_l},
}
use borrow.Rule.Simd.Lanes.{Asks1}
use borrow.Table.Row.{s_int}
use mir.Syntax.{cast, signed, unsigned, w8}
use Rattle.column_operators.proofs.vectors.are_equal.Goals as goal

pub overflow_cast-result : goal.overflow_cast-result
overflow_cast-result c =
    let fits : ℕ → Type 0 = Asks1 (cast signed unsigned w8) (s_int w64) in
    Each1-sel_l fits _ (replicate 16 1) (replicate 16 0) (Each1-replicate fits 16 1 (search rules)) (Each1-replicate fits 16 0 (search rules))

pub returns : goal.returns
returns c = λ k m n below x y. chosen _ nat_eq _ _ k m n _ refl refl below x y (same_bits m n x.1 y.1)
