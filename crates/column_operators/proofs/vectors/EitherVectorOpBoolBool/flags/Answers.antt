use Rattle.{
  column_core.proofs.cells.Common.{◌≡◌, ◌∙◌, ap, arith, Bool, ◌&&◌, ◌||◌, Some},
  std.specs.Int.{from_bool},
  column_operators.{specs.Pairs.{or_flag}, proofs.VectorLaws.{both_lane, either_lane}},
}
use Rattle.column_operators.proofs.vectors.EitherVectorOpBoolBool.flags.Goals as goal

law : (x p y q : Bool) → ((p && q) || (p && x)) || (q && y) ≡ or_flag x p y q
law = grind arith

pub returns : goal.returns
returns c = λ k m n s t below x p y q.
    either_lane _ _ k _ _ (either_lane _ _ k _ _ (both_lane _ _ k s t p q) (both_lane _ _ k s m p x)) (both_lane _ _ k t n q y) ∙ ap (λ b. Some (from_bool b)) (law m s n t)
