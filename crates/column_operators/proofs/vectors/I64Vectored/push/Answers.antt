use Rattle.{
  column_core.proofs.cells.Common.{◌≡◌, ◌∙◌, map, length, arith},
  std.{proofs.{Common.{rules}, lemmas.List.{length-map}}, specs.Int.{w64, cast_signed, cast_unsigned}},
  column_operators.{specs.Vectors.{IsNumber}, proofs.VectorLaws.{are_pushed, number_back}},
}
use Rattle.column_operators.proofs.vectors.I64Vectored.push.Goals as goal

pub returns : goal.returns
returns c =
    let so_far = c.loop-lane.invariant in
    let long : length c.args.vector ≡ 16 = search rules in
    are_pushed (IsNumber c.args.vector) _ _ (map (cast_signed w64) (map (cast_unsigned w64) c.args.vector)) c.loop-lane.lane
    (length-map (map (cast_unsigned w64) c.args.vector) (cast_signed w64) ∙ length-map c.args.vector (cast_unsigned w64) ∙ long)
    (omega (arith, c.loop-lane-test.false)) so_far.pushed so_far.counted so_far.room (number_back c.args.vector)
