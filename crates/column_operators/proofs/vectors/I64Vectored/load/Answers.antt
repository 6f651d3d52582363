use Rattle.{
  column_core.proofs.cells.Common.{◌∙◌, ◌+◌, ℕ, ℤ, pos, arith},
  std.{proofs.{Common.{length-set, rules, SFits, w64}, lemmas.{Option.{slice_get-get_or}, Int.{to_z-of_z}}}, specs.Prelude.{slice_index_or}},
  column_operators.proofs.VectorLaws.{lane_set, next_too, number_back},
}
use Rattle.column_operators.proofs.vectors.I64Vectored.load.Goals as goal

pub loop-lane-preserved : goal.loop-lane-preserved
loop-lane-preserved c =
    let before = c.loop-lane.invariant in
    let number : ℕ → ℤ = λ k. slice_index_or c.args.values.now (c.args.from + k) (pos 0) in
    let fits : SFits w64 (slice_index_or c.args.values.now (c.args.from + c.loop-lane.lane) (pos 0)) = search rules in
    record {
      many = length-set c.loop-lane.lanes c.loop-lane.lane _ ∙ before.many;
      so_far = λ k below. (
        lane_set number _ _ _ (omega (arith, before.many)) (to_z-of_z w64 _ fits) (λ j lt. (before.so_far j lt).0) k below,
        next_too (λ j. SFits w64 (number j)) c.loop-lane.lane (λ j lt. (before.so_far j lt).1) fits k below,
      );
    }

pub returns : goal.returns
returns c = λ k below.
    let lane = c.loop-lane.invariant.so_far k (omega (arith, c.loop-lane-test.false)) in
    (slice_index_or c.args.values.now (c.args.from + k) (pos 0), slice_get-get_or c.args.values.now (c.args.from + k) (pos 0) (omega arith), (number_back _ k _ lane, lane.1))
