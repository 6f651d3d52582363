use Rattle.{
  column_core.proofs.cells.Common.{◌∙◌, ◌+◌, false, refl, arith},
  std.{proofs.{Common.{length-set}, lemmas.Option.{slice_get-get_or}}, specs.{Prelude.{slice_index_or}, Int.{from_bool}}},
  column_operators.proofs.VectorLaws.{lane_set},
}
use Rattle.column_operators.proofs.vectors.BoolVectored.load.Goals as goal

pub loop-lane-preserved : goal.loop-lane-preserved
loop-lane-preserved c =
    let before = c.loop-lane.invariant in
    record {
      many = length-set c.loop-lane.lanes c.loop-lane.lane _ ∙ before.many;
      so_far = lane_set (λ k. from_bool (slice_index_or c.args.values.now (c.args.from + k) false)) _ _ _ (omega (arith, before.many)) refl before.so_far;
    }

pub returns : goal.returns
returns c = λ k below. (
  slice_index_or c.args.values.now (c.args.from + k) false,
  slice_get-get_or c.args.values.now (c.args.from + k) false (omega arith),
  c.loop-lane.invariant.so_far k (omega (arith, c.loop-lane-test.false)),
)
