use Rattle.{
  frame_parts.proofs.Common.{◌≡◌, ◌∙◌, ap, arith, length},
  multi_index.specs.Axes.{with_name},
  frame_reshape.proofs.StackLaws.{stacked_levels, axis_made},
}
use Rattle.frame_reshape.proofs.stacking.stacked_axis.Goals as goal

pub from_tuples-requires-clause-alike : goal.from_tuples-requires-clause-alike
from_tuples-requires-clause-alike c = rw c.in_ok-tuples.ensures (stacked_levels c.args.on.now c.levels-levels.result (rw c.axis.ensures at c.levels-levels.ensures.alike))

pub returns : goal.returns
returns c =
    let end : c.loop-level.level ≡ c.levels-levels.result = omega arith in
    axis_made c.loop-level.axis _ c.args.on.now c.loop-level.invariant.size c.levels-levels.result (c.levels-levels.ensures.count ∙ ap (λ a. length a.names) c.axis.ensures)
    (c.set_name-2.ensures ∙ ap (with_name c.loop-level.axis c.levels-levels.result) c.columns_name.ensures) c.loop-level.invariant.tuples (rw end at c.loop-level.invariant.names)
