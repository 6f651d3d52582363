use Rattle.{
  frame_parts.proofs.Common.{◌≡◌, map, take, All, axis_of},
  frame_concat.specs.Axes.{IsAlike},
}
use Rattle.frame_concat.proofs.axes.axes_of.Given as goal

abbrev pub invariant-loop-part : goal.invariant-loop-part
invariant-loop-part l = record {
  axes : map (λ axis. axis.now) l.axes.items ≡ map axis_of (take l.part-index l.parts);
  alike : All IsAlike l.axes.items;
}
