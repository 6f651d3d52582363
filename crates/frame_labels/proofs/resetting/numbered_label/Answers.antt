use Rattle.{
  frame_parts.proofs.Common.{arith},
  std.specs.Fmt.{digits},
}
use Rattle.frame_labels.proofs.resetting.numbered_label.Goals as goal

pub returns-in-0 : goal.returns-in-0
unfolding digits
returns-in-0 = grind arith

pub returns-in-1 : goal.returns-in-1
unfolding digits
returns-in-1 = grind arith

pub returns-in-2 : goal.returns-in-2
unfolding digits
returns-in-2 = grind arith

pub returns-in_default : goal.returns-in_default
unfolding digits
returns-in_default = grind arith
