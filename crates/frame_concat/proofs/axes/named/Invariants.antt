use Rattle.{
  frame_parts.proofs.Common.{◌≡◌, ◌+◌, ◌++◌, take, length, IsSettled, headings_value},
  frame_concat.specs.{Parts.{parts_value}, Axes.{names_of_levels}},
}
use Rattle.frame_concat.proofs.axes.named.Given as goal

-- the names so far
abbrev pub invariant-loop-level : goal.invariant-loop-level
invariant-loop-level l =
    record {
      tuples : l.axis.tuples ≡ l.fn.axis.tuples;
      count : length l.axis.names ≡ length l.fn.axis.names;
      named : headings_value l.fn.dict (take (l.before + l.level) l.axis.names) ≡ take l.before (headings_value l.fn.dict l.fn.axis.names) ++ names_of_levels l.level (parts_value l.fn.dict l.parts);
      given : IsSettled headings_value l.fn.dict (take (l.before + l.level) l.axis.names);
    }
