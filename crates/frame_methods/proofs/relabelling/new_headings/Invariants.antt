use Rattle.{
  frame_parts.proofs.Common.{◌≡◌, map, take},
  frame_methods.specs.Renames.{heading_by},
}
use Rattle.frame_methods.proofs.relabelling.new_headings.Given as goal

-- the headings of the columns so far
abbrev pub invariant-loop-place : goal.invariant-loop-place
invariant-loop-place l = l.made.items ≡ map (heading_by l.labels.entries) (take l.place l.on.headings)
