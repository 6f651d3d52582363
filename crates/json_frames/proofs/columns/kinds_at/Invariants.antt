use Rattle.{json_frames.specs.{Views.{values_seen}, Kinds.{KindsAt}}}
use Rattle.json_frames.proofs.columns.kinds_at.Given as goal

-- the kinds of the columns so far
abbrev pub invariant-loop-place : goal.invariant-loop-place
invariant-loop-place l = KindsAt l.kinds.items (values_seen l.rows) l.place
