use Rattle.{
  frame_parts.proofs.Common.{◌≡◌, drop},
  row_keys.specs.Keys.{same_tuple},
  frame_ops.specs.Fitting.{firsts_fit},
}
use Rattle.frame_ops.proofs.fitting.firsts_fit.Given as goal

-- the columns so far fit
abbrev pub invariant-loop-place : goal.invariant-loop-place
invariant-loop-place l =
    firsts_fit same_tuple (drop l.place l.keys) (drop l.place l.own.columns) l.others l.other.columns ≡ firsts_fit same_tuple l.keys l.own.columns l.others l.other.columns
