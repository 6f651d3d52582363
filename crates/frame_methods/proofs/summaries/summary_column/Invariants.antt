use Rattle.frame_methods.specs.Summaries.{summary_value, AreCells}
use Rattle.frame_labels.specs.method.Methods as meant
use Rattle.frame_methods.proofs.summaries.summary_column.Given as goal

-- the cells of the columns so far
abbrev pub invariant-loop-place : goal.invariant-loop-place
invariant-loop-place l = AreCells (meant.summary_as (summary_value l.op) l.kind) l.dict l.on.columns l.kind l.place l.made
