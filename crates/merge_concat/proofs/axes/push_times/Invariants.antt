use Rattle.column_core.proofs.cells.Common.{◌≡◌, ◌++◌, replicate}
use Rattle.merge_concat.proofs.axes.push_times.Given as goal

-- so many so far
abbrev pub invariant-loop : goal.invariant-loop
invariant-loop l = l.labels.items ≡ l.initial.labels.items ++ replicate l.counter l.label
