use Rattle.meaning_format.{proofs.cells.Common.{◌≡◌, ◌++◌}, specs.Print.{spaces}}
use Rattle.frame_format.proofs.fields.push_spaces.Given as goal

abbrev pub invariant-loop : goal.invariant-loop
invariant-loop l = l.out ≡ l.fn.out ++ spaces l.counter
