use Rattle.{
  column_core.proofs.cells.Common.{◌≡◌, ℕ, ◌<◌, ◌≤◌, slice_index_or, None},
  factorize.specs.Numbers.{number_in},
}
use Rattle.factorize.proofs.places.recode.Given as goal

-- the numbers so far are recoded, and the others as they were
abbrev pub invariant-loop-code : goal.invariant-loop-code
invariant-loop-code l = record {
  made : (k : ℕ) → k < l.code-index → slice_index_or l.codes k 0 ≡ number_in (slice_index_or l.places (slice_index_or l.fn.codes k 0) None);
  rest : (k : ℕ) → l.code-index ≤ k → slice_index_or l.codes k 0 ≡ slice_index_or l.fn.codes k 0;
}
