use Rattle.{
  column_core.proofs.cells.Common.{◌≡◌, take},
  factorize.specs.Numbers.{recoded},
}
use Rattle.factorize.proofs.places.codes_by.Given as goal

-- the codes so far
abbrev pub invariant-loop-code : goal.invariant-loop-code
invariant-loop-code l = l.made.items ≡ recoded l.places (take l.code-index l.codes)
