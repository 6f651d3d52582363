use Rattle.column_core.proofs.cells.Common.{◌≡◌, Some, map, take}
use Rattle.factorize.proofs.factor.groups_by_number.Given as goal

-- the groups so far
abbrev pub invariant-loop-code : goal.invariant-loop-code
invariant-loop-code l = l.groups.items ≡ map Some (take l.code-index l.codes)
