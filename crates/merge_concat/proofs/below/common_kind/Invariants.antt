use Rattle.{
  column_core.proofs.cells.Common.{◌≡◌, take, true, list_all},
  meaning_join.specs.Concat.{same_kind},
}
use Rattle.merge_concat.proofs.below.common_kind.Given as goal

-- the columns so far have the kind of the first
abbrev pub invariant-loop-other : goal.invariant-loop-other
invariant-loop-other l = list_all (λ other. same_kind l.kind other.kind) (take l.other-index l.others) ≡ true
