use Rattle.frame_parts.proofs.Common.{◌≡◌, nat_eq, length, drop, list_all}
use Rattle.frame_concat.proofs.names.have_same_levels.Given as goal

abbrev pub invariant-loop-other : goal.invariant-loop-other
invariant-loop-other l = list_all (λ t. nat_eq l.levels (length t.level_names)) (drop l.other-index l.others) ≡ list_all (λ t. nat_eq l.levels (length t.level_names)) l.others
