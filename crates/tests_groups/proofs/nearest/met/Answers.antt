use Rattle.tests_groups.proofs.JoinLaws.{both_alike}
use Rattle.tests_groups.proofs.nearest.met.Goals as goal

pub asof_pairs-requires-clause-alike : goal.asof_pairs-requires-clause-alike
asof_pairs-requires-clause-alike c = both_alike _ _ c.in_ok-left_by.ensures.levels c.in_ok-right_by.ensures.levels
