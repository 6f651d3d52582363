use Rattle.tests_groups.proofs.JoinLaws.{both_alike}
use Rattle.tests_groups.proofs.joins.joined.Goals as goal

pub join_pairs-requires : goal.join_pairs-requires
join_pairs-requires c = both_alike c.in_ok-left.left c.in_ok-right.right c.in_ok-left.ensures c.in_ok-right.ensures
