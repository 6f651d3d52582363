use Rattle.{
  column_core.proofs.cells.Common.{arith},
  tests_groups.proofs.JoinLaws.{one_level, one_alike},
}
use Rattle.tests_groups.proofs.reshapes.unstacked.Goals as goal

pub unstack_places-requires-clause-alike : goal.unstack_places-requires-clause-alike
unstack_places-requires-clause-alike c = one_alike c.in_ok-rest.rest c.in_ok-rest.ensures.levels

pub unstack_places-requires-clause-few : goal.unstack_places-requires-clause-few
unstack_places-requires-clause-few c = omega (arith, one_level c.in_ok-rest.rest c.in_ok-rest.ensures.levels)
