use Rattle.tests_groups.proofs.groups.assert_reduced.Goals as goal

pub group_reduce-requires-clause-given : goal.group_reduce-requires-clause-given
group_reduce-requires-clause-given g c = rw c.as_ref-cells.ensures (c.in_ok-column.ensures.given c.new-dict.result)
