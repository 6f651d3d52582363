use Rattle.frame_groups.proofs.KeyLaws.{if_ok}
use Rattle.frame_groups.proofs.keys.groups_of.Goals as goal

pub returns-clause-groups : goal.returns-clause-groups
returns-clause-groups c = if_ok _ _ c.groups_by.result (λ _ are. are.groups) c.groups_by.ensures

pub returns-clause-labels : goal.returns-clause-labels
returns-clause-labels c = if_ok _ _ c.groups_by.result (λ _ are. are.labels) c.groups_by.ensures

pub returns-clause-firsts : goal.returns-clause-firsts
returns-clause-firsts c = if_ok _ _ c.groups_by.result (λ _ are. are.firsts) c.groups_by.ensures
