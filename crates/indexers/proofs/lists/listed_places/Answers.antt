use Rattle.{
  index_core.{specs.{Labels.{same_number}, pick.Leading.{leads}}, proofs.pick.InsideLaws.{keys_inside}},
}
use Rattle.indexers.proofs.lists.listed_places.Goals as goal

pub returns-then-has_few_rows-clause-inside : goal.returns-then-has_few_rows-clause-inside
returns-then-has_few_rows-clause-inside c = keys_inside (leads same_number) _ _ _ c.in_ok-rows_of_list.ensures
