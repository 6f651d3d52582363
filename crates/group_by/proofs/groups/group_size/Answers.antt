use Rattle.{
  column_core.proofs.cells.Common.{◌∙◌, ap},
  factorize.specs.group.Reductions.{group_sizes},
  group_by.proofs.NumberLaws.{numbers_value, if_ok_more},
}
use Rattle.group_by.proofs.groups.group_size.Goals as goal

pub returns-clause-answer : goal.returns-clause-answer
returns-clause-answer g c = λ texts.
    if_ok_more (λ column are. numbers_value _ _ are texts ∙ ap group_sizes c.groups.ensures) c.sizes.result c.sizes.ensures
