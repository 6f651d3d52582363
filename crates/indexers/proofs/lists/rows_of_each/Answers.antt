use Rattle.{
  column_core.proofs.cells.Common.{◌≡◌, ◌∙◌, sym, length, arith, All-append},
  multi_index.specs.Axes.{HaveLevels},
  indexers.proofs.ListLaws.{found_is},
}
use Rattle.indexers.proofs.lists.rows_of_each.Goals as goal

pub find_partners-requires-clause-alike : goal.find_partners-requires-clause-alike
find_partners-requires-clause-alike c =
    All-append (λ t. length t ≡ c.levels.result) c.args.tuples.now c.args.axis.now.tuples (grind arith) c.levels.ensures.alike

pub returns-clause-rows : goal.returns-clause-rows
returns-clause-rows c =
    let keys = c.args.tuples.now in
    let full : HaveLevels c.levels.result keys = λ k d lt. c.requires k d lt ∙ sym c.levels.ensures.count in
    grind (arith, found_is c.levels.result c.args.axis.now.tuples c.levels.ensures.alike keys full)
