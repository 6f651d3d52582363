use Rattle.{
  meaning_pick.proofs.cells.Common.{◌∙◌, [], arith},
  cell_core.specs.declared.cell.Label.TheVariants.{Na},
  index_core.proofs.{RangeLaws.{length-range_labels}, SplitLaws.{rows_of_splits}},
}
use Rattle.index_core.proofs.ranges.slice_of.Goals as goal

pub run_of-requires : goal.run_of-requires
run_of-requires c = let within = (c.end_within.ensures []).within in omega (arith, length-range_labels c.args.n)

pub returns-clause-rows : goal.returns-clause-rows
returns-clause-rows c = λ texts. c.run_of.ensures.rows ∙ rows_of_splits _ Na c.args.lower c.args.upper _ _ _ (c.first_reached.ensures texts) (c.end_within.ensures texts)
