use Rattle.{
  index_core.proofs.cells.Common.{arith, ◌≡◌},
  multi_index.{specs.Levels.{new_levels}, proofs.{LevelTuples.{new_count, new_more}, WholeLaws.{whole_new}}},
}
use Rattle.multi_index.proofs.levels.Levels.from_tuples.Goals as goal

pub loop-level-preserved : goal.loop-level-preserved
loop-level-preserved c = grind (arith, new_more)

pub invariant_of-result-2 : goal.invariant_of-result-2
invariant_of-result-2 c =
    let texts = c.args.dict.now in
    let tuples = c.args.tuples.now in
    let all : c.loop-level.levels.items ≡ new_levels texts tuples c.args.count = grind arith in
    (rw all (whole_new texts tuples c.args.count c.requires.some c.requires.few), rw all (omega (arith, new_count texts tuples c.args.count)))
