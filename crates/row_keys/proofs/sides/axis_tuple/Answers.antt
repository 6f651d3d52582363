use Rattle.multi_index.proofs.{cells.Common.{◌≡◌, ◌<◌, [], length, slice_index_or, arith, take_all, length-set}, SideLaws.{tuple_there, label_there, one_label_more}}
use Rattle.row_keys.proofs.sides.axis_tuple.Goals as goal

pub loop-level-preserved : goal.loop-level-preserved
loop-level-preserved c =
    let tuple = slice_index_or c.args.axis.now.tuples c.args.row [] in
    let size : length tuple ≡ c.levels-levels.result = grind arith in
    let inside : c.loop-level.level < length tuple = omega arith in
    let room : c.loop-level.level < length c.loop-level.labels = omega (arith, c.loop-level.invariant.room, c.levels-levels.ensures.few) in
    search (length-set, one_label_more, label_there)

pub returns : goal.returns
returns = grind (arith, tuple_there, take_all)
