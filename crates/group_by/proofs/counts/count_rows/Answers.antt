use Rattle.{
  column_core.proofs.cells.Common.{◌≡◌, arith, slice_index_or, None, take_all, get_or_from_slice_get},
  group_by.proofs.NumberLaws.{room, rows_counted},
}
use Rattle.group_by.proofs.counts.count_rows.Goals as goal

pub count_one-requires-clause-below : goal.count_one-requires-clause-below
count_one-requires-clause-below = grind arith

pub count_one-requires-clause-room : goal.count_one-requires-clause-room
count_one-requires-clause-room c = room c.args.groups.now.codes c.loop-row.row _ _ (omega arith) (grind arith) c.loop-row.invariant.size c.loop-row.invariant.each

pub loop-row-init : goal.loop-row-init
loop-row-init = grind arith

pub loop-row-preserved : goal.loop-row-preserved
loop-row-preserved c =
    let row = c.loop-row.row in
    let is : slice_index_or c.args.groups.now.codes row None ≡ c.code.result = search get_or_from_slice_get in
    record {
      size = search;
      each = rows_counted _ row _ _ _ _ (omega arith) is c.count_one.ensures c.loop-row.invariant.size c.loop-row.invariant.each;
    }

pub returns-clause-counted : goal.returns-clause-counted
returns-clause-counted = grind (arith, take_all)
