use Rattle.{
  frame_parts.proofs.Common.{◌<◌, ◌≤◌, sym, length, arith, get_or_from_slice_get},
  frame_methods.proofs.DuplicateLaws.{numbered_more, numbers_more},
}
use Rattle.frame_methods.proofs.duplicates.number_cells.Goals as goal

pub loop-row-preserved : goal.loop-row-preserved
loop-row-preserved c =
    let lt : c.loop-row.row < length c.args.numbers.now = omega arith in
    let stored = c.in_ok-next.ensures.stored in
    numbered_more _ _ _ _ _ _ _ _ _
    c.loop-row.invariant lt (sym (search get_or_from_slice_get)) c.in_ok-next.ensures.keys stored.1 stored.2 c.in_ok-next.ensures.unique

pub returns : goal.returns
returns c =
    let column = c.column-column.result in
    let end : length c.args.on.now.labels ≤ c.loop-row.row = omega arith in
    numbers_more c.args.on.now c.args.place c.loop-row.row record { kind = column.kind; cells = column.cells } c.args.numbers.now c.loop-row.numbers c.loop-row.seen.keys c.column-column.ensures.column end c.loop-row.invariant
