use Rattle.{
  column_core.proofs.cells.Common.{◌≡◌, ◌<◌, arith, length, map, slice_index_or, None, get_or-map, get_or_from_slice_get, na_cell, datum, IsGiven},
  group_by.proofs.DistinctLaws.{room, seen_more, distinct_more},
}
use Rattle.group_by.proofs.distinct.count_distinct.Goals as goal

pub count_one-requires-clause-room : goal.count_one-requires-clause-room
count_one-requires-clause-room c = room c.args.groups.now.codes _ c.loop-row.row _ _ (omega arith) (grind arith) c.loop-row.invariant.size c.loop-row.invariant.each

pub loop-row-preserved : goal.loop-row-preserved
loop-row-preserved c =
    let texts = c.args.dict.now in
    let codes = c.args.groups.now.codes in
    let row = c.loop-row.row in
    let cell = c.cell.result in
    let inside : row < length codes = omega arith in
    let at : slice_index_or c.args.a.now.cells row cell ≡ cell = search get_or_from_slice_get in
    let here : slice_index_or (map (datum texts) c.args.a.now.cells) row na_cell ≡ datum texts cell = grind (arith, get_or-map) in
    let given : IsGiven texts cell = grind arith in
    let is : slice_index_or codes row None ≡ c.code.result = search get_or_from_slice_get in
    record {
      size = grind arith;
      each = distinct_more _ c.requires.distinct _ _ row _ inside _ given here _ c.loop-row.invariant.seen c.loop-row.counts _ _ (cc (c.in_ok-new.ensures.new, is)) c.count_one.ensures c.loop-row.invariant.size c.loop-row.invariant.each;
      seen = grind (arith, seen_more);
    }
