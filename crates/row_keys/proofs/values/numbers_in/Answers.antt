use mir.Val.{SFits}
use Rattle.{
  multi_index.proofs.{cells.Common.{w64, ◌≡◌, ◌<◌, ◌≤◌, [], length, arith, rules, to_z-of_z, get_or_from_slice_get, slice_index_or}, SideLaws.{one_row_more}},
  row_keys.{specs.Values.{number_in}, proofs.ValueLaws.{label_below, labels_below, labels_stand}},
}
use Rattle.row_keys.proofs.values.numbers_in.Goals as goal

pub number_of-requires : goal.number_of-requires
number_of-requires g c =
    let keys = g.R.KeyRows.keys c.args.rows.now in
    let span = c.args.span in
    let lt : c.loop-row.row < length keys = omega (arith, c.loop-row-test.true, c.count-count.ensures) in
    let here : number_in c.args.class span.low (slice_index_or keys c.loop-row.row c.key.result) ≡ number_in c.args.class span.low c.key.result = cc (get_or_from_slice_get keys c.loop-row.row c.key.result c.key.result c.key.ensures) in
    grind (arith, w64, to_z-of_z, label_below)

pub loop-row-preserved : goal.loop-row-preserved
loop-row-preserved g c =
    let lt : c.loop-row.row < length (g.R.KeyRows.keys c.args.rows.now) = omega (arith, c.loop-row-test.true, c.count-count.ensures) in
    let fits : SFits w64 c.args.span.low = search rules in
    let is : c.number_of.result ≡ number_in c.args.class c.args.span.low (slice_index_or (g.R.KeyRows.keys c.args.rows.now) c.loop-row.row c.key.result) = cc (c.number_of.ensures, to_z-of_z w64 c.args.span.low fits, get_or_from_slice_get _ _ _ c.key.result c.key.ensures) in
    one_row_more _ _ _ _ _ [] _ _ lt is c.loop-row.invariant c.in_ok-push.ensures.items

pub invariant_of-result : goal.invariant_of-result
invariant_of-result g c =
    let keys = g.R.KeyRows.keys c.args.rows.now in
    let end : length keys ≤ c.loop-row.row = omega (arith, c.loop-row-test.false, c.count-count.ensures) in
    search labels_below

pub returns : goal.returns
returns g c =
    let keys = g.R.KeyRows.keys c.args.rows.now in
    let end : length keys ≤ c.loop-row.row = omega (arith, c.loop-row-test.false, c.count-count.ensures) in
    search labels_stand
