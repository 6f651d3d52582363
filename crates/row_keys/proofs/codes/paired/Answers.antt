use Rattle.{
  multi_index.proofs.cells.Common.{◌≡◌, ◌<◌, ◌^◌, length, arith, rules, common_steps, get_or_from_slice_get},
  cell_core.specs.declared.cell.Label.TheVariants.{Na},
  row_keys.proofs.{StandLaws.{row_more}, PairLaws.{pair_number, pair_below, pairs_below, pairs_stand}},
}
use Rattle.row_keys.proofs.codes.paired.Goals as goal

pub pack-requires : goal.pack-requires
pack-requires g c =
    let keys = g.R.KeyRows.keys c.args.rows.now in
    let lt : c.loop-row.row < length keys = omega (arith, c.loop-row-test.true, c.count-count.ensures) in
    let second = get_or_from_slice_get keys c.loop-row.row c.key-second.result (Na, 0) c.key-second.ensures in
    let small : c.args.room.most < 2 ^ 64 = search rules in
    let below = pair_below keys c.args.labels.now.numbers.items c.args.labels.now.most c.args.second c.args.room.scale c.args.room.most c.requires.labels c.args.labels.now.up_to c.requires.second c.requires.scale c.requires.most c.loop-row.row lt in
    grind (arith, common_steps)

pub loop-row-preserved : goal.loop-row-preserved
loop-row-preserved g c =
    let second = get_or_from_slice_get (g.R.KeyRows.keys c.args.rows.now) c.loop-row.row c.key-second.result (Na, 0) c.key-second.ensures in
    grind (arith, row_more, pair_number, common_steps)

pub invariant_of-result : goal.invariant_of-result
invariant_of-result g c =
    let keys = g.R.KeyRows.keys c.args.rows.now in
    let end : c.loop-row.row ≡ length keys = omega (arith, c.loop-row-test.false, c.count-count.ensures, c.loop-row.auto.row-end) in
    record {
      up_to = pairs_below _ _ _ _ _ _ c.requires.labels c.args.labels.now.up_to c.requires.second c.requires.scale c.requires.most _
          (cc c.loop-row.invariant);
    }

pub returns : goal.returns
returns g c =
    let keys = g.R.KeyRows.keys c.args.rows.now in
    let end : c.loop-row.row ≡ length keys = omega (arith, c.loop-row-test.false, c.count-count.ensures, c.loop-row.auto.row-end) in
    pairs_stand _ _ _ _ _ _ c.requires.labels c.args.labels.now.up_to c.requires.second c.requires.scale c.requires.most _
    (cc c.loop-row.invariant)
