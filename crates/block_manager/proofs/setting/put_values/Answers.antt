use Rattle.{
  std.proofs.Common.{slice_index},
  std.proofs.lemmas.Option.{slice_get_within},
  block_pool.specs.Pools.{IsSole},
  block_manager.{specs.{Changes.{grids_of, numbers_of}, Spots.{spot_at, spot_columns}}, proofs.WritingLaws.{holds_at, value_held, alike_put, one_more_put, writes_more}},
}
use Rattle.block_manager.proofs.setting.put_values.Goals as goal

pub put_value-requires-clause-sole : goal.put_value-requires-clause-sole
put_value-requires-clause-sole c =
    holds_at (λ p. IsSole c.loop-k.pool (slice_index (numbers_of c.args.views.now) (spot_at c.args.spots.now p).view)) c.args.places.now _ c.at.result.now c.loop-k.invariant.alone c.at.ensures

pub put_value-requires-clause-held : goal.put_value-requires-clause-held
put_value-requires-clause-held c =
    let ids = numbers_of c.args.views.now in
    let spots = c.args.spots.now in
    value_held (spot_columns (grids_of c.args.pool.now ids) spots) (spot_columns (grids_of c.loop-k.pool ids) spots) c.args.rows.now c.args.places.now c.args.values.now c.loop-k.invariant.alike c.loop-k.k c.len-width.result c.at.result.now c.len-width.ensures c.at.ensures
    c.at-in-loop-k-2.result.now c.requires.held c.at-in-loop-k-2.ensures

pub loop-k-preserved : goal.loop-k-preserved
loop-k-preserved c =
    let ids = numbers_of c.args.views.now in
    let spots = c.args.spots.now in
    let first = spot_columns (grids_of c.args.pool.now ids) spots in
    let now = spot_columns (grids_of c.loop-k.pool ids) spots in
    let next = spot_columns (grids_of c.put_value.new.pool ids) spots in
    let place = c.at.result.now in
    let row = c.at-in-loop-k.result.now in
    let cell = c.at-in-loop-k-2.result.now in
    record {
      stands = c.put_value.ensures.stands;
      alone = c.put_value.ensures.alone c.args.places.now c.loop-k.invariant.alone;
      alike = alike_put now next first place row cell c.loop-k.invariant.alike c.put_value.ensures.columns;
      written = writes_more c.args.pool.now c.loop-k.pool c.put_value.new.pool ids c.loop-k.invariant.written c.put_value.ensures.writes;
      columns = one_more_put c.args.rows.now c.args.places.now c.args.values.now c.loop-k.k c.len-width.result place row cell now next _ c.len-width.ensures c.loop-k.invariant.columns
          (slice_get_within c.args.values.now c.loop-k.k cell c.at-in-loop-k-2.ensures) c.at.ensures c.at-in-loop-k.ensures c.at-in-loop-k-2.ensures c.put_value.ensures.columns;
    }
