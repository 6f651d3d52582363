use Rattle.{
  std.proofs.Common.{◌∙◌, ◌<◌, List, length, ap₂, sym, arith},
  cell_core.specs.declared.{cell.Cell.{Cell}, cell.Kind.{Kind}},
  block_manager.proofs.LayoutLaws.{places_count, spot_on, spot_live, spot_inside, spot_column_is},
}
use Rattle.block_manager.proofs.manager.Manager.column.Goals as goal

pub index-spot-requires : goal.index-spot-requires
index-spot-requires c = omega (arith, c.requires.column, places_count c.args.pool.now c.args.self.now c.self.inside.views.items c.self.inside.spots.items c.self.view_is c.self.invariant c.requires.stands)

pub index-requires : goal.index-requires
index-requires c =
    let lt : c.args.column < length c.self.inside.spots.items = omega (arith, c.requires.column, places_count c.args.pool.now c.args.self.now c.self.inside.views.items c.self.inside.spots.items c.self.view_is c.self.invariant c.requires.stands) in
    omega (arith, spot_on c.args.pool.now c.args.self.now c.self.inside.views.items c.self.inside.spots.items c.self.view_is c.self.invariant c.requires.stands c.args.column c.index-spot.result.now lt c.index-spot.ensures)

pub column-requires : goal.column-requires
column-requires c =
    let lt : c.args.column < length c.self.inside.spots.items = omega (arith, c.requires.column, places_count c.args.pool.now c.args.self.now c.self.inside.views.items c.self.inside.spots.items c.self.view_is c.self.invariant c.requires.stands) in
    record {
      live = spot_live c.args.pool.now c.args.self.now c.self.inside.views.items c.self.inside.spots.items c.self.view_is c.self.invariant c.requires.stands c.args.column c.index-spot.result.now lt c.index-spot.ensures c.index.result.now c.index.ensures;
      column = spot_inside c.args.pool.now c.args.self.now c.self.inside.views.items c.self.inside.spots.items c.self.view_is c.self.invariant c.requires.stands c.args.column c.index-spot.result.now lt c.index-spot.ensures c.index.result.now c.index.ensures;
    }

pub returns : goal.returns
returns c =
    let lt : c.args.column < length c.self.inside.spots.items = omega (arith, c.requires.column, places_count c.args.pool.now c.args.self.now c.self.inside.views.items c.self.inside.spots.items c.self.view_is c.self.invariant c.requires.stands) in
    ap₂ (λ (k : Kind) (cells : List Cell). record { kind = k; cells = cells }) c.column.ensures.kind c.column.ensures.cells
    ∙ sym (spot_column_is c.args.pool.now c.args.self.now c.self.inside.views.items c.self.inside.spots.items c.self.view_is c.self.invariant c.requires.stands c.args.column c.index-spot.result.now lt c.index-spot.ensures c.index.result.now c.index.ensures)
