use Rattle.{
  block_manager.{specs.Changes.{numbers_of}, proofs.CellLaws.{set_live, set_column, set_row, set_held, set_sole, set_spot, set_columns, set_stands, set_writes, set_alone}},
}
use Rattle.block_manager.proofs.setting.put_value.Goals as goal

pub set-requires : goal.set-requires
set-requires c = record {
  live = set_live c.args.pool.now c.args.views.now c.args.spots.now c.args.place c.requires.stands c.requires.place;
  sole = set_sole c.args.pool.now c.args.views.now c.args.spots.now c.args.place c.requires.stands c.requires.place c.requires.sole;
  column = set_column c.args.pool.now c.args.views.now c.args.spots.now c.args.place c.requires.stands c.requires.place;
  row = set_row c.args.pool.now c.args.views.now c.args.spots.now c.args.place c.requires.stands c.requires.place c.args.row c.requires.row;
  held = set_held c.args.pool.now c.args.views.now c.args.spots.now c.args.place c.requires.stands c.requires.place c.args.cell c.requires.held;
}

pub returns : goal.returns
returns c =
    let old = c.args.pool.now in
    let new = c.set.new.self in
    let ids = numbers_of c.args.views.now in
    let is = set_spot old c.args.views.now c.args.spots.now c.args.place c.requires.stands c.requires.place new c.args.row c.args.cell c.set.ensures in
    record {
      columns = set_columns old new ids c.args.spots.now c.args.place c.args.row c.args.cell c.requires.stands c.requires.place is;
      stands = set_stands old new ids c.args.spots.now c.args.place c.args.row c.args.cell c.requires.stands c.requires.place is;
      writes = set_writes old new ids c.args.spots.now c.args.place c.args.row c.args.cell c.requires.stands c.requires.place is;
      alone = set_alone old new ids c.args.spots.now c.args.place c.args.row c.args.cell c.requires.stands c.requires.place is;
    }
