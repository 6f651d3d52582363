use Rattle.{
  meaning_tables.proofs.cells.Common.{◌<◌, length, arith},
  frame_store.proofs.ValueLaws.{put_column_cell},
}
use Rattle.frame_store.proofs.values.put_value.Goals as goal

pub returns-clause-columns : goal.returns-clause-columns
returns-clause-columns c =
    let inside : c.args.place < length c.args.blocks.now.items = omega arith in
    put_column_cell c.args.blocks.now.items c.args.place c.args.row c.args.cell c.index_mut.result.now c.put_cell.new.block inside c.index_mut.ensures.value c.put_cell.ensures
