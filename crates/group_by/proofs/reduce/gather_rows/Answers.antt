use Rattle.{
  column_core.proofs.cells.Common.{◌≡◌, ◌<◌, arith, length, map, slice_index_or, None, take_all, get_or-map, get_or_from_slice_get, na_cell, datum},
  group_by.proofs.RowLaws.{taken_in},
}
use Rattle.group_by.proofs.reduce.gather_rows.Goals as goal

pub gather_cell-requires : goal.gather_cell-requires
gather_cell-requires = grind arith

pub loop-row-init : goal.loop-row-init
loop-row-init = grind arith

pub loop-row-preserved : goal.loop-row-preserved
loop-row-preserved g c =
    let texts = c.args.dict.now in
    let codes = c.args.groups.now.codes in
    let row = c.loop-row.row in
    let cell = c.cell.result in
    let inside : row < length codes = omega (arith, c.loop-row-test.true, c.rows-row-end.ensures) in
    let at : slice_index_or c.args.a.now.cells row cell ≡ cell = search get_or_from_slice_get in
    let here : slice_index_or (map (datum texts) c.args.a.now.cells) row na_cell ≡ datum texts cell = grind (arith, get_or-map) in
    let is : slice_index_or codes row None ≡ c.code.result = search get_or_from_slice_get in
    record {
      size = grind arith;
      held = c.gather_cell.ensures.held c.args.a.now.kind c.loop-row.invariant.held (grind arith);
      value = λ group below. taken_in _ _ inside _ g.G.Gather.op _ _ _ _ _ is here c.gather_cell.ensures.takes group (c.loop-row.invariant.value group below);
    }

pub returns-clause-value : goal.returns-clause-value
returns-clause-value = grind (arith, take_all)
