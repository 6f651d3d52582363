use Rattle.{
  column_core.proofs.cells.Common.{◌≡◌, refl, length, arith},
  indexers.proofs.MaskLaws.{cell_at_rows},
}
use Rattle.indexers.proofs.masks.keeps_at.Goals as goal

pub cell-requires : goal.cell-requires
cell-requires = grind arith

pub returns : goal.returns
returns c =
    let one : length c.args.found.now ≡ 1 = omega arith in
    cell_at_rows _ _ _ _ _ _ one refl c.cell.ensures.cell c.is_true.ensures
