use Rattle.{
  multi_index.proofs.cells.Common.{arith, rules},
  row_keys.proofs.ZipLaws.{zip_left, zip_right, zip_get},
}
use Rattle.row_keys.proofs.rows.LevelKeyRowsTuple2Usize.key.Goals as goal

pub offset_bounds-self-row : goal.offset_bounds-self-row
offset_bounds-self-row = search (rules, zip_left)

pub bounds-self-row : goal.bounds-self-row
bounds-self-row g c = search zip_left

pub offset_bounds-self-row-2 : goal.offset_bounds-self-row-2
offset_bounds-self-row-2 = grind (arith, zip_right)

pub bounds-self-row-2 : goal.bounds-self-row-2
bounds-self-row-2 g c = search zip_right

pub returns : goal.returns
returns g c = search zip_get
