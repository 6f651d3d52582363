use Rattle.{
  std.proofs.Common.{◌≡◌, drop},
  meaning_tables.specs.Change.{with_values_from},
  block_manager.{specs.{Changes.{Writes, grids_of, numbers_of}, Spots.{AreAloneAt, Stands, spot_columns}}, proofs.WritingLaws.{AreAlike}},
}
use Rattle.block_manager.proofs.setting.put_values.Given as goal

abbrev pub invariant-loop-k : goal.invariant-loop-k
invariant-loop-k l = record {
  stands : Stands l.pool (numbers_of l.views) l.spots;
  alone : AreAloneAt l.pool (numbers_of l.views) l.spots l.places;
  alike : AreAlike (spot_columns (grids_of l.pool (numbers_of l.views)) l.spots) (spot_columns (grids_of l.initial.pool (numbers_of l.views)) l.spots);
  written : Writes l.initial.pool l.pool (numbers_of l.views);
  columns : with_values_from l.k (spot_columns (grids_of l.pool (numbers_of l.views)) l.spots) l.rows l.places (drop l.k l.values) ≡ with_values_from 0 (spot_columns (grids_of l.initial.pool (numbers_of l.views)) l.spots) l.rows l.places l.values;
}
