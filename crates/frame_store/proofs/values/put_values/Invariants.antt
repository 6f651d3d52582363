use Rattle.{
  meaning_tables.{proofs.cells.Common.{◌≡◌, drop, map, All, vec_len}, specs.Change.{with_values_from}},
  frame_store.{specs.Parts.{block_column, IsSingle}, proofs.ValueLaws.{AreAlike}},
}
use Rattle.frame_store.proofs.values.put_values.Given as goal

abbrev pub invariant-loop-k : goal.invariant-loop-k
invariant-loop-k l =
    All IsSingle l.blocks.items
    × AreAlike (map block_column l.blocks.items) (map block_column l.initial.blocks.items)
    × (vec_len l.blocks ≡ vec_len l.initial.blocks)
    × (with_values_from l.k (map block_column l.blocks.items) l.rows l.places (drop l.k l.values) ≡ with_values_from 0 (map block_column l.initial.blocks.items) l.rows l.places l.values)
