use Rattle.{
  meaning_tables.proofs.cells.Common.{get_or_from_slice_get, length-map, ◌≡◌, ◌<◌, length, map, arith},
  frame_store.{specs.Parts.{block_column}, proofs.ValueLaws.{alike_put, one_more_put, rows_kept}},
}
use Rattle.frame_store.proofs.values.put_values.Goals as goal

pub put_value-requires-clause-held : goal.put_value-requires-clause-held
put_value-requires-clause-held = grind (arith, get_or_from_slice_get)

pub loop-k-preserved : goal.loop-k-preserved
loop-k-preserved c =
    let lt : c.loop-k.k < length c.args.values.now = omega arith in (
      search,
      search alike_put,
      search,
      search one_more_put,
    )

pub returns-clause-filled : goal.returns-clause-filled
returns-clause-filled c =
    let same : length (map block_column c.loop-k.blocks.items) ≡ length (map block_column c.args.blocks.now.items) =
    omega (arith, length-map c.loop-k.blocks.items block_column, length-map c.args.blocks.now.items block_column, c.loop-k.invariant.2) in
    rows_kept (map block_column c.args.blocks.now.items) (map block_column c.loop-k.blocks.items) c.args.count same c.requires.filled c.loop-k.invariant.1
