use Rattle.{frame_parts.proofs.Common.{arith}, frame_labels.proofs.ResetLaws.{name_settled}, frame_reshape.{specs.Keys.{level_keys}, proofs.{LevelKeyLaws.{one_label}, UnstackLaws.{cells_there, makes_so, entries_read, few_read, alike_read, names_read, unstacked_read}}}}
use Rattle.frame_reshape.proofs.unstacking.unstack.Goals as goal

pub unstack_rows-spread-requires-clause-alike : goal.unstack_rows-spread-requires-clause-alike
unstack_rows-spread-requires-clause-alike c =
    alike_read _ c.args.on.now _ c.in_ok-rest.rest _ _ c.axis-axis.ensures c.in_ok-rest.ensures c.levels.ensures.count c.levels.ensures.alike (omega arith) c.levels.ensures.few c.in_ok-level.ensures.within c.requires.known

pub unstack_rows-spread-requires-clause-few : goal.unstack_rows-spread-requires-clause-few
unstack_rows-spread-requires-clause-few c =
    few_read _ c.args.on.now _ c.in_ok-rest.rest _ _ c.axis-axis.ensures c.in_ok-rest.ensures c.levels.ensures.count c.levels.ensures.alike (omega arith) c.levels.ensures.few c.in_ok-level.ensures.within c.requires.known

pub unstack_rows-spread-requires-clause-one : goal.unstack_rows-spread-requires-clause-one
unstack_rows-spread-requires-clause-one c = one_label c.axis-axis.result.now c.in_ok-level.level

pub spread_table-requires-clause-names : goal.spread_table-requires-clause-names
spread_table-requires-clause-names c =
    rw (c.as_slice.ensures.value, c.in_ok-names.ensures)
    (names_read _ c.args.on.now _ c.in_ok-rest.rest _ _ c.axis-axis.ensures c.in_ok-rest.ensures c.levels.ensures.count c.levels.ensures.alike (omega arith) c.levels.ensures.few c.in_ok-level.ensures.within c.requires.known)

pub spread_table-requires-clause-name : goal.spread_table-requires-clause-name
spread_table-requires-clause-name c = name_settled _ c.args.on.now _ _ (rw c.axis-axis.ensures at c.name-name.ensures) c.requires.known.given

pub spread_table-requires-clause-cells : goal.spread_table-requires-clause-cells
spread_table-requires-clause-cells c = cells_there _ c.args.on.now c.column.result c.requires.known c.requires.shape c.column.ensures.column

pub spread_table-requires-clause-spread : goal.spread_table-requires-clause-spread
spread_table-requires-clause-spread c = (
  c.in_ok-rest.rest.tuples,
  level_keys c.axis-axis.result.now c.in_ok-level.level,
  rw (c.as_slice.ensures.value, c.in_ok-names.ensures)
      (entries_read _ c.args.on.now _ c.in_ok-rest.rest _ _ c.axis-axis.ensures c.in_ok-rest.ensures c.levels.ensures.count c.levels.ensures.alike (omega arith) c.levels.ensures.few c.in_ok-level.ensures.within c.requires.known _ c.column.ensures.rows),
  c.unstack_rows-spread.ensures.places,
)

pub returns : goal.returns
returns c =
    let entries = entries_read _ c.args.on.now _ c.in_ok-rest.rest _ _ c.axis-axis.ensures c.in_ok-rest.ensures c.levels.ensures.count c.levels.ensures.alike (omega arith) c.levels.ensures.few c.in_ok-level.ensures.within c.requires.known _ c.column.ensures.rows in
    makes_so _ _ _ _
    (unstacked_read _ c.args.on.now _ c.in_ok-rest.rest _ _ c.axis-axis.ensures c.in_ok-rest.ensures c.levels.ensures.count c.levels.ensures.alike (omega arith) c.levels.ensures.few c.in_ok-level.ensures.within c.requires.known
    _ c.name-name.result c.column.result c.in_ok-level.ensures.answer c.name-name.ensures c.column.ensures.column)
    (rw (c.as_slice.ensures.value, c.in_ok-names.ensures) at (c.spread_table.ensures c.in_ok-rest.rest.tuples (level_keys c.axis-axis.result.now c.in_ok-level.level) (rw (c.as_slice.ensures.value, c.in_ok-names.ensures) entries) c.unstack_rows-spread.ensures.places))
