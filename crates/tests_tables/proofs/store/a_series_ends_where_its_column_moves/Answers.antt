use Rattle.{
  column_core.proofs.cells.Common.{◌∙◌, length, refl, ap, sym, is_some},
  frame_store.specs.Objects.{tables, table_or},
  tests_tables.proofs.StoreLaws.{apart, first_there, second_there, moved_there, takes_place},
}
use Rattle.tests_tables.proofs.store.a_series_ends_where_its_column_moves.Goals as goal

pub move_column-requires-clause-live : goal.move_column-requires-clause-live
move_column-requires-clause-live g c = ap is_some (first_there _ _ _ c.in_ok-on.on.0 c.in_ok-other.other.0 _ _ c.in_ok-other.ensures.fresh c.in_ok-on.ensures.added c.in_ok-other.ensures.added)

pub move_column-requires-clause-series_live : goal.move_column-requires-clause-series_live
move_column-requires-clause-series_live g c = ap is_some (second_there _ _ _ c.in_ok-on.on.0 c.in_ok-other.other.0 _ _ c.in_ok-other.ensures.fresh c.in_ok-on.ensures.added c.in_ok-other.ensures.added)

pub move_column-requires-clause-different : goal.move_column-requires-clause-different
move_column-requires-clause-different g c = apart _ _ _ c.in_ok-on.on.0 c.in_ok-other.other.0 _ _ c.in_ok-other.ensures.fresh c.in_ok-on.ensures.added c.in_ok-other.ensures.added

pub move_column-requires-clause-series : goal.move_column-requires-clause-series
move_column-requires-clause-series g c = ap (λ o. (table_or o).shape) (second_there _ _ _ c.in_ok-on.on.0 c.in_ok-other.other.0 _ _ c.in_ok-other.ensures.fresh c.in_ok-on.ensures.added c.in_ok-other.ensures.added)

pub move_column-requires-clause-rows : goal.move_column-requires-clause-rows
move_column-requires-clause-rows g c =
    ap (λ o. length (table_or o).labels) (second_there _ _ _ c.in_ok-on.on.0 c.in_ok-other.other.0 _ _ c.in_ok-other.ensures.fresh c.in_ok-on.ensures.added c.in_ok-other.ensures.added)
    ∙ sym (ap (λ o. length (table_or o).labels) (first_there _ _ _ c.in_ok-on.on.0 c.in_ok-other.other.0 _ _ c.in_ok-other.ensures.fresh c.in_ok-on.ensures.added c.in_ok-other.ensures.added))

pub move_column-requires-clause-headings : goal.move_column-requires-clause-headings
move_column-requires-clause-headings g c =
    takes_place _ _ (first_there _ _ _ c.in_ok-on.on.0 c.in_ok-other.other.0 _ _ c.in_ok-other.ensures.fresh c.in_ok-on.ensures.added c.in_ok-other.ensures.added) refl

pub read-table-requires : goal.read-table-requires
read-table-requires g c = moved_there _ _ _ c.in_ok-on.on.0 c.in_ok-other.other.0 _ _ c.in_ok-other.ensures.fresh c.in_ok-on.ensures.added c.in_ok-other.ensures.added (tables c.move_column.new.self) c.in_ok-move_column.ensures.ok
