use Rattle.{frame_parts.proofs.Common.{◌∙◌, ap, sym, refl, arith, rules, length}, frame_select.proofs.PickedLaws.{places_inside}, frame_reshape.proofs.StackLaws.{parts_are, one_height, rows_stacked, stack_mixed, stack_levels, stack_beyond, stack_refused, stack_made}}
use Rattle.frame_reshape.proofs.stacking.stack.Goals as goal

pub are_of_one_kind-requires : goal.are_of_one_kind-requires
are_of_one_kind-requires c = places_inside _ _ _ c.in_ok-places.ensures c.columns.ensures

pub columns_at-requires : goal.columns_at-requires
columns_at-requires c = places_inside _ _ _ c.in_ok-places.ensures c.columns.ensures

-- columns of several kinds, too many levels, or too many rows
pub returns-then-not-are_of_one_kind : goal.returns-then-not-are_of_one_kind
returns-then-not-are_of_one_kind c = (stack_mixed _ c.args.on.now _ _ c.in_ok-places.ensures c.columns.ensures (search rules), λ more. refl)

pub returns-then-levels-gt3 : goal.returns-then-levels-gt3
returns-then-levels-gt3 c = (stack_levels _ c.args.on.now _ _ c.in_ok-places.ensures c.columns.ensures (search rules) c.requires.known (omega arith), λ more. refl)

pub returns-in-None : goal.returns-in-None
returns-in-None c = (stack_beyond _ c.args.on.now _ _ c.in_ok-places.ensures c.columns.ensures (search rules) c.requires.known (grind arith), λ more. refl)

-- the cells, row after row
pub stack_block-requires : goal.stack_block-requires
stack_block-requires c = rw c.deref.ensures.value (one_height _ _ c.in_ok-columns.ensures.rows)

pub returns-in-Err : goal.returns-in-Err
returns-in-Err c =
    rw c.refusal_of.ensures
    (stack_refused _ c.args.on.now _ _ c.in_ok-places.ensures c.columns.ensures (search rules) c.requires.known c.deref.result.now (rw c.deref.ensures.value (parts_are c.args.on.now _ _ _ c.in_ok-places.ensures c.columns.ensures c.in_ok-columns.ensures.columns)) (omega arith) (grind arith)
    _ (c.in-Err.ensures.column _))

pub series_table-requires : goal.series_table-requires
series_table-requires c =
    rows_stacked c.args.on.now c.deref.result.now c.in-Ok.cells c.requires.known.whole (rw c.deref.ensures.value (parts_are c.args.on.now _ _ _ c.in_ok-places.ensures c.columns.ensures c.in_ok-columns.ensures.columns)) (rw c.deref.ensures.value c.in_ok-columns.ensures.rows) c.in-Ok.ensures.law
    ∙ ap (λ a. length a.tuples) (sym c.in_ok-axis.ensures)

pub returns : goal.returns
returns c =
    stack_made c.args.on.now c.deref.result.now _ (rw c.deref.ensures.value (parts_are c.args.on.now _ _ _ c.in_ok-places.ensures c.columns.ensures c.in_ok-columns.ensures.columns)) c.in-Ok.ensures.column
    _ _ c.requires.known (omega arith) (grind arith) (c.in_ok-series_table.ensures ∙ rw c.in_ok-axis.ensures)
