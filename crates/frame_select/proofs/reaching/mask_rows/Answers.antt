use Rattle.{
  frame_parts.proofs.Common.{rules, err_from_is_err_and},
  frame_select.proofs.ReachLaws.{mask_made},
}
use Rattle.frame_select.proofs.reaching.mask_rows.Goals as goal

pub returns-in_err-places-clause-rows : goal.returns-in_err-places-clause-rows
returns-in_err-places-clause-rows c =
    let p = err_from_is_err_and c.from_residual.result c.from_residual.ensures.1 in
    rw (p.1, p.2) (rw c.in_err-places.was at (mask_made _ c.args.store.now c.args.on.now _ c.args.mask _ _ _ _ c.len.ensures.distinct c.requires.table.known.given c.requires.settled c.read-mask.ensures.table
    (search rules) (search rules) c.axis-2.ensures c.axis-3.ensures c.column.ensures.column c.column.ensures.rows c.mask_places.ensures.rows _ c.found.ensures))

pub returns-clause-rows : goal.returns-clause-rows
returns-clause-rows c =
    rw c.listed.ensures (rw c.in_ok-places.was at (mask_made _ c.args.store.now c.args.on.now _ c.args.mask _ _ _ _ c.len.ensures.distinct c.requires.table.known.given c.requires.settled c.read-mask.ensures.table
    (search rules) (search rules) c.axis-2.ensures c.axis-3.ensures c.column.ensures.column c.column.ensures.rows c.mask_places.ensures.rows _ c.found.ensures))
