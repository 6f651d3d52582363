use Rattle.{
  frame_parts.proofs.Common.{arith, ◌∙◌, ap, length, AxisValue, tables, subscript_of},
  frame_select.proofs.ReachLaws.{loc_found},
}
use Rattle.frame_select.proofs.reaching.loc_rows.Goals as goal

pub mask_rows-requires-clause-mask : goal.mask_rows-requires-clause-mask
mask_rows-requires-clause-mask c = rw c.in-Some.is at (c.object_of.ensures.live (tables c.args.store.now) c.requires.key.live)

pub returns-clause-rows : goal.returns-clause-rows
returns-clause-rows c =
    let live = tables c.args.store.now in
    loc_found _ c.args.on.now _ (λ texts. subscript_of live texts c.args.key.now) _ _ c.requires.key.given c.labelled.ensures.rows _ (c.levels-levels.ensures.count ∙ ap (λ (a : AxisValue). length a.names) c.axis-axis.ensures) c.axis-axis.ensures
    (grind arith)
    (c.in_ok-key.ensures.key live)
