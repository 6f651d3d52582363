use Rattle.{
  frame_parts.proofs.Common.{arith, List, Text, GivenSub, ◌∙◌, ap, length, AxisValue, tables, subscript_of},
  frame_select.proofs.ReachLaws.{loc_is, key_settled},
}
use Rattle.frame_select.proofs.reaching.loc_rows_within.Goals as goal

pub mask_rows-requires-clause-mask : goal.mask_rows-requires-clause-mask
mask_rows-requires-clause-mask c = rw c.in-Some.is at (c.object_of.ensures.live (tables c.args.store.now) c.requires.key.live)

pub returns-clause-rows : goal.returns-clause-rows
returns-clause-rows c =
    let live = tables c.args.store.now in
    let texts = c.args.dict.now in
    let sub : List Text → GivenSub = λ texts. subscript_of live texts c.args.key.now in
    let levels = c.levels-levels.ensures.count ∙ ap (λ (a : AxisValue). length a.names) c.axis-axis.ensures in
    let is = c.in_ok-key.ensures.key live in
    rw (loc_is texts c.args.on.now c.axis-axis.result.now sub _ _ levels c.axis-axis.ensures (grind arith) is) (c.labelled_within.ensures.rows (key_settled texts sub _ _ c.requires.key.given is))
