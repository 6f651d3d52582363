use Rattle.meaning_pick.proofs.{cells.Common.{◌∙◌, ap, sym, is_lt}, OrderLaws.{order_goes_on, order_broken}}
use Rattle.index_core.proofs.listed.is_sorted.Goals as goal

pub loop-place-preserved : goal.loop-place-preserved
loop-place-preserved c =
    order_goes_on _ c.args.labels.now _ _ _ c.loop-place.auto.place c.loop-place-test.true (ap is_lt (sym c.compare.ensures) ∙ sym c.is_lt.ensures ∙ c.if-is_lt.false) c.loop-place.invariant

pub returns-then-is_lt : goal.returns-then-is_lt
returns-then-is_lt c =
    order_broken _ c.args.labels.now _ _ _ c.loop-place.auto.place c.loop-place-test.true (ap is_lt (sym c.compare.ensures) ∙ sym c.is_lt.ensures ∙ c.if-is_lt.true) c.loop-place.invariant
