use Rattle.{index_core.proofs.cells.Common.{◌∙◌, arith, refl, sym}, multi_index.proofs.{KnownLaws.{more_present, more_missing}, labels.different.Goals.{then-is_present+in_ok-insert, else-is_present}}}
use Rattle.multi_index.proofs.labels.different.Goals as goal

pub loop-label-preserved : goal.loop-label-preserved
loop-label-preserved c =
    elim c.if-is_present.branch [
      | then-is_present+in_ok-insert w ↦
          rw w.labels-is (more_present c.loop-label.labels.keys _ c.args.rows.now c.loop-label.label-index _ _ (omega arith) refl (sym c.is_present.ensures ∙ w.if-is_present.true) c.loop-label.invariant w.in_ok-insert.ensures.keys)
      | else-is_present w ↦
          rw w.labels-is (more_missing c.loop-label.labels.keys _ c.args.rows.now c.loop-label.label-index _ _ (omega arith) refl (sym c.is_present.ensures ∙ w.if-is_present.false) c.loop-label.invariant refl)
    ]
