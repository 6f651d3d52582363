use Rattle.{
  meaning_script.proofs.cells.Common.{label_datum},
  script_faults.proofs.KeyLaws.{labels_more},
}
use Rattle.script_faults.proofs.key.push_more_labels.Goals as goal

pub loop-level-preserved : goal.loop-level-preserved
loop-level-preserved c = labels_more (label_datum c.args.texts.now) _ _ _ _ c.args.key.now c.loop-level.level c.at.result c.loop-level.invariant c.at.ensures c.in_ok-push_str.ensures.bytes c.in_ok-push_label.ensures
