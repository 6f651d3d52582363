use Rattle.{
  meaning_script.proofs.cells.Common.{sym, ◌∙◌, label_datum},
  script_faults.proofs.KeyLaws.{key_text-one},
}
use Rattle.script_faults.proofs.key.push_key.Goals as goal

pub returns-then-len-eq1 : goal.returns-then-len-eq1
returns-then-len-eq1 c = rw (key_text-one (label_datum c.args.texts.now) c.args.key.now c.at.result (sym c.len.ensures.count ∙ c.if-len-eq1.true) c.at.ensures) c.push_label.ensures
