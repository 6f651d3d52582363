use Rattle.{
  frame_parts.proofs.Common.{◌≡◌, ◌∙◌, ap, sym, not, true, false, arith, rules, codes},
  frame_labels.proofs.ResetLaws.{text_seen, text_settled, one_nameless, label_if},
}
use Rattle.frame_labels.proofs.resetting.index_label.Goals as goal

pub returns-then-has_label-clause-label : goal.returns-then-has_label-clause-label
returns-then-has_label-clause-label c = λ level.
    let there : c.has_label.result ≡ true = search rules in
    one_nameless _ _ _ _ _ _ (omega arith) c.in_ok-intern.ensures.texts c.requires.given c.in_ok-intern.ensures.given c.has_label.ensures ∙ ap (λ b. label_if (not b) level) there

pub returns-clause-given : goal.returns-clause-given
returns-clause-given = grind (arith, text_settled)

pub returns-clause-label : goal.returns-clause-label
returns-clause-label c = λ level.
    let there : c.has_label.result ≡ false = search rules in
    one_nameless _ _ c.args.on.now _ _ _ (omega arith) c.in_ok-intern.ensures.texts c.requires.given c.in_ok-intern.ensures.given c.has_label.ensures ∙ ap (λ b. label_if (not b) level) there ∙ sym (text_seen c.intern.new.self _ (codes "index") c.in_ok-intern.ensures.given)
