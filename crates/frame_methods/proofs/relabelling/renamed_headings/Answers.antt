use Rattle.{
  frame_parts.proofs.Common.{◌∙◌, sym, refl, headings_value, headings_part},
  frame_methods.proofs.RenameLaws.{new_heads, new_settled, new_meant, no_labels},
}
use Rattle.frame_methods.proofs.relabelling.renamed_headings.Goals as goal

pub returns-then-not-have_labels-clause-answer : goal.returns-then-not-have_labels-clause-answer
returns-then-not-have_labels-clause-answer c =
    (no_labels _ _ _ (headings_value c.args.dict.now c.args.on.now.headings) c.in_ok-labels.ensures.last (sym c.have_labels.ensures ∙ c.if-not-have_labels.true), λ more. refl)

pub returns-clause-headings : goal.returns-clause-headings
returns-clause-headings c =
    rw c.in_ok-heading_list.ensures (new_heads _ _ _ _ (c.deref.ensures.value ∙ c.in_ok-headings.ensures) (c.requires.whole.headings.labelled c.requires.shape))

pub returns-clause-settled : goal.returns-clause-settled
returns-clause-settled c =
    rw c.in_ok-heading_list.ensures (new_settled _ _ _ _ (c.deref.ensures.value ∙ c.in_ok-headings.ensures) c.in_ok-labels.ensures.settled (headings_part _ _ c.requires.settled))

pub returns-clause-answer : goal.returns-clause-answer
returns-clause-answer c =
    rw c.in_ok-heading_list.ensures
    (new_meant _ c.len.ensures.distinct _ _ _ _ c.in_ok-labels.ensures.settled (headings_part _ _ c.requires.settled) c.in_ok-labels.ensures.last (c.deref.ensures.value ∙ c.in_ok-headings.ensures) (sym c.have_labels.ensures ∙ c.if-not-have_labels.false))
