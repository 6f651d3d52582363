use Rattle.{frame_parts.proofs.Common.{◌∙◌, ap, map}, frame_concat.{specs.declared.parts.Sought.TheVariants.{Under}, proofs.{PartLaws.{frame_headings, united_given}, BelowLaws.{under_in}}}}
use Rattle.frame_concat.proofs.below.frames_by_label.Goals as goal

pub table_below-requires-clause-headings : goal.table_below-requires-clause-headings
table_below-requires-clause-headings c = rw (c.deref-2.ensures.value ∙ c.in_ok-headings.ensures) (frame_headings _ _ _ c.requires.shape c.requires.known)

pub table_below-requires-clause-columns : goal.table_below-requires-clause-columns
table_below-requires-clause-columns c =
    under_in _ c.args.parts.now _ _ (united_given _ c.args.asked.now.inner _ c.requires.known)
    (c.deref-3.ensures.value ∙ c.in_ok-columns.ensures ∙ ap (map Under) (c.deref.ensures.value ∙ c.in_ok-headings.ensures))
