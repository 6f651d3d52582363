use Rattle.{
  frame_parts.proofs.Common.{arith, refl, ap, sym, err_from_is_err_and, table_or, object_settled, columns_name_part, longer_self},
  frame_labels.proofs.AnswerLaws.{forms_so},
  frame_methods.proofs.RenameLaws.{frame_refused, frame_renamed},
}
use Rattle.frame_methods.proofs.renaming.rename_frame.Goals as goal

pub renamed_headings-requires-clause-settled : goal.renamed_headings-requires-clause-settled
renamed_headings-requires-clause-settled c = search object_settled

pub returns-in_err-headings : goal.returns-in_err-headings
returns-in_err-headings c = λ live.
    let p = err_from_is_err_and c.from_residual.result c.from_residual.ensures.1 in
    rw (p.1, p.2) (
      frame_refused _ _ c.args.pairs.now _ _ _ _ (sym (ap table_or c.read.ensures.table)) c.in_err-headings.ensures.answer,
      longer_self _,
      c.requires.settled,
      record { cells = omega arith; blocks = λ id there still apart. refl },
    )

pub renamed-requires-clause-name : goal.renamed-requires-clause-name
renamed-requires-clause-name c =
    rw c.in_ok-headings.ensures.name (columns_name_part _ _ (object_settled _ _ _ _ c.read.ensures.table c.requires.settled))

pub returns : goal.returns
returns c = λ live.
    forms_so _ _ _ _ _ _
    (frame_renamed live _ c.args.pairs.now _ _ _ (sym (ap table_or c.read.ensures.table)) c.in_ok-headings.ensures.name c.in_ok-headings.ensures.answer)
    c.renamed.ensures
