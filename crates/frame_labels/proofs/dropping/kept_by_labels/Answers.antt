use Rattle.{
  frame_parts.proofs.Common.{refl, err_from_is_err_and},
  frame_labels.proofs.DropLaws.{labels_refused, labels_kept},
}
use Rattle.frame_labels.proofs.dropping.kept_by_labels.Goals as goal

pub returns-in_err-named_columns : goal.returns-in_err-named_columns
returns-in_err-named_columns c =
    let p = err_from_is_err_and c.from_residual.result c.from_residual.ensures.1 in
    rw (p.1, p.2) (labels_refused _ c.args.on.now c.requires.known.whole c.requires.shape c.args.cells.now _ refl _ c.in_err-named_columns.ensures.answer)

pub returns : goal.returns
returns c =
    labels_kept _ c.args.on.now c.requires.known.whole c.requires.shape c.args.cells.now _ refl _ _ c.len.ensures.distinct c.requires.known.given c.requires.cells c.in_ok-labels.ensures c.in_ok-columns_besides.ensures _ c.in_ok-named_columns.ensures.answer
