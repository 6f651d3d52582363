use Rattle.{
  frame_parts.proofs.Common.{err_from_is_err_and},
  frame_labels.proofs.DropLaws.{label_refused, label_kept},
}
use Rattle.frame_labels.proofs.dropping.kept_by_label.Goals as goal

pub places_besides-requires : goal.places_besides-requires
places_besides-requires c = rw c.columns.ensures c.in_ok-dropped.ensures.within.below

pub returns-in_err-dropped : goal.returns-in_err-dropped
returns-in_err-dropped c =
    let p = err_from_is_err_and c.from_residual.result c.from_residual.ensures.1 in
    rw (p.1, p.2) (label_refused _ c.args.on.now c.requires.known.whole c.requires.shape _ _ (c.from.ensures.1 _) _ c.in_err-dropped.ensures.answer)

pub returns : goal.returns
returns c =
    label_kept _ c.args.on.now c.requires.known.whole c.requires.shape _ _ (c.from.ensures.1 _) _ _ _ c.in_ok-dropped.ensures.answer c.in_ok-places_besides.ensures c.columns.ensures
