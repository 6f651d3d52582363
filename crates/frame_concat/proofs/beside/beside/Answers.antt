use Rattle.{
  frame_parts.proofs.Common.{labels_part, arith, ◌∙◌, sym},
  frame_concat.proofs.BesideLaws.{equal_axis},
}
use Rattle.frame_concat.proofs.beside.beside.Goals as goal

pub on_axis-requires-clause-axis : goal.on_axis-requires-clause-axis
on_axis-requires-clause-axis c =
    equal_axis _ c.deref.result.now _ _ _ c.requires.some c.index-parts-0.is (rw c.deref.ensures.value c.in_ok-axes.ensures.axes) (sym c.have_same_labels.ensures ∙ c.if-have_same_labels.true) (rw (c.in_ok-axis.ensures, c.axis.ensures, c.table.ensures))
    (grind (arith, labels_part))
