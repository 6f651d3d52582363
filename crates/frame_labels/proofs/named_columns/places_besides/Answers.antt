use Rattle.{
  frame_parts.proofs.Common.{get_or_default, filter-append, nat_eq, arith},
  frame_select.proofs.PickedLaws.{one_more_place},
  frame_labels.proofs.{NamedLaws.{other_same}, named_columns.places_besides.Goals.{then-not-index+in_ok-push}},
}
use Rattle.frame_labels.proofs.named_columns.places_besides.Goals as goal

pub loop-place-preserved : goal.loop-place-preserved
loop-place-preserved = grind (arith, nat_eq, get_or_default, then-not-index+in_ok-push, one_more_place, filter-append, other_same)
