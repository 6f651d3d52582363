use Rattle.{
  index_core.proofs.cells.Common.{◌∙◌, ap},
  multi_index.{specs.Axes.{AxisValue}, proofs.SameTuples.{singles_same}},
}
use Rattle.multi_index.proofs.axis.Axis.same_labels.Goals as goal

pub returns-in-Some-Some : goal.returns-in-Some-Some
returns-in-Some-Some c =
    singles_same _ _ _ _ _
    (c.in-Some-Some.ensures.1 ∙ ap (λ (a : AxisValue). a.tuples) c.self.view_is)
    (c.in-Some-Some.ensures'.1 ∙ ap (λ (a : AxisValue). a.tuples) c.other.view_is)
    c.same_labels.ensures
