use Rattle.{
  meaning_align.proofs.cells.Common.{arith, ◌≡◌, ◌∙◌, ap, subst, sym, IfOk},
  multi_index.{specs.Axes.{AxisValue, HaveLevels, nameless_axis, single_tuples}, proofs.TupleLaws.{levels_of_taken}},
  label_align.proofs.OuterJoinLaws.{single_rows},
}
use Rattle.label_align.proofs.axes.axis_of_rows.Goals as goal

pub returns-then-both-eq1 : goal.returns-then-both-eq1
returns-then-both-eq1 c =
    let one : c.args.both.now.levels ≡ 1 = search in
    let same = ap single_tuples c.in_ok-labels.ensures ∙ single_rows _ _ (grind arith) c.requires.rows in
    subst (λ (meant : AxisValue). IfOk c.from_labels.result (λ axis. axis ≡ meant)) (λ i. nameless_axis (same i) (sym one i)) c.from_labels.ensures

pub from_tuples-requires-clause-alike : goal.from_tuples-requires-clause-alike
from_tuples-requires-clause-alike c =
    subst (HaveLevels c.args.both.now.levels) (sym c.in_ok-tuples.ensures) (search levels_of_taken)
