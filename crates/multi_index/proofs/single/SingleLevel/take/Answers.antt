use Rattle.{
  index_core.{proofs.cells.Common.{arith, ◌≡◌}, specs.Labels.{labels_at}},
  multi_index.proofs.KnownLaws.{known_taken},
}
use Rattle.multi_index.proofs.single.SingleLevel.take.Goals as goal

pub invariant_of-result : goal.invariant_of-result
invariant_of-result c =
    let labels : c.in_ok-labels.labels.value ≡ c.self.inside.labels.value = grind arith in
    let rows : c.in_ok-rows.rows.value ≡ labels_at c.self.inside.rows.value c.args.places.now = grind arith in
    rw (labels, rows) (known_taken c.self.inside.labels.value c.self.inside.rows.value c.args.places.now c.self.invariant)
