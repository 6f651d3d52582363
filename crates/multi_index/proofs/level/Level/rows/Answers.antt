use Rattle.{
  index_core.proofs.cells.Common.{arith, ◌≡◌, map},
  multi_index.{specs.Levels.{label_of}, proofs.KnownLaws.{all_known_by_code}},
}
use Rattle.multi_index.proofs.level.Level.rows.Goals as goal

pub returns-clause-known : goal.returns-clause-known
returns-clause-known c =
    let labels = c.self.inside.labels.value in
    let rows : c.in_ok-rows.rows.items ≡ map (label_of labels) c.self.inside.codes.items = grind arith in
    rw (rows, ← c.self.view_is) (all_known_by_code labels c.self.inside.codes.items c.self.invariant)
