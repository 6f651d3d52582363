use Rattle.{
  index_core.proofs.cells.Common.{arith, ◌≡◌, map},
  multi_index.proofs.CodeLaws.{code_at, codes_kept, level_taken},
}
use Rattle.multi_index.proofs.level.Level.take.Goals as goal

pub invariant_of-result : goal.invariant_of-result
invariant_of-result c =
    let codes = c.self.inside.codes.items in
    let kept : c.in_ok-codes.codes.items ≡ map (code_at codes) c.args.places.now = grind arith in
    let same : c.in_ok-labels.labels.value ≡ c.self.inside.labels.value = grind arith in
    rw (kept, same) (codes_kept _ codes c.args.places.now c.self.invariant)

pub returns : goal.returns
returns c =
    let codes = c.self.inside.codes.items in
    let kept : c.in_ok-codes.codes.items ≡ map (code_at codes) c.args.places.now = grind arith in
    let same : c.in_ok-labels.labels.value ≡ c.self.inside.labels.value = grind arith in
    level_taken c.self.inside.labels.value _ codes _ c.args.places.now _ c.self.view_is same kept
