use Rattle.{index_core.proofs.cells.Common.{arith, ◌≡◌, subst, length-map, slice_index_or, take_all}, multi_index.{specs.Levels.{AreLevels, levels_at, no_level}, proofs.WholeLaws.{whole_at}}}
use Rattle.multi_index.proofs.levels.Levels.at.Goals as goal

pub invariant_of-result-2 : goal.invariant_of-result-2
invariant_of-result-2 c =
    let self = c.args.self.now in
    let order = c.args.order.now in
    let all : c.loop-level.levels.items ≡ levels_at self order = grind (arith, take_all) in
    let whole = subst AreLevels c.self.view_is c.self.invariant.0 in
    (rw all (whole_at self order whole c.requires.some c.requires.few c.requires.inside), rw all (omega (arith, length-map order (λ k. slice_index_or self k no_level))))
