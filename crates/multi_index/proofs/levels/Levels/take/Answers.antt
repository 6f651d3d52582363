use Rattle.{index_core.proofs.cells.Common.{arith, ◌≡◌, map, length-map}, multi_index.{specs.Levels.{taken_level}, proofs.WholeLaws.{whole_taken}}}
use Rattle.multi_index.proofs.levels.Levels.take.Goals as goal

pub invariant_of-result-in-Coded : goal.invariant_of-result-in-Coded
invariant_of-result-in-Coded c =
    let levels = c.in-Coded.levels.items in
    let is : c.in_ok-made-in-Coded.made.items ≡ map (taken_level c.args.places.now) levels = grind arith in
    let old = rw c.in-Coded.is at c.self.invariant in
    (rw is (whole_taken c.args.places.now levels old.0), rw is (omega (arith, length-map levels (taken_level c.args.places.now), old.1)))
