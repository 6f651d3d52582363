use Rattle.{
  index_core.proofs.cells.Common.{arith, rules, ◌≡◌, take_all, common_steps},
  multi_index.{specs.{Axes.{with_one}, Levels.{new_level}}, proofs.WholeLaws.{whole_with, two_with}},
}
use Rattle.multi_index.proofs.levels.Levels.with_level.Goals as goal

pub invariant_of-result : goal.invariant_of-result
invariant_of-result c =
    let new = new_level c.args.dict.now c.args.labels.now in
    let self = c.args.self.now in
    let is : c.insert.new.self.items ≡ with_one c.args.outer new self = first_of (search, search rules, grind (arith, common_steps), grind (arith, take_all)) in
    (rw is (whole_with c.args.outer new self c.count.ensures.whole c.requires.few c.requires.rows), rw is (two_with c.args.outer new self c.count.ensures.whole.some))
