use Rattle.{
  column_core.proofs.cells.Common.{subst, rules, w64},
  std.proofs.lemmas.Int.{to_z-of_z},
  rolling.{specs.{Running.{IsRunning}, declared.running.Running.{Running}}, proofs.RunningLaws.{come_in}},
}
use Rattle.rolling.proofs.running.Running.add.Goals as goal

pub returns-in-Total : goal.returns-in-Total
returns-in-Total c = λ op count values is.
    let P : Running → Type 0 = λ r. IsRunning r op count values in
    come_in _ _ _ _ c.sum.result _ op values (to_z-of_z w64 _ (search rules)) (to_z-of_z w64 _ c.ranges.x) (to_z-of_z w64 _ (search rules)) c.sum.ensures (subst P c.in-Total.is is)
