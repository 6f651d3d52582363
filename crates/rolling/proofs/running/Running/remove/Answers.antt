use Rattle.{
  column_core.proofs.cells.Common.{subst, rules, w64, ◌∷◌},
  std.proofs.lemmas.Int.{to_z-of_z},
  rolling.{specs.{Running.{IsRunning}, declared.running.Running.{Running}}, proofs.RunningLaws.{leave_out}},
}
use Rattle.rolling.proofs.running.Running.remove.Goals as goal

pub returns-in-Total : goal.returns-in-Total
returns-in-Total c = λ op count values is.
    let P : Running → Type 0 = λ r. IsRunning r op count (c.args.x ∷ values) in
    leave_out _ _ _ _ c.difference.result _ op values (to_z-of_z w64 _ (search rules)) (to_z-of_z w64 _ c.ranges.x) (to_z-of_z w64 _ (search rules)) c.difference.ensures (subst P c.in-Total.is is)
