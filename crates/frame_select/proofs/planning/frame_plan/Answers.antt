use Rattle.frame_parts.proofs.Common.{arith, ◌≡◌, world, IsKnownSubscript, One, Key}
use Rattle.frame_select.proofs.planning.frame_plan.Goals as goal

pub value_plan-requires-clause-value : goal.value_plan-requires-clause-value
value_plan-requires-clause-value c =
    let a : c.args.key.now ≡ Key c.in-Key-One.field-0 = search in
    let b : c.in-Key-One.field-0 ≡ One c.in-Key-One.value = search in
    let known : IsKnownSubscript (world c.args.store.now c.args.dict.now) (Key (One c.in-Key-One.value)) = grind arith in
    grind arith
