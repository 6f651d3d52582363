use Rattle.{
  frame_methods.proofs.frame_parts.Common.{arith, world, arguments_in},
  frame_calls.proofs.CallLaws.{object_found},
}
use Rattle.frame_calls.proofs.methods.plain.Goals as goal

pub returns-in-Some : goal.returns-in-Some
returns-in-Some c =
    let w = world c.args.store.now c.args.dict.now in
    object_found w _ c.args.on c.in-Object.id c.args.name.now (arguments_in w c.args.args.now) _ c.in-Some.method c.in-Object.is (grind arith) c.answered.ensures
