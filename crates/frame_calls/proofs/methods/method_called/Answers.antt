use Rattle.{
  frame_methods.proofs.frame_parts.Common.{arith, world, arguments_in},
  frame_calls.proofs.CallLaws.{object_found},
}
use Rattle.frame_calls.proofs.methods.method_called.Goals as goal

pub returns : goal.returns
returns c =
    let w = world c.args.store.now c.args.dict.now in
    rw (← c.as_slice.ensures) (object_found w _ c.args.on c.in-Object.id c.args.name.now (arguments_in w c.as_slice.result.now) _ c.args.method c.in-Object.is (grind arith) c.answered.ensures)
