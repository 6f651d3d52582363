use Rattle.{
  frame_methods.proofs.frame_parts.Common.{arith, world, entry_in, arguments_in},
  frame_calls.proofs.{CallLaws.{behind_so}, WindowLaws.{rolling_told, expanding_told}},
}
use Rattle.frame_calls.proofs.methods.method_behind.Goals as goal

pub returns-in-Groupby : goal.returns-in-Groupby
returns-in-Groupby c =
    let w = world c.args.store.now c.args.dict.now in
    behind_so w (entry_in w c.args.on) c.args.name.now (arguments_in w c.args.args.now) c.args.between _ _ _ _ (grind arith) c.method.ensures

pub returns-in-Rolling : goal.returns-in-Rolling
returns-in-Rolling c =
    let w = world c.args.store.now c.args.dict.now in
    behind_so w (entry_in w c.args.on) c.args.name.now (arguments_in w c.args.args.now) c.args.between _ _ _ _ (grind (arith, rolling_told)) c.method-in-Rolling.ensures

pub returns-in-Expanding : goal.returns-in-Expanding
returns-in-Expanding c =
    let w = world c.args.store.now c.args.dict.now in
    behind_so w (entry_in w c.args.on) c.args.name.now (arguments_in w c.args.args.now) c.args.between _ _ _ _ (grind (arith, expanding_told)) c.method-in-Expanding.ensures
