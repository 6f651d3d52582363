use Rattle.{
  frame_parts.proofs.Common.{arith, rules, tables, world, IsKnownSubscript},
  frame_set.proofs.SetLaws.{key_label_settled},
}
use Rattle.frame_set.proofs.touching.touched_in.Goals as goal

pub returns-in_default-Some : goal.returns-in_default-Some
returns-in_default-Some c =
    let known : IsKnownSubscript (world c.args.store.now c.args.dict.now) c.in_default-Some.key.now = search rules in
    let reached = c.columns_touched.ensures (tables c.args.store.now) known.given in
    grind arith

pub columns_put-requires-clause-label : goal.columns_put-requires-clause-label
columns_put-requires-clause-label c =
    key_label_settled (tables c.args.store.now) c.args.dict.now c.args.first.now c.in-Some.label c.in-Some.ensures c.requires.first.given
