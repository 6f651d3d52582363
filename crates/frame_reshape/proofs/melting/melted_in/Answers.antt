use Rattle.{frame_parts.proofs.Common.{world, object_value}, frame_labels.specs.Named.{stands_in}, frame_reshape.proofs.MeltTold.{both_told}}
use Rattle.frame_reshape.proofs.melting.melted_in.Goals as goal

pub returns-clause-answer : goal.returns-clause-answer
returns-clause-answer c =
    let w = world c.args.store.now c.args.dict.now in
    both_told (object_value w.tables w.texts c.args.on) (stands_in w c.args.bound.now 0) (stands_in w c.args.bound.now 1) _ _ c.in_ok-kept.ensures.0 c.in_ok-values.ensures.0

pub returns-clause-columns : goal.returns-clause-columns
returns-clause-columns c = record { kept = c.in_ok-kept.ensures.1; values = c.in_ok-values.ensures.1 }
