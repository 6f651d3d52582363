use Rattle.{
  frame_parts.proofs.Common.{arith, ◌≡◌, refl, Some, slice_get, heading_label},
  frame_labels.proofs.ResetLaws.{name_settled},
}
use Rattle.frame_labels.proofs.resetting.level_label.Goals as goal

pub returns-in-Some-clause-given : goal.returns-in-Some-clause-given
returns-in-Some-clause-given c =
    let at : slice_get c.args.on.now.level_names c.args.level ≡ Some (Some c.in-Some.name) = grind (arith, slice_get) in
    heading_label _ _ _ refl (search (name_settled c.args.dict.now))
