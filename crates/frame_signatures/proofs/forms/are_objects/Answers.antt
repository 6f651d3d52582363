use Rattle.{
  frame_store.proofs.cells.Common.{rules},
  meaning_call.specs.Binding.{is_object},
  frame_signatures.proofs.FormLaws.{each_told},
}
use Rattle.frame_signatures.proofs.forms.are_objects.Goals as goal

pub returns : goal.returns
returns c = λ live texts. each_told is_object live texts c.args.items.now c.all.result (search rules)
