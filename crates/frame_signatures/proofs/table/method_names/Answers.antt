use Rattle.{
  frame_store.proofs.cells.Common.{refl},
  meaning_call.specs.Signature.{method_names},
}
use Rattle.frame_signatures.proofs.table.method_names.Goals as goal

pub returns : goal.returns
unfolding method_names
returns c = refl
