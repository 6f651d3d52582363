use Rattle.reshape.proofs.StackBack.{labels_stack_back}
use Rattle.reshape.proofs.laws.stacks_back.Goals as goal

pub returns : goal.returns
returns c = labels_stack_back
