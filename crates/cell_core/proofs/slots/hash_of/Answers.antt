use Rattle.std.proofs.Common.{◌∙◌, ap}
use Rattle.std.specs.List.{fold}
use Rattle.std.specs.Hash as fed
use Rattle.std.specs.Hash.FoldHasher as folding
use Rattle.cell_core.specs.Keys.{text_hash}
use Rattle.cell_core.proofs.slots.hash_of.Goals as goal

pub returns : goal.returns
unfolding text_hash
returns c = c.hash_one.ensures ∙ ap (λ h. folding.finish (fold folding.write h (fed.str c.args.text.now))) c.new.ensures
