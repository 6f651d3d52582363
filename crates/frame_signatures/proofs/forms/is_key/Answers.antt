use Rattle.frame_store.proofs.{cells.Common.{arith}, RowLaws.{item_of-Row}}
use Rattle.frame_signatures.proofs.forms.is_key.Goals as goal

pub returns-in-Row : goal.returns-in-Row
returns-in-Row c = λ live texts. grind (arith, c.are_scalars.ensures live texts, c.as_slice.ensures, c.in-Row.is, item_of-Row live texts c.in-Row.parts)
