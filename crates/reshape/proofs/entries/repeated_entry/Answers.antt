use Rattle.{
  column_core.proofs.cells.Common.{◌∙◌, arith},
  reshape.proofs.SpreadLaws.{numbers_below},
}
use Rattle.reshape.proofs.entries.repeated_entry.Goals as goal

pub first_repeated_row-requires : goal.first_repeated_row-requires
first_repeated_row-requires g c =
    numbers_below _ _ _ _ (c.deref.ensures.value ∙ c.in_ok-codes.ensures.codes) c.in_ok-codes.ensures.firsts (grind arith)
