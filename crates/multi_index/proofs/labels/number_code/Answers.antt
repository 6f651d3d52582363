use Rattle.{
  index_core.proofs.cells.Common.{arith, to_z-of_z},
  multi_index.proofs.KnownLaws.{number_tells, no_truth, no_text},
}
use Rattle.multi_index.proofs.labels.number_code.Goals as goal

pub returns-in-Int : goal.returns-in-Int
returns-in-Int c n known =
    let tells = number_tells n c.args.label c.in-Int.number c.in-Int.is known in
    grind (arith, to_z-of_z)

pub returns-in-Bool : goal.returns-in-Bool
returns-in-Bool c n known = no_truth n c.args.label _ c.in-Bool.is known

pub returns-in-Text : goal.returns-in-Text
returns-in-Text c n known = no_text n c.args.label _ c.in-Text.is known
