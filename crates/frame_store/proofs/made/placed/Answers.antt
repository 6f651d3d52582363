use Rattle.{
  meaning_tables.proofs.cells.Common.{arith, refl},
  frame_store.{proofs.{Settling.{settled_later, settled_with}, ObjectMade.{kept_settled, refused, out_of_memory, added, made_cost}}, specs.Shown.{shown}},
}
use Rattle.frame_store.proofs.made.placed.Goals as goal

pub returns-in_err-made-clause-answers : goal.returns-in_err-made-clause-answers
returns-in_err-made-clause-answers c = λ earlier meant longer settled makes. (
  grind (arith, refused),
  longer,
  search kept_settled,
  record { cells = omega arith; blocks = λ id live there apart. refl },
)

pub returns-in_err-id-clause-answers : goal.returns-in_err-id-clause-answers
returns-in_err-id-clause-answers c = λ earlier meant longer settled makes. (
  grind (arith, out_of_memory),
  longer,
  kept_settled earlier _ _ _ longer settled c.in_err-id.ensures.err,
  record { cells = omega (arith, c.in_err-id.ensures.held); blocks = c.in_err-id.ensures.blocks },
)

pub returns-clause-answers : goal.returns-clause-answers
returns-clause-answers c = λ earlier meant longer settled makes. (
  added earlier _ _ _ _ _ _ meant c.in_ok-made.was c.in_ok-id.ensures.fresh c.in_ok-id.ensures.ok longer settled makes,
  longer,
  settled_with _ _ _ c.in_ok-id.id.0 c.in_ok-made.field-0 (settled_later shown earlier _ _ longer settled) (grind arith) c.in_ok-id.ensures.ok,
  record { cells = omega (arith, c.in_ok-id.ensures.held, made_cost _ _ _ meant c.in_ok-made.was makes); blocks = c.in_ok-id.ensures.blocks },
)
