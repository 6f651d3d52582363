use Rattle.{
  frame_parts.proofs.Common.{arith, refl},
  frame_store.proofs.ObjectMade.{kept_settled},
  frame_methods.proofs.CallLaws.{refused_made, table_meant, scalar_answered},
}
use Rattle.frame_methods.proofs.calling.answer_made.Goals as goal

pub returns-in_err-cell : goal.returns-in_err-cell
returns-in_err-cell c = λ earlier meant longer settled makes. (
  grind (arith, refused_made),
  longer,
  search kept_settled,
  record { cells = omega arith; blocks = λ id live there apart. refl },
)

pub returns-in-Table : goal.returns-in-Table
returns-in-Table c = λ earlier meant longer settled makes.
    c.placed.ensures.answers earlier meant longer settled (table_meant _ _ _ _ _ c.in_ok-cell.was c.in-Table.is c.requires makes)

pub returns-in-Scalar : goal.returns-in-Scalar
returns-in-Scalar c = λ earlier meant longer settled makes. (
  scalar_answered _ _ _ _ _ _ _ c.in_ok-cell.was c.in-Scalar.is c.requires longer settled makes,
  longer,
  search kept_settled,
  record { cells = omega arith; blocks = λ id live there apart. refl },
)
