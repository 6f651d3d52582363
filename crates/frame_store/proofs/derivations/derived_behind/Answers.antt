use Rattle.{
  meaning_tables.proofs.cells.Common.{arith, ap, refl, subst, IfOk},
  frame_store.{specs.{Objects.{table_on}, Derivations.{extended_table, table_by, IsWithin}}, proofs.ObjectMade.{kept_settled, refused, out_of_memory, carried, carried_cost}},
}
use Rattle.frame_store.proofs.derivations.derived_behind.Goals as goal

pub returns-in_err-shape-clause-answers : goal.returns-in_err-shape-clause-answers
returns-in_err-shape-clause-answers c = λ earlier meant longer settled makes cells within.
    let was = ap (table_by (extended_table (table_on c.args.store.now c.args.on))) c.in_err-shape.was in (
      grind (arith, refused),
      longer,
      search kept_settled,
      record { cells = omega arith; blocks = λ id live there apart. refl },
    )

pub returns-in_err-id-clause-answers : goal.returns-in_err-id-clause-answers
returns-in_err-id-clause-answers c = λ earlier meant longer settled makes cells within. (
  grind (arith, out_of_memory),
  longer,
  kept_settled earlier _ _ _ longer settled c.in_err-id.ensures.err,
  record { cells = omega (arith, c.in_err-id.ensures.held); blocks = c.in_err-id.ensures.blocks },
)

pub returns-clause-answers : goal.returns-clause-answers
returns-clause-answers c = λ earlier meant longer settled makes cells within.
    let new =
    carried (extended_table (table_on c.args.store.now c.args.on)) earlier _ _ _ _ _ _ _ meant c.in_ok-shape.was (grind arith)
    c.in_ok-id.ensures.fresh c.in_ok-id.ensures.ok longer settled makes
    in
    let least : IsWithin cells c.in_ok-shape.field-0 = subst (λ r. IfOk r (IsWithin cells)) c.in_ok-shape.was within in (
      new.0,
      new.1,
      new.2,
      record { cells = omega (arith, c.in_ok-id.ensures.held, least, carried_cost _ _ _ _ meant cells c.in_ok-shape.was makes); blocks = c.in_ok-id.ensures.blocks },
    )
