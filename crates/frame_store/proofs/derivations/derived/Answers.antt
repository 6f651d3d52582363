use Rattle.{
  meaning_tables.proofs.cells.Common.{arith, ap, refl, sym},
  frame_store.{specs.{Objects.{table_on, table_or}, Derivations.{derived_table, table_by}}, proofs.{ColumnLaws.{cut_is_derived}, ObjectMade.{kept_settled, refused, out_of_memory, carried}}},
}
use Rattle.frame_store.proofs.derivations.derived.Goals as goal

pub returns-in_err-shape-clause-answers : goal.returns-in_err-shape-clause-answers
returns-in_err-shape-clause-answers c = λ earlier meant longer settled makes.
    let was = ap (table_by (derived_table (table_on c.args.store.now c.args.on))) c.in_err-shape.was in (
      grind (arith, refused),
      longer,
      search kept_settled,
      record { cells = omega arith; blocks = λ id live there apart. refl },
    )

pub returns-in_err-id-clause-answers : goal.returns-in_err-id-clause-answers
returns-in_err-id-clause-answers c = λ earlier meant longer settled makes. (
  grind (arith, out_of_memory),
  longer,
  kept_settled earlier _ _ _ longer settled c.in_err-id.ensures.err,
  record { cells = omega (arith, c.in_err-id.ensures.held); blocks = c.in_err-id.ensures.blocks },
)

pub returns-clause-answers : goal.returns-clause-answers
returns-clause-answers c = λ earlier meant longer settled makes.
    let same = sym (ap table_or c.read.ensures.table) in
    let new =
    carried _ earlier _ _ _ _ _ _ _ meant c.in_ok-shape.was
    (cut_is_derived (table_on c.args.store.now c.args.on) c.in_ok-shape.field-0 c.rows.result (rw same at c.read.ensures.whole) (rw c.in_ok-shape.was at c.requires.fits) (grind arith))
    c.in_ok-id.ensures.fresh c.in_ok-id.ensures.ok longer settled makes
    in (
      new.0,
      new.1,
      new.2,
      record { cells = omega (arith, c.in_ok-id.ensures.held); blocks = c.in_ok-id.ensures.blocks },
    )
