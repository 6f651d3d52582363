use Rattle.{
  frame_parts.proofs.Common.{arith, datum, scalar_in, tables, world},
  column_core.proofs.cells.Common.{option_map},
  frame_signatures.proofs.{ScalarLaws.{items_settled, scalars_are}, ToldLaws.{told_settled, some_same}},
  frame_labels.proofs.{AnswerLaws.{known_table}, NamedLaws.{found_at}},
}
use Rattle.frame_labels.proofs.named_columns.told_places.Goals as goal

-- a label
pub place_of-requires-clause-known : goal.place_of-requires-clause-known
place_of-requires-clause-known c = search (known_table (world c.args.store.now c.args.dict.now))

pub place_of-requires-clause-cell : goal.place_of-requires-clause-cell
place_of-requires-clause-cell c = λ more.
    some_same _ _
    (grind (arith, c.in-Some.is, told_settled c.args.bound.now c.args.place scalar_in (λ _ ts. option_map (datum ts) c.scalar_or_none.result) (tables c.args.store.now) c.args.dict.now c.scalar_or_none.ensures c.requires.names.given more))

-- a list
pub places_of-requires-clause-known : goal.places_of-requires-clause-known
places_of-requires-clause-known c = search (known_table (world c.args.store.now c.args.dict.now))

pub places_of-requires-clause-items : goal.places_of-requires-clause-items
places_of-requires-clause-items c =
    items_settled c.args.bound.now c.args.place _ _ _ c.in-Some-list_or_none.ensures.value c.requires.names.given

pub returns-in-Some-list_or_none : goal.returns-in-Some-list_or_none
returns-in-Some-list_or_none = grind (arith, found_at, scalars_are)
