use Rattle.{
  frame_parts.proofs.Common.{arith, datum, scalar_in, tables, world},
  column_core.proofs.cells.Common.{option_map},
  frame_signatures.proofs.{ScalarLaws.{items_settled, scalars_are}, ToldLaws.{told_settled, some_same}},
  frame_labels.proofs.{AnswerLaws.{known_table}, NamedLaws.{found_at}},
}
use Rattle.frame_labels.proofs.dropping.kept_columns.Goals as goal

-- a label
pub kept_by_label-requires-clause-known : goal.kept_by_label-requires-clause-known
kept_by_label-requires-clause-known c = search (known_table (world c.args.store.now c.args.dict.now))

pub kept_by_label-requires-clause-cell : goal.kept_by_label-requires-clause-cell
kept_by_label-requires-clause-cell c = λ more.
    some_same _ _
    (grind (arith, c.in-Some.is, told_settled c.args.bound.now 0 scalar_in (λ _ ts. option_map (datum ts) c.scalar_or_none.result) (tables c.args.store.now) c.args.dict.now c.scalar_or_none.ensures c.requires.names.given more))

-- a list
pub kept_by_list-requires-clause-known : goal.kept_by_list-requires-clause-known
kept_by_list-requires-clause-known c = search (known_table (world c.args.store.now c.args.dict.now))

pub kept_by_list-requires-clause-items : goal.kept_by_list-requires-clause-items
kept_by_list-requires-clause-items c =
    items_settled c.args.bound.now 0 _ _ _ c.in-Some-list_or_none.ensures.value c.requires.names.given

pub kept_by_list-requires-in-None-list_or_none-clause-known : goal.kept_by_list-requires-in-None-list_or_none-clause-known
kept_by_list-requires-in-None-list_or_none-clause-known c = search (known_table (world c.args.store.now c.args.dict.now))

pub returns-in-Some-list_or_none : goal.returns-in-Some-list_or_none
returns-in-Some-list_or_none = grind (arith, found_at, scalars_are)
