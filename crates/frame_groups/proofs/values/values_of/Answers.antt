use Rattle.{
  frame_parts.proofs.Common.{arith, ◌≡◌, ◌∙◌, ap, sym, length, Some, None, table_value, items_of, tables, table_at, world, argument_in},
  column_core.proofs.cells.Common.{option_map},
  frame_labels.{specs.method.Groups.{values_in, values_named}, proofs.NamedLaws.{others_inside}},
  frame_groups.proofs.FormLaws.{known_table, items_known, many_values},
}
use Rattle.frame_groups.proofs.values.values_of.Goals as goal

-- all columns but the keys
pub returns-in_default-clause-values : goal.returns-in_default-clause-values
returns-in_default-clause-values c =
    let t = table_at (tables c.args.store.now) c.args.on.0 in
    let count : c.columns.result ≡ length t.columns = grind arith in
    many_values t _ (others_inside _ _ _ _ c.in_ok-places.ensures count)

-- those that are named
pub labelled-requires-clause-known : goal.labelled-requires-clause-known
labelled-requires-clause-known c = known_table (world c.args.store.now c.args.dict.now) _ _ c.read-source.ensures.table c.read-source.ensures.whole c.requires.settled

pub listed-requires-clause-known : goal.listed-requires-clause-known
listed-requires-clause-known c = known_table (world c.args.store.now c.args.dict.now) _ _ c.read-source.ensures.table c.read-source.ensures.whole c.requires.settled

pub listed-requires-clause-items : goal.listed-requires-clause-items
listed-requires-clause-items c =
    items_known (world c.args.store.now c.args.dict.now) c.in-Some.given.now _ c.in-Some-list.ensures.parts (grind arith)

pub returns-in-Some-list-clause-answer : goal.returns-in-Some-list-clause-answer
returns-in-Some-list-clause-answer c =
    let w = world c.args.store.now c.args.dict.now in
    let items = c.in-Some-list.items.now in
    let T = table_value w.texts (table_at w.tables c.args.on.0) in
    let at : c.read-source.result ≡ table_at w.tables c.args.on.0 = grind arith in
    let same =
    ap (λ n. values_named (table_value w.texts n) None (Some (items_of w.tables w.texts items))) at
    ∙ (λ i. values_named T (c.in-None.ensures w.tables w.texts i) (c.in-Some-list.ensures.parts w.tables w.texts i))
    ∙ ap (λ o. values_in T c.args.keys.now (option_map (λ a. argument_in w a.now) o)) (sym c.in-Some.is) in
    grind arith
