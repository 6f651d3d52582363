use Rattle.{
  column_core.proofs.cells.Common.{arith, ◌∙◌, ◌∷◌, ◌++◌, [], ap, Some, string_bytes, text},
  meaning_csv.specs.tables.Table.{tuple_value},
  csv_frames.proofs.SettledLaws.{longer_with, longer_twice, settled_more, seen_more, tuple_settled, tuple_seen, first_of},
}
use Rattle.csv_frames.proofs.columns.tuples_of.Goals as goal

pub loop-rest-preserved : goal.loop-rest-preserved
loop-rest-preserved c =
    let old = c.loop-rest.dict in
    let new = c.intern.new.self in
    let inv = c.loop-rest.invariant in
    let id = c.in_ok-text.text in
    let longer = longer_with _ _ _ c.in_ok-text.ensures.texts in
    let given = c.in_ok-text.ensures.given ∙ ap Some c.as_str.ensures.value in
    let pushed = c.in_ok-push.ensures.ok ∙ ap (λ t. c.loop-rest.tuples ++ t ∷ []) c.of.ensures in
    record {
      longer = search longer_twice;
      settled = settled_more tuple_value old new _ _ _ longer inv.settled pushed (tuple_settled _ id _ given);
      labels = seen_more tuple_value old new _ _ _ longer inv.settled pushed (text (string_bytes c.label-item.result) ∷ []) _ _ (tuple_seen _ id _ given)
          (grind (arith, first_of c.loop-rest.rest.now c.label-item.result c.label-item.is c.in-len1-up.len_at_least));
    }
