use Rattle.{meaning_json.{proofs.cells.Common.{◌∷◌, ◌++◌, [], List, ap, sym, ◌∙◌, map, Cell, Label, LabelValue}, specs.{tables.Table.{tuple_value}, JsonRead.{label_in, tuples}}}, serde_json.specs.View.{view}, csv_frames.proofs.SettledLaws.{after, first_of, longer_twice, settled_more, seen_more}, json_frames.{specs.Views.{values_seen}, proofs.ThereLaws.{label_settled, label_seen}}}
use Rattle.json_frames.proofs.columns.labels_of.Goals as goal

pub loop-rest-preserved : goal.loop-rest-preserved
loop-rest-preserved c =
    let l = c.loop-rest in
    let x = c.value-item.result in
    let new = c.cell_of.new.dict in
    let cell : Cell = c.in_ok-cell.cell in
    let label : Label = c.from.result in
    let front = first_of l.rest.now x c.value-item.is c.in-len1-up.len_at_least in
    let longer = c.in_ok-cell.ensures.longer in
    let pushed = c.in_ok-push.ensures.ok ∙ ap (λ t. l.tuples ++ t ∷ []) c.of.ensures in
    let others : List (List LabelValue) = tuples (map label_in (values_seen (after l.rest.now))) in
    record {
      longer = longer_twice _ _ _ l.invariant.longer longer;
      settled = settled_more tuple_value l.dict new l.tuples _ (label ∷ []) longer l.invariant.settled pushed (label_settled new cell label c.from.ensures.1 c.in_ok-cell.ensures.settled);
      labels = seen_more tuple_value l.dict new l.tuples _ (label ∷ []) longer l.invariant.settled pushed (label_in (view x) ∷ []) others _ (label_seen new cell label _ c.from.ensures.1 c.in_ok-cell.ensures.value)
          (ap (λ r. map (tuple_value l.dict) l.tuples ++ tuples (map label_in (values_seen r))) (sym front) ∙ l.invariant.labels);
    }
