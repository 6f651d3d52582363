use Rattle.{meaning_json.{proofs.cells.Common.{◌∷◌, ◌++◌, [], List, Some, ap, sym, ◌∙◌, map, string_bytes, text, Text, LabelValue}, specs.{tables.Table.{tuple_value}, JsonRead.{tuples}}}, csv_frames.proofs.SettledLaws.{longer_with, longer_twice, settled_more, seen_more, tuple_settled, tuple_seen}}
use Rattle.json_frames.proofs.columns.key_labels.Goals as goal

pub loop-key-preserved : goal.loop-key-preserved
loop-key-preserved c =
    let l = c.loop-key in
    let new = c.intern.new.self in
    let id = c.in_ok-label.label in
    let key : Text = string_bytes c.in-Some.key.now in
    let longer = longer_with _ _ _ c.in_ok-label.ensures.texts in
    let given = c.in_ok-label.ensures.given ∙ ap Some c.as_str.ensures.value in
    let pushed = c.in_ok-push.ensures.ok ∙ ap (λ t. l.tuples ++ t ∷ []) c.of.ensures in
    let others : List (List LabelValue) = tuples (map text (map string_bytes c.next.new.self)) in
    record {
      longer = longer_twice _ _ _ l.invariant.longer longer;
      settled = settled_more tuple_value l.dict new _ _ _ longer l.invariant.settled pushed (tuple_settled _ id _ given);
      labels = seen_more tuple_value l.dict new _ _ _ longer l.invariant.settled pushed (text key ∷ []) others _ (tuple_seen _ id _ given)
          (ap (λ r. map (tuple_value l.dict) l.tuples ++ tuples (map text (map string_bytes r))) (sym c.in-Some.ensures.steps) ∙ l.invariant.labels);
    }
