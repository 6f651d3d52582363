use Rattle.{
  meaning_json.{proofs.cells.Common.{◌≡◌, ◌∷◌, ◌++◌, [], List, ap, sym, ◌∙◌, map, string_bytes, Text}, specs.{tables.Table.{ColumnOf}, cells.Cell.{CellValue}, JsonRead.{cells_under, column_of_cells}}},
  column_core.specs.Columns.{CellColumn},
  serde_json.specs.Data.{Data},
  csv_frames.{specs.Views.{column_seen}, proofs.SettledLaws.{longer_twice, settled_more, seen_more}},
  json_frames.{specs.{Views.{values_seen}, Kinds.{kind_under}}, proofs.ColumnsLaws.{kind_under_is, held_under, column_is}},
}
use Rattle.json_frames.proofs.columns.columns_under.Goals as goal

pub column_there-requires : goal.column_there-requires
column_there-requires c =
    let key = c.as_str.ensures.value ∙ sym c.as_str-in-loop-key.ensures.value in
    held_under c.args.kinds.now (values_seen c.args.rows.now) c.as_str-in-loop-key.result.now _ _ c.requires (c.known.ensures ∙ ap (kind_under c.args.kinds.now) key) c.kind_or_whole-kind.ensures

pub loop-key-preserved : goal.loop-key-preserved
loop-key-preserved c =
    let l = c.loop-key in
    let new = c.column_there.new.dict in
    let column : CellColumn = c.in_ok-column_there.field-0 in
    let rows : List Data = values_seen c.args.rows.now in
    let found : Text = c.as_str-in-loop-key.result.now in
    let key : Text = string_bytes c.in-Some.key.now in
    let longer = c.in_ok-column_there.ensures.longer in
    let pushed : c.push.new.self ≡ l.columns ++ column ∷ [] = c.in_ok-push.ensures.ok in
    let kind = kind_under_is c.args.kinds.now rows found _ _ c.requires (c.known.ensures ∙ ap (kind_under c.args.kinds.now) (c.as_str.ensures.value ∙ sym c.as_str-in-loop-key.ensures.value)) c.kind_or_whole-kind.ensures in
    let seen : column_seen new column ≡ column_of_cells (cells_under rows key) = column_is (cells_under rows found) _ _ c.in_ok-column_there.ensures.column kind ∙ ap (λ k. column_of_cells (cells_under rows k)) c.as_str-in-loop-key.ensures.value in
    let others : List (ColumnOf CellValue) = map column_of_cells (map (cells_under rows) (map string_bytes c.next.new.self)) in
    record {
      longer = longer_twice _ _ _ l.invariant.longer longer;
      settled = settled_more column_seen l.dict new l.columns _ column longer l.invariant.settled pushed c.in_ok-column_there.ensures.settled;
      columns = seen_more column_seen l.dict new l.columns _ column longer l.invariant.settled pushed (column_of_cells (cells_under rows key)) others _ seen
          (ap (λ r. map (column_seen l.dict) l.columns ++ map column_of_cells (map (cells_under rows) (map string_bytes r))) (sym c.in-Some.ensures.steps) ∙ l.invariant.columns);
    }
