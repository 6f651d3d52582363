use Rattle.{
  meaning_json.{proofs.cells.Common.{◌≡◌, ◌∷◌, ◌++◌, [], List, refl}, specs.JsonRead.{cells_at}},
  column_core.specs.Columns.{CellColumn},
  serde_json.specs.Data.{Data},
  csv_frames.{specs.Views.{column_seen}, proofs.SettledLaws.{longer_twice, settled_more}},
  json_frames.{specs.Views.{values_seen}, proofs.ColumnsLaws.{held_at, column_is, columns_more}},
}
use Rattle.json_frames.proofs.columns.columns_at.Goals as goal

pub column_there-requires : goal.column_there-requires
column_there-requires c = held_at c.args.kinds.now _ (values_seen c.args.rows.now) c.loop-place.place c.requires c.loop-place-test.true refl

pub loop-place-preserved : goal.loop-place-preserved
loop-place-preserved c =
    let l = c.loop-place in
    let new = c.column_there.new.dict in
    let column : CellColumn = c.in_ok-column_there.field-0 in
    let rows : List Data = values_seen c.args.rows.now in
    let longer = c.in_ok-column_there.ensures.longer in
    let pushed : c.push.new.self ≡ l.columns ++ column ∷ [] = c.in_ok-push.ensures.ok in
    record {
      longer = longer_twice _ _ _ l.invariant.longer longer;
      settled = settled_more column_seen l.dict new l.columns _ column longer l.invariant.settled pushed c.in_ok-column_there.ensures.settled;
      columns = columns_more l.dict new l.columns _ column longer l.invariant.settled pushed rows l.place l.invariant.columns (column_is (cells_at rows l.place) _ _ c.in_ok-column_there.ensures.column (c.requires.each l.place c.loop-place-test.true));
    }
