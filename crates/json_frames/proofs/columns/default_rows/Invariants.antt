use Rattle.{
  meaning_json.{proofs.cells.Common.{◌≡◌, List, Text}, specs.form.Finish.{default_labels}},
  csv_frames.specs.Views.{tuples_seen},
}
use Rattle.json_frames.proofs.columns.default_rows.Given as goal

-- the labels so far
abbrev pub invariant-loop-row : goal.invariant-loop-row
invariant-loop-row l = (texts : List Text) → tuples_seen texts l.tuples ≡ default_labels l.row
