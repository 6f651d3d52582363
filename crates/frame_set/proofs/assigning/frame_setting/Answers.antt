use Rattle.{
  frame_parts.proofs.Common.{arith, ◌≡◌, Ok, one, table, tables, object_value},
  frame_select.specs.select.Set.{set_value},
  frame_set.{specs.Values.{value_in}, proofs.{MoveLaws.{series_shape}, SetLaws.{key_label_settled}}},
}
use Rattle.frame_set.proofs.assigning.frame_setting.Goals as goal

pub column_change-requires-clause-label : goal.column_change-requires-clause-label
column_change-requires-clause-label c = key_label_settled _ _ _ _ c.in-Some.ensures c.requires.key.given

pub series_setting-requires-clause-label : goal.series_setting-requires-clause-label
series_setting-requires-clause-label c = key_label_settled _ _ _ _ c.in-Some.ensures c.requires.key.given

pub series_setting-requires-clause-single : goal.series_setting-requires-clause-single
series_setting-requires-clause-single c =
    let texts = c.args.dict.now in
    let live = tables c.args.store.now in
    let s = object_value live texts c.in-Moved.series in
    let is : set_value (one (table s)) ≡ Ok (value_in live texts c.in_ok-read.read) = grind arith in
    search series_shape
