use Rattle.{
  frame_methods.proofs.frame_parts.Common.{◌∙◌, ap, table_value, table_at, world, arguments_in},
  meaning_call.specs.declared.{Method.TheVariants.{Other}, OtherMethod.TheVariants.{Merge}},
  frame_calls.proofs.{CallLaws.{method_is}, ShapeLaws.{merge_named}},
}
use Rattle.meaning_call.specs.declared.Method.TheVariants as method
use Rattle.frame_calls.proofs.methods.answered.Goals as goal

pub merge-requires-clause-shape : goal.merge-requires-clause-shape
merge-requires-clause-shape c = merge_named _ _ _ c.requires.named (c.in-Other-Merge.is ∙ ap Other (rw c.in-Other-Merge.is at c.in-Other-Merge.field-0-is))

pub returns-in-Columns : goal.returns-in-Columns
returns-in-Columns c =
    let w = world c.args.store.now c.args.dict.now in
    let t = table_value w.texts (table_at w.tables c.args.on.0) in
    method_is c.args.name.now (arguments_in w c.args.args.now) t _ w _ c.args.method (method.Columns c.in-Columns.method) c.in-Columns.is c.column_method.ensures

pub returns-in-Summary : goal.returns-in-Summary
returns-in-Summary c =
    let w = world c.args.store.now c.args.dict.now in
    let t = table_value w.texts (table_at w.tables c.args.on.0) in
    method_is c.args.name.now (arguments_in w c.args.args.now) t _ w _ c.args.method (method.Summary c.in-Summary.method) c.in-Summary.is c.summary_method.ensures

pub returns-in-Rows : goal.returns-in-Rows
returns-in-Rows c =
    let w = world c.args.store.now c.args.dict.now in
    let t = table_value w.texts (table_at w.tables c.args.on.0) in
    method_is c.args.name.now (arguments_in w c.args.args.now) t _ w _ c.args.method (method.Rows c.in-Rows.method) c.in-Rows.is c.row_method.ensures

pub returns-in-Levels : goal.returns-in-Levels
returns-in-Levels c =
    let w = world c.args.store.now c.args.dict.now in
    let t = table_value w.texts (table_at w.tables c.args.on.0) in
    method_is c.args.name.now (arguments_in w c.args.args.now) t _ w _ c.args.method (method.Levels c.in-Levels.method) c.in-Levels.is c.level_method.ensures

pub returns-in-Labels : goal.returns-in-Labels
returns-in-Labels c =
    let w = world c.args.store.now c.args.dict.now in
    let t = table_value w.texts (table_at w.tables c.args.on.0) in
    method_is c.args.name.now (arguments_in w c.args.args.now) t _ w _ c.args.method (method.Labels c.in-Labels.method) c.in-Labels.is c.label_method.ensures

pub returns-in-Table : goal.returns-in-Table
returns-in-Table c =
    let w = world c.args.store.now c.args.dict.now in
    let t = table_value w.texts (table_at w.tables c.args.on.0) in
    method_is c.args.name.now (arguments_in w c.args.args.now) t _ w _ c.args.method (method.Table c.in-Table.method) c.in-Table.is c.table_method.ensures

pub returns-in-Reshape : goal.returns-in-Reshape
returns-in-Reshape c =
    let w = world c.args.store.now c.args.dict.now in
    let t = table_value w.texts (table_at w.tables c.args.on.0) in
    method_is c.args.name.now (arguments_in w c.args.args.now) t _ w _ c.args.method (method.Reshape c.in-Reshape.method) c.in-Reshape.is c.method.ensures

pub returns-in-Other-Merge : goal.returns-in-Other-Merge
returns-in-Other-Merge c =
    let w = world c.args.store.now c.args.dict.now in
    let t = table_value w.texts (table_at w.tables c.args.on.0) in
    method_is c.args.name.now (arguments_in w c.args.args.now) t _ w _ c.args.method (Other Merge) (c.in-Other-Merge.is ∙ ap Other (rw c.in-Other-Merge.is at c.in-Other-Merge.field-0-is)) c.merge.ensures
