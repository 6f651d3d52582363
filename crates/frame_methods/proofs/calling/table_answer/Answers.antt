use Rattle.{frame_parts.proofs.Common.{arith, ◌∙◌, ap, refl, rules, to_z-of_z, cell_label, table_value, scalar_in, limited, tables, table_at, world, arguments_in, sym}, column_core.proofs.cells.Common.{option_map, w64, FitsSigned}, frame_labels.{specs.method.{Charges.{method_charge}, Methods.{renamed_series}}, proofs.AnswerLaws.{free_so, charged_so}}, frame_signatures.proofs.ToldLaws.{name_given}, frame_methods.proofs.{AnswerLaws.{answer_by}, RenameLaws.{pairs_settled}}}
use Rattle.meaning_call.specs.declared.Method.TheVariants as method
use Rattle.frame_methods.proofs.calling.table_answer.Goals as goal

-- all of it, one column as a frame, and some columns
pub returns-in-Copy : goal.returns-in-Copy
returns-in-Copy c = free_so _ _ _ _ _ _ (grind (arith, answer_by)) c.copied.ensures

pub returns-in-ToFrame : goal.returns-in-ToFrame
returns-in-ToFrame c = free_so _ _ _ _ _ _ (grind (arith, answer_by)) c.to_frame.ensures

pub returns-in-DropColumns : goal.returns-in-DropColumns
returns-in-DropColumns c = free_so _ _ _ _ _ _ (grind (arith, answer_by)) c.drop_columns.ensures

-- the first and the last rows
pub returns-in-Head : goal.returns-in-Head
returns-in-Head c =
    let fits : FitsSigned w64 c.whole.result = search rules in
    free_so _ _ _ _ _ _
    (grind (arith, answer_by))
    (simp to_z-of_z at (c.head.ensures _ c.requires.settled))

pub returns-in-Tail : goal.returns-in-Tail
returns-in-Tail c =
    let fits : FitsSigned w64 c.whole-in-Tail.result = search rules in
    free_so _ _ _ _ _ _
    (grind (arith, answer_by))
    (simp to_z-of_z at (c.tail.ensures _ c.requires.settled))

-- a name
pub rename_series-requires-clause-name : goal.rename_series-requires-clause-name
rename_series-requires-clause-name c =
    name_given c.args.bound.now 0 _ _ _ _ c.scalar_or_none.ensures c.name_of-name.ensures c.requires.call.given

pub returns-in-RenameSeries : goal.returns-in-RenameSeries
returns-in-RenameSeries c =
    let w = world c.args.store.now c.args.dict.now in
    let t = table_value c.args.dict.now (table_at (tables c.args.store.now) c.args.on.0) in
    free_so _ _ _ _ _ _
    (ap (λ o. limited (renamed_series t o)) (c.name_of-name.ensures w.texts ∙ ap (option_map _) (c.scalar_or_none.ensures w.tables w.texts))
    ∙ answer_by w _ _ c.args.bound.now t (λ a. limited (renamed_series t (option_map cell_label (scalar_in (a 0))))) (ap method.Table c.in-RenameSeries.is) c.requires.call.parameters refl)
    c.rename_series.ensures

-- labels of columns
pub rename_frame-requires-clause-given : goal.rename_frame-requires-clause-given
rename_frame-requires-clause-given c = search pairs_settled

pub returns-in-RenameFrame : goal.returns-in-RenameFrame
returns-in-RenameFrame c = free_so _ _ _ _ _ _ (grind (arith, answer_by)) (c.rename_frame.ensures (tables c.args.store.now))

-- a text
pub returns-in-ToCsv : goal.returns-in-ToCsv
returns-in-ToCsv c =
    let w = world c.args.store.now c.args.dict.now in
    let t = table_value c.args.dict.now (table_at (tables c.args.store.now) c.args.on.0) in
    charged_so _ _ _ _ _ _ _
    (ap (λ m. method_charge (method.Table m) (arguments_in w c.args.bound.now.args.now) t) (sym c.in-ToCsv.is))
    (grind (arith, answer_by))
    (c.answer_made.ensures _ _ c.to_csv-text.ensures.longer c.requires.settled c.to_csv-text.ensures.answer)
