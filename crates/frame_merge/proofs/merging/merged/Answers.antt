use Rattle.{
  frame_parts.proofs.Common.{arith, ◌∙◌, ap, err_from_is_err_and, tables, world},
  frame_merge.proofs.KeyLaws.{rows_answered, told_given, told_some, right_shape, keys_refused},
  frame_labels.{specs.method.Merge.{validate_in}, proofs.AnswerLaws.{known_table}},
}
use Rattle.frame_merge.proofs.merging.merged.Goals as goal

pub read-r-requires : goal.read-r-requires
read-r-requires c = c.frame.ensures.live (tables c.args.store.now) c.requires.call.live

pub keys_of_merge-requires-clause-left : goal.keys_of_merge-requires-clause-left
keys_of_merge-requires-clause-left c = known_table (world c.args.store.now c.args.dict.now) _ _ c.read-l.ensures.table c.read-l.ensures.whole c.requires.settled

pub keys_of_merge-requires-clause-right : goal.keys_of_merge-requires-clause-right
keys_of_merge-requires-clause-right c = known_table (world c.args.store.now c.args.dict.now) _ _ c.read-r.ensures.table c.read-r.ensures.whole c.requires.settled

pub keys_of_merge-requires-clause-given : goal.keys_of_merge-requires-clause-given
keys_of_merge-requires-clause-given c = told_given (world c.args.store.now c.args.dict.now) _ _ c.requires.call c.in_ok-told.ensures

pub keys_of_merge-requires-clause-some : goal.keys_of_merge-requires-clause-some
keys_of_merge-requires-clause-some c = told_some (world c.args.store.now c.args.dict.now) _ _ c.requires.call c.in_ok-told.ensures

pub merged_rows-requires-clause-left : goal.merged_rows-requires-clause-left
merged_rows-requires-clause-left c = known_table (world c.args.store.now c.args.dict.now) _ _ c.read-l.ensures.table c.read-l.ensures.whole c.requires.settled

pub merged_rows-requires-clause-right : goal.merged_rows-requires-clause-right
merged_rows-requires-clause-right c = known_table (world c.args.store.now c.args.dict.now) _ _ c.read-r.ensures.table c.read-r.ensures.whole c.requires.settled

pub merged_rows-requires-clause-frames : goal.merged_rows-requires-clause-frames
merged_rows-requires-clause-frames c =
    let w = world c.args.store.now c.args.dict.now in
    (grind arith, right_shape w _ c.requires.call _ _ c.read-r.ensures.table (c.frame.ensures.table w.tables w.texts))

pub returns-in_err-keys-clause-answer : goal.returns-in_err-keys-clause-answer
returns-in_err-keys-clause-answer c =
    let p = err_from_is_err_and c.from_residual-in_err-keys.result c.from_residual-in_err-keys.ensures.1 in
    rw (p.1, p.2) (keys_refused (world c.args.store.now c.args.dict.now) _ c.requires.call _ _ _ _ c.read-l.ensures.table c.read-r.ensures.table c.frame.ensures.table _ c.text.ensures _ c.how_named-how.ensures _ c.in_ok-told.ensures _ c.in_err-keys.ensures.answer)

pub returns-clause-answer : goal.returns-clause-answer
returns-clause-answer c =
    rows_answered (world c.args.store.now c.args.dict.now) _ c.requires.call _ _ _ _ c.read-l.ensures.table c.read-r.ensures.table c.frame.ensures.table _ c.text.ensures _ c.how_named-how.ensures _ c.in_ok-told.ensures
    _ (c.once_in-once.ensures ∙ ap validate_in (c.text_or_none.ensures.value (tables c.args.store.now))) _ c.in_ok-keys.ensures.answer _ _ c.merged_rows.ensures.answer
