use Rattle.{frame_parts.proofs.Common.{arith, err_from_is_err_and, tables, world}, frame_labels.proofs.AnswerLaws.{known_table}, frame_asof.specs.Asked.{asof_value}, frame_asof.proofs.MergeLaws.{all_met, keys_refused, rows_refused, frame_answered}}
use Rattle.frame_asof.proofs.merging.asof_merged.Goals as goal

pub keys_of_asof-requires-clause-left : goal.keys_of_asof-requires-clause-left
keys_of_asof-requires-clause-left c = known_table (world c.args.store.now c.args.dict.now) _ _ c.read-l.ensures.table c.read-l.ensures.whole c.requires.settled

pub keys_of_asof-requires-clause-right : goal.keys_of_asof-requires-clause-right
keys_of_asof-requires-clause-right c = known_table (world c.args.store.now c.args.dict.now) _ _ c.read-r.ensures.table c.read-r.ensures.whole c.requires.settled

pub rows_met-requires-clause-left : goal.rows_met-requires-clause-left
rows_met-requires-clause-left c = known_table (world c.args.store.now c.args.dict.now) _ _ c.read-l.ensures.table c.read-l.ensures.whole c.requires.settled

pub rows_met-requires-clause-right : goal.rows_met-requires-clause-right
rows_met-requires-clause-right c = known_table (world c.args.store.now c.args.dict.now) _ _ c.read-r.ensures.table c.read-r.ensures.whole c.requires.settled

pub frame_of_pairs-requires-clause-left : goal.frame_of_pairs-requires-clause-left
frame_of_pairs-requires-clause-left c = known_table (world c.args.store.now c.args.dict.now) _ _ c.read-l.ensures.table c.read-l.ensures.whole c.requires.settled

pub frame_of_pairs-requires-clause-right : goal.frame_of_pairs-requires-clause-right
frame_of_pairs-requires-clause-right c = known_table (world c.args.store.now c.args.dict.now) _ _ c.read-r.ensures.table c.read-r.ensures.whole c.requires.settled

pub frame_of_pairs-requires-clause-frames : goal.frame_of_pairs-requires-clause-frames
frame_of_pairs-requires-clause-frames c = (grind arith, grind arith)

pub frame_of_pairs-requires-clause-rows : goal.frame_of_pairs-requires-clause-rows
frame_of_pairs-requires-clause-rows c = all_met _ _ _ _ c.in_ok-rows.ensures.inside c.in_ok-pairs.ensures.right c.in_ok-pairs.ensures.left

pub returns-in_err-keys-clause-answer : goal.returns-in_err-keys-clause-answer
returns-in_err-keys-clause-answer c =
    let p = err_from_is_err_and c.from_residual.result c.from_residual.ensures.1 in
    rw (p.1, p.2) (keys_refused (tables c.args.store.now) c.args.dict.now c.args.left c.args.right _ _ c.read-l.ensures.table c.read-r.ensures.table (asof_value c.args.dict.now c.args.asof.now) (grind arith) (grind arith) _ c.in_err-keys.ensures.answer)

pub returns-in_err-rows-clause-answer : goal.returns-in_err-rows-clause-answer
returns-in_err-rows-clause-answer c =
    let p = err_from_is_err_and c.from_residual-in_err-rows.result c.from_residual-in_err-rows.ensures.1 in
    rw (p.1, p.2) (rows_refused (tables c.args.store.now) c.args.dict.now c.args.left c.args.right _ _ c.read-l.ensures.table c.read-r.ensures.table (asof_value c.args.dict.now c.args.asof.now) (grind arith) (grind arith) _ c.in_ok-keys.ensures.answer _ c.in_err-rows.ensures.rows)

pub returns-clause-answer : goal.returns-clause-answer
returns-clause-answer c = frame_answered (tables c.args.store.now) c.args.dict.now c.args.left c.args.right _ _ c.read-l.ensures.table c.read-r.ensures.table (asof_value c.args.dict.now c.args.asof.now) (grind arith) (grind arith) _ c.in_ok-keys.ensures.answer _ c.in_ok-rows.ensures.rows _ c.in_ok-pairs.ensures.right c.in_ok-pairs.ensures.left _ _ c.frame_of_pairs.ensures.answer
