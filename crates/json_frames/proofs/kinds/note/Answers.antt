use Rattle.{
  meaning_json.proofs.cells.Common.{sym, ◌∙◌},
  json_frames.proofs.KindLaws.{noted_known, noted_new},
}
use Rattle.json_frames.proofs.kinds.note.Goals as goal

pub returns-in-Some-clause-noted : goal.returns-in-Some-clause-noted
returns-in-Some-clause-noted c = noted_known c.args.kinds.now c.args.key.now c.in-Some.known c.args.kind (sym c.in-Some.is ∙ c.known.ensures)

pub returns-in_ok-insert-in-None-clause-noted : goal.returns-in_ok-insert-in-None-clause-noted
returns-in_ok-insert-in-None-clause-noted c =
    let done = c.in_ok-insert-in-None.ensures in
    noted_new c.args.kinds.now c.insert.new.self c.in_ok-from_str-in-None.field-0 c.args.key.now c.args.kind c.in_ok-insert-in-None.field-0
    c.in_ok-from_str-in-None.ensures.ok (sym c.in-None.is ∙ c.known.ensures) done.old done.keys_stay done.entries done.updates
