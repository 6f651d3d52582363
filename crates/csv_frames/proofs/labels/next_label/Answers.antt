use Rattle.{
  column_core.proofs.cells.Common.{arith},
  csv_frames.proofs.SkippedLaws.{skipped_new, skipped_old, next_number_of},
}
use Rattle.csv_frames.proofs.labels.next_label.Goals as goal

pub returns-then-number-known-clause-skipped : goal.returns-then-number-known-clause-skipped
returns-then-number-known-clause-skipped c =
    skipped_new _ _ _ _ _ _ _ _
    c.requires.skipped c.in_ok-number.ensures.texts c.in_ok-intern.ensures.texts c.in_ok-push.ensures.items c.in_ok-number.ensures.number (search)

pub free_label-requires-clause-skipped : goal.free_label-requires-clause-skipped
free_label-requires-clause-skipped c = (next_number_of _ _ _ _ _ c.in_ok-number.field-0.0 _ c.requires.skipped c.in_ok-number.ensures.texts c.in_ok-number.ensures.number (grind arith) c.in_ok-number.ensures.given c.index-first.ensures).1

pub returns-clause-skipped : goal.returns-clause-skipped
returns-clause-skipped c = skipped_old _ _ _ _ _ _ _ c.in_ok-number.field-0.0 _ c.requires.skipped c.in_ok-number.ensures.texts c.in_ok-free.ensures.taken c.in_ok-number.ensures.number (grind arith) c.in_ok-number.ensures.given c.in_ok-free.ensures.some c.in_ok-free.ensures.skipped
