use Rattle.csv_frames.proofs.GrowingLaws.{first_is}
use Rattle.csv_frames.proofs.growing.first_value.Goals as goal

pub returns-clause-first : goal.returns-clause-first
returns-clause-first c =
    first_is _ _ _ _ c.args.field.now _ _ c.kind_of_field.ensures c.in_ok-column.ensures c.in_ok-push_field.ensures.grown
