use Rattle.frame_methods.proofs.SortLaws.{rows_keyed}
use Rattle.frame_methods.proofs.sort_keys.rows_by_keys.Goals as goal

pub returns : goal.returns
returns c = rw (← rows_keyed c.args.dict.now c.args.keys.now c.args.ascending c.args.rows) c.rows_by_labels.ensures
