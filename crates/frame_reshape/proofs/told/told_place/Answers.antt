use Rattle.frame_parts.proofs.Common.{tables, headings_part, object_settled}
use Rattle.frame_reshape.proofs.told.told_place.Goals as goal

pub argument_column-requires-clause-settled : goal.argument_column-requires-clause-settled
argument_column-requires-clause-settled c = headings_part _ _ (object_settled _ (tables c.args.store.now) _ _ c.read.ensures.table c.requires.settled)
