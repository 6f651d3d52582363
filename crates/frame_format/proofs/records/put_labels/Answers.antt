use Rattle.{
  meaning_format.proofs.cells.Common.{append_assoc, arith, na},
  frame_format.proofs.{FieldLaws.{map_more}, RecordLaws.{filled_more, fields_placed}},
}
use Rattle.frame_format.proofs.records.put_labels.Goals as goal

pub loop-level-preserved : goal.loop-level-preserved
loop-level-preserved = grind (arith, append_assoc, map_more, filled_more)

pub returns-clause-fields : goal.returns-clause-fields
returns-clause-fields g c = fields_placed _ _ na _ _ _ c.loop-level.invariant.fields (omega (arith, c.levels-level-end.ensures.count, c.levels-level-end.ensures.tuples c.args.row c.requires.row))
