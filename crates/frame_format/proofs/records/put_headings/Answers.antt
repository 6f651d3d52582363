use Rattle.{
  meaning_format.proofs.cells.Common.{append_assoc, arith},
  frame_format.proofs.{FieldLaws.{map_more}, RecordLaws.{filled_more, fields_placed}},
}
use Rattle.frame_format.proofs.records.put_headings.Goals as goal

pub loop-column-preserved : goal.loop-column-preserved
loop-column-preserved = grind (arith, append_assoc, map_more, filled_more)

pub returns-clause-fields : goal.returns-clause-fields
returns-clause-fields g c = fields_placed _ _ _ _ _ _ c.loop-column.invariant.fields (omega (arith, c.columns-column-end.ensures))
