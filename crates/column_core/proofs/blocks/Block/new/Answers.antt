use Rattle.{
  meaning_cells.proofs.Common.{◌∙◌},
  column_core.proofs.BlockLaws.{blank_seen},
}
use Rattle.column_core.proofs.blocks.Block.new.Goals as goal

pub returns : goal.returns
returns c = c.of_columns.ensures ∙ blank_seen c.args.kind c.args.columns c.args.rows _ c.in_ok-blank.ensures
