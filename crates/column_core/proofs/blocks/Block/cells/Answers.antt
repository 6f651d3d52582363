use Rattle.column_core.proofs.BlockLaws.{even_columns}
use Rattle.column_core.proofs.blocks.Block.cells.Goals as goal

pub returns-clause-even : goal.returns-clause-even
returns-clause-even c = even_columns _ _ _ _ c.self.invariant c.self.view_is
