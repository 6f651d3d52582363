use Rattle.frame_store.proofs.KeptLaws.{set_kept, set_sole}
use Rattle.frame_store.proofs.live.Object.set_cells.Goals as goal

pub returns-clause-kept : goal.returns-clause-kept
returns-clause-kept c =
    set_kept c.args.pool.now c.set_cells.new.pool c.self.inside.shape c.self.inside.axis c.self.inside.columns_name c.self.inside.headings.items c.self.inside.manager c.set_cells.new.self c.args.self.now c.self.view_is c.requires.kept
    c.set_cells.result c.args.rows.now c.args.columns.now c.args.values.now c.set_cells.ensures.stands c.set_cells.ensures.columns c.set_cells.ensures.err

pub returns-clause-sole : goal.returns-clause-sole
returns-clause-sole c =
    set_sole c.args.pool.now c.set_cells.new.pool c.self.inside.shape c.self.inside.axis c.self.inside.columns_name c.self.inside.headings.items c.self.inside.manager c.set_cells.new.self c.args.self.now c.self.view_is c.requires.kept
    c.set_cells.result c.args.columns.now c.set_cells.ensures.sole
