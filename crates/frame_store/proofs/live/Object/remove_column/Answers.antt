use Rattle.frame_store.proofs.KeptLaws.{removed_kept}
use Rattle.frame_store.proofs.live.Object.remove_column.Goals as goal

pub returns-clause-kept : goal.returns-clause-kept
returns-clause-kept c =
    removed_kept c.args.pool.now c.remove_column.new.pool c.self.inside.shape c.self.inside.axis c.self.inside.columns_name c.self.inside.headings.items c.self.inside.manager c.remove_column.new.self c.args.self.now c.self.view_is c.requires.kept
    c.remove.new.self.items c.args.column c.in_ok-remove_column.ensures.stands c.remove.ensures.items c.in_ok-remove_column.ensures.columns c.requires.column c.requires.frame
