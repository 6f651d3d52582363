use Rattle.{
  meaning_tables.{proofs.cells.Common.{◌∙◌, ap, List, Option, Label}, specs.{Change.{put_at}, Table.{column_at}}},
  block_manager.specs.Managed.{columns_on},
  frame_store.proofs.KeptLaws.{put_kept, series_rows},
}
use Rattle.frame_store.proofs.live.Object.take_column.Goals as goal

pub returns-in-Ok-clause-kept : goal.returns-in-Ok-clause-kept
returns-in-Ok-clause-kept c =
    put_kept c.args.pool.now c.take.new.pool c.self.inside.shape c.self.inside.axis c.self.inside.columns_name c.self.inside.headings.items c.self.inside.manager c.take.new.manager c.args.self.now c.self.view_is c.requires.kept
    c.put_at.new.items.items c.args.column c.args.heading (column_at (columns_on c.args.pool.now c.args.from.manager) 0) c.in-Ok.ensures.stands (c.put_at.ensures ∙ ap (λ (l : List (Option Label)). put_at l c.args.column c.args.heading) c.reserve.ensures.items)
    c.in-Ok.ensures.columns (series_rows c.args.pool.now c.args.from c.requires.from c.requires.series ∙ c.requires.rows) c.requires.headings
