use Rattle.{
  meaning_tables.{proofs.cells.Common.{◌∙◌, ap, List, Option, Label}, specs.Change.{put_at}},
  block_manager.specs.Parts.{block_column},
  frame_store.proofs.KeptLaws.{put_kept, refused_kept},
}
use Rattle.frame_store.proofs.live.Object.put_column.Goals as goal

pub returns-in_err-put-clause-kept : goal.returns-in_err-put-clause-kept
returns-in_err-put-clause-kept c =
    refused_kept c.args.pool.now c.put.new.pool c.self.inside.shape c.self.inside.axis c.self.inside.columns_name c.self.inside.headings.items c.self.inside.manager c.put.new.manager c.args.self.now c.self.view_is c.requires.kept
    c.reserve.new.self.items c.in_err-put.ensures.stands c.in_ok-reserve.ensures.items c.in_err-put.ensures.err.0 c.in_err-put.ensures.err.1

pub returns-clause-kept : goal.returns-clause-kept
returns-clause-kept c =
    put_kept c.args.pool.now c.put.new.pool c.self.inside.shape c.self.inside.axis c.self.inside.columns_name c.self.inside.headings.items c.self.inside.manager c.put.new.manager c.args.self.now c.self.view_is c.requires.kept
    c.put_at.new.items.items c.args.column c.args.heading (block_column c.args.block) c.in_ok-put.ensures.stands (c.put_at.ensures ∙ ap (λ (l : List (Option Label)). put_at l c.args.column c.args.heading) c.in_ok-reserve.ensures.items)
    c.in_ok-put.ensures.columns c.requires.rows c.requires.headings
