use Rattle.{
  meaning_tables.{proofs.cells.Common.{◌∙◌, ℕ, sym, ap, subst}, specs.Table.{cell_count}},
  block_manager.specs.Managed.{RaisesBy},
  frame_store.{specs.Stores.{charged}, proofs.KeptLaws.{cells_of_table}},
}
use Rattle.frame_store.proofs.store.Store.add.Goals as goal

pub returns-clause-held : goal.returns-clause-held
returns-clause-held c =
    subst (λ (n : ℕ). RaisesBy (charged n c.insert.result) c.args.self.now.pool c.insert.new.self.pool)
    (ap cell_count c.new.ensures ∙ sym (cells_of_table c.args.shape c.args.axis c.args.headings c.args.blocks c.requires.single c.requires.whole)) c.insert.ensures.held
