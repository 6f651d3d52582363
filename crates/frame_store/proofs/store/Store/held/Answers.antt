use Rattle.{
  meaning_tables.proofs.cells.Common.{◌∙◌},
  frame_store.proofs.{HeldLaws.{nothing_held, rows_held}, OnceLaws.{counts_once}},
}
use Rattle.frame_store.proofs.store.Store.held.Goals as goal

pub returns-clause-once : goal.returns-clause-once
returns-clause-once c = counts_once c.args.self.now.pool c.args.self.now.objects.slots c.args.self.now.kept c.held.ensures.kept

pub returns-clause-none : goal.returns-clause-none
returns-clause-none c = λ none. c.held.ensures.cells ∙ nothing_held c.args.self.now.pool c.args.self.now.objects.slots c.args.self.now.kept c.held.ensures.kept none

pub returns-clause-least : goal.returns-clause-least
returns-clause-least c = rows_held c.args.self.now.pool c.args.self.now.objects.slots c.args.self.now.kept c.held.ensures.kept
