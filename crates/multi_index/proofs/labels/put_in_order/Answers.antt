use Rattle.{
  index_core.proofs.cells.Common.{rules, Bool, always_returns_same, Label},
  sorting.proofs.SortLaws.{sorted_is},
  multi_index.{specs.Levels.{label_less}, proofs.KnownLaws.{label_weak}},
}
use Rattle.multi_index.proofs.labels.put_in_order.Goals as goal

pub returns : goal.returns
returns c =
    let less : Label → Label → Bool = label_less c.args.dict.now in
    let weak = label_weak c.args.dict.now in
    sorted_is less weak c.args.labels.now.keys c.sort_by.new.self.keys
    (c.in_ok-sort_by.ensures.sorted less weak (always_returns_same _ _ _ (λ a r f' k. search rules)))
    (c.in_ok-sort_by.ensures.stable less weak (always_returns_same _ _ _ (λ a r f' k. search rules)))
