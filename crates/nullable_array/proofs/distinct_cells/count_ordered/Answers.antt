use Rattle.nullable_array.proofs.OrderedLaws.{ordered_counted}
use Rattle.nullable_array.proofs.distinct_cells.count_ordered.Goals as goal

pub returns : goal.returns
returns g c =
    cc (ordered_counted c.in_ok-numbers.numbers.items c.sort_unstable.new.self.items c.dedup.new.self.items c.sort_unstable.ensures.permutation c.sort_unstable.ensures.sorted c.dedup.ensures.filtered, c.in_ok-numbers.ensures)
