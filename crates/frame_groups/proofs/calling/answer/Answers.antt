use Rattle.{
  frame_parts.proofs.Common.{arith, ◌≡◌, ap, sym, tables, table_or, longer_self, world},
  frame_groups.{specs.{Calls.{call_of}, Grouped.{grouping_seen, values_seen}}, proofs.FormLaws.{known_table, answer_at}},
}
use Rattle.frame_groups.proofs.calling.answer.Goals as goal

pub reduced-table-requires-clause-known : goal.reduced-table-requires-clause-known
reduced-table-requires-clause-known c = known_table (world c.args.store.now c.args.dict.now) _ _ c.read.ensures.table c.read.ensures.whole c.requires.settled

pub along_rows-table-requires-clause-known : goal.along_rows-table-requires-clause-known
along_rows-table-requires-clause-known c = known_table (world c.args.store.now c.args.dict.now) _ _ c.read-in-Transformed.ensures.table c.read-in-Transformed.ensures.whole c.requires.settled

pub along_rows-table-requires-in-Cumsum-clause-known : goal.along_rows-table-requires-in-Cumsum-clause-known
along_rows-table-requires-in-Cumsum-clause-known c = known_table (world c.args.store.now c.args.dict.now) _ _ c.read-in-Cumsum.ensures.table c.read-in-Cumsum.ensures.whole c.requires.settled

pub counts-table-requires-clause-known : goal.counts-table-requires-clause-known
counts-table-requires-clause-known c = known_table (world c.args.store.now c.args.dict.now) _ _ c.read-in-Cumcount.ensures.table c.read-in-Cumcount.ensures.whole c.requires.settled

pub returns-in-Reduced : goal.returns-in-Reduced
returns-in-Reduced c =
    let dict = c.args.dict.now in
    let at : c.read.result ≡ table_or (tables c.args.store.now c.args.on.0) = grind arith in
    rw (answer_at dict (grouping_seen dict c.args.grouping.now) (values_seen dict c.args.values.now) at (ap call_of (sym c.in-Reduced.is))) at (c.placed.ensures.answers dict _ (longer_self _) c.requires.settled c.reduced-table.ensures)

pub returns-in-Transformed : goal.returns-in-Transformed
returns-in-Transformed c =
    let dict = c.args.dict.now in
    let at : c.read-in-Transformed.result ≡ table_or (tables c.args.store.now c.args.on.0) = grind arith in
    rw (answer_at dict (grouping_seen dict c.args.grouping.now) (values_seen dict c.args.values.now) at (ap call_of (sym c.in-Transformed.is))) at (c.placed-in-Transformed.ensures.answers dict _ (longer_self _) c.requires.settled c.along_rows-table.ensures)

pub returns-in-Cumsum : goal.returns-in-Cumsum
returns-in-Cumsum c =
    let dict = c.args.dict.now in
    let at : c.read-in-Cumsum.result ≡ table_or (tables c.args.store.now c.args.on.0) = grind arith in
    rw (answer_at dict (grouping_seen dict c.args.grouping.now) (values_seen dict c.args.values.now) at (ap call_of (sym c.in-Cumsum.is))) at (c.placed-in-Cumsum.ensures.answers dict _ (longer_self _) c.requires.settled c.along_rows-table-in-Cumsum.ensures)

pub returns-in-Cumcount : goal.returns-in-Cumcount
returns-in-Cumcount c =
    let dict = c.args.dict.now in
    let at : c.read-in-Cumcount.result ≡ table_or (tables c.args.store.now c.args.on.0) = grind arith in
    rw (answer_at dict (grouping_seen dict c.args.grouping.now) (values_seen dict c.args.values.now) at (ap call_of (sym c.in-Cumcount.is))) at (c.placed-in-Cumcount.ensures.answers dict _ (longer_self _) c.requires.settled (c.counts-table.ensures (values_seen dict c.args.values.now)))

pub returns-in-Size : goal.returns-in-Size
returns-in-Size c = rw c.in-Size.is (c.sizes_placed.ensures (values_seen c.args.dict.now c.args.values.now))
