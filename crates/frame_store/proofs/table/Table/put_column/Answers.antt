use Rattle.{
  meaning_tables.{proofs.cells.Common.{arith, ◌∙◌, refl, ap, sym, subst}, specs.{Change.{put_at}, Valid.{IsWhole}}},
  frame_store.{specs.{Parts.{IsSingle, block_column}, Views.{kept_table}}, proofs.ColumnLaws.{All-put_at, put_is_whole, put_is_column}},
}
use Rattle.frame_store.proofs.table.Table.put_column.Goals as goal

pub returns-clause-ok : goal.returns-clause-ok
returns-clause-ok c =
    put_is_column (kept_table c.self.inside) c.args.self.now c.self.inside.blocks.items c.put_at-2.new.items.items c.put_at.new.items.items c.args.column c.args.heading c.args.block c.self.view_is refl
    (c.put_at.ensures ∙ ap (λ l. put_at l c.args.column c.args.heading) c.in_ok-reserve.ensures.items)
    (grind arith)

pub invariant_of-self-2 : goal.invariant_of-self-2
invariant_of-self-2 c =
    let blocks = c.put_at-2.ensures ∙ ap (λ l. put_at l c.args.column c.args.block) c.in_ok-reserve-2.ensures.items in
    let is =
    put_is_column (kept_table c.self.inside) c.args.self.now c.self.inside.blocks.items c.put_at-2.new.items.items c.put_at.new.items.items c.args.column c.args.heading c.args.block c.self.view_is refl
    (c.put_at.ensures ∙ ap (λ l. put_at l c.args.column c.args.heading) c.in_ok-reserve.ensures.items) blocks
    in
    record {
      single = rw blocks (All-put_at IsSingle c.self.inside.blocks.items c.args.column c.args.block c.self.invariant.single c.requires.single);
      whole = subst IsWhole (sym is) (put_is_whole c.args.self.now c.args.column c.args.heading (block_column c.args.block) (subst IsWhole c.self.view_is c.self.invariant.whole) c.requires.rows c.requires.headings);
    }
