use Rattle.{
  meaning_cells.proofs.Common.{◌≡◌, ◌∙◌, ◌++◌, ◌∷◌, [], List, length, ap, sym, append_assoc, arith},
  column_core.specs.Columns.{CellColumn},
}
use Rattle.column_core.proofs.blocks.append_some.Goals as goal

pub loop-column-preserved : goal.loop-column-preserved
loop-column-preserved c =
    let step : c.loop-column.column-iterator.rest.items ≡ c.in-Some.column ∷ c.next.new.self.rest.items = c.in-Some.ensures.steps.0 in
    let fewer = ap (λ (l : List CellColumn). length l) step in
    record {
      items = ap (λ (l : List CellColumn). l ++ c.next.new.self.rest.items) c.append.ensures.items
          ∙ append_assoc c.loop-column.list.items (c.in-Some.column ∷ []) c.next.new.self.rest.items
          ∙ ap (λ (l : List CellColumn). c.loop-column.list.items ++ l) (sym step)
          ∙ c.loop-column.invariant.items;
      len = omega (arith, c.append.ensures.len, c.loop-column.invariant.len, fewer);
      room = omega (arith, c.append.ensures.len, c.append.ensures.capacity, c.loop-column.invariant.room, fewer);
      capacity = omega (arith, c.append.ensures.capacity, c.loop-column.invariant.capacity);
    }
