use Rattle.{
  frame_parts.proofs.Common.{length-map, length-range_with_len},
  frame_methods.proofs.SortLaws.{cells_of_row, columns_are},
}
use Rattle.frame_methods.proofs.sorts.sort_values.Goals as goal

pub returns : goal.returns
returns c =
    c.sorted_table.ensures _ record {
      count = search (length-map, length-range_with_len);
      each = λ row lt. cells_of_row c.args.dict.now c.args.on.now c.args.places.now c.in_ok-columns_at.field-0.items row (columns_are c.args.on.now c.args.places.now c.in_ok-columns_at.field-0.items c.in_ok-columns_at.ensures.columns) lt;
    }
