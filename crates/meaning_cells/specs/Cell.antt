-- Cells, kinds, labels and their order.
pub use Rattle.cell_core.specs.Values.{CellValue, na_cell, int_cell, truth_cell, text_cell, has_64_bits, holds, datum, LabelValue, truth, int, text, na, label_rank, label_cmp, text_of, label_datum, label_of, cell_label}
pub use Rattle.cell_core.specs.Texts.{IsLonger, AreDistinct, IsGiven, IsGivenLabel, AreGiven}
pub use Rattle.cell_core.specs.declared.cell.Kind.{Kind}
pub use Rattle.cell_core.specs.declared.cell.Kind.TheVariants.{Int64, Boolean, Text as string}
