-- The texts of labels and cells, in a printed table and in a record.
use Rattle.std.specs.Prelude.{Option}
use Rattle.meaning_format.specs.cells.Text.{Text}
use Rattle.meaning_format.specs.cells.Cell.{CellValue, LabelValue}
use Rattle.meaning_format.specs.Print.{shown_cell, shown_label, shown_name}
use Rattle.meaning_format.specs.CsvWrite.{cell_field, label_field, name_field, heading_field}
use Rattle.frame_format.specs.declared.texts.Style.{Style}
use Rattle.frame_format.specs.declared.texts.Style.TheVariants.{Printed, Record}

abbrev pub cell_text : Style → CellValue → Text
cell_text Printed = shown_cell
cell_text Record = cell_field

abbrev pub label_text : Style → LabelValue → Text
label_text Printed = shown_label
label_text Record = label_field

abbrev pub name_text : Style → Option LabelValue → Text
name_text Printed = shown_name
name_text Record = name_field

abbrev pub heading_text : Style → Option LabelValue → Text
heading_text Printed = shown_name
heading_text Record = heading_field
