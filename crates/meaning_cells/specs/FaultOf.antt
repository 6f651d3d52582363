-- The fault that a code of a refusal stands for, where these are the texts by number.
use Rattle.std.specs.Prelude.{List, map}
use Rattle.cell_core.specs.declared.cell.Side.{Side as CodeSide}
use Rattle.cell_core.specs.declared.cell.Side.TheVariants as side
use Rattle.cell_core.specs.declared.code.Reason.{Reason}
use Rattle.cell_core.specs.declared.code.Reason.TheVariants as reason
use Rattle.cell_core.specs.declared.code.Code.{Code}
use Rattle.cell_core.specs.declared.code.Code.TheVariants as code
use Rattle.meaning_cells.specs.Text.{Text}
use Rattle.meaning_cells.specs.Cell.{label_datum}
use Rattle.meaning_cells.specs.Fault.{FaultValue, ReasonValue, Side, left, right, repeated, length_of, entry, not_aligned, key_kinds, levels, argument, cast, no_columns, unsorted, not_json, not_table, no_name, no_attribute, wrong_kind, no_key, out_of_range, no_mask_label, bad_value, zero_divide, bad_merge, no_common, repeated_label, long_row, not_utf8, no_records, no_file, limit, bad_query}

abbrev pub side_of : CodeSide → Side
side_of side.Left = left
side_of side.Right = right

abbrev pub reason_of : List Text → Reason → ReasonValue
reason_of texts (reason.Repeated k) = repeated (map (label_datum texts) k)
reason_of texts (reason.Length e g) = length_of e g
reason_of texts (reason.Entry k) = entry (map (label_datum texts) k)
reason_of texts reason.NotAligned = not_aligned
reason_of texts reason.KeyKinds = key_kinds
reason_of texts reason.Levels = levels
reason_of texts reason.Argument = argument
reason_of texts reason.Cast = cast
reason_of texts reason.NoColumns = no_columns
reason_of texts (reason.Unsorted s row) = unsorted (side_of s) row
reason_of texts reason.NotJson = not_json
reason_of texts reason.NotTable = not_table

abbrev pub fault_of : List Text → Code → FaultValue
fault_of texts (code.NoName n) = no_name n
fault_of texts (code.NoAttribute n) = no_attribute n
fault_of texts code.WrongKind = wrong_kind
fault_of texts (code.NoKey k) = no_key (map (label_datum texts) k)
fault_of texts (code.OutOfRange k count) = out_of_range k count
fault_of texts (code.NoMaskLabel k) = no_mask_label (map (label_datum texts) k)
fault_of texts (code.BadValue r) = bad_value (reason_of texts r)
fault_of texts code.ZeroDivide = zero_divide
fault_of texts (code.BadMerge s k) = bad_merge (side_of s) (map (label_datum texts) k)
fault_of texts code.NoCommon = no_common
fault_of texts (code.RepeatedLabel k) = repeated_label (map (label_datum texts) k)
fault_of texts (code.LongRow r e s) = long_row r e s
fault_of texts (code.NotUtf8 p) = not_utf8 p
fault_of texts code.NoRecords = no_records
fault_of texts (code.NoFile n) = no_file n
fault_of texts code.Limit = limit
fault_of texts code.BadQuery = bad_query
