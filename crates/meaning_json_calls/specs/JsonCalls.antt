-- Calls that write a frame as JSON text and read a file of JSON as a frame.
use Rattle.std.specs.Prelude.{ℕ, List, [], ◌∷◌, map, slice_get, codes, Option, Some, None, Result, Ok, Err, if◌then◌else◌}
use Rattle.meaning_json.specs.cells.cell_core.declared.grid.Shape.TheVariants.{Frame}
use Rattle.meaning_json.specs.cells.Text.{Text, same_text}
use Rattle.meaning_json.specs.cells.Cell.{text_cell}
use Rattle.meaning_json.specs.cells.Fault as fault
use Rattle.meaning_json.specs.cells.Fault.{FaultValue, wrong_kind, bad_value, levels, limit}
use Rattle.meaning_json.specs.tables.Table.{Table}
use Rattle.meaning_json.specs.tables.Value.{Entry, cell, table}
use Rattle.meaning_json.specs.declared.Orient.{Orient}
use Rattle.meaning_json.specs.declared.Orient.TheVariants.{Records, Split}
use Rattle.meaning_json.specs.JsonWrite.{TextRefusalValue, repeated, many_levels, json_text_of}
use Rattle.meaning_json.specs.JsonRead.{JsonValue, JsonRefusal, not_utf8, not_json, not_table, two_kinds, beyond_limits, table_of_file}

-- the orient that a text names
abbrev pub orient_named : Text → Option Orient
orient_named name = if same_text name (codes "records") then Some Records else if same_text name (codes "split") then Some Split else None

-- Writing

-- why a frame has no text, as the fault of a call
abbrev pub fault_of_text : TextRefusalValue → FaultValue
fault_of_text (repeated label) = bad_value (fault.repeated label)
fault_of_text many_levels = bad_value levels

abbrev pub text_or_fault : Result Text TextRefusalValue → Result Entry FaultValue
text_or_fault (Ok text) = Ok (cell (text_cell text))
text_or_fault (Err refusal) = Err (fault_of_text refusal)

-- `df.to_json(orient)`, where `df` is a frame
abbrev pub to_json_result : Orient → Table → Result Entry FaultValue
to_json_result orient t = text_or_fault (json_text_of orient t)

-- Reading

-- why a file isn't read, as the fault of a call
abbrev pub fault_of_file : JsonRefusal → FaultValue
fault_of_file (not_utf8 place) = fault.not_utf8 place
fault_of_file not_json = bad_value fault.not_json
fault_of_file not_table = bad_value fault.not_table
fault_of_file two_kinds = wrong_kind
fault_of_file beyond_limits = limit

-- a frame of the columns and labels; neither its columns nor the one level of its rows have a name
abbrev pub frame_of_json : JsonValue → Table
frame_of_json read =
    record {
      shape = Frame;
      columns_name = None;
      level_names = None ∷ [];
      labels = read.rows;
      headings = map (λ label. slice_get label 0) read.labels;
      columns = read.columns;
    }

abbrev pub frame_or_fault : Result JsonValue JsonRefusal → Result Entry FaultValue
frame_or_fault (Ok read) = Ok (table (frame_of_json read))
frame_or_fault (Err refusal) = Err (fault_of_file refusal)

-- `pd.read_json(name, orient)`, where the file of the name has these bytes
abbrev pub read_json_result : Orient → List ℕ → Result Entry FaultValue
read_json_result orient bytes = frame_or_fault (table_of_file orient bytes)
