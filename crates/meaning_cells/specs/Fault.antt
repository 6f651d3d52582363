-- Why a statement is refused. A text stands for itself.
use Rattle.std.specs.Prelude.{ℕ, ℤ, List, Result, Ok, Err}
use Rattle.meaning_cells.specs.Text.{Text}
use Rattle.meaning_cells.specs.Cell.{LabelValue}

pub data Side : Type 0 where
  left : Side
  right : Side

pub data ReasonValue : Type 0 where
  repeated : List LabelValue → ReasonValue
  length_of : ℕ → ℕ → ReasonValue
  entry : List LabelValue → ReasonValue
  not_aligned : ReasonValue
  key_kinds : ReasonValue
  levels : ReasonValue
  argument : ReasonValue
  cast : ReasonValue
  no_columns : ReasonValue
  unsorted : Side → ℕ → ReasonValue
  not_json : ReasonValue
  not_table : ReasonValue

pub data FaultValue : Type 0 where
  no_name : Text → FaultValue
  no_attribute : Text → FaultValue
  wrong_kind : FaultValue
  no_key : List LabelValue → FaultValue
  out_of_range : ℤ → ℕ → FaultValue
  no_mask_label : List LabelValue → FaultValue
  bad_value : ReasonValue → FaultValue
  zero_divide : FaultValue
  bad_merge : Side → List LabelValue → FaultValue
  no_common : FaultValue
  repeated_label : List LabelValue → FaultValue
  long_row : ℕ → ℕ → ℕ → FaultValue
  not_utf8 : ℕ → FaultValue
  no_records : FaultValue
  no_file : Text → FaultValue
  limit : FaultValue
  bad_query : FaultValue

-- the first fault, or what the value goes on to
abbrev pub then_value : {A B : Type 0} → Result A FaultValue → (A → Result B FaultValue) → Result B FaultValue
then_value (Ok a) go = go a
then_value (Err fault) go = Err fault
