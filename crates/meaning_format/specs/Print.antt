-- Printed tables: lines of texts that are filled up with spaces.
use Rattle.std.specs.Prelude.{ℕ, zero, suc, ◌+◌, ◌-◌, ◌==◌, ◌&&◌, ◌||◌, Bool, true, false, nat_lt, List, [], ◌∷◌, ◌++◌, length, map, sum, max, replicate, codes, chars, Option, Some, None, if◌then◌else◌}
use Rattle.std.specs.Fmt.{signed_decimal}
use Rattle.std.specs.Ordering.{is_eq}
use Rattle.std.specs.List.{range_with_len, flat_map, join_by}
use Rattle.unicode_width.specs.Width.{str_width}
use Rattle.meaning_tables.specs.cell_core.declared.grid.Shape.{Shape}
use Rattle.meaning_tables.specs.cell_core.declared.grid.Shape.TheVariants.{Series, Frame}
use Rattle.meaning_tables.specs.cells.Text.{Text}
use Rattle.meaning_tables.specs.cells.Cell.{Kind, Int64, Boolean, string, CellValue, na_cell, int_cell, truth_cell, text_cell, LabelValue, truth, int, text, na, label_cmp}
use Rattle.meaning_tables.specs.Table.{Table, column_at}
use Rattle.meaning_format.specs.Told.{label_at, level_name, cell_at, heading_at}

-- Texts

-- tab, line feed and carriage return are shown as escapes
abbrev pub shown_byte : ℕ → Text
shown_byte b =
    if b == 9 then codes "\\t"
    else if b == 10 then codes "\\n"
    else if b == 13 then codes "\\r"
    else b ∷ []

abbrev pub shown_text : Text → Text
shown_text [] = []
shown_text (b ∷ bs) = shown_byte b ++ shown_text bs

abbrev pub shown_truth : Bool → Text
shown_truth true = codes "True"
shown_truth false = codes "False"

abbrev pub shown_cell : CellValue → Text
shown_cell na_cell = codes "<NA>"
shown_cell (int_cell z) = signed_decimal z
shown_cell (truth_cell b) = shown_truth b
shown_cell (text_cell t) = shown_text t

abbrev pub shown_label : LabelValue → Text
shown_label na = codes "<NA>"
shown_label (int z) = signed_decimal z
shown_label (truth b) = shown_truth b
shown_label (text t) = shown_text t

-- nothing for a missing name
abbrev pub shown_name : Option LabelValue → Text
shown_name None = []
shown_name (Some l) = shown_label l

abbrev pub kind_word : Kind → Text
kind_word Int64 = codes "Int64"
kind_word Boolean = codes "boolean"
kind_word string = codes "string"

-- Fields

-- how many columns of a terminal a text takes
abbrev pub width : Text → ℕ
width t = str_width false (chars t)

abbrev pub widest : List Text → ℕ
widest [] = 0
widest (t ∷ ts) = max (width t) (widest ts)

abbrev pub spaces : ℕ → Text
spaces n = replicate n 32

-- a text set to the left, or to the right, of a field of this width
abbrev pub left_set : ℕ → Text → Text
left_set columns t = t ++ spaces (columns - width t)

abbrev pub right_set : ℕ → Text → Text
right_set columns t = spaces (columns - width t) ++ t

-- the numbers below this one
abbrev pub places : ℕ → List ℕ
places count = range_with_len 0 count

-- Levels

abbrev pub has_names : List (Option LabelValue) → Bool
has_names [] = false
has_names (None ∷ names) = has_names names
has_names (Some l ∷ names) = true

-- the label of a row at a level is that of the row above
abbrev pub same_above : Table → ℕ → ℕ → Bool
same_above t zero level = false
same_above t (suc above) level = is_eq (label_cmp (label_at t above level) (label_at t (suc above) level))

-- the first labels of a row, so many, are those of the row above
abbrev pub repeats : Table → ℕ → ℕ → Bool
repeats t row zero = true
repeats t row (suc level) = repeats t row level && same_above t row level

-- the label of a row at a level: blank where it and all before it are those of the row above, but for the last level
abbrev pub level_text : Table → ℕ → ℕ → Text
level_text t row level = if nat_lt (suc level) (length t.level_names) && repeats t row (suc level) then [] else shown_label (label_at t row level)

abbrev pub level_title : Table → ℕ → Text
level_title t level = shown_name (level_name t level)

-- the width of a level's labels, and with its name
unfoldable pub labels_width : Table → ℕ → ℕ
labels_width t level = widest (map (λ row. shown_label (label_at t row level)) (places (length t.labels)))

abbrev pub level_width : Table → ℕ → ℕ
level_width t level = max (labels_width t level) (width (level_title t level))

-- a text for each level, set to the left of its level's width, with a gap between two
abbrev pub side_by_side : Text → ℕ → (ℕ → ℕ) → (ℕ → Text) → Text
side_by_side gap levels widths texts = join_by (λ level. left_set (widths level) (texts level)) gap (places levels)

-- Series

-- the name of a single level stands on a line of its own, so it needs no room beside the labels
abbrev pub series_width : Table → ℕ → ℕ
series_width t level = if length t.level_names == 1 then labels_width t level else level_width t level

abbrev pub series_levels : Table → (ℕ → Text) → Text
series_levels t texts = side_by_side (codes "  ") (length t.level_names) (series_width t) texts

abbrev pub series_names : Table → Text
series_names t = if length t.level_names == 1 then level_title t 0 else series_levels t (level_title t)

unfoldable pub column_width : Table → ℕ → ℕ
column_width t column = widest (map (λ row. shown_cell (cell_at t row column)) (places (length t.labels)))

abbrev pub series_line : Table → ℕ → Text
series_line t row = series_levels t (level_text t row) ++ spaces 4 ++ right_set (column_width t 0) (shown_cell (cell_at t row 0))

-- the name, if there is one, and the kind
abbrev pub name_part : Option LabelValue → Text
name_part None = []
name_part (Some l) = codes "Name: " ++ shown_label l ++ codes ", "

abbrev pub last_line : Table → Text
last_line t = name_part (heading_at t 0) ++ codes "dtype: " ++ kind_word (column_at t.columns 0).kind

abbrev pub names_above : Table → Text
names_above t = if has_names t.level_names then series_names t ++ codes "\n" else []

abbrev pub series_text_of : Table → Text
series_text_of t =
    if length t.labels == 0 then codes "Series([], " ++ last_line t ++ codes ")"
    else names_above t ++ flat_map (λ row. series_line t row ++ codes "\n") (places (length t.labels)) ++ last_line t

-- Frames

-- the width of the levels side by side, with one space between two; and with the columns' name above them
abbrev pub levels_width : Table → ℕ
levels_width t = sum (map (level_width t) (places (length t.level_names))) + (length t.level_names - 1)

abbrev pub index_width : Table → ℕ
index_width t = max (levels_width t) (width (shown_name t.columns_name))

abbrev pub frame_levels : Table → (ℕ → Text) → Text
frame_levels t texts = side_by_side (codes " ") (length t.level_names) (level_width t) texts ++ spaces (index_width t - levels_width t)

-- the width of a column with its label
abbrev pub titled_width : Table → ℕ → ℕ
titled_width t column = max (column_width t column) (width (shown_name (heading_at t column)))

-- a text for each column, set to the right of its column's width, behind two spaces
abbrev pub frame_columns : Table → (ℕ → Text) → Text
frame_columns t texts = flat_map (λ column. spaces 2 ++ right_set (titled_width t column) (texts column)) (places (length t.columns))

abbrev pub header_line : Table → Text
header_line t = left_set (index_width t) (shown_name t.columns_name) ++ frame_columns t (λ column. shown_name (heading_at t column))

abbrev pub names_line : Table → Text
names_line t = frame_levels t (level_title t) ++ frame_columns t (λ column. [])

abbrev pub frame_line : Table → ℕ → Text
frame_line t row = frame_levels t (level_text t row) ++ frame_columns t (λ column. shown_cell (cell_at t row column))

abbrev pub names_below : Table → Text
names_below t = if has_names t.level_names then codes "\n" ++ names_line t else []

abbrev pub filled_text : Table → Text
filled_text t = header_line t ++ names_below t ++ flat_map (λ row. codes "\n" ++ frame_line t row) (places (length t.labels))

-- a row's labels in one: a single one as it is, several in parentheses
abbrev pub whole_label : Table → ℕ → Text
whole_label t row =
    if length t.level_names == 1 then shown_label (label_at t row 0)
    else codes "(" ++ join_by (λ level. shown_label (label_at t row level)) (codes ", ") (places (length t.level_names)) ++ codes ")"

-- a frame without a row or without a column
abbrev pub empty_text : Table → Text
empty_text t =
    codes "Empty DataFrame\nColumns: [" ++ join_by (λ column. shown_name (heading_at t column)) (codes ", ") (places (length t.columns))
    ++ codes "]\nIndex: [" ++ join_by (whole_label t) (codes ", ") (places (length t.labels)) ++ codes "]"

abbrev pub frame_text_of : Table → Text
frame_text_of t = if (length t.labels == 0) || (length t.columns == 0) then empty_text t else filled_text t

-- any table
abbrev pub text_of_shape : Shape → Table → Text
text_of_shape Series t = series_text_of t
text_of_shape Frame t = frame_text_of t

abbrev pub table_text_of : Table → Text
table_text_of t = text_of_shape t.shape t
