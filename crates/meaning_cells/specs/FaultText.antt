-- The words of a fault.
use Rattle.std.specs.Prelude.{ℕ, ◌==◌, true, false, List, [], ◌∷◌, ◌++◌, codes, decimal, if◌then◌else◌}
use Rattle.std.specs.Fmt.{signed_decimal}
use Rattle.meaning_cells.specs.Text.{Text}
use Rattle.meaning_cells.specs.Cell.{LabelValue, truth, int, text, na}
use Rattle.meaning_cells.specs.Fault.{FaultValue, ReasonValue, Side, left, right, repeated, length_of, entry, not_aligned, key_kinds, levels, argument, cast, no_columns, unsorted, not_json, not_table, no_name, no_attribute, wrong_kind, no_key, out_of_range, no_mask_label, bad_value, zero_divide, bad_merge, no_common, repeated_label, long_row, not_utf8, no_records, no_file, limit, bad_query}

-- a byte of a text in quotes: backslash, quote, line feed and tab are escaped
abbrev pub quoted_byte : ℕ → Text
quoted_byte b =
    if b == 92 then codes "\\\\"
    else if b == 39 then codes "\\'"
    else if b == 10 then codes "\\n"
    else if b == 9 then codes "\\t"
    else b ∷ []

abbrev pub quoted_bytes : Text → Text
quoted_bytes [] = []
quoted_bytes (b ∷ bs) = quoted_byte b ++ quoted_bytes bs

abbrev pub label_text : LabelValue → Text
label_text (int z) = signed_decimal z
label_text (truth true) = codes "True"
label_text (truth false) = codes "False"
label_text na = codes "<NA>"
label_text (text t) = codes "'" ++ quoted_bytes t ++ codes "'"

abbrev pub more_labels : List LabelValue → Text
more_labels [] = []
more_labels (l ∷ ls) = codes ", " ++ label_text l ++ more_labels ls

-- one label as it is, several in parentheses
abbrev pub key_text : List LabelValue → Text
key_text [] = codes "()"
key_text (l ∷ []) = label_text l
key_text (l ∷ m ∷ ls) = codes "(" ++ label_text l ++ more_labels (m ∷ ls) ++ codes ")"

abbrev pub side_text : Side → Text
side_text left = codes "left"
side_text right = codes "right"

abbrev pub reason_text : ReasonValue → Text
reason_text (repeated k) = codes "duplicate labels " ++ key_text k
reason_text (length_of e g) = codes "length " ++ decimal e ++ codes ", got " ++ decimal g
reason_text (entry k) = codes "duplicate entry " ++ key_text k
reason_text not_aligned = codes "not aligned"
reason_text key_kinds = codes "key kinds"
reason_text levels = codes "levels"
reason_text argument = codes "argument"
reason_text cast = codes "cast"
reason_text no_columns = codes "no columns"
reason_text (unsorted side row) = side_text side ++ codes " keys not sorted at row " ++ decimal row
reason_text not_json = codes "not json"
reason_text not_table = codes "not a table"

abbrev pub fault_text : FaultValue → Text
fault_text (no_name n) = codes "NameError: " ++ n
fault_text (no_attribute n) = codes "AttributeError: " ++ n
fault_text wrong_kind = codes "TypeError"
fault_text (no_key k) = codes "KeyError: " ++ key_text k
fault_text (out_of_range k count) = codes "IndexError: position " ++ signed_decimal k ++ codes ", length " ++ decimal count
fault_text (no_mask_label k) = codes "IndexingError: " ++ key_text k
fault_text (bad_value r) = codes "ValueError: " ++ reason_text r
fault_text zero_divide = codes "ZeroDivisionError"
fault_text (bad_merge side k) = codes "MergeError: " ++ side_text side ++ codes " keys repeat " ++ key_text k
fault_text no_common = codes "MergeError: no common columns"
fault_text (repeated_label k) = codes "InvalidIndexError: " ++ key_text k
fault_text (long_row r a b) = codes "ParserError: record " ++ decimal r ++ codes ", expected " ++ decimal a ++ codes ", saw " ++ decimal b
fault_text (not_utf8 p) = codes "UnicodeDecodeError: byte " ++ decimal p
fault_text no_records = codes "EmptyDataError"
fault_text (no_file n) = codes "FileNotFoundError: " ++ n
fault_text limit = codes "LimitError"
fault_text bad_query = codes "QueryError"
