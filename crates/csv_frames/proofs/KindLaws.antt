-- Laws of kinds that are named for labels.
use Rattle.{
  column_core.proofs.cells.Common.{rules, arith, ◌≡◌, ◌+◌, ◌<◌, ℕ, refl, List, [], ◌∷◌, length, drop, slice_get, Option, Some, true, if◌then◌else◌, string_bytes, drop_more, slice_get-get_or, String, string_eq, lookup, Kind, Text, same_text, text_of},
  indexmap.specs.IndexMap.{insert_entry},
  meaning_csv.specs.CsvRead.{kind_listed},
  csv_frames.specs.{Views.{entries_seen, kinds_seen, kind_at}, declared.table.NamedKind.{NamedKind}},
}

-- the kind of a label in a map
pub kind_found : {Y : Type 0} (es : List (String Y × Kind)) (label : Text) → kind_at (kinds_seen es) label ≡ lookup (λ k. same_text label (string_bytes k)) es
kind_found [] _ = refl
kind_found (e ∷ es) label = cc (kind_found es label)

same_sym : (a b : Text) → same_text a b ≡ same_text b a
same_sym = search rules

same_congr : (a b c : Text) → same_text a b ≡ true → same_text a c ≡ same_text b c
same_congr = search rules

-- the label has the kind that was put in, and the others have their own
kind_put : {Y : Type 0} (es : List (String Y × Kind)) (key : String Y) (kind : Kind) (m : Text) → kind_at (kinds_seen (insert_entry string_eq es key kind)) m ≡ (if same_text (string_bytes key) m then Some kind else kind_at (kinds_seen es) m)
kind_put [] _ _ m = search same_sym
kind_put (e ∷ es) key kind m = grind (arith, same_congr, same_sym, kind_put es key kind m)

-- one kind more
pub kind_step : {Y : Type 0} (texts : List Text) (kinds : List NamedKind) (k : ℕ) (entry : NamedKind) (es es' : List (String Y × Kind)) (key : String Y) (label : Text) (whole : Option Kind)
    → k < length kinds → slice_get kinds k ≡ Some entry → string_bytes key ≡ text_of texts entry.label → es' ≡ insert_entry string_eq es key entry.kind
    → kind_listed (kind_at (kinds_seen es) label) (entries_seen texts (drop k kinds)) label ≡ whole
    → kind_listed (kind_at (kinds_seen es') label) (entries_seen texts (drop (k + 1) kinds)) label ≡ whole
kind_step _ kinds k entry _ _ _ _ _ lt is named put before = grind (arith, slice_get-get_or kinds k entry lt, kind_put, drop_more)
