-- Files whose tables are too large.
use Rattle.{
  column_core.proofs.cells.Common.{rules, ◌≡◌, ℕ, suc, ap, refl, List, [], ◌∷◌, length, map, false, ◌<◌, ◌^◌, nat_le, arith, nat_tests, nil_from_length, Err, list_any, Kind, Text},
  csv_frames.proofs.NumberedLaws.{after_count},
  meaning_csv.specs.{tables.Valid.{within_limits}, CsvRead.{beyond_limits, has_misfit, named_kind, labels_named, labels_of, columns_under}},
}

-- where no kind is named, no field is of another one
no_misfit : (labels fields : List Text) → has_misfit (map (named_kind []) labels) fields ≡ false
no_misfit (l ∷ ls) (f ∷ fs) = no_misfit ls fs
no_misfit [] fields = search
no_misfit labels [] = search

no_misfits : (labels : List Text) (rows : List (List Text)) → list_any (has_misfit (map (named_kind []) labels)) rows ≡ false
no_misfits _ [] = refl
no_misfits labels (r ∷ rs) = search (no_misfit, no_misfits labels rs)

-- there is a label for each field of the header
count_named : (place : ℕ) (labels : List Text) → length (labels_named place labels) ≡ length labels
count_named _ [] = refl
count_named _ (l ∷ ls) = ap suc (count_named _ ls)

pub count_labels : (header : List Text) → length (labels_of header) ≡ length header
count_labels = search (after_count, count_named)

large : (header : List Text) (rows : List (List Text)) → within_limits (length rows) (length header) ≡ false → columns_under [] header rows ≡ Err beyond_limits
large = grind (arith, no_misfits, count_labels)

-- a header that is too wide for a table
pub wide : (kinds : List (Text × Kind)) (count : ℕ) (header : List Text) (rows : List (List Text)) → count ≡ length kinds → count ≡ 0 → 2 ^ 16 < length header → columns_under kinds header rows ≡ Err beyond_limits
wide = search (rules, nat_le, nat_tests, nil_from_length, large)
