-- Which columns `melt` is told.
use Rattle.{frame_parts.proofs.Common.{arith, ◌≡◌, ℕ, Bool, true, false, List, length, filter, range_with_len, Ok, if◌then◌else◌, Text, NumberedTable, Table, table_value, Given}, frame_labels.specs.method.{Rows.{labels_in, places_besides}, Reshape.{kept_in, values_named, melted_in}}, frame_parts.specs.form.Select.{argument_columns}, frame_signatures.specs.call.Binding.{is_nothing}, frame_labels.proofs.NamedLaws.{is_other, others_meant}}

kept_is : (t : Table) (ids : Given) → kept_in t ids ≡ argument_columns t (labels_in ids)
kept_is = grind arith

values_are : (t : Table) (kept : List ℕ) (values : Given) (none : Bool) → none ≡ is_nothing values → values_named t kept values ≡ (if none then Ok (places_besides t kept) else argument_columns t (labels_in values))
values_are = grind arith

-- the columns that are named, or all that don't stay
pub others_named : (texts : List Text) (t : NumberedTable) (kept others : List ℕ) (values : Given) (count : ℕ) → true ≡ is_nothing values → others ≡ filter (is_other kept) (range_with_len 0 count) → count ≡ length t.columns → values_named (table_value texts t) kept values ≡ Ok others
others_named texts t kept others values count none are counted = grind (arith, values_are (table_value texts t) kept values true none, others_meant texts t kept others count are counted)

pub some_named : (t : Table) (kept : List ℕ) (values : Given) → false ≡ is_nothing values → values_named t kept values ≡ argument_columns t (labels_in values)
some_named t kept values some = values_are t kept values false some

-- both
pub both_told : (t : Table) (ids values : Given) (kept places : List ℕ) → argument_columns t (labels_in ids) ≡ Ok kept → values_named t kept values ≡ Ok places → melted_in t ids values ≡ Ok record { kept = kept; values = places }
both_told t ids values kept places told named = grind (arith, kept_is t ids)
