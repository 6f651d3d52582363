-- What was written as CSV reads back as its records.
use Rattle.{
  meaning_format.{proofs.cells.Common.{◌≡◌, ◌≤◌, ◌+◌, ◌-◌, ℕ, zero, suc, List, [], ◌∷◌, length, map, Bool, refl, arith, length-append, flat_map, Text, na_cell}, specs.{tables.Table.{Table, rows_of}, CsvWrite.{record_text, row_fields, csv_text_of}}},
  csv.{specs.{Machine.{next_record}, Reading.{records_from, default_config}, Writing.{read_back}}, proofs.RoundTrip.{rows_text, read-write}},
  frame_format.specs.ReadBack.{table_fields, ReadsBack},
}
use Rattle.csv.specs.declared.parser.State.TheVariants as st

each_record : {X : Type 0} (f : X → List Text) (xs : List X) → flat_map (λ x. record_text (f x)) xs ≡ rows_text (map f xs)
unfolding rows_text
each_record f [] = refl
each_record f (x ∷ xs) = cc (each_record f xs)

-- after the last record there is none
none_after : (n : ℕ) → records_from default_config n st.StartRecord [] ≡ []
unfolding records_from next_record
none_after = grind arith

all_records : (rows : List (List Text)) (more n : ℕ) → n ≡ length rows + more → records_from default_config n st.StartRecord (rows_text rows) ≡ map read_back rows
unfolding records_from rows_text
all_records [] _ n e = none_after n
all_records (row ∷ rows) _ zero e = grind arith
all_records (row ∷ rows) more (suc n) e = search (read-write, rows_text, all_records rows more n (omega (arith, e)))

enough_bytes : (rows : List (List Text)) → length rows ≤ length (rows_text rows)
unfolding rows_text
enough_bytes [] = omega arith
enough_bytes (row ∷ rows) = grind (arith, length-append (record_text row) (rows_text rows), length-append, enough_bytes rows)

pub csv_reads_back : (index : Bool) (t : Table) → ReadsBack index t
unfolding rows_text
csv_reads_back index t =
    let fields = table_fields index t in
    let whole : csv_text_of index t ≡ rows_text fields = cc (each_record (row_fields index) (rows_of na_cell t)) in
    cc (all_records fields (length (rows_text fields) + 1 - length fields) (length (rows_text fields) + 1) (omega (arith, enough_bytes fields)))
