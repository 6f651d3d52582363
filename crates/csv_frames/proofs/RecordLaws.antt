-- Laws of records that are read one after the other.
use Rattle.{
  column_core.proofs.cells.Common.{rules, ◌++◌, length-append, ◌≡◌, ◌∷◌, [], ap, List, ℕ, Option, Some, None, Bool, true, false, length, zero, suc, ◌<◌, ◌≤◌, ◌+◌, arith, ◌-◌, Bor},
  std.proofs.Common.{length-drop},
  csv.{specs.{Machine.{fields_after, field_after, Read, next_record, ends_at_end, step, is_end}, declared.{parser.{Action.{Action}, Config.{Config}, State.{State}}, reader.Reader.{Reader}}, Reading.{Reached, Ready, ReadRecord, records_from, records_next, strip_bom}}, proofs.ReadFacts.{rows-more}},
  csv_frames.specs.Rows.{Reads, IsNext, known, rows_left, file_records, file_rows},
}
use Rattle.csv.specs.declared.reader.Trim.TheVariants as trim

abbrev Quiet : State × Action → Type 0
Quiet a = is_end a.1 ≡ true → ends_at_end a.0 ≡ false

-- a step that ends a record leaves no record begun
quiet : (cfg : Config) (s : State) (c : ℕ) → Quiet (step cfg s c)
quiet = grind arith

-- a record that was read: from where no record was begun it took a byte, and it leaves none begun
record Took (s : State) (xs : List ℕ) (p : Read) : Type 0 where
  some : length xs ≡ 0 → ends_at_end s ≡ true
  less : length p.2 ≤ length xs - 1
  quiet_after : ends_at_end p.1 ≡ false

module _ (cfg : Config) where
  took : (s : State) (fields : List (List ℕ)) (field xs : List ℕ) (p : Read) → next_record cfg s fields field xs ≡ Some p → Took s xs p
  unfolding next_record
  took s _ _ [] p e = grind arith
  took s fields field (c ∷ rest) p e = grind (arith, quiet, took (step cfg s c).0 (fields_after (step cfg s c).1 fields field) (field_after (step cfg s c).1 c field) rest p)

  -- more turns than bytes give all records
  fuel : (n m : ℕ) (s : State) (xs : List ℕ) → ends_at_end s ≡ false → length xs < n → length xs < m → records_from cfg n s xs ≡ records_from cfg m s xs
  unfolding records_from
  fuel zero m s _ e l k = absurd (omega arith)
  fuel (suc n) zero s _ e l k = absurd (omega arith)
  fuel (suc n) (suc m) s _ e l k = grind (arith, took, fuel n m)

  turned : (s : State) (xs : List ℕ) (r : Option Read) → next_record cfg s [] [] xs ≡ r → records_from cfg (length xs + 1) s xs ≡ records_next (records_from cfg (length xs)) r
  unfolding records_from
  turned = grind arith

  -- the first record, and those after it
  one_more : (s : State) (xs : List ℕ) (p : Read) → ends_at_end s ≡ false → next_record cfg s [] [] xs ≡ Some p → records_from cfg (length xs + 1) s xs ≡ p.0 ∷ records_from cfg (length p.2 + 1) p.1 p.2
  one_more = grind (arith, turned, fuel, took)

-- what a read says of the records that are left
pub read_next : (a b : Reader (Bor (List ℕ))) (found : Bool) (fields : List (List ℕ)) → Reads a → (b.trim ≡ trim.None) → Ready b → ReadRecord known a b found fields → IsNext a found fields b
unfolding Reached
read_next = search (rules, rows-more, one_more, quiet, took, turned)

strip-shorter : (xs : List ℕ) → length (strip_bom xs) ≤ length xs
unfolding strip_bom
strip-shorter = grind arith

turns : (cfg : Config) (n : ℕ) (s : State) (xs : List ℕ) → length (records_from cfg n s xs) ≤ n
unfolding records_from
turns _ zero = omega arith
turns cfg (suc n) = grind (arith, turns cfg n)

module _ (a b : Reader (Bor (List ℕ))) (found : Bool) (row : List (List ℕ)) (next : IsNext a found row b) where
  pub one_left : found ≡ true → (rows_left a ≡ row ∷ rows_left b) × Reads b
  one_left = grind arith

  -- the header
  pub no_header : (bytes : List ℕ) → rows_left a ≡ file_records bytes → found ≡ false → file_rows bytes ≡ []
  no_header = grind arith

  pub under_header : (bytes : List ℕ) → rows_left a ≡ file_records bytes → found ≡ true → file_rows bytes ≡ rows_left b
  under_header = grind arith

-- the records of a front of the file
pub few_before : (bytes : List ℕ) (before rest : List (List (List ℕ))) → before ++ rest ≡ file_rows bytes → length before ≤ length bytes + 1
few_before bytes before rest is = grind (arith, turns, strip-shorter, length-drop 1 (file_records bytes), ap length is, length-append before rest)
