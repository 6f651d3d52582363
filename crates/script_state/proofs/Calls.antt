-- What a call of a function gives, by the function that its name means.
use Rattle.{
  frame_calls.proofs.frame_parts.Common.{arith, ◌≡◌, true, false, ℕ, List, Some, None, Text, Entry, NamedGiven},
  meaning_laws.specs.{charge.Charge.{answer_charge}, call.{declared.Function.{Function, TheVariants.{ReadCsv}}, Signature.{function_named}}, method.{Functions.{made_by}, Readers.{reads_file, file_name_of, read_result}}, script.{Reading.{Files, Reads, at_once, costing, then_read, of_file}, Expression.{made}}},
}

-- one that reads a file is asked for its name first
abbrev pub read : List NamedGiven → List ℕ → Reads Entry
read gs bytes = costing answer_charge (read_result bytes gs)

abbrev pub reading : Files → List NamedGiven → Reads Entry
reading files gs = then_read (at_once (file_name_of ReadCsv gs)) (λ name. of_file files name (read gs))

pub made_plain : (files : Files) (name : Text) (f : Function) (gs : List NamedGiven) → function_named name ≡ Some f → reads_file (Some f) ≡ false → made files name gs ≡ costing answer_charge (made_by f None gs)
made_plain files name f gs named plain = rw (named, plain)

pub made_reading : (files : Files) (name : Text) (f : Function) (gs : List NamedGiven) → function_named name ≡ Some f → reads_file (Some f) ≡ true → made files name gs ≡ reading files gs
made_reading files name f gs named reads = rw (named, reads)

pub reads_by : (f : Function) (bytes : List ℕ) (gs : List NamedGiven) → reads_file (Some f) ≡ true → read_result bytes gs ≡ made_by f (Some bytes) gs
reads_by = grind arith
