-- Cells of JSON values, by what is asked of a value.
use Rattle.{meaning_json.{proofs.cells.Common.{◌≡◌, ℤ, Bool, true, false, ◌||◌, Option, Some, None, is_some, option_map, option_and_then, unwrap_or, arith, if◌then◌else◌, refl, ap, sym, list_all, na_cell, int_cell, truth_cell, Int64, Boolean, Text}, specs.{cells.Cell.{text_cell, string}, JsonRead.{is_cell, cell_found, cell_kind, is_record, members_in}}}, serde_json.specs.{Data.{Data, Num, Members, Items}, Find.{as_null, as_bool, as_number, as_str, as_object, as_i64}}}
use Rattle.serde_json.specs.Data as dat

-- what is asked
abbrev number_at : Data → Option ℤ
number_at d = option_and_then as_i64 (as_number d)

some_cell : (o : Option ℤ) → is_some (option_map int_cell o) ≡ is_some o
some_cell None = refl
some_cell (Some z) = refl

pub cell_tested : (d : Data) → is_cell d ≡ (is_some (as_null d) || is_some (as_bool d) || is_some (number_at d) || is_some (as_str d))
cell_tested dat.null = refl
cell_tested (dat.boolean b) = refl
cell_tested (dat.number n) = grind (arith, some_cell (as_i64 n))
cell_tested (dat.string s) = refl
cell_tested (dat.array ds) = refl
cell_tested (dat.object ms) = refl

number_kind : (o : Option ℤ) → cell_kind (unwrap_or (option_map int_cell o) na_cell) ≡ option_map (λ _. Int64) o
number_kind None = refl
number_kind (Some z) = refl

pub kind_tested : (d : Data) → cell_kind (cell_found (Some d)) ≡ (if is_some (as_bool d) then Some Boolean else if is_some (number_at d) then Some Int64 else if is_some (as_str d) then Some string else None)
kind_tested dat.null = refl
kind_tested (dat.boolean b) = refl
kind_tested (dat.number n) = grind (arith, number_kind (as_i64 n))
kind_tested (dat.string s) = refl
kind_tested (dat.array ds) = refl
kind_tested (dat.object ms) = refl

-- the cell, by what was found
pub truth_found : (d : Data) (b : Bool) → Some b ≡ as_bool d → cell_found (Some d) ≡ truth_cell b
truth_found dat.null b e = cc
truth_found (dat.boolean c) b e = ap (λ o. unwrap_or (option_map truth_cell o) na_cell) (sym e)
truth_found (dat.number n) b e = cc
truth_found (dat.string s) b e = cc
truth_found (dat.array ds) b e = cc
truth_found (dat.object ms) b e = cc

pub number_found : (d : Data) (z : ℤ) → Some z ≡ number_at d → cell_found (Some d) ≡ int_cell z
number_found dat.null z e = cc
number_found (dat.boolean c) z e = cc
number_found (dat.number n) z e = ap (λ o. unwrap_or (option_map int_cell o) na_cell) (sym e)
number_found (dat.string s) z e = cc
number_found (dat.array ds) z e = cc
number_found (dat.object ms) z e = cc

pub text_found : (d : Data) (t : Text) → Some t ≡ as_str d → cell_found (Some d) ≡ text_cell t
text_found dat.null t e = cc
text_found (dat.boolean c) t e = cc
text_found (dat.number n) t e = cc
text_found (dat.string s) t e = ap (λ o. unwrap_or (option_map text_cell o) na_cell) (sym e)
text_found (dat.array ds) t e = cc
text_found (dat.object ms) t e = cc

pub none_found : (d : Data) → None ≡ as_bool d → None ≡ number_at d → None ≡ as_str d → cell_found (Some d) ≡ na_cell
none_found dat.null b n t = refl
none_found (dat.boolean c) b n t = cc
none_found (dat.number m) b n t = ap (λ o. unwrap_or (option_map int_cell o) na_cell) (sym n)
none_found (dat.string s) b n t = cc
none_found (dat.array ds) b n t = refl
none_found (dat.object ms) b n t = refl

-- objects and arrays
pub object_record : (d : Data) (ms : Members) → Some ms ≡ as_object d → is_record d ≡ list_all (λ m. is_cell m.1) (members_in ms)
object_record dat.null ms e = cc
object_record (dat.boolean c) ms e = cc
object_record (dat.number n) ms e = cc
object_record (dat.string s) ms e = cc
object_record (dat.array ds) ms e = cc
object_record (dat.object ns) ms e = ap (λ o. unwrap_or (option_map (λ l. list_all (λ m. is_cell m.1) (members_in l)) o) true) (sym e)

pub other_record : (d : Data) → None ≡ as_object d → is_record d ≡ false
other_record dat.null e = refl
other_record (dat.boolean c) e = refl
other_record (dat.number n) e = refl
other_record (dat.string s) e = refl
other_record (dat.array ds) e = refl
other_record (dat.object ns) e = cc
