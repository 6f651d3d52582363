-- Numbers that stand for labels of one class.
use Rattle.std.specs.Prelude.{◌+◌, ◌^◌, ◌-ℤ◌, ◌≤ℤ◌, ℕ, ℤ, pos, Bool, true, false, Option, Some, None, nat_lt, if◌then◌else◌}
use Rattle.std.specs.Int.RustNames.{unsigned_abs}
use Rattle.cell_core.specs.declared.cell.Label.{Label}
use Rattle.cell_core.specs.declared.cell.Label.TheVariants as label
use Rattle.row_keys.specs.declared.values.Class.{Class}
use Rattle.row_keys.specs.declared.values.Class.TheVariants.{Truths, Whole, Texts}

abbrev pub truth_value : Bool → ℤ
truth_value false = pos 0
truth_value true = pos 1

-- the number of a text as a value, if it is one
abbrev pub text_value : ℕ → Option ℤ
text_value n = if nat_lt n (2 ^ 63) then Some (pos n) else None

-- the value of a label, if it is of the class
abbrev pub value_in : Class → Label → Option ℤ
value_in Truths (label.Bool b) = Some (truth_value b)
value_in Whole (label.Int z) = Some z
value_in Texts (label.Text id) = text_value id.0
value_in class l = None

abbrev pub IsBetween : ℤ → ℤ → Option ℤ → Type 0
IsBetween low high (Some v) = (low ≤ℤ v) × (v ≤ℤ high)
IsBetween low high None = ⊥

-- the label is NA, or of the class and between two values
abbrev pub IsSpanned : Class → ℤ → ℤ → Label → Type 0
IsSpanned class low high label.Na = Unit {0}
IsSpanned class low high l = IsBetween low high (value_in class l)

-- one more than how far a value stands from the least
abbrev pub number_from : ℤ → Option ℤ → ℕ
number_from low (Some v) = unsigned_abs (v -ℤ low) + 1
number_from low None = 0

-- the number of a label, which is 0 for NA
abbrev pub number_in : Class → ℤ → Label → ℕ
number_in class low l = number_from low (value_in class l)
