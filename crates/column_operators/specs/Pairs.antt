-- The operations on the values of a row, told by flags.
use Rattle.std.specs.Prelude.{◌≡◌, Bool, true, false, not, ◌&&◌, ◌||◌, ℤ, Option, Some, None, unwrap_or, is_some}
use Rattle.std.specs.Int.{int_wrap, w64}
use Rattle.std.specs.declared.cmp.Ordering.{Ordering}
use Rattle.std.proofs.Common.{refl}
use Rattle.column_core.specs.Rows.{flagged}
use Rattle.column_operators.specs.declared.ops.Relation.{Relation}
use Rattle.column_operators.specs.Tasks.{passes}
use Rattle.column_operators.specs.Operations.{number_row, compare_row, and_row, or_row, xor_row}

-- where `and` and `or` are known: where both values are, and where one decides
abbrev pub and_flag : Bool → Bool → Bool → Bool → Bool
and_flag x p y q = (p && q) || (p && not x) || (q && not y)

abbrev pub or_flag : Bool → Bool → Bool → Bool → Bool
or_flag x p y q = (p && q) || (p && x) || (q && y)

abbrev pub xor_value : Bool → Bool → Bool
xor_value true y = not y
xor_value false y = y

pub number_pair : (f : ℤ → ℤ → ℤ) (x : ℤ) (p : Bool) (y : ℤ) (q : Bool) → number_row f (flagged p x) (flagged q y) ≡ Some (flagged (p && q) (int_wrap w64 (f x y)))
number_pair f x true y true = refl
number_pair f x true y false = refl
number_pair f x false y true = refl
number_pair f x false y false = refl

pub compare_pair : {T : Type 0} (r : Relation) (cmp : T → T → Ordering) (x : T) (p : Bool) (y : T) (q : Bool) → compare_row r cmp (flagged p x) (flagged q y) ≡ Some (flagged (p && q) (passes r (cmp x y)))
compare_pair r cmp x true y true = refl
compare_pair r cmp x true y false = refl
compare_pair r cmp x false y true = refl
compare_pair r cmp x false y false = refl

pub and_pair : (x p y q : Bool) → and_row (flagged p x) (flagged q y) ≡ Some (flagged (and_flag x p y q) (x && y))
and_pair true true true true = refl
and_pair true true true false = refl
and_pair true true false true = refl
and_pair true true false false = refl
and_pair true false true true = refl
and_pair true false true false = refl
and_pair true false false true = refl
and_pair true false false false = refl
and_pair false true true true = refl
and_pair false true true false = refl
and_pair false true false true = refl
and_pair false true false false = refl
and_pair false false true true = refl
and_pair false false true false = refl
and_pair false false false true = refl
and_pair false false false false = refl

pub or_pair : (x p y q : Bool) → or_row (flagged p x) (flagged q y) ≡ Some (flagged (or_flag x p y q) (x || y))
or_pair true true true true = refl
or_pair true true true false = refl
or_pair true true false true = refl
or_pair true true false false = refl
or_pair true false true true = refl
or_pair true false true false = refl
or_pair true false false true = refl
or_pair true false false false = refl
or_pair false true true true = refl
or_pair false true true false = refl
or_pair false true false true = refl
or_pair false true false false = refl
or_pair false false true true = refl
or_pair false false true false = refl
or_pair false false false true = refl
or_pair false false false false = refl

pub xor_pair : (x p y q : Bool) → xor_row (flagged p x) (flagged q y) ≡ Some (flagged (p && q) (xor_value x y))
xor_pair true true true true = refl
xor_pair true true true false = refl
xor_pair true true false true = refl
xor_pair true true false false = refl
xor_pair true false true true = refl
xor_pair true false true false = refl
xor_pair true false false true = refl
xor_pair true false false false = refl
xor_pair false true true true = refl
xor_pair false true true false = refl
xor_pair false true false true = refl
xor_pair false true false false = refl
xor_pair false false true true = refl
xor_pair false false true false = refl
xor_pair false false false true = refl
xor_pair false false false false = refl

-- the row of a value, or none, that stands in each row
pub flagged_value : {T : Type 0} (o : Option T) (blank x : T) → Some (unwrap_or o blank) ≡ Some x → o ≡ flagged (is_some o) x
flagged_value None blank x e = refl
flagged_value (Some y) blank x e = e
