-- A method that a name means is one of the shape.
use denote.Enum.Bare.{true_same}
use Rattle.{
  meaning_form.proofs.cells.Common.{◌≡◌, refl, Bool, true, false, ◌||◌, List, [], ◌∷◌, Option, Some, find, cond, option_and_then, list_any, Shape, Series, Frame, Text, same_text},
  std.specs.Option.{option_map_or},
  meaning_call.specs.{declared.Method.{Method}, Signature.{MethodName, method_at, method_named, same_method, fits_shape}},
}
use Rattle.meaning_call.specs.declared.Method.TheVariants as method

-- the method that the first of the names means, and the methods that they mean
abbrev first_named : Shape → Text → List MethodName → Option Method
first_named s t ns = option_and_then (method_at s) (find (λ n. same_text n.name t) ns)

abbrev is_among : Shape → List MethodName → Method → Bool
is_among s ns m = list_any (λ n. option_map_or (same_method m) (method_at s n) false) ns

same_self : (m : Method) → same_method m m ≡ true
same_self (method.Columns m) = search true_same
same_self (method.Summary m) = search true_same
same_self (method.Rows m) = search true_same
same_self (method.Levels m) = search true_same
same_self (method.Labels m) = search true_same
same_self (method.Table m) = search true_same
same_self (method.Reshape m) = search true_same
same_self (method.Other m) = search true_same

or_true : (a : Bool) {b : Bool} → b ≡ true → (a || b) ≡ true
or_true true h = refl
or_true false h = h

found_fits : (s : Shape) (t : Text) (ns : List MethodName) (m : Method) → first_named s t ns ≡ Some m → is_among s ns m ≡ true
found_fits s t [] m found = cc
found_fits s t (n ∷ ns) m found = by (same_text n.name t) found (found_fits s t ns m)
  where
    by : (b : Bool) → option_and_then (method_at s) (cond b (Some n) (find (λ n. same_text n.name t) ns)) ≡ Some m → (first_named s t ns ≡ Some m → is_among s ns m ≡ true) → is_among s (n ∷ ns) m ≡ true
    by true is _ = rw (is, same_self m) refl
    by false is later = or_true _ (later is)

pub named_fits : (s : Shape) (t : Text) (m : Method) → method_named s t ≡ Some m → fits_shape m s ≡ true
named_fits = search found_fits

-- a method that the one doesn't have is of the other
pub of_series : (m : Method) (s : Shape) → fits_shape m Frame ≡ false → fits_shape m s ≡ true → s ≡ Series
of_series m Series _ _ = refl
of_series m Frame never fits = cc

pub of_frame : (m : Method) (s : Shape) → fits_shape m Series ≡ false → fits_shape m s ≡ true → s ≡ Frame
of_frame m Frame _ _ = refl
of_frame m Series never fits = cc
