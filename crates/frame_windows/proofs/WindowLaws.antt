-- A window for each row, and what the arguments of windows say.
use Rattle.{
  frame_methods.proofs.frame_parts.Common.{arith, ◌≡◌, ◌∙◌, ap, sym, ℕ, ℤ, List, length, unwrap_or, Some, Result, IfOk, length-map, length-map-range_with_len, Text, CellColumn, Answers, ArrayFault, NamedGiven, on},
  column_core.proofs.cells.Common.{Cumulation},
  frame_labels.specs.method.{Groups.{of_bound}, Windows.{rolling_of, rolling_in, rolling_windows}},
  meaning_call.specs.{declared.{Method.TheVariants.{Other}, OtherMethod.TheVariants.{Rolling}, Parameter.{Parameter}}, Signature.{parameters_of}, Binding.{bound, bound_of, argument_at, arguments_from, whole_in}},
  meaning_window.specs.Window.{rolled_column, expanded_column},
}
use Rattle.column_core.specs.Columns as kernel

pub rolled_count : (n least : ℕ) (op : Cumulation) (texts : List Text) (a : CellColumn) (made : Result CellColumn ArrayFault) → Answers texts made (rolled_column n least op (kernel.column_value texts a)) → IfOk made (λ c. length c.cells ≡ length a.cells)
rolled_count n least op texts a made is = grind (arith, length-map, length-map-range_with_len)

pub expanded_count : (least : ℕ) (op : Cumulation) (texts : List Text) (a : CellColumn) (made : Result CellColumn ArrayFault) → Answers texts made (expanded_column least op (kernel.column_value texts a)) → IfOk made (λ c. length c.cells ≡ length a.cells)
expanded_count least op texts a made is = grind (arith, length-map, length-map-range_with_len)

-- the arguments of `rolling`, bound to its parameters
abbrev parameters : List Parameter
parameters = parameters_of (Other Rolling)

bound_told : (gs : List NamedGiven) (rows least : ℤ) → bound_of parameters gs ≡ bound (arguments_from parameters gs 0 parameters) → Some rows ≡ whole_in (argument_at parameters gs 0) → least ≡ unwrap_or (whole_in (argument_at parameters gs 1)) rows
    → rolling_windows gs ≡ rolling_of rows least
bound_told gs rows least is first second =
    ap (of_bound rolling_in) is
    ∙ ap (λ o. on o (λ n. rolling_of n (unwrap_or (whole_in (argument_at parameters gs 1)) n))) (sym first)
    ∙ ap (rolling_of rows) (sym second)

pub rolling_told : (ps qs : List Parameter) (gs hs : List NamedGiven) (rows least : ℤ) → qs ≡ parameters_of (Other Rolling) → ps ≡ qs → gs ≡ hs → bound_of qs hs ≡ bound (arguments_from ps gs 0 ps)
    → Some rows ≡ whole_in (argument_at ps gs 0) → least ≡ unwrap_or (whole_in (argument_at ps gs 1)) rows → rolling_windows hs ≡ rolling_of rows least
rolling_told ps qs gs hs rows least known same all is first second =
    bound_told hs rows least (rw (same, known, all) at is) (rw (same, known, all) at first) (rw (same, known, all) at second)
