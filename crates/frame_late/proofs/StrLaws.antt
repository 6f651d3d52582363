-- Methods of texts, by the cells that they hold, and by what the arguments of a call tell.
use Rattle.{frame_methods.proofs.frame_parts.Common.{arith, ◌≡◌, ◌∙◌, refl, ap, sym, subst, List, [], ◌∷◌, true, false, Option, Some, None, Result, Err, Text, CellValue, Kind, FaultValue, bad_value, then_value, ColumnOf, Table, column_at, Entry, table, Given, NamedGiven, cells_value, try_all, on, same_kind, OpFault, Refused, NoMemory, Refuses, World, IsSettledWorld, Forms, longer_self}, column_core.specs.cells.{Cell.{string, Int64, Boolean}, Fault.{argument}}, cell_core.specs.declared.grid.Shape.{Shape}, meaning_call.specs.{declared.StrMethod.{StrMethod}, Signature.{str_parameters}, Binding.{bound, bound_of, on_bound}}, frame_labels.specs.method.{StrCalls.{has_texts_of, has_texts, told, made_texts, worked, str_answer}, Methods.{each_column}, text.TextMethod.{TextMethod, takes, method_of_kind}}, text_methods.specs.{Answers.{method_of}, declared.ops.TextOp.{TextOp}}, frame_late.specs.{StrOps.{held_cells, method_with}, Told.{IsUntold}}}

-- the method is that of the texts by number, and whether it is taken is not a matter of its pattern
pub same_method : (texts : List Text) (op : TextOp) → method_with op (cells_value texts (held_cells op)) ≡ method_of texts op
same_method = grind arith

pub same_taken : (texts : List Text) (op : TextOp) → takes (method_with op []) ≡ takes (method_of texts op)
same_taken = grind arith

-- arguments that aren't taken are refused of a Series of texts, before its cells are looked at
is_text : (shape : Shape) (kind : Kind) → has_texts_of shape kind ≡ true → same_kind kind string ≡ true
is_text = grind arith

refused_kind : (m : TextMethod) (kind : Kind) (cells : List CellValue) → same_kind kind string ≡ true → takes m ≡ false → made_texts (method_of_kind m kind cells) ≡ Err (bad_value argument)
refused_kind m string cells k e = rw e refl
refused_kind m Int64 cells k e = absurd cc
refused_kind m Boolean cells k e = absurd cc

refused_columns : (m : TextMethod) (cs : List (ColumnOf CellValue)) (go : List (ColumnOf CellValue) → Result Entry FaultValue) → same_kind (column_at cs 0).kind string ≡ true → takes m ≡ false
    → then_value (try_all (worked m) cs) go ≡ Err (bad_value argument)
refused_columns m [] go k e = absurd cc
refused_columns m (c ∷ cs) go k e = rw (refused_kind m c.kind c.cells k e) refl

refused_so : (m : TextMethod) (t : Table) → has_texts (table t) ≡ true → takes m ≡ false → each_column (worked m) t ≡ Err (bad_value argument)
refused_so m t h e = refused_columns m t.columns _ (is_text t.shape (column_at t.columns 0).kind h) e

-- a refusal, of which nothing is left but the fault
abbrev IsRefusal : List Text → OpFault → Result Entry FaultValue → Type 0
IsRefusal texts (Refused code) meant = Refuses texts code meant
IsRefusal texts NoMemory meant = Unit {0}

refused_forms : (w : World) (fault : OpFault) (meant : Result Entry FaultValue) → IsSettledWorld w → IsRefusal w.texts fault meant → Forms (Err fault) meant w w
refused_forms w (Refused code) meant settled refuses = ((refuses, refl), longer_self _, settled, record { cells = omega arith; blocks = λ id live there apart. refl })
refused_forms w NoMemory meant settled refuses = (refl, longer_self _, settled, record { cells = omega arith; blocks = λ id live there apart. refl })

untold_refused : (texts : List Text) (fault : OpFault) (o : Option TextMethod) (t : Table) → has_texts (table t) ≡ true → IsUntold fault o → IsRefusal texts fault (on o (λ m. each_column (worked m) t))
untold_refused texts _ None t h is = rw is (refl, λ more. refl)
untold_refused texts _ (Some m) t h is = rw is.0 (refused_so m t h is.1, λ more. refl)

-- a call whose arguments are bound, by what they tell
module _ (m : StrMethod) (gs : List NamedGiven) (given : List Given) (t : Table) (is : bound_of (str_parameters m) gs ≡ bound given) where
  abbrev meant : Result Entry FaultValue
  meant = on_bound (bound_of (str_parameters m) gs) (str_answer t m)

  bound_so : meant ≡ on (told m given) (λ method. each_column (worked method) t)
  bound_so = ap (λ g. on_bound g (str_answer t m)) is

  pub told_so : (texts : List Text) (op : TextOp) → told m given ≡ Some (method_of texts op) → each_column (worked (method_with op (cells_value texts (held_cells op)))) t ≡ meant
  told_so texts op tells =
      ap (λ method. each_column (worked method) t) (same_method texts op)
      ∙ sym (bound_so ∙ ap (λ o. on o (λ method. each_column (worked method) t)) tells)

  pub untold_forms : (w : World) (fault : OpFault) → IsSettledWorld w → has_texts (table t) ≡ true → IsUntold fault (told m given) → Forms (Err fault) meant w w
  untold_forms w fault settled texts untold =
      refused_forms w fault meant settled (subst (IsRefusal w.texts fault) (sym bound_so) (untold_refused w.texts fault (told m given) t texts untold))
