-- What forms cost, as the code counts it.
use Rattle.{
  frame_calls.proofs.frame_parts.Common.{arith, ◌≡◌, ◌∙◌, ℕ, zero, suc, ◌+◌, ◌-◌, ◌≤◌, Bool, true, false, List, [], ◌∷◌, length, refl, sym, ap, Option, Some, None, Result, Ok, Err, length-append, if◌then◌else◌, try_all, length-range_with_len, then_value, unwrap_or, unless_repeated, limited, on, Given, NamedGiven, Text, FaultValue, CellValue, LabelValue, Table, ColumnOf, Entry, cell, table, IsLive, Value, Object, Scalar, World, objects_of, entry_in, table_in, FormsFor, SetsFor},
  meaning_laws.{proofs.cells.Common.{◌*◌, min}, specs.{charge.Charge.{answer_charge, select_charge, setting_charge, touched_columns}, script.{Spent.{spent_for}}, call.{declared.Method.{Method}, Signature.{parameters_of, method_named}, Binding.{Bound, bound, not_taken, not_listed, bound_of, on_bound, truth_in}}, method.{Calls.{plain, call_result}, Charges.{call_charge, drops_labels, method_charge, reset_charge}, Levels.{level_columns, renumbered, with_levels}, Methods.{answer_for, as_frame, reset_index_result}}, select.{Select.{Way}, Set.{assign_result}}, tables.{Cost.{cost_of}, Value.{GivenSub}}}},
  outside_io.specs.Count.{last_count},
  frame_calls.specs.{Calls.{method_in, chain_of}, declared.between.Between.{Between}},
  script_state.specs.{Reads.{count_after}, Charges.{told, rows_in, columns_in, is_free_on, selection_cost, method_cost, setting_cost}},
  script_state.proofs.{Rides.{form_meant}, Worlds.{entry_seen, some_shown}},
}
use Rattle.meaning_laws.specs.call.declared.Method.TheVariants as method
use Rattle.frame_calls.specs.declared.between.Between.TheVariants as between
use Rattle.meaning_laws.specs.call.declared.LevelMethod.TheVariants as level_method

-- a number of cells that was told is counted as it is
pub count_told : (charge cells cost result : ℕ) → charge ≤ last_count → cells ≡ told cost → result ≡ min (charge + cells) last_count → result ≡ count_after charge cost
count_told charge cells zero result within is sum = omega (arith, is, sum, within)
count_told charge cells (suc cost) result within is sum = omega (arith, is, sum)

-- what costs nothing
pub costs_nothing : {A F : Type 0} (meant : Result A F) → cost_of (λ (a : A). 0) meant ≡ 0
costs_nothing (Ok a) = refl
costs_nothing (Err fault) = refl

-- an answer
pub answer_told : (e : Entry) (rows columns cells : ℕ) → rows ≡ rows_in e → columns ≡ columns_in e → cells ≡ told (rows * columns) → cells ≡ told (answer_charge e)
answer_told (cell c) rows columns cells r k is = rw (r, k) at is
answer_told (table t) rows columns cells r k is = rw (r, k) at is

-- a selection
pub selection_is : (v : Entry) (way : Way) (first : GivenSub) (answer : Entry) → select_charge v way first answer ≡ selection_cost (is_free_on v way first) answer
selection_is (cell c) way first answer = refl
selection_is (table t) way first answer = refl

-- a setting
pub setting_is : (v : Entry) (way : Way) (first : GivenSub) (second : Option GivenSub) (g : Given) (left : Table) → assign_result v way first second g ≡ Ok left
    → setting_charge v way first second left ≡ setting_cost (rows_in v) (touched_columns v way first second) (table left)
setting_is (cell c) way first second g left is = absurd cc
setting_is (table t) way first second g left is = refl

-- `reset_index`: the columns that the labels become
count_tried : {A B : Type 0} (f : A → Result B FaultValue) (xs : List A) (ys : List B) → try_all f xs ≡ Ok ys → length ys ≡ length xs
count_tried f [] ys is = grind arith
count_tried f (x ∷ xs) ys is = grind (arith, count_tried f xs)

levels_counted : (t : Table) (columns : List (ColumnOf CellValue)) → level_columns t ≡ Ok columns → length columns ≡ length t.level_names
levels_counted t columns is = count_tried _ _ _ is ∙ length-range_with_len 0 (length t.level_names)

made_table : (t : Table) (answer : Entry) → limited t ≡ Ok answer → columns_in answer ≡ length t.columns
made_table t answer = grind arith

made_unshared : (shared : Option LabelValue) (t : Table) (answer : Entry) → unless_repeated shared (limited t) ≡ Ok answer → columns_in answer ≡ length t.columns
made_unshared None t answer is = made_table t answer is
made_unshared (Some l) t answer is = absurd cc

reset_columns : (t : Table) (shared : Option LabelValue) (r : Result (List (ColumnOf CellValue)) FaultValue) (answer : Entry)
    → ((columns : List (ColumnOf CellValue)) → r ≡ Ok columns → length columns ≡ length t.level_names) → then_value r (λ columns. unless_repeated shared (limited (with_levels t columns))) ≡ Ok answer
    → columns_in answer ≡ length t.level_names + length t.columns
reset_columns t shared (Ok columns) answer counted is = made_unshared shared (with_levels t columns) answer is ∙ length-append columns t.columns ∙ ap (λ n. n + length t.columns) (counted columns refl)
reset_columns t shared (Err fault) answer counted is = absurd cc

reset_truth : (t : Table) (answer : Entry) (o : Option Bool) → on o (reset_index_result t) ≡ Ok answer
    → (if unwrap_or o false then 0 else length t.labels * length t.level_names) ≡ length t.labels * (columns_in answer - length t.columns)
reset_truth t answer None is = absurd cc
reset_truth t answer (Some true) is =
    let none : columns_in answer - length t.columns ≡ 0 = omega (arith, made_table (renumbered t) answer is) in
    rw none (omega arith)
reset_truth t answer (Some false) is =
    let all = reset_columns (as_frame t) _ (level_columns (as_frame t)) answer (levels_counted (as_frame t)) is in
    let left : length t.level_names ≡ columns_in answer - length t.columns = omega (arith, all) in
    ap (λ n. length t.labels * n) left

reset_by : (t : Table) (answer : Entry) (b : Bound) → on_bound b (λ given. answer_for (method.Levels level_method.ResetIndex) given t) ≡ Ok answer
    → (if drops_labels b then 0 else length t.labels * length t.level_names) ≡ length t.labels * (columns_in answer - length t.columns)
reset_by t answer not_taken is = absurd cc
reset_by t answer not_listed is = absurd cc
reset_by t answer (bound []) is = absurd cc
reset_by t answer (bound (drop ∷ [])) is = reset_truth t answer (truth_in drop) is
reset_by t answer (bound (a ∷ b ∷ more)) is = absurd cc

reset_is : (gs : List NamedGiven) (t : Table) (name : Text) (answer : Entry) → method_named t.shape name ≡ Some (method.Levels level_method.ResetIndex) → call_result (table t) (plain name) gs ≡ Ok answer
    → reset_charge gs t ≡ length t.labels * (columns_in answer - length t.columns)
reset_is gs t name answer named is = reset_by t answer (bound_of (parameters_of (method.Levels level_method.ResetIndex)) gs) (rw named at is)

-- a method
cost_is : (m : Method) (gs : List NamedGiven) (t : Table) (answer : Entry) → (m ≡ method.Levels level_method.ResetIndex → reset_charge gs t ≡ length t.labels * (columns_in answer - length t.columns))
    → method_charge m gs t answer ≡ method_cost m (length t.labels) (length t.columns) answer
cost_is (method.Levels level_method.ResetIndex) gs t answer reset = reset refl
cost_is m gs t answer reset = refl

pub method_is : (v : Entry) (name : Text) (m : Method) (gs : List NamedGiven) (answer : Entry) → method_in v name ≡ Some m → call_result v (plain name) gs ≡ Ok answer
    → call_charge v (plain name) gs answer ≡ method_cost m (rows_in v) (columns_in v) answer
method_is (cell c) name m gs answer named is = absurd cc
method_is (table t) name m gs answer named is = rw named (cost_is m gs t answer (λ same. reset_is gs t name answer (named ∙ ap Some same) is))

-- a call behind `groupby`, `rolling` or `expanding` costs the answer's cells
pub behind_is : (w : World) (v : Entry) (b : Between) (name : Text) (gs : List NamedGiven) (answer : Entry) → call_charge v (chain_of w b name) gs answer ≡ answer_charge answer
behind_is w v (between.Groupby args brackets) name gs answer = refl
behind_is w v (between.Rolling args) name gs answer = refl
behind_is w v (between.Expanding args) name gs answer = refl

-- What a form made is live, and what was set.
pub made_live : (charge : Entry → ℕ) (meant : Result Entry FaultValue) (old new : World) (v : Value) → FormsFor charge (Ok v) meant old new → IsLive new.tables v
made_live = grind (arith, some_shown)

pub set_live : (charge : Table → ℕ) (meant : Result Table FaultValue) (old new : World) (on : Value) → SetsFor charge (Ok tt) on meant old new → IsLive new.tables on
set_live = grind (arith, some_shown)

set_meant : (charge : Table → ℕ) (meant : Result Table FaultValue) (old new : World) (on : Value) → SetsFor charge (Ok tt) on meant old new → (t : Table) × (meant ≡ Ok t) × (entry_in new on ≡ table t)
set_meant charge meant old new (Object id) sets = (table_in (objects_of new id.0), sets.0.0, sym (entry_seen new (Object id)))
set_meant charge meant old new (Scalar c) sets = absurd sets.0

-- the charge after a form that was done
module _ (before after cells : ℕ) (counted : (cost : ℕ) → cells ≡ told cost → after ≡ count_after before cost) where
  pub form_charged : (charge : Entry → ℕ) (meant : Result Entry FaultValue) (old new : World) (v : Value) → FormsFor charge (Ok v) meant old new → cells ≡ told (charge (entry_in new v)) → after ≡ count_after before (spent_for charge meant).charge
  form_charged charge meant old new v made is = rw (form_meant charge old new meant v made) (counted _ is)

  pub set_charged : (charge : Table → ℕ) (meant : Result Table FaultValue) (old new : World) (on : Value) → SetsFor charge (Ok tt) on meant old new → ((t : Table) → meant ≡ Ok t → entry_in new on ≡ table t → cells ≡ told (charge t)) → after ≡ count_after before (spent_for charge meant).charge
  set_charged charge meant old new on sets is =
      let m = set_meant charge meant old new on sets in
      rw m.1 (counted _ (is m.0 m.1 m.2))
