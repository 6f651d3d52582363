-- Calls behind values and calls of functions of `pd` make valid tables of valid values and arguments.
use Rattle.{
  meaning_script.{proofs.{cells.Common.{◌≡◌, refl, ℕ, List, ◌<◌, [], ◌∷◌, length, map, length-append, arith, eqb-true, length-map, All-append, true, Option, Some, None, IfOk, nat_eq, slice_get, codes, IsSome, IfSome, All, position_or_len, Text}, tables.KindLaws.{kind_is}, call.ShapeLaws.{named_fits, of_frame}}, specs.{tables.{Table.{Table, column_at}, Value.{Entry, cell, table, NamedGiven, Given, object_in}, Valid.{IsValid}}, call.{declared.{Function.{Function}, Method.{Method, TheVariants.{Other}}, OtherMethod.TheVariants.{Merge}}, Signature.{method_names, fits_shape, parameters_of}, Binding.{argument_at, text_in}}, form.{Finish.{limited}, Select.{heading_at}}, method.{Calls.{ChainValue, plain, on_texts, grouped, rolling, expanding, table_call, plain_result, call_result, merge_call}, Functions.{made_by, made_named, function_result}, Rows.{all_places}, Merge.{MergeKeys, kinds_at, are_same_kinds, keys_of_merge, suffixed_heading, right_places, left_heading, right_heading, column_of_side, key_cell, joined_key_column, right_key, joined_or_left, left_column, merged, merged_rows, how_named, validate_in, merge_result}}, join.{declared.{How.{How}, Validate.{Validate}}, Pairs.{Pair}}}},
  meaning_laws.{specs.Validity.{IsValidObject, IsValidEntry, AreValidArguments}, proofs.{ListLaws.{all_made, all_mapped, then_keeps, on_keeps, on_some_keeps}, Words.{Keeps, IsFrame, Name, Below}, TableLaws.{shaped, IsShaped, cells_held}, MethodLaws.{on_bound_keeps, called_keeps}, WindowLaws.{rolling_result_keeps, expanding_result_keeps}, StrLaws.{str_result_keeps}, ReshapeLaws.{reshaped_keeps}, CsvLaws.{read_result_keeps}, MakeLaws.{series_call_keeps, frame_call_keeps}, ConcatLaws.{concat_call_keeps}, ColumnLaws.{IsColumn, Held}, ReachLaws.{below_all, some_below}, InfixLaws.{gap_held}, GroupLaws.{AreLabels, frame_keeps, grouped_result_keeps}, SetLaws.{length_default, default_levels}, ArgumentLaws.{argument_valid, object_valid, frame_at, bound_taken}}},
}
use Rattle.meaning_script.specs.call.declared.Function.TheVariants as function
use Rattle.meaning_script.specs.call.declared.Method.TheVariants as method
use Rattle.meaning_script.specs.call.declared.OtherMethod.TheVariants as other_method

-- `merge` makes a valid frame of valid ones
-- as many keys on either side, of the same kinds
abbrev AreKeys : Table → Table → MergeKeys → Type 0
AreKeys l r keys = are_same_kinds (kinds_at l keys.left) (kinds_at r keys.right) ≡ true

keys_are : (l r : Table) (labels : Given) → IfOk (keys_of_merge l r labels) (AreKeys l r)
keys_are = grind arith

beside_some : (suffix : Text) (others : List Name) (h : Name) → IsSome h → IsSome (suffixed_heading suffix others h)
beside_some = grind arith

-- the key of the right side is of the kind of the left
kinds_meet : (l r : Table) (lefts rights : List ℕ) (place other : ℕ) → are_same_kinds (kinds_at l lefts) (kinds_at r rights) ≡ true → slice_get rights (position_or_len (nat_eq place) lefts) ≡ Some other
    → (column_at l.columns place).kind ≡ (column_at r.columns other).kind
kinds_meet l r [] [] place other alike found = cc
kinds_meet l r [] (b ∷ rights) place other alike found = cc
kinds_meet l r (a ∷ lefts) [] place other alike found = cc
kinds_meet l r (a ∷ lefts) (b ∷ rights) place other alike found = grind (arith, eqb-true, kind_is, kinds_meet l r lefts rights place other)

-- the frame of two frames
module _ (l r : Table) (s : IsShaped l) (w : IsShaped r) (is : IsFrame l) (is' : IsFrame r) (keys : MergeKeys) (are : AreKeys l r keys) (pairs : List Pair) where
  key_held : (place other : ℕ) → right_key keys place ≡ Some other → IsColumn (length pairs) (joined_key_column l r pairs place other)
  key_held place other key =
      let kind = (column_at l.columns place).kind in
      let left = (column_at l.columns place).cells in
      let right = (column_at r.columns other).cells in
      let right_held : All (Held kind) right = grind (arith, kinds_meet, cells_held) in
      let each : (p : Pair) → Held kind (key_cell left right p) = grind (arith, gap_held, cells_held, right_held) in
      record { filled = length-map pairs _; held = all_mapped (Held kind) (key_cell left right) each pairs }

  left_held : (place : ℕ) → IsColumn (length pairs) (left_column l r keys pairs place)
  left_held place = by _ refl
    where
      by : (o : Option ℕ) → right_key keys place ≡ o → IsColumn (length pairs) (joined_or_left l r pairs place o)
      by (Some other) e = key_held _ _ e
      by None e = search (length-map, all_mapped, gap_held, cells_held)

  left_some : (place : ℕ) → place < length l.columns → IsSome (left_heading l r keys place)
  left_some = grind arith

  right_below : Below (length r.columns) (right_places r keys)
  right_below = some_below _ _

  merged_labels : AreLabels (merged l r keys pairs).headings
  merged_labels =
      let lefts = all_made (λ place. place < length l.columns) IsSome (left_heading l r keys) left_some (all_places l) (below_all (length l.columns)) in
      let rights = all_made (λ place. place < length r.columns) IsSome (right_heading l r keys) (λ place lt. beside_some (codes "_y") _ (heading_at r place) (grind arith)) (right_places r keys) right_below in
      search All-append

  merged_columns : All (IsColumn (length pairs)) (merged l r keys pairs).columns
  merged_columns =
      All-append (IsColumn (length pairs)) (map (left_column l r keys pairs) (all_places l)) (map (column_of_side r (map (λ p. p.right) pairs)) (right_places r keys))
      (search (all_mapped, left_held))
      (search (all_mapped, length-map, gap_held, cells_held))

  merged_keeps : Keeps (limited (merged l r keys pairs))
  merged_keeps = grind (arith, frame_keeps, default_levels, length-map, length-append, length_default, merged_columns, merged_labels)

rows_keep : (l r : Table) → IsShaped l → IsShaped r → IsFrame l → IsFrame r → (h : How) (once : Validate) (keys : MergeKeys) → AreKeys l r keys → Keeps (merged_rows l r h once keys)
rows_keep = grind (arith, merged_keeps)

-- a frame that is valid
pub record IsShapedFrame (t : Table) : Type 0 where
  pub fits : IsShaped t
  pub frame : IsFrame t

pub merge_result_keeps : (l : Table) (right how labels once : Given) → IsShapedFrame l → IfSome (object_in right) IsShapedFrame → Keeps (merge_result l (right ∷ how ∷ labels ∷ once ∷ []))
merge_result_keeps l right how labels once s h =
    on_some_keeps IsShapedFrame IsValidEntry (object_in right) _ h
    (λ r w. on_keeps IsValidEntry (text_in how) _
    (λ t. then_keeps (AreKeys l r) IsValidEntry (keys_of_merge l r labels) _ (keys_are l r labels)
    (λ keys are. rows_keep l r s.fits w.fits s.frame w.frame (how_named t) (validate_in (text_in once)) keys are)))

both_fit : (o : Option Table) → IfSome o IsValid → IfSome o (λ t. IsFrame t) → IfSome o IsShapedFrame
both_fit = grind arith

-- a call of `merge`
pub merge_call_keeps : (t : Table) (gs : List NamedGiven) → IsShapedFrame t → AreValidArguments gs → Keeps (merge_call t gs)
merge_call_keeps t gs s h =
    let ps = parameters_of (Other Merge) in
    bound_taken ps gs (merge_result t)
    (λ fitted. merge_result_keeps t (argument_at ps gs 0) (argument_at ps gs 1) (argument_at ps gs 2) (argument_at ps gs 3) s
    (both_fit _ (object_valid (argument_at ps gs 0) (argument_valid ps gs 0 h)) (frame_at ps gs 0 _ refl refl fitted)))

-- calls
-- a frame alone has a `merge`
merge_frame : (t : Table) → fits_shape (Other other_method.Merge) t.shape ≡ true → IsFrame t
unfolding method_names
merge_frame = search of_frame

table_call_keeps : (o : Option Method) (name : Text) (gs : List NamedGiven) (t : Table) → IsShaped t → ((m : Method) → o ≡ Some m → fits_shape m t.shape ≡ true) → AreValidArguments gs → Keeps (table_call o name gs t)
table_call_keeps (Some (method.Other other_method.Merge)) name gs t s fits k = merge_call_keeps t gs record { fits = s; frame = merge_frame t (fits _ refl) } k
table_call_keeps (Some (method.Reshape m)) name gs t s fits k = on_bound_keeps _ _ (λ given. reshaped_keeps m given t s (fits _ refl))
table_call_keeps o name gs t s fits k = called_keeps o name gs t s fits

plain_result_keeps : (v : Entry) (name : Text) (gs : List NamedGiven) → IsValidObject v → AreValidArguments gs → Keeps (plain_result v name gs)
plain_result_keeps (cell c) name gs h k = tt
plain_result_keeps (table t) name gs h k = table_call_keeps _ name gs t (shaped t h) (λ m e. named_fits _ _ m e) k

-- any call behind a value
pub call_result_keeps : (v : Entry) (chain : ChainValue) (gs : List NamedGiven) → IsValidObject v → AreValidArguments gs → IfOk (call_result v chain gs) IsValidEntry
call_result_keeps v (plain name) gs h k = plain_result_keeps v _ gs h k
call_result_keeps v (on_texts name) gs h k = str_result_keeps v name gs h
call_result_keeps v (grouped by brackets name) gs h k = grouped_result_keeps v by brackets name gs h
call_result_keeps v (rolling args name) gs h k = rolling_result_keeps v args name gs h
call_result_keeps v (expanding args name) gs h k = expanding_result_keeps v args name gs h

-- any function of `pd`
pub made_by_keeps : (f : Function) (file : Option (List ℕ)) (gs : List NamedGiven) → AreValidArguments gs → IfOk (made_by f file gs) IsValidEntry
made_by_keeps function.Series _ gs k = series_call_keeps gs
made_by_keeps function.DataFrame _ gs k = frame_call_keeps gs
made_by_keeps function.ReadCsv None gs k = read_result_keeps [] gs
made_by_keeps function.ReadCsv (Some bytes) gs k = read_result_keeps bytes gs
made_by_keeps function.Concat _ gs k = concat_call_keeps gs k

made_named_keeps : (f : Option Function) (file : Option (List ℕ)) (name : Text) (gs : List NamedGiven) → AreValidArguments gs → IfOk (made_named f file name gs) IsValidEntry
made_named_keeps None _ _ _ k = tt
made_named_keeps (Some f) file _ gs k = made_by_keeps f file gs k

pub function_result_keeps : (file : Option (List ℕ)) (name : Text) (gs : List NamedGiven) → AreValidArguments gs → IfOk (function_result file name gs) IsValidEntry
function_result_keeps file name gs k = made_named_keeps _ file name gs k
