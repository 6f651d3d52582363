-- The frame of two frames' rows that are nearest.
use Rattle.{frame_parts.proofs.Common.{◌≡◌, ◌∙◌, ◌+◌, ap, sym, subst, arith, ℕ, List, ◌∷◌, [], ◌++◌, map, length, All, Option, Some, Result, Ok, Err, range_with_len, length-map, length-range_with_len, All-map, map-range_with_len_more, IsPlaceOf, Frame, Text, FaultValue, NumberedTable, Table, table_value, Entry, Makes, MakesBy, OpFault, Refused, NoMemory, limited, object_value, Tables, ObjId}, column_core.proofs.cells.Common.{zip}, factorize.proofs.sorting.RankLaws.{below_range}, frame_labels.specs.method.Merge.{MergeKeys, merged}, merge_concat.specs.declared.pairs.Pairs.{Pairs}, meaning_nearest.specs.{AsofMerge.{AsofMerge, asof_keys, rows_met, pairs_of, asof_frames, asof_tables}}, meaning_nearest.specs.method.join.Pairs.{pair}, frame_merge.specs.{declared.keys.MergeKeys.{MergeKeys as NumberedKeys}, Keys.{keys_seen}, Rows.{pairs_value, AreRowsMet}}, frame_asof.specs.Rows.{rows_seen, all_rows, AreRowsFor}}

abbrev refused : {X : Type 0} → OpFault → Result X OpFault
refused fault = Err fault

-- pairs of all rows
pub one_more_row : (row : ℕ) (rows rows' : List (Option ℕ)) → rows' ≡ rows ++ Some row ∷ [] → rows ≡ map Some (range_with_len 0 row) → rows' ≡ map Some (range_with_len 0 (row + 1))
one_more_row row rows rows' pushed are = pushed ∙ ap (λ rows. rows ++ Some row ∷ []) are ∙ sym (map-range_with_len_more Some 0 row row (omega arith))

pub all_met : (l r : NumberedTable) (rows : List (Option ℕ)) (pairs : Pairs) → AreRowsFor l r rows → pairs.right ≡ rows → pairs.left ≡ all_rows rows → AreRowsMet l r pairs
all_met l r rows pairs are right left =
    record {
      left = rw left (subst (λ n. All (IsPlaceOf n) (all_rows rows)) are.count (All-map (IsPlaceOf (length rows)) Some (range_with_len 0 (length rows)) (below_range (length rows))));
      right = rw right are.inside;
      same = ap length right ∙ sym (length-range_with_len 0 (length rows)) ∙ sym (length-map (range_with_len 0 (length rows)) Some) ∙ sym (ap length left);
    }

pairs_are : (rows : List (Option ℕ)) (pairs : Pairs) → pairs.right ≡ rows → pairs.left ≡ all_rows rows → pairs_value pairs ≡ pairs_of rows
pairs_are rows pairs right left = λ i. map (λ p. pair p.0 p.1) (zip (left i) (right i))

-- what is meant, by the tables that are read
module _ (live : Tables) (texts : List Text) (left right : ObjId) (l r : NumberedTable) (left_at : live left.0 ≡ Some l) (right_at : live right.0 ≡ Some r) (m : AsofMerge) where
  abbrev L : Table
  L = table_value texts l

  abbrev R : Table
  R = table_value texts r

  abbrev meant : Result Entry FaultValue
  meant = asof_tables (object_value live texts left) (object_value live texts right) m

  tables_are : meant ≡ asof_tables L R m
  tables_are = grind (arith, left_at, right_at)

  frames_are : l.shape ≡ Frame → r.shape ≡ Frame → meant ≡ asof_frames L R m
  frames_are left_is right_is = cc (tables_are, left_is, right_is)

  module _ (left_is : l.shape ≡ Frame) (right_is : r.shape ≡ Frame) where
    pub keys_refused : (fault : OpFault) → MakesBy keys_seen texts (refused {X = NumberedKeys} fault) (asof_keys L R m) → Makes texts (Err fault) meant
    keys_refused (Refused code) is = grind (arith, frames_are left_is right_is)
    keys_refused NoMemory is = tt

    module _ (keys : MergeKeys) (found : asof_keys L R m ≡ Ok keys) where
      pub rows_refused : (fault : OpFault) → MakesBy rows_seen texts (refused {X = List (Option ℕ)} fault) (rows_met L R m keys) → Makes texts (Err fault) meant
      rows_refused (Refused code) is = grind (arith, frames_are left_is right_is)
      rows_refused NoMemory is = tt

      pub frame_answered : (rows : List (Option ℕ)) → rows_met L R m keys ≡ Ok rows → (pairs : Pairs) → pairs.right ≡ rows → pairs.left ≡ all_rows rows
          → (new : List Text) (made : Result NumberedTable OpFault) → Makes new made (limited (merged L R keys (pairs_value pairs))) → Makes new made meant
      frame_answered rows met pairs right_rows left_rows new made makes =
          rw (frames_are left_is right_is, found, met) (subst (λ ps. Makes new made (limited (merged L R keys ps))) (pairs_are rows pairs right_rows left_rows) makes)
