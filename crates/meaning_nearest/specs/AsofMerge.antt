-- `pd.merge_asof`: the rows of a frame, each with the nearest row of another one, by a column of whole numbers.
use Rattle.std.specs.Prelude.{ℕ, ℤ, nat_lt, Bool, false, ◌&&◌, List, [], ◌∷◌, map, length, Option, Some, Result, Ok, Err, if◌then◌else◌}
use Rattle.std.specs.List.{zip, flat_map, range_with_len}
use Rattle.meaning_method.specs.call.cell_core.declared.cell.Kind.{Kind}
use Rattle.meaning_method.specs.call.cell_core.declared.cell.Kind.TheVariants.{Int64}
use Rattle.meaning_method.specs.cells.Cell.{LabelValue}
use Rattle.meaning_method.specs.cells.Fault.{FaultValue, wrong_kind, bad_value, key_kinds, unsorted, limit, then_value}
use Rattle.meaning_method.specs.tables.Table.{Table, column_at}
use Rattle.meaning_method.specs.tables.Value.{Entry, Given, object_in}
use Rattle.meaning_method.specs.form.Finish.{limited, try_all, same_kind}
use Rattle.meaning_method.specs.form.Given.{is_frame}
use Rattle.meaning_method.specs.form.Infix.{same_tuple}
use Rattle.meaning_method.specs.form.Make.{on}
use Rattle.meaning_method.specs.join.Pairs.{Pair, pair}
use Rattle.meaning_method.specs.Groups.{row_keys}
use Rattle.meaning_method.specs.Merge.{MergeKeys, keys_named, kinds_at, are_same_kinds, merged}
use Rattle.meaning_asof.specs.declared.Direction.{Direction}
use Rattle.meaning_asof.specs.AsOf.{UnsortedKey, key_of, asof_merged}

-- how rows meet: by the keys in the columns of a label, with equal cells in the columns of other labels, as far apart as
-- the tolerance at most, where there is one, and on the side to which a row looks
pub record AsofMerge : Type 0 where
  pub on : LabelValue
  pub by : List LabelValue
  pub tolerance : Option ℕ
  pub direction : Direction

-- the columns of these labels, each label tested by itself: it is absent on neither side, and has several columns on neither
abbrev pub each_named : Table → Table → List LabelValue → Result (List MergeKeys) FaultValue
each_named l r labels = try_all (λ label. keys_named l r (label ∷ [])) labels

abbrev pub together : List MergeKeys → MergeKeys
together each = record { left = flat_map (λ keys. keys.left) each; right = flat_map (λ keys. keys.right) each }

-- those of `on`, and then those of `by`
abbrev pub columns_named : Table → Table → AsofMerge → Result MergeKeys FaultValue
columns_named l r m = then_value (each_named l r (m.on ∷ m.by)) (λ each. Ok (together each))

-- the first are of whole numbers, and each pair of the others is of one kind
abbrev pub are_asof_kinds : List Kind → List Kind → Bool
are_asof_kinds [] bs = false
are_asof_kinds (a ∷ as') bs = same_kind Int64 a && are_same_kinds (a ∷ as') bs

-- the kinds, and four labels of `by` at most
abbrev pub asof_keys : Table → Table → AsofMerge → Result MergeKeys FaultValue
asof_keys l r m =
    then_value (columns_named l r m)
    (λ keys. if are_asof_kinds (kinds_at l keys.left) (kinds_at r keys.right) then (if nat_lt 4 (length m.by) then Err limit else Ok keys) else Err (bad_value key_kinds))

-- the key of each row, from the first of these columns, with the cells of the others
abbrev pub rows_on : Table → List ℕ → List (Option ℤ × List LabelValue)
rows_on t [] = []
rows_on t (place ∷ by) = zip (map key_of (column_at t.columns place).cells) (row_keys t by)

-- the nearest row of the right side for each of the left, or the first row that isn't sorted
abbrev pub rows_or_fault : Result (List (Option ℕ)) UnsortedKey → Result (List (Option ℕ)) FaultValue
rows_or_fault (Ok rows) = Ok rows
rows_or_fault (Err first) = Err (bad_value (unsorted first.side first.row))

abbrev pub rows_met : Table → Table → AsofMerge → MergeKeys → Result (List (Option ℕ)) FaultValue
rows_met l r m keys = rows_or_fault (asof_merged same_tuple m.direction m.tolerance (rows_on l keys.left) (rows_on r keys.right))

-- each row of the left side, in order, with its row of the right
abbrev pub pairs_of : List (Option ℕ) → List Pair
pairs_of rows = map (λ p. pair p.0 p.1) (zip (map Some (range_with_len 0 (length rows))) rows)

abbrev pub asof_frame : Table → Table → MergeKeys → List (Option ℕ) → Table
asof_frame l r keys rows = merged l r keys (pairs_of rows)

abbrev pub asof_frames : Table → Table → AsofMerge → Result Entry FaultValue
asof_frames l r m = then_value (asof_keys l r m) (λ keys. then_value (rows_met l r m keys) (λ rows. limited (asof_frame l r keys rows)))

-- a frame, and nothing else
abbrev pub frame_only : Table → Result Table FaultValue
frame_only t = if is_frame t.shape then Ok t else Err wrong_kind

abbrev pub asof_tables : Table → Table → AsofMerge → Result Entry FaultValue
asof_tables l r m = then_value (frame_only l) (λ l. then_value (frame_only r) (λ r. asof_frames l r m))

-- `pd.merge_asof(left, right, on, by, tolerance, direction)`: two frames, the keys with their kinds and number, then keys that
-- aren't sorted and the limits
abbrev pub asof_result : Given → Given → AsofMerge → Result Entry FaultValue
asof_result left right m = on (object_in left) (λ l. on (object_in right) (λ r. asof_tables l r m))
