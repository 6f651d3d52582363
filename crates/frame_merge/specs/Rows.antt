-- The rows of two frames that have equal keys.
use Rattle.std.specs.Prelude.{◌≡◌, ◌<◌, ◌≤◌, ℕ, List, map, length, All, Option, Some, None, Result, Ok, Err}
use Rattle.std.specs.List.{zip}
use Rattle.column_core.specs.cells.Text.{Text}
use Rattle.column_core.specs.cells.Cell.{LabelValue}
use Rattle.column_core.specs.cells.Fault.{FaultValue}
use Rattle.column_core.specs.Moves.{IsPlaceOf}
use Rattle.cell_core.specs.declared.code.Code.TheVariants.{BadMerge}
use Rattle.meaning_join.specs.declared.How.{How}
use Rattle.meaning_join.specs.declared.Validate.{Validate}
use Rattle.meaning_join.specs.Pairs.{Pair, pair, RepeatedKey, repeated_key, key_pairs}
use Rattle.merge_concat.specs.declared.fault.MergeFault.{MergeFault}
use Rattle.merge_concat.specs.declared.fault.MergeFault.TheVariants as fault
use Rattle.merge_concat.specs.declared.pairs.Pairs.{Pairs}
use Rattle.merge_concat.specs.Pairs.{ArePairs}
use Rattle.frame_store.specs.tables.Table.{NumberedTable, Table}
use Rattle.frame_store.specs.tables.Value.{Entry}
use Rattle.frame_parts.specs.form.Infix.{same_tuple, tuple_before}
use Rattle.frame_labels.specs.method.Groups.{row_keys}
use Rattle.frame_labels.specs.method.Merge.{MergeKeys, unless_twice}
use Rattle.frame_store.specs.declared.fault.OpFault.{OpFault}
use Rattle.frame_store.specs.declared.fault.OpFault.TheVariants.{Refused, NoMemory}
use Rattle.frame_store.specs.Shown.{Refuses}

-- a key that stands twice, where each may stand once, and the pairs of rows
abbrev pub repeated_in : Validate → Table → Table → MergeKeys → Option (RepeatedKey (List LabelValue))
repeated_in once l r keys = repeated_key same_tuple once (row_keys l keys.left) (row_keys r keys.right)

abbrev pub pairs_in : How → Table → Table → MergeKeys → List Pair
pairs_in how l r keys = key_pairs same_tuple tuple_before how (row_keys l keys.left) (row_keys r keys.right)

-- the rows of both sides, pair by pair
abbrev pub pairs_value : Pairs → List Pair
pairs_value pairs = map (λ rows. pair rows.0 rows.1) (zip pairs.left pairs.right)

-- a row of each side for each pair, if it has one there
pub record AreRowsMet (l r : NumberedTable) (pairs : Pairs) : Type 0 where
  pub left : All (IsPlaceOf (length l.labels)) pairs.left
  pub right : All (IsPlaceOf (length r.labels)) pairs.right
  pub same : length pairs.right ≡ length pairs.left

-- pairs that are made, so many at most, or more than that
abbrev pub HasMet : ℕ → Option Pairs → List Pair → Type 0
HasMet most (Some made) pairs = ArePairs made pairs × (length pairs ≤ most)
HasMet most None pairs = most < length pairs

-- the pairs are those that are meant, and no key stands twice; or one does, and is refused. Want of memory may come in
-- place of any answer.
abbrev pub MeetsBy : List Text → ℕ → Result (Option Pairs) OpFault → Option (RepeatedKey (List LabelValue)) → List Pair → Type 0
MeetsBy texts most (Ok met) again pairs = (again ≡ None) × HasMet most met pairs
MeetsBy texts most (Err (Refused code)) again pairs = (rest : Result Entry FaultValue) → Refuses texts code (unless_twice again rest)
MeetsBy texts most (Err NoMemory) again pairs = Unit {0}

-- what a join answers, as a part of a merge
abbrev pub met_result : Result Pairs MergeFault → Result (Option Pairs) OpFault
met_result (Ok pairs) = Ok (Some pairs)
met_result (Err (fault.NotOneToOne side key)) = Err (Refused (BadMerge side key))
met_result (Err (fault.DuplicateLabels key)) = Err NoMemory
met_result (Err fault.MixedKinds) = Err NoMemory
met_result (Err fault.TooLarge) = Ok None
met_result (Err fault.NoMemory) = Err NoMemory

-- a join has no other fault
abbrev pub IsJoinFault : Result Pairs MergeFault → Type 0
IsJoinFault (Err (fault.DuplicateLabels key)) = ⊥
IsJoinFault (Err fault.MixedKinds) = ⊥
IsJoinFault joined = Unit {0}
