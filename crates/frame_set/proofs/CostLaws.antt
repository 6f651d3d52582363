-- What settings cost, and what they leave of other objects.
use Rattle.{std.{proofs.Math.Nat.{le-mul_of_pos_right, mul-le-mul_left}, specs.Prelude.{◌==◌, ◌*◌, sum}}, column_core.proofs.cells.Common.{cond_both}, frame_parts.proofs.Common.{arith, nat_tests, ◌≡◌, ◌≤◌, ◌<◌, ℕ, Bool, List, [], ◌∷◌, length, map, All, refl, ap, if◌then◌else◌, range_with_len, Option, Some, None, Result, Ok, Err, IfOk, IsSome, nat_eq, length-map, length-range_with_len, Shape, Series, Frame, Text, FaultValue, wrong_kind, Accessor, loc, LabelValue, NumberedTable, Table, table_value, column_at, cells_with_texts, IsWhole, GivenSub, table, Tables, with_object, ObjId, IsSingle, CellBlock, block_column}, frame_store.{specs.{cells.Reduce.{distinct}, Objects.{BlocksByObject, LieStill}}, proofs.CellLaws.{cells_of_named, distinct_more}}, frame_select.specs.{charge.Charge.{different_count, setting_charge, touched_in, touched_item}, select.{Keys.{all_columns, may_stand_alone}, Select.{Way, through}, Set.{Reached, Target, added_label, columns_set, or_last, picked, rows_set, target_by, target_of}}}, frame_set.{specs.{declared.changes.{Change.{Change}, Setting.{Setting}}, Changes.{cells_after, columns_after, columns_changed, ended, table_after, IsSettingOf}}, proofs.PutLaws.{labels_kept}}}
use Rattle.frame_set.specs.declared.changes.Change.TheVariants as change
use Rattle.frame_set.specs.declared.changes.Setting.TheVariants as setting

-- How many different columns are touched.

few_different : (ns : List ℕ) → different_count ns ≤ length ns
few_different [] = grind arith
few_different (n ∷ ns) = grind (arith, few_different ns)

different_is : (ns : List ℕ) → different_count ns ≡ length (distinct ◌==◌ ns)
different_is [] = refl
different_is (n ∷ ns) = rw (distinct_more n ns, different_is ns) refl

-- their cells
pub named_is : (t : NumberedTable) (columns : List ℕ) → IsWhole t → All (λ place. place < length t.columns) columns → sum (map (λ place. length (column_at t.columns place).cells) (distinct ◌==◌ columns)) ≡ length t.labels * different_count columns
named_is t columns whole below = rw (different_is columns) (cells_of_named t.columns (length t.labels) columns whole.filled below)

pub single_cells : (t : NumberedTable) (block : CellBlock) → IsSingle block → length (block_column block).cells ≡ length t.labels → length block.columns * block.rows ≡ length t.labels
single_cells t block single rows =
    let one : length block.columns ≡ 1 = ap (λ (b : CellBlock). length b.columns) single in
    let many : block.rows ≡ length (block_column block).cells = ap (λ (b : CellBlock). b.rows) single in
    rw one (omega arith)

-- what keys touch
pub target_columns : (rows columns : Result Reached FaultValue) (target : Target) → target_of rows columns ≡ Ok target → columns ≡ Ok target.columns
target_columns = grind arith

pub target_alone : (b : Bool) (rows : Result Reached FaultValue) (columns : Reached) (target : Target) → (if b then target_of rows (Ok columns) else Err wrong_kind) ≡ Ok target → target.columns ≡ columns
target_alone = grind arith

pub target_touched : (shape : Shape) (by : Accessor) (t : Table) (first : GivenSub) (second : Option GivenSub) (target : Target) → target_by shape by t first second ≡ Ok target → different_count target.columns.places ≤ touched_in shape (through by) t first second
target_touched Series by t first None target is = grind (arith, target_columns)
target_touched Series by t first (Some second) target is = grind (arith, target_columns)
target_touched Frame by t first None target is =
    let all = target_alone (may_stand_alone by first) (rows_set by t first) (picked (all_columns t)) target is in
    rw all (omega (arith, few_different (range_with_len 0 (length t.columns)), length-range_with_len 0 (length t.columns)))
target_touched Frame by t first (Some second) target is =
    rw (target_columns (rows_set by t first) (columns_set by t second) target is) (omega arith)

pub touched_more : {E : Type 0} (r : Result Change E) (m n : ℕ) → m ≤ n → IfOk r (λ change. columns_changed change ≤ m) → IfOk r (λ change. columns_changed change ≤ n)
touched_more (Ok change) m n more within = omega arith
touched_more (Err fault) m n more within = tt

-- a column is put somewhere
some_place : (count : ℕ) (places : List ℕ) → 1 ≤ length (or_last count places)
some_place count [] = omega arith
some_place count (place ∷ places) = omega arith

pub label_touched : (t : Table) (k : GivenSub) (l : LabelValue) → Some l ≡ added_label loc k → 1 ≤ touched_item t k None
label_touched t k l is = grind (arith, some_place)

-- a setting costs what it makes
pub setting_within : (texts : List Text) (live : Tables) (ends : Option ObjId) (t : NumberedTable) (s : Setting) (way : Way) (first : GivenSub) (second : Option GivenSub) → IsSettingOf live ends t s
    → columns_after s ≤ touched_in t.shape way (table_value texts t) first second → cells_after t s ≤ setting_charge (table (table_value texts t)) way first second (table_value texts (table_after live t s))
setting_within texts live ends t (setting.Change (change.Cells rows columns values)) way first second fits touched =
    grind (arith, nat_tests, length-map, mul-le-mul_left (length t.labels) touched)
setting_within texts live ends t (setting.Change (change.Column place label block)) way first second fits touched =
    grind (arith, nat_tests, length-map, le-mul_of_pos_right)
setting_within texts live ends t (setting.Change (change.Columns places label block)) way first second fits touched =
    grind (arith, nat_tests, labels_kept, length-map, le-mul_of_pos_right)
setting_within texts live ends t (setting.Change (change.Table made)) way first second fits touched =
    grind (arith, nat_tests, length-map, cells_with_texts)
setting_within texts live ends t (setting.Move place label series) way first second fits touched = grind arith

-- Objects that lie still.

-- what is live after an object ended was live before, and after one was added is still
pub live_before : (ends : Option ObjId) (live : Tables) (id : ℕ) → IsSome (ended ends live id) → IsSome (live id)
live_before = grind (arith, nat_tests)

pub live_beside : (old new : Tables) (on : ℕ) (t : NumberedTable) → new ≡ with_object old on (Some t) → (id : ℕ) → IsSome (old id) → IsSome (new id)
live_beside old new on t put id live = rw put (cond_both (nat_eq on id) (Some t) (old id) (λ o. IsSome o) (λ _. refl) (λ _. live))

pub still_without : (ends : Option ObjId) (live live' : Tables) (but : Option ℕ) (before after : BlocksByObject) → LieStill but live live' before after → LieStill but (ended ends live) live' before after
still_without ends live live' but before after still id was is apart = still id (live_before ends live id was) is apart
