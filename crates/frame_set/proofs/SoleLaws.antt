-- Settings of cells whose columns are alone on their blocks.
use Rattle.{frame_parts.proofs.Common.{arith, nat_tests, length-append, ◌≡◌, ◌∙◌, ℕ, ◌+◌, List, length, refl, sym, subst, ap, Option, Some, None, IsSome, Result, Ok, IfOk, Series, Frame, Shape, Cell, Label, Text, Accessor, ColumnOf, NumberedTable, Table, table_value, with_column, GivenSub, with_object, table_at, table_or, tables, ObjId, Value, Object, Store, block_column}, column_core.specs.cells.Symbol.{loc, iloc, at, iat}, frame_store.specs.Objects.{table_on, blocks_on, AreSoleIn, LieStill}, frame_store.specs.declared.arguments.Selector.{Selector}, frame_select.specs.{Reaches.{accessor_of}, Selected.{way_of}, select.{Keys.{all_columns, may_stand_alone}, Select.{through}, Set.{Reached, Target, columns_set, picked, rows_set, target_by}}}, frame_set.{specs.{declared.changes.{Change.{Change}, Setting.{Setting}}, Changes.{changed, ended, table_after, IsChangeOf, IsSettingOf}, Sole.{columns_picked, columns_picked_on, KeepsSoleBlocks, SetsColumns, SetsPicked, LeavesBlocks, LeavesBlocksAfter}}, proofs.{CostLaws.{target_columns, target_alone}, PutLaws.{table_there}}}}
use Rattle.frame_store.specs.declared.arguments.Selector.TheVariants as selector
use Rattle.frame_set.specs.declared.changes.Change.TheVariants as change
use Rattle.frame_set.specs.declared.changes.Setting.TheVariants as setting

-- the columns that are reached are those that are picked
pub picked_is : (shape : Shape) (by : Accessor) (t : Table) (first : GivenSub) (second : Option GivenSub) (target : Target) → target_by shape by t first second ≡ Ok target → target.columns.places ≡ columns_picked shape by t second
picked_is Series by t first None target is = grind (arith, target_columns)
picked_is Series by t first (Some second) target is = grind (arith, target_columns)
picked_is Frame by t first None target is = ap (λ (r : Reached). r.places) (target_alone (may_stand_alone by first) (rows_set by t first) (picked (all_columns t)) target is)
picked_is Frame by t first (Some second) target is = rw (target_columns (rows_set by t first) (columns_set by t second) target is) refl

pub sets_same : {E : Type 0} (r : Result Change E) (t : NumberedTable) (m n : List ℕ) → m ≡ n → IfOk r (SetsColumns t m) → IfOk r (SetsColumns t n)
sets_same r t m n is = subst (λ (l : List ℕ). IfOk r (SetsColumns t l)) is

-- of a setting that is a change by cells
pub sets_picked : (by : Selector) (t : NumberedTable) (columns : List ℕ) (change : Change) → SetsColumns t columns change → SetsPicked (way_of by) t columns (setting.Change change)
sets_picked selector.Plain t columns change sets = tt
sets_picked selector.Loc t columns change sets = sets
sets_picked selector.Iloc t columns change sets = sets
sets_picked selector.At t columns change sets = sets
sets_picked selector.Iat t columns change sets = sets

-- what ends beside the object leaves its blocks as well
pub leaves_beside : (old mid new : Store) (on : ObjId) (change : Change) → LieStill None (tables mid) (tables new) (blocks_on mid) (blocks_on new) → IsSome (tables mid on.0) → IsSome (tables new on.0) → LeavesBlocks old mid on change → LeavesBlocks old new on change
leaves_beside old mid new on (change.Cells rows columns values) still live left leaves = λ alone. still on.0 live left (λ none. cc) ∙ leaves alone
leaves_beside old mid new on (change.Column place label block) still live left leaves = tt
leaves_beside old mid new on (change.Columns places label block) still live left leaves = tt
leaves_beside old mid new on (change.Table made) still live left leaves = tt

-- a setting that adds no row and no column is one of cells
pub column_longer : (t : NumberedTable) (place : ℕ) (label : Option Label) (c : ColumnOf Cell) → place ≡ length t.columns → length (with_column t place label c).columns ≡ length t.columns + 1
column_longer = grind (arith, nat_tests, length-append)

module _ (texts : List Text) (old new : Store) (id : ObjId) (t : NumberedTable) (second : Option GivenSub) (there : tables old id.0 ≡ Some t) where
  was : table_on old id ≡ t
  was = ap table_or there

  left_is : (ends : Option ObjId) (u : NumberedTable) → tables new ≡ with_object (ended ends (tables old)) id.0 (Some u) → table_on new id ≡ u
  left_is ends u put = ap table_or (table_there (ended ends (tables old)) (tables new) id.0 u put)

  change_kept : (ends : Option ObjId) (by : Accessor) (change : Change) → tables new ≡ with_object (ended ends (tables old)) id.0 (Some (changed (table_at (tables old) id.0) change)) → IsChangeOf t change
      → SetsColumns t (columns_picked t.shape by (table_value texts t) second) change → LeavesBlocks old new id change → KeepsSoleBlocks old new texts (Object id) (through by) second
  change_kept ends by (change.Cells rows columns values) put fits sets leaves = λ size alone.
      let same : columns_picked_on old texts id by second ≡ columns = ap (λ (u : NumberedTable). columns_picked u.shape by (table_value texts u) second) was ∙ sym sets in
      leaves (subst (AreSoleIn old id) same alone)
  change_kept ends by (change.Column place label block) put fits sets leaves = λ size alone.
      let now = left_is ends (with_column (table_on old id) place (Some label) (block_column block)) put in
      let longer = column_longer t place (Some label) (block_column block) sets in
      absurd (grind (arith, now, was, longer, size.1))
  change_kept ends by (change.Columns places label block) put fits sets leaves = absurd sets
  change_kept ends by (change.Table made) put fits sets leaves = λ size alone.
      let now = left_is ends made put in
      absurd (grind (arith, now, was, fits, size.0))

  setting_kept : (ends : Option ObjId) (by : Accessor) (s : Setting) → tables new ≡ with_object (ended ends (tables old)) id.0 (Some (table_after (tables old) (table_at (tables old) id.0) s)) → IsSettingOf (tables old) ends t s
      → SetsPicked (through by) t (columns_picked t.shape by (table_value texts t) second) s → LeavesBlocksAfter old new id s → KeepsSoleBlocks old new texts (Object id) (through by) second
  setting_kept ends by (setting.Change change) put fits sets leaves = change_kept ends by change put fits sets leaves
  setting_kept ends by (setting.Move place label series) put fits sets leaves = absurd sets

  sole_kept : (ends : Option ObjId) (by : Selector) (s : Setting) → tables new ≡ with_object (ended ends (tables old)) id.0 (Some (table_after (tables old) (table_at (tables old) id.0) s)) → IsSettingOf (tables old) ends t s
      → SetsPicked (way_of by) t (columns_picked t.shape (accessor_of by) (table_value texts t) second) s → LeavesBlocksAfter old new id s → KeepsSoleBlocks old new texts (Object id) (way_of by) second
  sole_kept ends selector.Plain s put fits sets leaves = tt
  sole_kept ends selector.Loc s put fits sets leaves = setting_kept ends loc s put fits sets leaves
  sole_kept ends selector.Iloc s put fits sets leaves = setting_kept ends iloc s put fits sets leaves
  sole_kept ends selector.At s put fits sets leaves = setting_kept ends at s put fits sets leaves
  sole_kept ends selector.Iat s put fits sets leaves = setting_kept ends iat s put fits sets leaves

pub assign_sole : (texts : List Text) (old new : Store) (on : Value) (id : ObjId) (t : NumberedTable) (s : Setting) (ends : Option ObjId) (by : Selector) (second : Option GivenSub) → on ≡ Object id → tables old id.0 ≡ Some t
    → tables new ≡ with_object (ended ends (tables old)) id.0 (Some (table_after (tables old) (table_at (tables old) id.0) s)) → IsSettingOf (tables old) ends t s → SetsPicked (way_of by) t (columns_picked t.shape (accessor_of by) (table_value texts t) second) s
    → LeavesBlocksAfter old new id s → KeepsSoleBlocks old new texts on (way_of by) second
assign_sole texts old new on id t s ends by second is there put fits sets leaves = rw is (sole_kept texts old new id t second there ends by s put fits sets leaves)
