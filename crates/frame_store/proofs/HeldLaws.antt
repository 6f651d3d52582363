-- Where no object is live, nothing is held.
use Rattle.{std.proofs.lemmas.List.{get_or-map, length-map, nil_from_length}, std.specs.Prelude.{map, sum, slice_index_or, IfSome}, std.specs.FinMap.{FinMap, empty, entries, values, len-entries, len-empty}, std.specs.Ordering.{nat_cmp}, cell_core.specs.declared.cell.Cell.{Cell}, meaning_tables.specs.Table.{ColumnOf}, block_manager.specs.Managed.{Place, IsColumnOf, placed_column}, block_pool.proofs.TotalLaws.{total-remove}, meaning_tables.proofs.cells.Common.{◌*◌, ◌<◌, ◌≤◌, length, ◌≡◌, ◌∙◌, refl, sym, ap, arith, ℕ, zero, suc, ◌-◌, ◌^◌, min, List, [], ◌∷◌, Option, Some, None, option_map, sum_by, sum_by-cons, cond, is_some}, std.specs.FinMap.{get}, block_pool.{specs.{Pools.{PoolValue, ViewValue, empty_pool, KeepsBlocks, IsFree, held_of, total_of, cells_of, grid_at, view_or, live_count}, Placed.{slot}}, proofs.HeldLaws.{none_held}}, frame_store.specs.Stores.{ObjectValue, IsKeptOn, IsStore, table_over, tables_over, stands_in}}

-- a pool without blocks holds nothing
pub empty_total : total_of empty_pool ≡ 0
empty_total = ap (λ (es : List (ℕ × ℕ)). sum (map (λ e. e.1) es)) (nil_from_length (entries empty) (sym (len-entries empty) ∙ len-empty nat_cmp ℕ))

no_object : (pool : PoolValue) (o : Option ObjectValue) → option_map (table_over pool) o ≡ None → o ≡ None
no_object pool None none = refl
no_object pool (Some o) none = cc

none_stands : (view : ℕ) (xs : List (Option ObjectValue)) → ((id : ℕ) → slot xs id ≡ None) → sum_by (stands_in view) xs ≡ 0
none_stands view [] none = refl
none_stands view (o ∷ xs) none = omega (arith, sum_by-cons (stands_in view) o xs, ap (stands_in view) (none 0), none_stands view xs (λ id. none (suc id)))

free_by_count : (o : Option ViewValue) → cond {A = ℕ} (is_some o) 1 0 ≡ 0 → o ≡ None
free_by_count None none = refl
free_by_count (Some v) one = absurd (omega (arith, one))

pub nothing_held : (pool : PoolValue) (xs : List (Option ObjectValue)) → IsStore xs pool → KeepsBlocks pool → ((id : ℕ) → tables_over pool xs id ≡ None) → held_of pool ≡ 0
nothing_held pool xs store keeps none =
    let empty : (id : ℕ) → slot xs id ≡ None = λ id. no_object pool (slot xs id) (none id) in
    let free : (id : ℕ) → IsFree pool id = λ id. free_by_count (get pool.views id) (sym (store.counted id) ∙ none_stands id xs empty) in
    ap (λ (n : ℕ). min n (2 ^ 64 - 1)) (none_held pool keeps free)

-- a block is held with all its cells
block_held : (m : FinMap nat_cmp ℕ) (k n : ℕ) → get m k ≡ Some n → n ≤ sum (values m)
block_held m k n is = omega (arith, total-remove m k n is)

-- a view lies on a block of at least its cells
view_held : (pool : PoolValue) → KeepsBlocks pool → (id : ℕ) (v : ViewValue) → get pool.views id ≡ Some v → cells_of v.grid ≤ total_of pool
view_held pool keeps id v is = omega (arith, keeps.large id v is, block_held pool.blocks v.block v.cells (keeps.lies id v is))

pub live_view : (pool : PoolValue) (id : ℕ) → 0 < live_count pool id → (v : ViewValue) × (get pool.views id ≡ Some v)
live_view pool id live = at (get pool.views id) refl
  where
    at : (o : Option ViewValue) → get pool.views id ≡ o → (v : ViewValue) × (get pool.views id ≡ Some v)
    at (Some v) is = (v, is)
    at None none = absurd (omega (arith, live, ap (λ (o : Option ViewValue). cond {A = ℕ} (is_some o) 1 0) none))

-- what is held has at least the rows of each table with a column
object_held : (pool : PoolValue) → KeepsBlocks pool → (o : ObjectValue) → IsKeptOn pool o → 0 < length (table_over pool o).columns → length (table_over pool o).labels ≤ total_of pool
object_held pool keeps o kept some =
    let d : Place = record { view = 0; column = 0 } in
    let there : 0 < length o.manager.places = omega (arith, some, length-map o.manager.places (placed_column pool)) in
    let p : Place = slice_index_or o.manager.places 0 d in
    let column : IsColumnOf pool o.manager.views p = kept.stands.placed 0 d there in
    let filled : length (placed_column pool p).cells ≡ length (table_over pool o).labels = ap (λ (c : ColumnOf Cell). length c.cells) (sym (get_or-map (placed_column pool) o.manager.places 0 d (placed_column pool d) there)) ∙ kept.whole.filled 0 (placed_column pool d) some in
    let live = live_view pool p.view (omega (arith, column.view, kept.stands.live p.view)) in
    let grid : grid_at pool p.view ≡ live.0.grid = ap (λ o. (view_or o).grid) live.1 in
    omega (arith, wide (length (grid_at pool p.view).columns) (grid_at pool p.view).rows (omega (arith, column.column)), ap cells_of grid, view_held pool keeps p.view live.0 live.1, kept.stands.even 0 d there, filled)
  where
    wide : (n rows : ℕ) → 0 < n → rows ≤ n * rows
    wide zero rows some = absurd (omega (arith, some))
    wide (suc n) rows some = omega arith

pub rows_held : (pool : PoolValue) (xs : List (Option ObjectValue)) → IsStore xs pool → KeepsBlocks pool → (id : ℕ) → IfSome (tables_over pool xs id) (λ t. 0 < length t.columns → length t.labels ≤ total_of pool)
rows_held pool xs store keeps id = at (slot xs id) refl
  where
    at : (o : Option ObjectValue) → slot xs id ≡ o → IfSome (option_map (table_over pool) o) (λ t. 0 < length t.columns → length t.labels ≤ total_of pool)
    at (Some o) is = object_held pool keeps o (store.kept id o is)
    at None none = tt
