-- Blocks that are new to a pool, and a cell of a block that is set.
use Rattle.{std.proofs.Common.{◌≡◌, ◌≢◌, ℕ, ◌+◌, ◌*◌, ◌<◌, ◌≤◌, List, length, refl, ap, ap₂, sym, ◌∙◌, subst, arith, Option, Some, None, IsSome, inl, inr, count_by}, std.proofs.lemmas.{Bool.{cases_eq}, Option.{same_Some}}, std.specs.{Prelude.{is_some}, Option.{option_map}, FinMap.{FinMap, insert}, Ordering.{nat_cmp}}, column_core.proofs.cells.Common.{Cell}, column_core.{specs.{Blocks.{CellBlock}, Lanes.{lane_place}}}, block_pool.{specs.{declared.{views.View.{View}, lots.Lot.{Lot}}, Pools.{ViewValue, PoolValue, full_view, view_at, view_with, grid_at, cells_of, IsSole, Adds, with_grid, grid_with}, Placed.{slot, Puts, shown_grid, block_of, size_of, users_of, lot_cells, view_on, seen_over, pool_value, IsEven, IsPlaced, IsPool}}, proofs.{Slots.{inserted, unchanged, sum_put}, PoolLaws.{on, on_same, on_other, some_user, two_users, users_from_sole, block_is, grid_is, size_is, block_new}, LotLaws.{seen_kept}, ShowLaws.{whole_view, shown_whole, whole_placed, block_with_cell, set_length, set_even, set_placed, set_shown}}}}

abbrev pub new_lot : CellBlock → Lot
new_lot g = record { block = g; users = 1 }

-- a block is added, with a view of all of it
module _ (lots lots' : List (Option Lot)) (views views' : List (Option View)) (spare capacity capacity' held held' name key : ℕ) (g : CellBlock)
    (ok : IsPool lots views spare capacity held) (even : IsEven g) (fresh : slot lots name ≡ None) (empty : slot views key ≡ None)
    (put_lot : Puts lots lots' name (Some (new_lot g))) (put_view : Puts views views' key (Some (whole_view name g))) where
  -- no view lay there
  nobody : (q : ℕ) (w : View) → slot views q ≡ Some w → w.block ≢ name
  nobody q w there e =
      let some = some_user lots views spare capacity held ok q w there in
      let none : users_of (slot lots w.block) ≡ 0 = ap (λ b. users_of (slot lots b)) e ∙ ap users_of fresh in
      omega (arith, some, none)

  stays : (q : ℕ) (w : View) → slot views q ≡ Some w → slot lots' w.block ≡ slot lots w.block
  stays q w there = put_lot.others w.block (nobody q w there)

  pub added_pool : count_by is_some views' + spare ≤ capacity' → held' ≡ held + cells_of g → IsPool lots' views' spare capacity' held'
  added_pool room counts = record {
    placed = λ q w there. elim (cases_eq q key) [
      | inl e ↦
          let same : whole_view name g ≡ w = same_Some (whole_view name g) w (sym put_view.changed ∙ ap (λ i. slot views' i) (sym e) ∙ there) in
          subst (λ (x : View). IsPlaced (block_of (slot lots' x.block)) x) same (subst (λ (o : Option Lot). IsPlaced (block_of o) (whole_view name g)) (sym put_lot.changed) (whole_placed g name even))
      | inr ne ↦
          let before : slot views q ≡ Some w = sym (put_view.others q ne) ∙ there in
          subst (λ (o : Option Lot). IsPlaced (block_of o) w) (sym (stays q w before)) (ok.placed q w before)
    ];
    counted = λ b.
        let more = sum_put (on b) refl views views' key (Some (whole_view name g)) put_view in
        let gone : on b (slot views key) ≡ 0 = ap (on b) empty in
        elim (cases_eq b name) [
          | inl e ↦
              let users : users_of (slot lots' b) ≡ 1 = ap (λ i. users_of (slot lots' i)) e ∙ ap users_of put_lot.changed in
              let none : users_of (slot lots b) ≡ 0 = ap (λ i. users_of (slot lots i)) e ∙ ap users_of fresh in
              omega (arith, more, gone, ok.counted b, users, none, on_same b (whole_view name g) (sym e))
          | inr ne ↦ omega (arith, more, gone, ok.counted b, ap users_of (put_lot.others b ne), on_other b (whole_view name g) (λ z. ne (sym z)))
        ];
    used = λ b some. elim (cases_eq b name) [
      | inl e ↦ (let users : users_of (slot lots' b) ≡ 1 = ap (λ i. users_of (slot lots' i)) e ∙ ap users_of put_lot.changed in omega (arith, users))
      | inr ne ↦ subst (λ (o : Option Lot). 0 < users_of o) (sym (put_lot.others b ne)) (ok.used b (subst IsSome (put_lot.others b ne) some))
    ];
    even = λ b. elim (cases_eq b name) [
      | inl e ↦ subst (λ (o : Option Lot). IsEven (block_of o)) (sym (ap (λ i. slot lots' i) e ∙ put_lot.changed)) even
      | inr ne ↦ subst (λ (o : Option Lot). IsEven (block_of o)) (sym (put_lot.others b ne)) (ok.even b)
    ];
    room = room;
    cells = (let more = sum_put size_of refl lots lots' name _ put_lot in omega (arith, more, ap size_of fresh, counts, ok.cells));
  }

  pub adds : (pool : PoolValue) → pool_value lots views spare ≡ pool → Adds pool (pool_value lots' views' spare) key g
  adds pool e =
      let here : seen_over lots' (whole_view name g) ≡ full_view name g =
      ap (λ (o : Option Lot). view_on (block_of o) (whole_view name g)) put_lot.changed
      ∙ ap (view_with (full_view name g)) (shown_whole g name even) in
      record {
        block = name;
        new_block = block_new lots views spare capacity held ok pool e name fresh;
        views = inserted (seen_over lots) (seen_over lots') views views' key (λ q w ne there. seen_kept lots lots' w (ap block_of (stays q w there))) (whole_view name g) put_view
            ∙ ap₂ (λ (p : PoolValue) (s : ViewValue). insert p.views key s) e here;
        blocks = inserted lot_cells lot_cells lots lots' name (λ q w ne there. refl) (new_lot g) put_lot ∙ ap (λ (p : PoolValue). insert p.blocks name (cells_of g)) e;
        spare = ap (λ (p : PoolValue). p.spare) e;
      }

-- a cell of a view that is alone on its block is set
module _ (lots lots' : List (Option Lot)) (views : List (Option View)) (spare capacity held id : ℕ) (v : View) (lot : Lot) (column row : ℕ) (cell : Cell)
    (ok : IsPool lots views spare capacity held) (is : slot views id ≡ Some v) (there : slot lots v.block ≡ Some lot) (lt : column < v.columns) (below : row < v.count)
    (put_lot : Puts lots lots' v.block (Some (record lot { block = block_with_cell lot.block (v.first + column) (lane_place v.start v.stride v.back row) cell }))) where
  abbrev at : ℕ
  at = lane_place v.start v.stride v.back row

  placed : IsPlaced lot.block v
  placed = subst (λ (o : Option Lot). IsPlaced (block_of o) v) there (ok.placed id v is)

  even : IsEven lot.block
  even = subst (λ (o : Option Lot). IsEven (block_of o)) there (ok.even v.block)

  within : v.first + column < length lot.block.columns
  within = omega (arith, placed.columns, lt)

  long : length (block_with_cell lot.block (v.first + column) at cell).columns ≡ length lot.block.columns
  long = set_length lot.block even (v.first + column) at cell within

  sizes : cells_of (block_with_cell lot.block (v.first + column) at cell) ≡ cells_of lot.block
  sizes = ap (λ n. n * lot.block.rows) long

  pub set_pool : IsPool lots' views spare capacity held
  set_pool = record {
    placed = λ q w is_w. elim (cases_eq w.block v.block) [
      | inl e ↦
          let before : IsPlaced lot.block w = subst (λ (o : Option Lot). IsPlaced (block_of o) w) (ap (λ i. slot lots i) e ∙ there) (ok.placed q w is_w) in
          subst (λ (o : Option Lot). IsPlaced (block_of o) w) (sym (ap (λ i. slot lots' i) e ∙ put_lot.changed)) (set_placed lot.block even (v.first + column) at cell within w before)
      | inr ne ↦ subst (λ (o : Option Lot). IsPlaced (block_of o) w) (sym (put_lot.others w.block ne)) (ok.placed q w is_w)
    ];
    counted = λ b. elim (cases_eq b v.block) [
      | inl e ↦ ap (λ i. users_of (slot lots' i)) e ∙ ap users_of put_lot.changed ∙ ap users_of (sym there) ∙ ap (λ i. users_of (slot lots i)) (sym e) ∙ ok.counted b
      | inr ne ↦ ap users_of (put_lot.others b ne) ∙ ok.counted b
    ];
    used = λ b some. elim (cases_eq b v.block) [
      | inl e ↦
          let same : users_of (slot lots' b) ≡ users_of (slot lots v.block) = ap (λ i. users_of (slot lots' i)) e ∙ ap users_of put_lot.changed ∙ ap users_of (sym there) in
          omega (arith, same, some_user lots views spare capacity held ok id v is)
      | inr ne ↦ subst (λ (o : Option Lot). 0 < users_of o) (sym (put_lot.others b ne)) (ok.used b (subst IsSome (put_lot.others b ne) some))
    ];
    even = λ b. elim (cases_eq b v.block) [
      | inl e ↦ subst (λ (o : Option Lot). IsEven (block_of o)) (sym (ap (λ i. slot lots' i) e ∙ put_lot.changed)) (set_even lot.block even (v.first + column) at cell within)
      | inr ne ↦ subst (λ (o : Option Lot). IsEven (block_of o)) (sym (put_lot.others b ne)) (ok.even b)
    ];
    room = ok.room;
    cells = (let more = sum_put size_of refl lots lots' v.block _ put_lot in omega (arith, more, sizes, ap size_of there, ok.cells));
  }

  pub set_with : (pool : PoolValue) → pool_value lots views spare ≡ pool → IsSole pool id → pool_value lots' views spare ≡ with_grid pool id (grid_with (grid_at pool id) column row cell)
  set_with pool e sole =
      let single = users_from_sole lots views spare capacity held ok pool e id v is sole in
      let apart : (q : ℕ) (w : View) → q ≢ id → slot views q ≡ Some w → w.block ≢ v.block = λ q w ne is_w same. omega (arith, two_users lots views spare capacity held ok pool e id v is q w ne is_w same, single) in
      let grid : CellBlock = shown_grid (block_of (slot lots v.block)) v in
      let size : cells_of (block_of (slot lots' v.block)) ≡ (view_at pool id).cells =
      ap (λ (o : Option Lot). cells_of (block_of o)) put_lot.changed ∙ sizes ∙ ap (λ (o : Option Lot). cells_of (block_of o)) (sym there) ∙ sym (size_is lots views spare pool e id v is) in
      let here : seen_over lots' v ≡ view_with (view_at pool id) (grid_with (grid_at pool id) column row cell) =
      ap₂ (λ (b n : ℕ). record { block = b; cells = n; grid = shown_grid (block_of (slot lots' v.block)) v }) (sym (block_is lots views spare pool e id v is)) size
      ∙ ap (view_with (view_at pool id))
      (ap (λ (o : Option Lot). shown_grid (block_of o) v) put_lot.changed
      ∙ set_shown lot.block v column row cell even placed lt below
      ∙ ap (λ (o : Option Lot). grid_with (shown_grid (block_of o) v) column row cell) (sym there)
      ∙ ap (λ (g : CellBlock). grid_with g column row cell) (sym (grid_is lots views spare pool e id v is))) in
      let all_views = inserted (seen_over lots) (seen_over lots') views views id (λ q w ne is_w. seen_kept lots lots' w (ap block_of (put_lot.others w.block (apart q w ne is_w)))) v (record { changed = is; others = λ q ne. refl })
      ∙ ap₂ (λ (p : PoolValue) (s : ViewValue). insert p.views id s) e here in
      let all_blocks = unchanged lot_cells lot_cells lots lots' v.block (λ q w ne is_w. refl) _ put_lot (ap Some sizes ∙ ap (option_map lot_cells) (sym there)) ∙ ap (λ (p : PoolValue). p.blocks) e in
      ap₂ (λ (m : FinMap nat_cmp ViewValue) (b : FinMap nat_cmp ℕ). record { views = m; blocks = b; spare = spare }) all_views all_blocks
      ∙ ap (λ (p : PoolValue). record { views = insert pool.views id (view_with (view_at pool id) (grid_with (grid_at pool id) column row cell)); blocks = pool.blocks; spare = p.spare }) e
