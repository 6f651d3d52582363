-- What is held counts each block once, and so it is no more where no object is new and each lies on the blocks on which it lay.
use Rattle.{
  std.{proofs.lemmas.{Bool.{cases_eq, cases_lt}, List.{get_or-map, length-map, Elements.{All-contains}}}, specs.{Prelude.{All, min, sum}, List.{Contains}, Cmp.{nat_cmp_total}, FinMap.{FinMap, entries, find, get, get-entries, len, len-entries, len-remove, empty_of_len, remove, values}, Ordering.{nat_cmp}}},
  meaning_tables.proofs.cells.Common.{◌≡◌, ◌∙◌, refl, sym, ap, subst, arith, ℕ, zero, suc, ◌-◌, ◌<◌, ◌≤◌, List, [], ◌∷◌, length, map, All-map, All-nil, Option, Some, None, IsSome, option_map, sum_by, sum_by-cons, cond, is_some, inl, inr, same_Some, slice_index_or},
  block_pool.{specs.{Pools.{PoolValue, ViewValue, KeepsBlocks, total_of, view_or, live_count}, Placed.{slot}}, proofs.{Slots.{tied}, TotalLaws.{total-remove}, ChangeLaws.{get-gone, get-gone_other}}},
  block_manager.{specs.Managed.{BlockValue, block_under, times, under}, proofs.TimesLaws.{times_here, times_place}},
  frame_store.{specs.{Stores.{ObjectValue, IsStore, blocks_over, table_over, tables_over, views_of, stands_in}, Objects.{Tables, Holding, CountsOnce, KeepBlocks, LieStill, held_of, holding_of, tables}, declared.store.Store.{Store}}, proofs.HeldLaws.{empty_total, live_view}},
}

abbrev total : FinMap nat_cmp ℕ → ℕ
total m = sum (values m)

-- each entry of the first map is one of the second
abbrev IsWithin : FinMap nat_cmp ℕ → FinMap nat_cmp ℕ → Type 0
IsWithin n m = (k c : ℕ) → get n k ≡ Some c → get m k ≡ Some c

within_less : (n m : FinMap nat_cmp ℕ) (k : ℕ) → IsWithin n m → IsWithin (remove n k) (remove m k)
within_less n m k within q c is = elim (cases_eq q k) [
  | inl e ↦ (let none : Some c ≡ None = sym is ∙ ap (get (remove n k)) e ∙ get-gone n k in cc)
  | inr ne ↦ get-gone_other m k q ne ∙ within q c (sym (get-gone_other n k q ne) ∙ is)
]

-- so of maps of this size
abbrev HasLess : ℕ → Type 0
HasLess size = (n m : FinMap nat_cmp ℕ) → len n ≡ size → IsWithin n m → total n ≤ total m

one_more : (size : ℕ) → HasLess size → (n m : FinMap nat_cmp ℕ) → len n ≡ suc size → IsWithin n m → (es : List (ℕ × ℕ)) → entries n ≡ es → total n ≤ total m
one_more size less n m long within [] is = absurd (omega (arith, long, len-entries n, ap (λ (es : List (ℕ × ℕ)). length es) is))
one_more size less n m long within (e ∷ es) is =
    let here : get n e.0 ≡ Some e.1 = get-entries n e.0 ∙ ap (find nat_cmp e.0) is ∙ ap (λ b. cond b (Some e.1) (find nat_cmp e.0 es)) (tied e.0 e.0 refl) in
    let left : len (remove n e.0) ≡ size = len-remove nat_cmp_total n e.0 ∙ ap (λ (o : Option ℕ). cond {A = ℕ} (is_some o) (len n - 1) (len n)) here ∙ omega (arith, long) in
    omega (arith, less (remove n e.0) (remove m e.0) left (within_less n m e.0 within), total-remove n e.0 e.1 here, total-remove m e.0 e.1 (within e.0 e.1 here))

within_total : (size : ℕ) → HasLess size
within_total zero n m none within = omega (arith, ap total (empty_of_len n none), empty_total)
within_total (suc size) n m long within = one_more size (within_total size) n m long within (entries n) refl

-- no more is held
pub held_no_more : (old new : Tables) (before after : Holding) → CountsOnce old before → CountsOnce new after → ((id : ℕ) → IsSome (new id) → IsSome (old id)) → LieStill None old new before.blocks after.blocks → after.cells ≤ before.cells
held_no_more old new before after was is there lie =
    omega (
      arith,
      was.cells,
      is.cells,
      within_total (len is.blocks) is.blocks was.blocks refl (λ name count found.
          let used = is.used name count found in
          let same = lie used.0 (there used.0 used.1) used.1 (λ e. cc) in
          let block : BlockValue = record { name = name; cells = count } in
          All-contains (λ (b : BlockValue). get was.blocks b.name ≡ Some b.cells) (before.blocks used.0) block (was.lies used.0) (subst (λ (bs : List BlockValue). Contains bs block) same used.2)),
    )

lower : (n m last : ℕ) → n ≤ m → min n last ≤ min m last
lower = grind arith

-- the same by the stores
pub held_by_blocks : (old new : Store) → CountsOnce (tables old) (holding_of old) → CountsOnce (tables new) (holding_of new) → ((id : ℕ) → IsSome (tables new id) → IsSome (tables old id)) → KeepBlocks None old new → held_of new ≤ held_of old
held_by_blocks old new was is there lie =
    lower (total_of new.pool) (total_of old.pool) _ (held_no_more (tables old) (tables new) (holding_of old) (holding_of new) was is there lie)

-- a view that stands somewhere stands in an object
holder : (view : ℕ) (xs : List (Option ObjectValue)) → 0 < sum_by (stands_in view) xs → (id : ℕ) × (0 < stands_in view (slot xs id))
holder view [] some = absurd (omega (arith, some))
holder view (o ∷ xs) some = elim (cases_lt 0 (stands_in view o)) [
  | inl here ↦ (zero, here)
  | inr none ↦ (let r = holder view xs (omega (arith, some, none, sum_by-cons (stands_in view) o xs)) in (suc r.0, r.1))
]

module _ (pool : PoolValue) (xs : List (Option ObjectValue)) (store : IsStore xs pool) (keeps : KeepsBlocks pool) where
  known : (id : ℕ) (view : ViewValue) → get pool.views id ≡ Some view → block_under pool id ≡ under view
  known id view is = ap (λ (o : Option ViewValue). under (view_or o)) is

  live : (id : ℕ) (o : ObjectValue) → slot xs id ≡ Some o → All (λ (b : BlockValue). get pool.blocks b.name ≡ Some b.cells) (map (block_under pool) o.manager.views)
  live id o is = All-map (λ (b : BlockValue). get pool.blocks b.name ≡ Some b.cells) (block_under pool) o.manager.views (λ k d lt.
      let v : ℕ = slice_index_or o.manager.views k d in
      let some : 0 < times v o.manager.views = times_here o.manager.views k d v lt refl in
      let view = live_view pool v (omega (arith, some, (store.kept id o is).stands.live v)) in
      subst (λ (b : BlockValue). get pool.blocks b.name ≡ Some b.cells) (sym (known v view.0 view.1)) (keeps.lies v view.0 view.1))

  stands : (view : ℕ) (b : BlockValue) → block_under pool view ≡ b → (o : Option ObjectValue) → 0 < stands_in view o → IsSome (option_map (table_over pool) o) × Contains (map (block_under pool) (views_of o)) b
  stands view b at None some = absurd (omega (arith, some))
  stands view b at (Some o) some =
      let place = times_place view view o.manager.views some in
      (refl, (place.0, omega (arith, place.1, length-map o.manager.views (block_under pool)), get_or-map (block_under pool) o.manager.views place.0 view b place.1 ∙ ap (block_under pool) place.2 ∙ at))

  pub counts_once : CountsOnce (tables_over pool xs) record { cells = total_of pool; blocks = blocks_over pool xs }
  counts_once = record {
    blocks = pool.blocks;
    cells = refl;
    lies = λ id. at id (slot xs id) refl;
    used = λ name count found.
        let used = keeps.used name count found in
        let size : Some used.1.cells ≡ Some count = sym (keeps.lies used.0 used.1 used.2) ∙ ap (get pool.blocks) used.3 ∙ found in
        let is : block_under pool used.0 ≡ record { name = name; cells = count } = known used.0 used.1 used.2 ∙ ap (λ (n : ℕ). record { name = n; cells = used.1.cells }) used.3 ∙ ap (λ (n : ℕ). record { name = name; cells = n }) (same_Some _ _ size) in
        let one : live_count pool used.0 ≡ 1 = ap (λ (o : Option ViewValue). cond {A = ℕ} (is_some o) 1 0) used.2 in
        let object = holder used.0 xs (omega (arith, one, store.counted used.0)) in
        let here = stands used.0 (record { name = name; cells = count }) is (slot xs object.0) object.1 in
        (object.0, here.0, here.1);
  }
    where
      at : (id : ℕ) (o : Option ObjectValue) → slot xs id ≡ o → All (λ (b : BlockValue). get pool.blocks b.name ≡ Some b.cells) (map (block_under pool) (views_of o))
      at id None is = All-nil _
      at id (Some o) is = live id o is
