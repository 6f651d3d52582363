-- What the views of a pool are after a change: the others are what they were. These laws are for callers.
use Rattle.{
  std.proofs.Common.{◌≡◌, ◌≢◌, ℕ, ◌+◌, refl, ap, sym, ◌∙◌, subst, Option, Some, None, IsSome, cond, inl, inr, add-zero, eq-eqb},
  std.proofs.lemmas.Bool.{false≢true, cases_eq, ne_eqb},
  std.specs.{Prelude.{is_some, ◌==◌}, Cmp.{nat_cmp_total}, FinMap.{FinMap, get, insert, remove, get-insert, get-remove, same_map, nat_cmp-IsAntisymmetric}, Ordering.{nat_cmp}},
  column_core.specs.Blocks.{CellBlock},
  block_pool.{specs.Pools.{PoolValue, ViewValue, full_view, view_or, view_at, view_with, grid_at, block_at, live_count, IsLive, IsFree, IsSole, Adds, Shares, Owns, Ends, with_grid}, proofs.Slots.{tied, apart_keys}},
}

module _ {X : Type 0} (m : FinMap nat_cmp X) (id : ℕ) where
  pub get-put : (x : X) → get (insert m id x) id ≡ Some x
  get-put x = get-insert nat_cmp_total m id x id ∙ ap (λ b. cond b (Some x) (get m id)) (tied id id refl)

  pub get-put_other : (x : X) (q : ℕ) → q ≢ id → get (insert m id x) q ≡ get m q
  get-put_other x q ne = get-insert nat_cmp_total m id x q ∙ ap (λ b. cond b (Some x) (get m q)) (apart_keys q id ne)

  pub get-gone : get (remove m id) id ≡ None
  get-gone = get-remove nat_cmp_total m id id ∙ ap (λ b. cond b None (get m id)) (tied id id refl)

  pub get-gone_other : (q : ℕ) → q ≢ id → get (remove m id) q ≡ get m q
  get-gone_other q ne = get-remove nat_cmp_total m id q ∙ ap (λ b. cond b None (get m q)) (apart_keys q id ne)

module _ {X : Type 0} (m : FinMap nat_cmp X) (id : ℕ) where
  -- of two that are put in at one number the later one stays
  pub put-again : (x y : X) → insert (insert m id x) id y ≡ insert m id y
  put-again x y = same_map nat_cmp_total nat_cmp-IsAntisymmetric _ _ (λ q. elim (cases_eq q id) [
    | inl e ↦ ap (get (insert (insert m id x) id y)) e ∙ get-put (insert m id x) id y ∙ sym (get-put m id y) ∙ ap (get (insert m id y)) (sym e)
    | inr ne ↦ get-put_other (insert m id x) id y q ne ∙ get-put_other m id x q ne ∙ sym (get-put_other m id y q ne)
  ])

  -- and one that went leaves what was there before
  pub gone-put : (x : X) → get m id ≡ None → remove (insert m id x) id ≡ m
  gone-put x free = same_map nat_cmp_total nat_cmp-IsAntisymmetric _ _ (λ q. elim (cases_eq q id) [
    | inl e ↦ ap (get (remove (insert m id x) id)) e ∙ get-gone (insert m id x) id ∙ sym free ∙ ap (get m) (sym e)
    | inr ne ↦ get-gone_other (insert m id x) id q ne ∙ get-put_other m id x q ne
  ])

-- whether a view is live, as a number, after one is put in, has changed, or went
module _ {X : Type 0} (m : FinMap nat_cmp X) (id q : ℕ) where
  abbrev counted : Option X → ℕ
  counted o = cond {A = ℕ} (is_some o) 1 0

  some_counted : (o : Option X) → IsSome o → counted o ≡ 1
  some_counted None live = absurd (false≢true live)
  some_counted (Some x) live = refl

  pub count-put : (x : X) → get m id ≡ None → counted (get (insert m id x) q) ≡ counted (get m q) + cond {A = ℕ} (id == q) 1 0
  count-put x free = elim (cases_eq id q) [
    | inl e ↦ rw (eq-eqb id q e) (ap (λ k. counted (get (insert m id x) k)) (sym e) ∙ ap counted (get-put m id x) ∙ ap (λ o. counted o + 1) (sym free) ∙ ap (λ k. counted (get m k) + 1) e)
    | inr ne ↦ rw (ne_eqb id q ne) (ap counted (get-put_other m id x q (λ z. ne (sym z))) ∙ sym (add-zero (counted (get m q))))
  ]

  pub count-changed : (x : X) → IsSome (get m id) → counted (get (insert m id x) q) ≡ counted (get m q)
  count-changed x live = elim (cases_eq id q) [
    | inl e ↦ ap (λ k. counted (get (insert m id x) k)) (sym e) ∙ ap counted (get-put m id x) ∙ sym (some_counted (get m id) live) ∙ ap (λ k. counted (get m k)) e
    | inr ne ↦ ap counted (get-put_other m id x q (λ z. ne (sym z)))
  ]

  pub count-gone : IsSome (get m id) → counted (get (remove m id) q) + cond {A = ℕ} (id == q) 1 0 ≡ counted (get m q)
  count-gone live = elim (cases_eq id q) [
    | inl e ↦ rw (eq-eqb id q e) (ap (λ k. counted (get (remove m id) k) + 1) (sym e) ∙ ap (λ o. counted o + 1) (get-gone m id) ∙ sym (some_counted (get m id) live) ∙ ap (λ k. counted (get m k)) e)
    | inr ne ↦ rw (ne_eqb id q ne) (add-zero (counted (get (remove m id) q)) ∙ ap counted (get-gone_other m id q (λ z. ne (sym z))))
  ]

-- a live view isn't a free one
pub live_not_free : (pool : PoolValue) (id q : ℕ) → IsFree pool id → IsLive pool q → q ≢ id
live_not_free pool id q free live e = false≢true (sym (ap (λ (o : Option ViewValue). is_some o) (ap (get pool.views) e ∙ free)) ∙ live)

-- a view that is the same is as live, with the same block and grid
module _ (old new : PoolValue) (id : ℕ) (same : get new.views id ≡ get old.views id) where
  pub live_kept : IsLive old id → IsLive new id
  live_kept = subst IsSome (sym same)

  pub view_kept : view_at new id ≡ view_at old id
  view_kept = ap view_or same

  pub grid_kept : grid_at new id ≡ grid_at old id
  grid_kept = ap (λ (v : ViewValue). v.grid) view_kept

  pub block_kept : block_at new id ≡ block_at old id
  block_kept = ap (λ (v : ViewValue). v.block) view_kept

-- a view that is known
module _ (pool : PoolValue) (id block : ℕ) {cells : ℕ} (grid : CellBlock) (is : get pool.views id ≡ Some record { block = block; cells = cells; grid = grid }) where
  pub live_is : IsLive pool id
  live_is = subst IsSome (sym is) refl

  pub grid_is : grid_at pool id ≡ grid
  grid_is = ap (λ (o : Option ViewValue). (view_or o).grid) is

  pub block_is : block_at pool id ≡ block
  block_is = ap (λ (o : Option ViewValue). (view_or o).block) is

-- a view on a new block
module _ (old new : PoolValue) (id : ℕ) (grid : CellBlock) (adds : Adds old new id grid) where
  pub adds_view : get new.views id ≡ Some (full_view adds.block grid)
  adds_view = ap (λ (m : FinMap nat_cmp ViewValue). get m id) adds.views ∙ get-put old.views id _

  pub adds_count : IsFree old id → (q : ℕ) → live_count new q ≡ live_count old q + cond {A = ℕ} (id == q) 1 0
  adds_count free q = ap (λ (m : FinMap nat_cmp ViewValue). cond {A = ℕ} (is_some (get m q)) 1 0) adds.views ∙ count-put old.views id q _ free

  pub adds_other : (q : ℕ) → q ≢ id → get new.views q ≡ get old.views q
  adds_other q ne = ap (λ (m : FinMap nat_cmp ViewValue). get m q) adds.views ∙ get-put_other old.views id _ q ne

  pub adds_alone : IsSole new id
  adds_alone other view there apart same =
      adds.new_block.unused other view (sym (adds_other other apart) ∙ there) (same ∙ ap (λ (o : Option ViewValue). (view_or o).block) adds_view)

  -- a view that was alone still is
  pub adds_sole : (q : ℕ) → q ≢ id → IsLive old q → IsSole old q → IsSole new q
  adds_sole q ne live sole other view there apart same = elim (cases_eq other id) [
    | inl e ↦
        let new_view : Some view ≡ Some (full_view adds.block grid) = sym there ∙ ap (get new.views) e ∙ adds_view in
        on_new (get old.views q) refl live
        (sym (block_kept old new q (adds_other q ne)) ∙ sym same ∙ ap (λ (o : Option ViewValue). (view_or o).block) new_view)
    | inr n ↦ sole other view (sym (adds_other other n) ∙ there) apart (same ∙ block_kept old new q (adds_other q ne))
  ]
    where
      on_new : (o : Option ViewValue) → get old.views q ≡ o → IsSome o → (view_or (get old.views q)).block ≡ adds.block → ⊥
      on_new None is live at = false≢true live
      on_new (Some v) is live at = adds.new_block.unused q v is (sym (ap (λ (o : Option ViewValue). (view_or o).block) is) ∙ at)

-- a view more on the block of another
module _ (old new : PoolValue) (id from : ℕ) (grid : CellBlock) (shares : Shares old new id from grid) where
  pub shares_view : get new.views id ≡ Some (view_with (view_at old from) grid)
  shares_view = ap (λ (m : FinMap nat_cmp ViewValue). get m id) shares.views ∙ get-put old.views id _

  pub shares_count : IsFree old id → (q : ℕ) → live_count new q ≡ live_count old q + cond {A = ℕ} (id == q) 1 0
  shares_count free q = ap (λ (m : FinMap nat_cmp ViewValue). cond {A = ℕ} (is_some (get m q)) 1 0) shares.views ∙ count-put old.views id q _ free

  pub shares_other : (q : ℕ) → q ≢ id → get new.views q ≡ get old.views q
  shares_other q ne = ap (λ (m : FinMap nat_cmp ViewValue). get m q) shares.views ∙ get-put_other old.views id _ q ne

  -- neither of the two is alone there
  pub shares_not_sole : from ≢ id → IsSole new from → ⊥
  shares_not_sole ne sole = sole id _ shares_view (λ e. ne (sym e)) (sym (block_kept old new from (shares_other from ne)))

  pub shares_not_sole_itself : from ≢ id → IsLive old from → IsSole new id → ⊥
  shares_not_sole_itself ne live sole = at (get old.views from) refl live
    where
      at : (o : Option ViewValue) → get old.views from ≡ o → IsSome o → ⊥
      at None is live = false≢true live
      at (Some v) is live =
          sole from v (shares_other from ne ∙ is) ne
          (sym (ap (λ (o : Option ViewValue). (view_or o).block) is) ∙ sym (ap (λ (o : Option ViewValue). (view_or o).block) shares_view))

  -- a view on another block that was alone still is
  pub shares_sole : (q : ℕ) → q ≢ id → block_at old q ≢ block_at old from → IsSole old q → IsSole new q
  shares_sole q ne elsewhere sole other view there apart same = elim (cases_eq other id) [
    | inl e ↦
        let new_view : Some view ≡ Some (view_with (view_at old from) grid) = sym there ∙ ap (get new.views) e ∙ shares_view in
        elsewhere (sym (block_kept old new q (shares_other q ne)) ∙ sym same ∙ ap (λ (o : Option ViewValue). (view_or o).block) new_view)
    | inr n ↦ sole other view (sym (shares_other other n) ∙ there) apart (same ∙ block_kept old new q (shares_other q ne))
  ]

-- a view that moved to a block of its own
module _ (old new : PoolValue) (id : ℕ) (owns : Owns old new id) where
  pub owns_view : get new.views id ≡ Some (full_view owns.block (grid_at old id))
  owns_view = ap (λ (m : FinMap nat_cmp ViewValue). get m id) owns.views ∙ get-put old.views id _

  pub owns_count : IsLive old id → (q : ℕ) → live_count new q ≡ live_count old q
  owns_count live q = ap (λ (m : FinMap nat_cmp ViewValue). cond {A = ℕ} (is_some (get m q)) 1 0) owns.views ∙ count-changed old.views id q _ live

  pub owns_other : (q : ℕ) → q ≢ id → get new.views q ≡ get old.views q
  owns_other q ne = ap (λ (m : FinMap nat_cmp ViewValue). get m q) owns.views ∙ get-put_other old.views id _ q ne

  -- each grid is what it was
  pub owns_grid : (q : ℕ) → grid_at new q ≡ grid_at old q
  owns_grid q = elim (cases_eq q id) [
    | inl e ↦ ap (grid_at new) e ∙ grid_is new id owns.block (grid_at old id) owns_view ∙ ap (grid_at old) (sym e)
    | inr ne ↦ grid_kept old new q (owns_other q ne)
  ]

  pub owns_live : (q : ℕ) → IsLive old q → IsLive new q
  owns_live q live = elim (cases_eq q id) [
    | inl e ↦ subst (IsLive new) (sym e) (live_is new id owns.block (grid_at old id) owns_view)
    | inr ne ↦ live_kept old new q (owns_other q ne) live
  ]

  -- a live view has no other view on its block but that which moved, so it is alone now: that which was alone, and that
  -- which is left behind
  pub owns_sole : (q : ℕ) → q ≢ id → IsLive old q → ((other : ℕ) (view : ViewValue) → get old.views other ≡ Some view → other ≢ q → other ≢ id → view.block ≢ block_at old q) → IsSole new q
  owns_sole q ne live alone other view there apart same = elim (cases_eq other id) [
    | inl e ↦
        let new_view : Some view ≡ Some (full_view owns.block (grid_at old id)) = sym there ∙ ap (get new.views) e ∙ owns_view in
        on_new (get old.views q) refl live
        (sym (block_kept old new q (owns_other q ne)) ∙ sym same ∙ ap (λ (o : Option ViewValue). (view_or o).block) new_view)
    | inr n ↦ alone other view (sym (owns_other other n) ∙ there) apart n (same ∙ block_kept old new q (owns_other q ne))
  ]
    where
      on_new : (o : Option ViewValue) → get old.views q ≡ o → IsSome o → (view_or (get old.views q)).block ≡ owns.block → ⊥
      on_new None is live at = false≢true live
      on_new (Some v) is live at = owns.new_block.unused q v is (sym (ap (λ (o : Option ViewValue). (view_or o).block) is) ∙ at)

-- a view that ended
module _ (old new : PoolValue) (id : ℕ) (ends : Ends old new id) where
  pub ends_view : IsFree new id
  ends_view = ap (λ (m : FinMap nat_cmp ViewValue). get m id) ends.views ∙ get-gone old.views id

  pub ends_count : IsLive old id → (q : ℕ) → live_count new q + cond {A = ℕ} (id == q) 1 0 ≡ live_count old q
  ends_count live q = ap (λ (m : FinMap nat_cmp ViewValue). cond {A = ℕ} (is_some (get m q)) 1 0 + cond {A = ℕ} (id == q) 1 0) ends.views ∙ count-gone old.views id q live

  pub ends_other : (q : ℕ) → q ≢ id → get new.views q ≡ get old.views q
  ends_other q ne = ap (λ (m : FinMap nat_cmp ViewValue). get m q) ends.views ∙ get-gone_other old.views id q ne

  -- a view has no other view on its block but that which ended, so it is alone now
  pub ends_sole : (q : ℕ) → q ≢ id → ((other : ℕ) (view : ViewValue) → get old.views other ≡ Some view → other ≢ q → other ≢ id → view.block ≢ block_at old q) → IsSole new q
  ends_sole q ne alone other view there apart same = elim (cases_eq other id) [
    | inl e ↦ (let none : Some view ≡ None = sym there ∙ ap (get new.views) e ∙ ends_view in cc)
    | inr n ↦ alone other view (sym (ends_other other n) ∙ there) apart n (same ∙ block_kept old new q (ends_other q ne))
  ]

-- a view with another grid
module _ (pool : PoolValue) (id : ℕ) (grid : CellBlock) where
  pub with_grid_view : get (with_grid pool id grid).views id ≡ Some (view_with (view_at pool id) grid)
  with_grid_view = get-put pool.views id _

  pub with_grid_count : IsLive pool id → (q : ℕ) → live_count (with_grid pool id grid) q ≡ live_count pool q
  with_grid_count live q = count-changed pool.views id q _ live

  pub with_grid_other : (q : ℕ) → q ≢ id → get (with_grid pool id grid).views q ≡ get pool.views q
  with_grid_other q ne = get-put_other pool.views id _ q ne

  -- each view lies on the block on which it lay
  pub with_grid_block : (q : ℕ) → block_at (with_grid pool id grid) q ≡ block_at pool q
  with_grid_block q = elim (cases_eq q id) [
    | inl e ↦ ap (block_at (with_grid pool id grid)) e ∙ block_is (with_grid pool id grid) id (block_at pool id) grid with_grid_view ∙ ap (block_at pool) (sym e)
    | inr ne ↦ block_kept pool (with_grid pool id grid) q (with_grid_other q ne)
  ]

  pub with_grid_live : (q : ℕ) → IsLive pool q → IsLive (with_grid pool id grid) q
  with_grid_live q live = elim (cases_eq q id) [
    | inl e ↦ subst (IsLive (with_grid pool id grid)) (sym e) (live_is (with_grid pool id grid) id (block_at pool id) grid with_grid_view)
    | inr ne ↦ live_kept pool (with_grid pool id grid) q (with_grid_other q ne) live
  ]

  -- a view that was alone still is
  pub with_grid_sole : IsLive pool id → (q : ℕ) → IsSole pool q → IsSole (with_grid pool id grid) q
  with_grid_sole live q sole other view there apart same = elim (cases_eq other id) [
    | inl e ↦
        let at : view.block ≡ block_at pool id = ap (λ (o : Option ViewValue). (view_or o).block) (sym there ∙ ap (get (with_grid pool id grid).views) e ∙ with_grid_view) in
        on_old (get pool.views id) refl live (sym at ∙ same ∙ with_grid_block q) (λ z. apart (e ∙ z))
    | inr n ↦ sole other view (sym (with_grid_other other n) ∙ there) apart (same ∙ with_grid_block q)
  ]
    where
      on_old : (o : Option ViewValue) → get pool.views id ≡ o → IsSome o → block_at pool id ≡ block_at pool q → id ≢ q → ⊥
      on_old None is live at ne = false≢true live
      on_old (Some v) is live at ne = sole id v is ne (sym (ap (λ (o : Option ViewValue). (view_or o).block) is) ∙ at)
