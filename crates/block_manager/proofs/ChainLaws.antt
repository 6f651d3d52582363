-- Changes of a pool one after another.
use Rattle.{
  std.proofs.Common.{◌≡◌, ◌≢◌, ℕ, ◌+◌, ◌≤◌, List, [], ◌∷◌, ◌++◌, refl, ap, ap₂, sym, ◌∙◌, subst, arith, Option, Some, None, IsSome, inl, inr},
  std.proofs.lemmas.{Bool.{cases_eq}, List.Sums.{sum_by_push}},
  std.specs.{FinMap.{FinMap, get, insert, remove}, Ordering.{nat_cmp}},
  column_core.specs.Blocks.{CellBlock},
  block_pool.{
    specs.Pools.{PoolValue, ViewValue, Ends, Owns, Shares, IsFree, IsLive, IsSole, cells_of, grid_at, block_at, live_count, total_of, full_view, view_or},
    proofs.{ChangeLaws.{gone-put, put-again, get-put, get-put_other, count-put, live_not_free, grid_is, block_is, live_is, shares_view, shares_other, shares_not_sole_itself, ends_count, ends_other, ends_sole, block_kept}, HeldLaws.{ends_held}, TotalLaws.{total-insert}},
  },
  block_manager.{specs.{Managed.{times, AreLive, Stays}, Changes.{Copies, EndsEach}}, proofs.TimesLaws.{same, same_one, times-cons, live_some}},
}

-- the pool as it is seen, whatever is spare
pub stays_self : (pool : PoolValue) → Stays pool pool
stays_self pool = record { views = refl; blocks = refl }

pub stays_twice : (old mid new : PoolValue) → Stays old mid → Stays mid new → Stays old new
stays_twice old mid new a b = record { views = b.views ∙ a.views; blocks = b.blocks ∙ a.blocks }

pub stays_sole : (old new : PoolValue) (q : ℕ) → Stays old new → IsSole old q → IsSole new q
stays_sole old new q s sole other view there apart same =
    sole other view (ap (λ (m : FinMap nat_cmp ViewValue). get m other) (sym s.views) ∙ there) apart (same ∙ ap (λ (m : FinMap nat_cmp ViewValue). (view_or (get m q)).block) s.views)

-- a copy of what is seen alike
pub stays_copies : (old mid new : PoolValue) (id : ℕ) (grid : CellBlock) → Stays old mid → Copies mid new id grid → Copies old new id grid
stays_copies old mid new id grid s c = record {
  block = c.block;
  new_block = record {
    unknown = ap (λ (m : FinMap nat_cmp ℕ). get m c.block) (sym s.blocks) ∙ c.new_block.unknown;
    unused = λ q view there. c.new_block.unused q view (ap (λ (m : FinMap nat_cmp ViewValue). get m q) s.views ∙ there);
  };
  views = c.views ∙ ap (λ (m : FinMap nat_cmp ViewValue). insert m id (full_view c.block grid)) s.views;
  blocks = c.blocks ∙ ap (λ (m : FinMap nat_cmp ℕ). insert m c.block (cells_of grid)) s.blocks;
}

-- a share that gets a block of its own, and one that is taken back
module _ (old mid new : PoolValue) (id from : ℕ) (grid : CellBlock) (free : IsFree old id) (live : IsLive old from) (shares : Shares old mid id from grid) where
  apart : from ≢ id
  apart = live_not_free old id from free live

  pub share_not_sole : ¬ IsSole mid id
  share_not_sole = shares_not_sole_itself old mid id from grid shares apart live

  pub share_live : IsLive mid id
  share_live = live_is mid id (block_at old from) grid (shares_view old mid id from grid shares)

  pub copied : Owns mid new id → Copies old new id grid
  copied owns =
      let same : grid_at mid id ≡ grid = grid_is mid id _ grid (shares_view old mid id from grid shares) in
      record {
        block = owns.block;
        new_block = record {
          unknown = sym (ap (λ (m : FinMap nat_cmp ℕ). get m owns.block) shares.blocks) ∙ owns.new_block.unknown;
          unused = λ q view there. owns.new_block.unused q view (shares_other old mid id from grid shares q (λ e. (let none : Some view ≡ None = sym there ∙ ap (get old.views) e ∙ free in cc)) ∙ there);
        };
        views = owns.views ∙ ap₂ (λ (m : FinMap nat_cmp ViewValue) (g : CellBlock). insert m id (full_view owns.block g)) shares.views same ∙ put-again old.views id _ _;
        blocks = owns.blocks ∙ ap₂ (λ (m : FinMap nat_cmp ℕ) (g : CellBlock). insert m owns.block (cells_of g)) shares.blocks same;
      }

  pub taken_back : Ends mid new id → Stays old new
  taken_back ends = record {
    views = ends.views ∙ ap (λ (m : FinMap nat_cmp ViewValue). remove m id) shares.views ∙ gone-put old.views id _ free;
    blocks = ends.shared share_not_sole ∙ shares.blocks;
  }

-- a copy
module _ (old new : PoolValue) (id : ℕ) (grid : CellBlock) (copies : Copies old new id grid) where
  pub copies_view : get new.views id ≡ Some (full_view copies.block grid)
  copies_view = ap (λ (m : FinMap nat_cmp ViewValue). get m id) copies.views ∙ get-put old.views id _

  pub copies_other : (q : ℕ) → q ≢ id → get new.views q ≡ get old.views q
  copies_other q ne = ap (λ (m : FinMap nat_cmp ViewValue). get m q) copies.views ∙ get-put_other old.views id _ q ne

  pub copies_count : IsFree old id → (q : ℕ) → live_count new q ≡ live_count old q + same q id
  copies_count free q = ap (λ (m : FinMap nat_cmp ViewValue). live_count (record old { views = m }) q) copies.views ∙ count-put old.views id q _ free

  pub copies_alone : IsSole new id
  copies_alone other view there apart same =
      copies.new_block.unused other view (sym (copies_other other apart) ∙ there) (same ∙ block_is new id copies.block grid copies_view)

  pub copies_sole : (q : ℕ) → q ≢ id → IsLive old q → IsSole old q → IsSole new q
  copies_sole q ne live sole other view there apart same = elim (cases_eq other id) [
    | inl e ↦
        let new_view : Some view ≡ Some (full_view copies.block grid) = sym there ∙ ap (get new.views) e ∙ copies_view in
        on_new (get old.views q) refl live
        (sym (block_kept old new q (copies_other q ne)) ∙ sym same ∙ ap (λ (o : Option ViewValue). (view_or o).block) new_view)
    | inr n ↦ sole other view (sym (copies_other other n) ∙ there) apart (same ∙ block_kept old new q (copies_other q ne))
  ]
    where
      on_new : (o : Option ViewValue) → get old.views q ≡ o → IsSome o → (view_or (get old.views q)).block ≡ copies.block → ⊥
      on_new None is live at = cc
      on_new (Some v) is live at = copies.new_block.unused q v is (sym (ap (λ (o : Option ViewValue). (view_or o).block) is) ∙ at)

  pub copies_held : total_of new ≡ total_of old + cells_of grid
  copies_held = ap (λ (m : FinMap nat_cmp ℕ). total_of (record old { blocks = m })) copies.blocks ∙ total-insert old.blocks copies.block (cells_of grid) copies.new_block.unknown

  -- it is taken back
  pub copy_gone : (mid final : PoolValue) → IsFree old id → Stays new mid → Ends mid final id → Stays old final
  copy_gone mid final free s ends =
      let sole : IsSole mid id = stays_sole new mid id s copies_alone in
      let block : block_at mid id ≡ copies.block = ap (λ (m : FinMap nat_cmp ViewValue). (view_or (get m id)).block) s.views ∙ block_is new id copies.block grid copies_view in
      record {
        views = ends.views ∙ ap (λ (m : FinMap nat_cmp ViewValue). remove m id) (s.views ∙ copies.views) ∙ gone-put old.views id _ free;
        blocks = ends.sole sole ∙ ap₂ (λ (m : FinMap nat_cmp ℕ) (b : ℕ). remove m b) (s.blocks ∙ copies.blocks) block ∙ gone-put old.blocks copies.block _ copies.new_block.unknown;
      }

-- a view ended before others
pub ends_last : (views : List ℕ) (id : ℕ) (old mid new : PoolValue) → Ends old mid id → EndsEach mid views new → EndsEach old (views ++ id ∷ []) new
ends_last [] id old mid new e ends = (old, refl, subst (λ (p : PoolValue). Ends old p id) (sym ends) e)
ends_last (first ∷ views) id old mid new e ends = (ends.0, ends_last views id old mid ends.0 e ends.1, ends.2)

module _ (old : PoolValue) where
  pub ends_each_count : (views : List ℕ) (new : PoolValue) → AreLive old views → EndsEach old views new → (q : ℕ) → live_count new q + times q views ≡ live_count old q
  ends_each_count [] new live ends q = (let e : live_count new q ≡ live_count old q = ap (λ (p : PoolValue). live_count p q) ends in omega (arith, e))
  ends_each_count (id ∷ views) new live ends q =
      let rest : AreLive old views = λ p. omega (arith, live p, times-cons p id views) in
      let before = ends_each_count views ends.0 rest ends.1 in
      let there = live_some ends.0 id (omega (arith, before id, live id, times-cons id id views, same_one id id refl)) in
      omega (arith, before q, ends_count ends.0 new id ends.2 there q, times-cons q id views)

  pub ends_each_other : (views : List ℕ) (new : PoolValue) → EndsEach old views new → (q : ℕ) → times q views ≡ 0 → get new.views q ≡ get old.views q
  ends_each_other [] new ends q none = ap (λ (p : PoolValue). get p.views q) ends
  ends_each_other (id ∷ views) new ends q none =
      let ne : q ≢ id = λ e. omega (arith, none, times-cons q id views, same_one q id (sym e)) in
      ends_other ends.0 new id ends.2 q ne ∙ ends_each_other views ends.0 ends.1 q (omega (arith, none, times-cons q id views))

  pub ends_each_held : (views : List ℕ) (new : PoolValue) → EndsEach old views new → total_of new ≤ total_of old
  ends_each_held [] new ends = omega (arith, ap total_of ends)
  ends_each_held (id ∷ views) new ends = omega (arith, ends_each_held views ends.0 ends.1, ends_held ends.0 new id ends.2)

  -- a view that was alone still is
  pub ends_each_sole : (views : List ℕ) (new : PoolValue) → EndsEach old views new → (q : ℕ) → times q views ≡ 0 → IsSole old q → IsSole new q
  ends_each_sole [] new ends q none sole = subst (λ (p : PoolValue). IsSole p q) (sym ends) sole
  ends_each_sole (id ∷ views) new ends q none sole =
      let ne : q ≢ id = λ e. omega (arith, none, times-cons q id views, same_one q id (sym e)) in
      let before = ends_each_sole views ends.0 ends.1 q (omega (arith, none, times-cons q id views)) sole in
      ends_sole ends.0 new id ends.2 q ne (λ other view there apart other_apart. before other view there apart)

-- the last of these views ends
pub last_live : (pool : PoolValue) (views : List ℕ) (id : ℕ) → AreLive pool (views ++ id ∷ []) → IsLive pool id
last_live pool views id live = live_some pool id (omega (arith, live id, sum_by_push (same id) views id, same_one id id refl))

pub others_live : (old new : PoolValue) (views : List ℕ) (id : ℕ) → AreLive old (views ++ id ∷ []) → Ends old new id → AreLive new views
others_live old new views id live ends q =
    omega (arith, live q, sum_by_push (same q) views id, ends_count old new id ends (last_live old views id live) q)
