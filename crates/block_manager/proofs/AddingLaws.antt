-- Blocks that are added one after another, and pools that are seen alike.
use Rattle.{std.proofs.Common.{◌≡◌, ℕ, ◌+◌, ◌<◌, List, [], ◌∷◌, ◌++◌, map, sum, refl, ap, ap₂, sym, ◌∙◌, subst, arith, append_assoc, inl, inr}, std.proofs.lemmas.{Bool.{cases_eq}, List.{map-append}, List.Sums.{sum_by-cons, sum_by_push}}, std.specs.{Prelude.{slice_index}, FinMap.{FinMap, get}, Ordering.{nat_cmp}}, column_core.specs.Blocks.{CellBlock}, block_pool.{specs.{declared.views.ViewId.{ViewId}, Pools.{PoolValue, ViewValue, grid_at, cells_of, total_of, IsFree, IsSole, Adds}}, proofs.{ChangeLaws.{live_not_free, grid_is, adds_view, adds_other, adds_alone, adds_sole}, HeldLaws.{adds_held}}}, block_manager.{specs.{Managed.{ManagerValue, times, AreLive, StandsOn, Exchanges, Keeps, Stays}, Changes.{grids_of, numbers_of, Copies, Lays, AddsAll}}, proofs.{TimesLaws.{same, same_none, live_in, live_same, live_some}, GridLaws.{grids_kept, numbers_push}, ChainLaws.{stays_self}, LayLaws.{lays_more, lays_count}, OtherLaws.{other_stands}}}}

-- nothing was added
pub none_laid : (pool : PoolValue) (views : List ViewId) → views ≡ [] → Lays pool (numbers_of views) pool
none_laid pool views none = subst (λ (vs : List ViewId). Lays pool (numbers_of vs) pool) (sym none) (stays_self pool)

pub none_seen : (pool : PoolValue) (views : List ViewId) (blocks : List CellBlock) → views ≡ [] → grids_of pool (numbers_of views) ++ blocks ≡ blocks
none_seen pool views blocks none = ap (λ (vs : List ViewId). grids_of pool (numbers_of vs) ++ blocks) none

-- what was added is live
pub grown_live : (old now : PoolValue) (made : List ℕ) → Lays old made now → AreLive now made
grown_live old now made lays q = omega (arith, lays_count old made now lays q)

-- a block that is added is a copy of what it is
pub added_copy : (old new : PoolValue) (id : ℕ) (grid : CellBlock) → Adds old new id grid → Copies old new id grid
added_copy old new id grid adds = record { block = adds.block; new_block = adds.new_block; views = adds.views; blocks = adds.blocks }

-- one block more
module _ (old now new : PoolValue) (made after : List ViewId) (id : ViewId) (block : CellBlock) (rest blocks : List CellBlock) (lays : Lays old (numbers_of made) now) (free : IsFree now id.0) (adds : Adds now new id.0 block) (appended : after ≡ made ++ id ∷ []) where
  numbers : numbers_of after ≡ numbers_of made ++ id.0 ∷ []
  numbers = ap numbers_of appended ∙ numbers_push made id

  pub lays_one : Lays old (numbers_of after) new
  lays_one =
      subst (λ (ids : List ℕ). Lays old ids new) (sym numbers)
      (lays_more old (numbers_of made) now new id.0 block lays free (inl (added_copy now new id.0 block adds)))

  -- each of them is alone on its block
  pub sole_one : ((q : ℕ) → 0 < times q (numbers_of made) → IsSole now q) → (q : ℕ) → 0 < times q (numbers_of after) → IsSole new q
  sole_one so_far q some = elim (cases_eq id.0 q) [
    | inl e ↦ subst (IsSole new) e (adds_alone now new id.0 block adds)
    | inr ne ↦
        let was : 0 < times q (numbers_of made) = omega (arith, some, ap (times q) numbers, sum_by_push (same q) (numbers_of made) id.0, same_none q id.0 ne) in
        adds_sole now new id.0 block adds q (λ e. ne (sym e)) (live_some now q (omega (arith, was, grown_live old now (numbers_of made) lays q))) (so_far q was)
  ]

  grids_one : grids_of new (numbers_of after) ≡ grids_of now (numbers_of made) ++ block ∷ []
  grids_one =
      ap (grids_of new) numbers
      ∙ map-append (grid_at new) (numbers_of made) (id.0 ∷ [])
      ∙ ap₂ (λ (gs : List CellBlock) (g : CellBlock). gs ++ g ∷ [])
      (grids_kept now new (numbers_of made) (λ k lt. adds_other now new id.0 block adds (slice_index (numbers_of made) k) (live_not_free now id.0 (slice_index (numbers_of made) k) free (live_in now (numbers_of made) k 0 (grown_live old now (numbers_of made) lays) lt))))
      (grid_is new id.0 adds.block block (adds_view now new id.0 block adds))

  pub seen_one : grids_of now (numbers_of made) ++ block ∷ rest ≡ blocks → grids_of new (numbers_of after) ++ rest ≡ blocks
  seen_one so_far = ap (λ (gs : List CellBlock). gs ++ rest) grids_one ∙ append_assoc (grids_of now (numbers_of made)) (block ∷ []) rest ∙ so_far

  pub held_one : (whole : ℕ) → total_of now + sum (map cells_of (block ∷ rest)) ≡ whole → total_of new + sum (map cells_of rest) ≡ whole
  held_one whole so_far = omega (arith, so_far, adds_held now new id.0 block adds, sum_by-cons (λ (n : ℕ). n) (cells_of block) (map cells_of rest))

-- all blocks were added
pub all_added : (old new : PoolValue) (views : List ViewId) (rest blocks : List CellBlock) → rest ≡ [] → Lays old (numbers_of views) new → grids_of new (numbers_of views) ++ rest ≡ blocks → total_of new + sum (map cells_of rest) ≡ total_of old + sum (map cells_of blocks)
    → ((q : ℕ) → 0 < times q (numbers_of views) → IsSole new q) → AddsAll old new (numbers_of views) blocks
all_added old new views rest blocks none lays grids held sole =
    let left : sum (map cells_of rest) ≡ 0 = ap (λ (gs : List CellBlock). sum (map cells_of gs)) none in
    record {
      lays = lays;
      sole = sole;
      grids = sym (append_nil (grids_of new (numbers_of views))) ∙ ap (λ (gs : List CellBlock). grids_of new (numbers_of views) ++ gs) (sym none) ∙ grids;
      held = omega (arith, held, left);
    }
  where
    append_nil : {X : Type 0} (xs : List X) → xs ++ [] ≡ xs
    append_nil [] = refl
    append_nil (x ∷ xs) = ap (λ l. x ∷ l) (append_nil xs)

-- the same views on the same blocks
module _ (old new : PoolValue) (stays : Stays old new) where
  same_view : (q : ℕ) → get new.views q ≡ get old.views q
  same_view q = ap (λ (m : FinMap nat_cmp ViewValue). get m q) stays.views

pub stays_traded : (old new : PoolValue) (views : List ℕ) → Stays old new → Exchanges old new views views
stays_traded old new views stays q = omega (arith, live_same old new q (same_view old new stays q))

pub stays_kept : (old new : PoolValue) (views : List ℕ) → Stays old new → Keeps old new views
stays_kept old new views stays q none one = same_view old new stays q

pub stays_stands : (old new : PoolValue) (m : ManagerValue) → Stays old new → StandsOn old m → StandsOn new m
stays_stands old new m stays stands = other_stands old new [] (λ q none one. same_view old new stays q) m stands (λ q some. refl)

pub stays_held : (old new : PoolValue) → Stays old new → total_of new ≡ total_of old
stays_held old new stays = ap (λ (b : FinMap nat_cmp ℕ). total_of (record old { blocks = b })) stays.blocks
