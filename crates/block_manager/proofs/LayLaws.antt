-- New views that are copies or lie on blocks that were there, and that all end again.
use Rattle.{std.proofs.Common.{◌≡◌, ◌≢◌, ℕ, ◌+◌, ◌<◌, Bool, true, false, List, [], ◌∷◌, ◌++◌, refl, ap, sym, ◌∙◌, subst, arith, Option, Some, None, IsSome, inl, inr, ◌⊎◌, cond}, std.proofs.lemmas.{Bool.{cases_eq, false≢true}}, std.specs.{Prelude.{is_some}, FinMap.{FinMap, get, insert, remove}, Ordering.{nat_cmp}}, column_core.specs.Blocks.{CellBlock}, block_pool.{specs.Pools.{PoolValue, ViewValue, Ends, Owns, Shares, IsFree, IsLive, IsSole, IsFull, cells_of, grid_at, block_at, live_count, total_of, view_at, view_or, view_with}, proofs.ChangeLaws.{gone-put, get-put, get-put_other, count-put, live_not_free, block_is, block_kept, grid_is, grid_kept}}, block_manager.{specs.{Managed.{times, AreLive, Exchanges, Keeps, Stays}, Changes.{Copies, Partakes, Lays, LaysRun, EndsEach}, Spots.{IsOwn}}, proofs.{TimesLaws.{same, times-cons, live_some, live_once, live_is_one}, ChainLaws.{stays_self, stays_twice, stays_copies, copied, taken_back, share_live, share_not_sole, copies_view, copies_other, copies_count, copies_alone, copies_sole, copies_held, copy_gone}}}}

-- what was shared
abbrev pub partakes : (old new : PoolValue) (id from : ℕ) (grid : CellBlock) → IsLive old from → Shares old new id from grid → Partakes old new id grid
partakes old new id from grid live shares = record { from = from; live = live; views = shares.views; blocks = shares.blocks }

stays_partakes : (old mid new : PoolValue) (id : ℕ) (grid : CellBlock) → Stays old mid → Partakes mid new id grid → Partakes old new id grid
stays_partakes old mid new id grid s p = record {
  from = p.from;
  live = ap (λ (m : FinMap nat_cmp ViewValue). is_some (get m p.from)) (sym s.views) ∙ p.live;
  views = p.views ∙ ap (λ (m : FinMap nat_cmp ViewValue). insert m id (view_with (view_or (get m p.from)) grid)) s.views;
  blocks = p.blocks ∙ s.blocks;
}

module _ (old new : PoolValue) (id : ℕ) (grid : CellBlock) (p : Partakes old new id grid) where
  pub partakes_view : get new.views id ≡ Some (view_with (view_at old p.from) grid)
  partakes_view = ap (λ (m : FinMap nat_cmp ViewValue). get m id) p.views ∙ get-put old.views id _

  pub partakes_other : (q : ℕ) → q ≢ id → get new.views q ≡ get old.views q
  partakes_other q ne = ap (λ (m : FinMap nat_cmp ViewValue). get m q) p.views ∙ get-put_other old.views id _ q ne

  pub partakes_count : IsFree old id → (q : ℕ) → live_count new q ≡ live_count old q + same q id
  partakes_count free q = ap (λ (m : FinMap nat_cmp ViewValue). live_count (record old { views = m }) q) p.views ∙ count-put old.views id q _ free

  -- it isn't alone on its block
  not_alone : (mid : PoolValue) → IsFree old id → Stays new mid → IsSole mid id → ⊥
  not_alone mid free s sole =
      let ne : p.from ≢ id = live_not_free old id p.from free p.live in
      let there : get mid.views p.from ≡ get old.views p.from = ap (λ (m : FinMap nat_cmp ViewValue). get m p.from) s.views ∙ partakes_other p.from ne in
      let here : block_at mid id ≡ block_at old p.from = ap (λ (m : FinMap nat_cmp ViewValue). (view_or (get m id)).block) s.views ∙ block_is new id (block_at old p.from) grid partakes_view in
      at (get old.views p.from) refl p.live ne there here
    where
      at : (o : Option ViewValue) → get old.views p.from ≡ o → IsSome o → p.from ≢ id → get mid.views p.from ≡ get old.views p.from → block_at mid id ≡ block_at old p.from → ⊥
      at None is live ne there here = false≢true live
      at (Some v) is live ne there here = sole p.from v (there ∙ is) ne (sym (ap (λ (o : Option ViewValue). (view_or o).block) is) ∙ sym here)

  -- it is taken back
  partake_gone : (mid final : PoolValue) → IsFree old id → Stays new mid → Ends mid final id → Stays old final
  partake_gone mid final free s ends = record {
    views = ends.views ∙ ap (λ (m : FinMap nat_cmp ViewValue). remove m id) (s.views ∙ p.views) ∙ gone-put old.views id _ free;
    blocks = ends.shared (not_alone mid free s) ∙ s.blocks ∙ p.blocks;
  }

  -- a view that was alone still is, where the new one doesn't lie on its block
  pub partakes_sole : (q : ℕ) → q ≢ id → q ≢ p.from → IsSole old q → IsSole new q
  partakes_sole q ne apart sole other view there differ at = elim (cases_eq other id) [
    | inl e ↦
        let is : Some view ≡ Some (view_with (view_at old p.from) grid) = sym there ∙ ap (get new.views) e ∙ partakes_view in
        on_old (get old.views p.from) refl p.live (sym (ap (λ (o : Option ViewValue). (view_or o).block) is) ∙ at ∙ block_kept old new q (partakes_other q ne))
    | inr n ↦ sole other view (sym (partakes_other other n) ∙ there) differ (at ∙ block_kept old new q (partakes_other q ne))
  ]
    where
      on_old : (o : Option ViewValue) → get old.views p.from ≡ o → IsSome o → block_at old p.from ≡ block_at old q → ⊥
      on_old None is live e = false≢true live
      on_old (Some v) is live e = sole p.from v is (λ z. apart (sym z)) (sym (ap (λ (o : Option ViewValue). (view_or o).block) is) ∙ e)

-- one view more
abbrev pub Laid : PoolValue → PoolValue → ℕ → CellBlock → Type 0
Laid old new id grid = Copies old new id grid ⊎ Partakes old new id grid

stays_laid : (old mid new : PoolValue) (id : ℕ) (grid : CellBlock) → Stays old mid → Laid mid new id grid → Laid old new id grid
stays_laid old mid new id grid s (inl c) = inl (stays_copies old mid new id grid s c)
stays_laid old mid new id grid s (inr p) = inr (stays_partakes old mid new id grid s p)

laid_count : (old new : PoolValue) (id : ℕ) (grid : CellBlock) → Laid old new id grid → IsFree old id → (q : ℕ) → live_count new q ≡ live_count old q + same q id
laid_count old new id grid (inl c) free q = copies_count old new id grid c free q
laid_count old new id grid (inr p) free q = partakes_count old new id grid p free q

pub laid_other : (old new : PoolValue) (id : ℕ) (grid : CellBlock) → Laid old new id grid → (q : ℕ) → q ≢ id → get new.views q ≡ get old.views q
laid_other old new id grid (inl c) q ne = copies_other old new id grid c q ne
laid_other old new id grid (inr p) q ne = partakes_other old new id grid p q ne

-- its grid
pub laid_view : (old new : PoolValue) (id : ℕ) (grid : CellBlock) → Laid old new id grid → grid_at new id ≡ grid
laid_view old new id grid (inl c) = grid_is new id c.block grid (copies_view old new id grid c)
laid_view old new id grid (inr p) = grid_is new id (block_at old p.from) grid (partakes_view old new id grid p)

laid_gone : (old new mid final : PoolValue) (id : ℕ) (grid : CellBlock) → Laid old new id grid → IsFree old id → Stays new mid → Ends mid final id → Stays old final
laid_gone old new mid final id grid (inl c) free s ends = copy_gone old new id grid c mid final free s ends
laid_gone old new mid final id grid (inr p) free s ends = partake_gone old new id grid p mid final free s ends

pub lays_same : (old : PoolValue) (made : List ℕ) (mid new : PoolValue) → Lays old made mid → Stays mid new → Lays old made new
lays_same old [] mid new l s = stays_twice old mid new l s
lays_same old (id ∷ made) mid new l s = (l.0, l.1, l.2, l.3, lays_same l.1 made mid new l.4 s)

pub lays_more : (old : PoolValue) (made : List ℕ) (mid new : PoolValue) (id : ℕ) (grid : CellBlock) → Lays old made mid → IsFree mid id → Laid mid new id grid → Lays old (made ++ id ∷ []) new
lays_more old [] mid new id grid l free laid =
    (grid, new, ap (λ (m : FinMap nat_cmp ViewValue). get m id) (sym l.views) ∙ free, stays_laid old mid new id grid l laid, stays_self new)
lays_more old (first ∷ made) mid new id grid l free laid = (l.0, l.1, l.2, l.3, lays_more l.1 made mid new id grid l.4 free laid)

pub lays_count : (old : PoolValue) (made : List ℕ) (new : PoolValue) → Lays old made new → (q : ℕ) → live_count new q ≡ live_count old q + times q made
lays_count old [] new l q = (let e : live_count new q ≡ live_count old q = ap (λ (m : FinMap nat_cmp ViewValue). live_count (record old { views = m }) q) l.views in omega (arith, e))
lays_count old (id ∷ made) new l q =
    omega (arith, lays_count l.1 made new l.4 q, laid_count old l.1 id l.0 l.3 l.2 q, times-cons q id made)

-- each view that was live is as it was
pub lays_kept : (old : PoolValue) (made : List ℕ) (new : PoolValue) → Lays old made new → (q : ℕ) → IsLive old q → get new.views q ≡ get old.views q
lays_kept old [] new l q live = ap (λ (m : FinMap nat_cmp ViewValue). get m q) l.views
lays_kept old (id ∷ made) new l q live =
    let first = laid_other old l.1 id l.0 l.3 q (live_not_free old id q l.2 live) in
    lays_kept l.1 made new l.4 q (subst IsSome (sym first) live) ∙ first

-- all of them are taken back
pub lays_gone : (old : PoolValue) (made : List ℕ) (new final : PoolValue) → Lays old made new → EndsEach new made final → Stays old final
lays_gone old [] new final l ends = subst (Stays old) (sym ends) l
lays_gone old (id ∷ made) new final l ends = laid_gone old l.1 ends.0 final id l.0 l.3 l.2 (lays_gone l.1 made new ends.0 l.4 ends.1) ends.2

-- what they are to the others
pub lays_live : (old : PoolValue) (made : List ℕ) (new : PoolValue) → Lays old made new → AreLive new made
lays_live old made new l q = omega (arith, lays_count old made new l q)

pub lays_views : (old : PoolValue) (made : List ℕ) (new : PoolValue) → Lays old made new → Exchanges old new [] made
lays_views old made new l q = omega (arith, lays_count old made new l q)

pub lays_keep : (old : PoolValue) (made : List ℕ) (new : PoolValue) → Lays old made new → Keeps old new []
lays_keep old made new l q none one = lays_kept old made new l q (live_some old q (omega (arith, one)))

-- what was made wasn't live before
pub lays_apart : (old : PoolValue) (made : List ℕ) (new : PoolValue) → Lays old made new → (q from : ℕ) → 0 < times q made → IsLive old from → q ≢ from
lays_apart old made new l q from some live e =
    omega (arith, lays_count old made new l q, live_once new q, some, live_is_one old from live, ap (live_count old) e)

-- a view of a run that was shared, and maybe copied
module _ (old mid : PoolValue) (id from : ℕ) (grid : CellBlock) (alone : Bool) (free : IsFree old id) (live : IsLive old from) (shares : Shares old mid id from grid) where
  pub part_live : IsLive mid id
  part_live = share_live old mid mid id from grid free live shares

  pub run_shared : alone ≡ false → LaysRun old mid id from grid alone
  run_shared e = record {
    copies = λ t. absurd (false≢true (sym e ∙ t));
    shares = λ _. (partakes old mid id from grid live shares, refl);
    spare = shares.spare;
  }

  pub run_copied : (new : PoolValue) → alone ≡ true → (¬ IsSole mid id → Owns mid new id) → LaysRun old new id from grid alone
  run_copied new e owns =
      let own : Owns mid new id = owns (share_not_sole old mid mid id from grid free live shares) in
      record {
        copies = λ _. copied old mid new id from grid free live shares own;
        shares = λ f. absurd (false≢true (sym f ∙ e));
        spare = ap (λ n. n + 1) own.spare ∙ shares.spare;
      }

  pub run_gone : (failed new : PoolValue) → failed ≡ mid → Ends failed new id → Stays old new
  run_gone failed new same ends = taken_back old mid new id from grid free live shares (subst (λ (p : PoolValue). Ends p new id) same ends)

-- a view of one run more
module _ (old now new : PoolValue) (made : List ℕ) (id from : ℕ) (grid : CellBlock) (alone : Bool) (before : Lays old made now) (free : IsFree now id) (live : IsLive old from) (run : LaysRun now new id from grid alone) where
  pub laid : Laid now new id grid
  laid = at alone refl
    where
      at : (b : Bool) → alone ≡ b → Laid now new id grid
      at true e = inl (run.copies e)
      at false e = inr (run.shares e).0

  pub run_lays : Lays old (made ++ id ∷ []) new
  run_lays = lays_more old made now new id grid before free laid

  pub run_other : (q : ℕ) → q ≢ id → get new.views q ≡ get now.views q
  run_other = laid_other now new id grid laid

  pub run_held : total_of new ≡ total_of now + cond {A = ℕ} alone (cells_of grid) 0
  run_held = at alone refl
    where
      at : (b : Bool) → alone ≡ b → total_of new ≡ total_of now + cond {A = ℕ} alone (cells_of grid) 0
      at true e = copies_held now new id grid (run.copies e) ∙ ap (λ b. total_of now + cond {A = ℕ} b (cells_of grid) 0) (sym e)
      at false e =
          let same : total_of new ≡ total_of now = ap (λ (b : FinMap nat_cmp ℕ). total_of (record now { blocks = b })) (run.shares e).0.blocks in
          omega (arith, same, ap (λ b. cond {A = ℕ} b (cells_of grid) 0) e)

  -- it is alone on a block of its own
  pub run_own : alone ≡ true → IsOwn new id
  run_own e =
      let c = run.copies e in
      record {
        sole = copies_alone now new id grid c;
        full = ap (get new.blocks) (block_is new id c.block grid (copies_view now new id grid c))
            ∙ ap (λ (b : FinMap nat_cmp ℕ). get b c.block) c.blocks ∙ get-put now.blocks c.block (cells_of grid)
            ∙ ap (λ (g : CellBlock). Some (cells_of g)) (sym (grid_is new id c.block grid (copies_view now new id grid c)));
      }

  -- and those made before still are
  pub run_own_still : (q : ℕ) → 0 < times q made → IsOwn now q → IsOwn new q
  run_own_still q some own = at alone refl
    where
      live_now : IsLive now q
      live_now = live_some now q (omega (arith, some, lays_count old made now before q))

      ne : q ≢ id
      ne = live_not_free now id q free live_now

      there : get new.views q ≡ get now.views q
      there = run_other q ne

      full_by : get new.blocks (block_at now q) ≡ get now.blocks (block_at now q) → IsFull new q
      full_by e = ap (get new.blocks) (block_kept now new q there) ∙ e ∙ own.full ∙ ap (λ (g : CellBlock). Some (cells_of g)) (sym (grid_kept now new q there))

      at : (b : Bool) → alone ≡ b → IsOwn new q
      at true e =
          let c = run.copies e in
          let other : block_at now q ≢ c.block = λ b. (let none : Some (cells_of (grid_at now q)) ≡ None = sym own.full ∙ ap (get now.blocks) b ∙ c.new_block.unknown in cc) in
          record {
            sole = copies_sole now new id grid c q ne live_now own.sole;
            full = full_by (ap (λ (b : FinMap nat_cmp ℕ). get b (block_at now q)) c.blocks ∙ get-put_other now.blocks c.block (cells_of grid) (block_at now q) other);
          }
      at false e =
          let p = run.shares e in
          let apart : q ≢ p.0.from = λ z. lays_apart old made now before q from some live (z ∙ p.1) in
          record {
            sole = partakes_sole now new id grid p.0 q ne apart own.sole;
            full = full_by (ap (λ (b : FinMap nat_cmp ℕ). get b (block_at now q)) p.0.blocks);
          }
