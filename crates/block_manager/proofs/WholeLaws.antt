-- All columns of a manager that are copied, each to a block of its own.
use native.Mathlib.Nat.{add-mul}
use Rattle.{std.proofs.Common.{◌≡◌, ◌≢◌, ℕ, zero, suc, ◌+◌, ◌*◌, ◌<◌, ◌≤◌, Bool, true, false, cond, List, [], ◌∷◌, map, length, take, refl, ap, ap₂, sym, ◌∙◌, subst, arith, get_or, All, inl, inr, count_by, eq-eqb, Option, Some, None}, std.proofs.lemmas.{Bool.{cases_eq, ne_eqb, lt-ltb}, List.{map-append, take_all, take_more}, List.Sums.{sum_by-cons, sum_by_push}}, std.specs.{Prelude.{◌==◌, ◌&&◌, slice_index, sum, sum_by, replicate, is_some}, FinMap.{FinMap, get, values}, Ordering.{nat_cmp}}, column_core.specs.Blocks.{CellBlock}, block_pool.{specs.Pools.{PoolValue, ViewValue, grid_at, block_at, view_at, view_or, live_count, cells_of, total_of, IsLive, IsSole, KeepsBlocks}, proofs.{ChangeLaws.{get-gone_other, grid_kept, block_kept}, TotalLaws.{total-remove}}}, block_manager.{specs.{declared.spots.Spot.{Spot}, Managed.{ManagerValue, AreLive, StandsOn, times}, Changes.{EndsEach, Lays, grids_of}, Spots.{AreOn, Fits, Stands, IsOwn, AreOwnAt, is_at, grid_in, width_in, no_grid, marked, picked_cost, rows_at}, Groups.{IsFilled}}, proofs.{TimesLaws.{same, same_one, times-cons, times_here, times_place, live_in, live_once, live_some, live_is_one, free_is_none, live_view}, CountLaws.{one, counted-cons}, GridLaws.{grids_kept, grids_long}, SpotLaws.{spots_on, at_parts, at_itself, spot_there, spot_within, grid_there}, PlanLaws.{s0}, ChainLaws.{ends_each_other, ends_each_sole}, LayLaws.{lays_count, lays_kept}, RenewLaws.{still_live, renew_apart, renew_sole}}}}

-- sums over numbers below another one
abbrev below_sum : (ℕ → ℕ) → ℕ → ℕ
below_sum f zero = 0
below_sum f (suc n) = below_sum f n + f n

below_same : (f g : ℕ → ℕ) (n : ℕ) → ((k : ℕ) → k < n → f k ≡ g k) → below_sum f n ≡ below_sum g n
below_same f g zero same = refl
below_same f g (suc n) same = ap₂ (λ (a b : ℕ). a + b) (below_same f g n (λ k lt. same k (omega (arith, lt)))) (same n (omega arith))

below_plus : (f g : ℕ → ℕ) (n : ℕ) → below_sum (λ k. f k + g k) n ≡ below_sum f n + below_sum g n
below_plus f g zero = refl
below_plus f g (suc n) = omega (arith, below_plus f g n)

below_ones : (n : ℕ) → below_sum (λ k. 1) n ≡ n
below_ones zero = refl
below_ones (suc n) = omega (arith, below_ones n)

below_none : (f : ℕ → ℕ) (n : ℕ) → ((k : ℕ) → k < n → f k ≡ 0) → below_sum f n ≡ 0
below_none f zero none = refl
below_none f (suc n) none = omega (arith, below_none f n (λ k lt. none k (omega (arith, lt))), none n (omega arith))

-- where one number alone counts
below_one : (f : ℕ → ℕ) (x n : ℕ) → x < n → ((k : ℕ) → k ≢ x → f k ≡ 0) → below_sum f n ≡ f x
below_one f x zero lt none = absurd (omega (arith, lt))
below_one f x (suc n) lt none = elim (cases_eq n x) [
  | inl e ↦ omega (arith, below_none f n (λ k le. none k (λ z. omega (arith, z, e, le))), ap f e)
  | inr ne ↦ omega (arith, below_one f x n (omega (arith, lt, ne)) none, none n ne)
]

-- the spots on a view, by their columns
abbrev on_view : ℕ → Spot → Bool
on_view v s = s.view == v

and_false : (b : Bool) → cond {A = ℕ} (b && false) 1 0 ≡ 0
and_false true = refl
and_false false = refl

view_columns : (v w : ℕ) (spots : List Spot) → ((k : ℕ) (d : Spot) → k < length spots → (get_or spots k d).view ≡ v → (get_or spots k d).column < w) → count_by (on_view v) spots ≡ below_sum (λ c. count_by (is_at v c) spots) w
view_columns v w [] inside = sym (below_none (λ c. 0) w (λ k lt. refl))
view_columns v w (s ∷ spots) inside =
    counted-cons (on_view v) s spots
    ∙ ap₂ (λ (a b : ℕ). a + b) first (view_columns v w spots (λ k d lt. inside (suc k) d (omega (arith, lt))))
    ∙ sym (below_same (λ c. count_by (is_at v c) (s ∷ spots)) (λ c. one (is_at v c) s + count_by (is_at v c) spots) w (λ c lt. counted-cons (is_at v c) s spots) ∙ below_plus (λ c. one (is_at v c) s) (λ c. count_by (is_at v c) spots) w)
  where
    first : one (on_view v) s ≡ below_sum (λ c. one (is_at v c) s) w
    first = elim (cases_eq s.view v) [
      | inl e ↦
          let here : one (is_at v s.column) s ≡ 1 = ap (λ b. cond {A = ℕ} b 1 0) (at_itself v s.column s e refl) in
          let others : (c : ℕ) → c ≢ s.column → one (is_at v c) s ≡ 0 = λ c ne. ap (λ b. cond {A = ℕ} ((s.view == v) && b) 1 0) (ne_eqb s.column c (λ z. ne (sym z))) ∙ and_false (s.view == v) in
          ap (λ b. cond {A = ℕ} b 1 0) (eq-eqb s.view v e) ∙ sym (below_one (λ c. one (is_at v c) s) s.column w (inside 0 s (omega arith) e) others ∙ here)
      | inr ne ↦
          ap (λ b. cond {A = ℕ} b 1 0) (ne_eqb s.view v ne)
          ∙ sym (below_none (λ c. one (is_at v c) s) w (λ c lt. ap (λ b. cond {A = ℕ} (b && (s.column == c)) 1 0) (ne_eqb s.view v ne)))
    ]

once : (n : ℕ) → 1 * n ≡ n
once n = omega arith

never : (n : ℕ) → 0 * n ≡ 0
never n = omega arith

-- what spots cost by their views
views_cost : (f : ℕ → ℕ) (n : ℕ) (spots : List Spot) → AreOn n spots → sum_by (λ s. f s.view) spots ≡ below_sum (λ v. count_by (on_view v) spots * f v) n
views_cost f n [] on = sym (below_none (λ v. 0 * f v) n (λ k lt. omega arith))
views_cost f n (s ∷ spots) on =
    sum_by-cons (λ (t : Spot). f t.view) s spots
    ∙ ap₂ (λ (a b : ℕ). a + b) first (views_cost f n spots (λ k d lt. on (suc k) d (omega (arith, lt))))
    ∙ sym (below_same (λ v. count_by (on_view v) (s ∷ spots) * f v) (λ v. one (on_view v) s * f v + count_by (on_view v) spots * f v) n (λ v lt. ap (λ k. k * f v) (counted-cons (on_view v) s spots) ∙ add-mul (one (on_view v) s) (count_by (on_view v) spots) (f v))
    ∙ below_plus (λ v. one (on_view v) s * f v) (λ v. count_by (on_view v) spots * f v) n)
  where
    first : f s.view ≡ below_sum (λ v. one (on_view v) s * f v) n
    first =
        let here : one (on_view s.view) s ≡ 1 = ap (λ b. cond {A = ℕ} b 1 0) (eq-eqb s.view s.view refl) in
        sym (below_one (λ v. one (on_view v) s * f v) s.view n (on 0 s (omega arith)) (λ v ne. ap (λ b. cond {A = ℕ} b 1 0 * f v) (ne_eqb s.view v (λ z. ne (sym z))) ∙ never (f v)) ∙ ap (λ k. k * f s.view) here ∙ once (f s.view))

-- all columns are marked
picked_all : (f : ℕ → ℕ) (spots : List Spot) → picked_cost f (replicate (length spots) true) spots ≡ sum_by (λ s. f s.view) spots
picked_all f [] = refl
picked_all f (s ∷ spots) = ap (λ n. f s.view + n) (picked_all f spots) ∙ sym (sum_by-cons (λ (t : Spot). f t.view) s spots)

pub all_marked : (n k : ℕ) → k < n → marked (replicate n true) k ≡ true
all_marked zero k lt = absurd (omega (arith, lt))
all_marked (suc n) zero lt = refl
all_marked (suc n) (suc k) lt = all_marked n k (omega (arith, lt))

-- the cells of all grids, by the spots of their columns
grids_cost : (grids : List CellBlock) (k : ℕ) → k ≤ length grids → below_sum (λ v. width_in grids v * rows_at grids v) k ≡ sum (map cells_of (take k grids))
grids_cost grids zero le = refl
grids_cost grids (suc k) le =
    let lt : k < length grids = omega (arith, le) in
    let next : k + 1 ≡ suc k = omega arith in
    ap₂ (λ (a b : ℕ). a + b) (grids_cost grids k (omega (arith, le))) refl
    ∙ sym (ap (λ n. sum (map cells_of (take n grids))) (sym next) ∙ ap (λ (gs : List CellBlock). sum (map cells_of gs)) (take_more grids k no_grid lt) ∙ ap sum (map-append cells_of (take k grids) (grid_in grids k ∷ [])) ∙ sum_by_push (λ (n : ℕ). n) (map cells_of (take k grids)) (cells_of (grid_in grids k)))

pub copied_all : (grids : List CellBlock) (spots : List Spot) → Fits grids spots → AreOn (length grids) spots → picked_cost (rows_at grids) (replicate (length spots) true) spots ≡ sum (map cells_of grids)
copied_all grids spots fits on =
    picked_all (rows_at grids) spots
    ∙ views_cost (rows_at grids) (length grids) spots on
    ∙ below_same (λ v. count_by (on_view v) spots * rows_at grids v) (λ v. width_in grids v * rows_at grids v) (length grids) (λ v lt. ap (λ n. n * rows_at grids v) (many v))
    ∙ grids_cost grids (length grids) (omega arith)
    ∙ ap (λ (gs : List CellBlock). sum (map cells_of gs)) (take_all (length grids) grids (omega arith))
  where
    many : (v : ℕ) → count_by (on_view v) spots ≡ width_in grids v
    many v =
        view_columns v (width_in grids v) spots (λ k d lt e. subst (λ (u : ℕ). (get_or spots k d).column < width_in grids u) e (spot_within (width_in grids) spots fits.covers k d lt))
        ∙ below_same (λ c. count_by (is_at v c) spots) (λ c. 1) (width_in grids v) (λ c lt. fits.covers v c ∙ ap (λ b. cond {A = ℕ} b 1 0) (lt-ltb c (width_in grids v) lt))
        ∙ below_ones (width_in grids v)

-- views that are alone on their blocks end with these
module _ (old : PoolValue) where
  rest_live : (id : ℕ) (views : List ℕ) → AreLive old (id ∷ views) → AreLive old views
  rest_live id views live q = omega (arith, live q, times-cons q id views)

  alone_there : (id : ℕ) (views : List ℕ) → AreLive old (id ∷ views) → times id views ≡ 0
  alone_there id views live = omega (arith, live id, live_once old id, times-cons id id views, same_one id id refl)

  first_live : (id : ℕ) (views : List ℕ) → AreLive old (id ∷ views) → IsLive old id
  first_live id views live = live_some old id (omega (arith, live id, times-cons id id views, same_one id id refl))

  -- the blocks of others stay
  pub ends_each_blocks : (views : List ℕ) (new : PoolValue) → AreLive old views → All (IsSole old) views → EndsEach old views new → (q : ℕ) → times q views ≡ 0 → IsSole old q → get new.blocks (block_at old q) ≡ get old.blocks (block_at old q)
  ends_each_blocks [] new live sole ends q none alone = ap (λ (p : PoolValue). get p.blocks (block_at old q)) ends
  ends_each_blocks (id ∷ views) new live sole ends q none alone =
      let apart = alone_there id views live in
      let ne : id ≢ q = λ e. omega (arith, none, times-cons q id views, same_one q id e) in
      let there : get ends.0.views id ≡ get old.views id = ends_each_other old views ends.0 ends.1 id apart in
      let block : block_at ends.0 id ≡ block_at old id = block_kept old ends.0 id there in
      let differ : block_at old q ≢ block_at ends.0 id = λ e. alone id (view_at old id) (live_view old id (first_live id views live)) ne (sym block ∙ sym e) in
      ap (λ (b : FinMap nat_cmp ℕ). get b (block_at old q)) (ends.2.sole (ends_each_sole old views ends.0 ends.1 id apart (sole 0 id (omega arith))))
      ∙ get-gone_other ends.0.blocks (block_at ends.0 id) (block_at old q) differ
      ∙ ends_each_blocks views ends.0 (rest_live id views live) (λ k d lt. sole (suc k) d (omega (arith, lt))) ends.1 q (omega (arith, none, times-cons q id views)) alone

  -- as many cells as they show are not held any more
  pub ends_each_freed : (views : List ℕ) (new : PoolValue) → AreLive old views → All (IsSole old) views → ((id : ℕ) → 0 < times id views → (n : ℕ) × (get old.blocks (block_at old id) ≡ Some n) × (cells_of (grid_at old id) ≤ n)) → EndsEach old views new → total_of new + sum (map cells_of (grids_of old views)) ≤ total_of old
  ends_each_freed [] new live sole sizes ends = omega (arith, ap total_of ends)
  ends_each_freed (id ∷ views) new live sole sizes ends =
      let apart = alone_there id views live in
      let there : get ends.0.views id ≡ get old.views id = ends_each_other old views ends.0 ends.1 id apart in
      let block : block_at ends.0 id ≡ block_at old id = block_kept old ends.0 id there in
      let others : All (IsSole old) views = λ k d lt. sole (suc k) d (omega (arith, lt)) in
      let size = sizes id (omega (arith, times-cons id id views, same_one id id refl)) in
      let at : get ends.0.blocks (block_at ends.0 id) ≡ Some size.0 = ap (get ends.0.blocks) block ∙ ends_each_blocks views ends.0 (rest_live id views live) others ends.1 id apart (sole 0 id (omega arith)) ∙ size.1 in
      let gone : total_of new + size.0 ≡ total_of ends.0 = ap (λ (b : FinMap nat_cmp ℕ). sum (values b) + size.0) (ends.2.sole (ends_each_sole old views ends.0 ends.1 id apart (sole 0 id (omega arith)))) ∙ total-remove ends.0.blocks (block_at ends.0 id) size.0 at in
      omega (
        arith,
        gone,
        size.2,
        ends_each_freed views ends.0 (rest_live id views live) others (λ q some. sizes q (omega (arith, some, times-cons q id views))) ends.1,
        sum_by-cons (λ (n : ℕ). n) (cells_of (grid_at old id)) (map cells_of (grids_of old views)),
      )

-- the views of all columns, each marked
pub all_own : (pool : PoolValue) (views : List ℕ) (spots : List Spot) → Fits (grids_of pool views) spots → All (λ view. 0 < length (grid_at pool view).columns) views → AreOwnAt pool views spots (replicate (length spots) true) → (k : ℕ) → k < length views → IsOwn pool (slice_index views k)
all_own pool views spots fits some own k lt =
    let first : 0 < width_in (grids_of pool views) k = subst (λ (g : CellBlock). 0 < length g.columns) (sym (grid_there pool views k lt)) (some k 0 lt) in
    let found = spot_there (width_in (grids_of pool views)) spots fits.covers s0 k 0 first in
    let parts = at_parts k 0 (get_or spots found.0 s0) found.2 in
    subst (λ (v : ℕ). IsOwn pool (slice_index views v)) parts.0 (own found.0 found.1 (all_marked (length spots) found.0 found.1))

-- all columns of views that were alone on their blocks were copied, and these views ended
module _ (old mid new : PoolValue) (m : ManagerValue) (made : List ℕ) (stands : StandsOn old m) (sole : All (IsSole old) m.views) (lays : Lays old made mid) (own : (k : ℕ) → k < length made → IsOwn mid (slice_index made k)) (ended : EndsEach mid m.views new) where
  live_mid : AreLive mid m.views
  live_mid = still_live old mid made m.views lays stands.live

  own_at : (q : ℕ) → 0 < times q made → IsOwn mid q
  own_at q some = (let found = times_place q 0 made some in subst (IsOwn mid) found.2 (own found.0 found.1))

  -- they were alone all the time
  old_sole : All (IsSole mid) m.views
  old_sole k d lt other view there apart at = by (get old.views other) refl
    where
      v : ℕ
      v = get_or m.views k d

      live_old : IsLive old v
      live_old = live_in old m.views k d stands.live lt

      kept : get mid.views v ≡ get old.views v
      kept = lays_kept old made mid lays v live_old

      by : (o : Option ViewValue) → get old.views other ≡ o → ⊥
      by (Some w) is =
          let was : get old.views other ≡ Some view = sym (lays_kept old made mid lays other (ap is_some is)) ∙ there in
          sole k d lt other view was apart (at ∙ block_kept old mid v kept)
      by None is =
          let one : live_count mid other ≡ 1 = live_is_one mid other (ap is_some there) in
          let some : 0 < times other made = omega (arith, one, lays_count old made mid lays other, free_is_none old other is) in
          (own_at other some).sole v (view_at mid v) (live_view mid v (live_in mid m.views k d live_mid lt)) (λ z. apart (sym z)) (sym at ∙ sym (ap (λ (o : Option ViewValue). (view_or o).block) there))

  apart_from : (q : ℕ) → 0 < times q made → times q m.views ≡ 0
  apart_from q some = renew_apart old mid new made m.views lays stands.live ended q some

  same_view : (q : ℕ) → 0 < times q made → get new.views q ≡ get mid.views q
  same_view q some = ends_each_other mid m.views new ended q (apart_from q some)

  pub copied_grids : (q : ℕ) → 0 < times q made → grid_at new q ≡ grid_at mid q
  copied_grids q some = grid_kept mid new q (same_view q some)

  pub copied_sole : All (IsSole new) made
  copied_sole k d lt = (let q : ℕ = get_or made k d in let some = times_here made k d q lt refl in renew_sole old mid new made m.views lays stands.live ended q some (own_at q some).sole)

  pub copied_filled : All (λ view. 0 < length (grid_at mid view).columns) made → All (IsFilled new) made
  copied_filled wide k d lt =
      let q : ℕ = get_or made k d in
      let some = times_here made k d q lt refl in
      record {
        some = subst (λ (g : CellBlock). 0 < length g.columns) (sym (copied_grids q some)) (wide k d lt);
        full = ap (get new.blocks) (block_kept mid new q (same_view q some))
            ∙ ends_each_blocks mid m.views new live_mid old_sole ended q (apart_from q some) (own_at q some).sole
            ∙ (own_at q some).full
            ∙ ap (λ (g : CellBlock). Some (cells_of g)) (sym (copied_grids q some));
      }

  -- no more is held
  pub copied_held : KeepsBlocks mid → (spots : List Spot) → Stands old m.views spots → total_of mid ≡ total_of old + picked_cost (rows_at (grids_of old m.views)) (replicate (length spots) true) spots → total_of new ≤ total_of old
  copied_held keeps spots there held =
      let same : grids_of mid m.views ≡ grids_of old m.views = grids_kept old mid m.views (λ k lt. lays_kept old made mid lays (get_or m.views k 0) (live_in old m.views k 0 stands.live lt)) in
      let on : AreOn (length (grids_of old m.views)) spots = subst (λ n. AreOn n spots) (sym (grids_long old m.views)) (spots_on old m.views spots there) in
      let cost = copied_all (grids_of old m.views) spots there.fits on in
      let freed = ends_each_freed mid m.views new live_mid old_sole sizes ended in
      omega (arith, held, cost, freed, ap (λ (gs : List CellBlock). sum (map cells_of gs)) same)
    where
      sizes : (id : ℕ) → 0 < times id m.views → (n : ℕ) × (get mid.blocks (block_at mid id) ≡ Some n) × (cells_of (grid_at mid id) ≤ n)
      sizes id some =
          let live : IsLive mid id = live_some mid id (omega (arith, some, live_mid id)) in
          let there = live_view mid id live in
          ((view_at mid id).cells, keeps.lies id (view_at mid id) there, keeps.large id (view_at mid id) there)
