-- What is seen of a pool, and which views are alone on their blocks.
use Rattle.{std.proofs.Common.{◌≡◌, ◌≢◌, ℕ, zero, suc, ◌+◌, ◌<◌, ◌≤◌, ◌^◌, Bool, true, false, List, [], ◌∷◌, length, refl, ap, ap₂, sym, ◌∙◌, subst, arith, Option, Some, None, IsSome, slice_index_or, cond, sum_by, count_by, eq-eqb, get_or-set_other}, std.proofs.lemmas.{Bool.{false≢true, eqb-true, ne_eqb}, List.{length-set}, List.Sums.{sum_by-cons, sum_by-set, get_or-le-sum_by}}, std.specs.{Prelude.{sum, is_some, ◌==◌}, Option.{option_map}, FinMap.{FinMap, get, values, same_map, get-empty, nat_cmp-IsAntisymmetric}, Cmp.{nat_cmp_total}, Ordering.{nat_cmp}}, std.proofs.Common.{set}, block_pool.{specs.{declared.{views.View.{View}, lots.Lot.{Lot}}, Pools.{ViewValue, PoolValue, view_or, view_at, grid_at, block_at, cells_of, IsLive, IsFree, IsSole, IsNewBlock, empty_pool, total_of, held_of}, Placed.{slot, shown_grid, block_of, size_of, users_of, lot_cells, seen_over, pool_value, lies_on, IsEven, IsPlaced, IsPool}}, proofs.Slots.{get-slots_map, sum-mapped, get-mapped, size_within}}}

-- one where a view lies on the block, and none else
abbrev pub on : ℕ → Option View → ℕ
on b o = cond {A = ℕ} (lies_on b o) 1 0

abbrev pub one_if_some : Option View → ℕ
one_if_some o = cond {A = ℕ} (is_some o) 1 0

pub on_same : (b : ℕ) (v : View) → v.block ≡ b → on b (Some v) ≡ 1
on_same b v e = ap (λ t. cond {A = ℕ} t 1 0) (eq-eqb v.block b e)

pub on_other : (b : ℕ) (v : View) → v.block ≢ b → on b (Some v) ≡ 0
on_other b v ne = ap (λ t. cond {A = ℕ} t 1 0) (ne_eqb v.block b ne)

live_some : {X Y : Type 0} (f : X → Y) (o : Option X) → IsSome (option_map f o) → IsSome o
live_some f None h = h
live_some f (Some x) h = refl

pub of_some : {X Y : Type 0} (f : X → Y) (o : Option X) (y : Y) → option_map f o ≡ Some y → (x : X) × (o ≡ Some x) × (f x ≡ y)
of_some f None y e = cc
of_some f (Some x) y e = (x, refl, cc)

pub some_users : (o : Option Lot) → 0 < users_of o → IsSome o
some_users None h = absurd (omega (arith, h))
some_users (Some lot) h = refl

pub the_lot : (o : Option Lot) → IsSome o → (lot : Lot) × (o ≡ Some lot)
the_lot None h = absurd (false≢true h)
the_lot (Some lot) h = (lot, refl)

-- a block without columns
pub no_block_even : IsEven (block_of None)
no_block_even = record { each = λ k d lt. absurd (omega (arith, lt)); short = omega arith }

module _ (lots : List (Option Lot)) (views : List (Option View)) (spare : ℕ) where
  abbrev seen_pool : PoolValue
  seen_pool = pool_value lots views spare

  pub get_view : (id : ℕ) → get seen_pool.views id ≡ option_map (seen_over lots) (slot views id)
  get_view id = get-mapped (seen_over lots) views id

  pub get_block : (b : ℕ) → get seen_pool.blocks b ≡ option_map lot_cells (slot lots b)
  get_block b = get-mapped lot_cells lots b

  -- a live view stands in its slot
  pub live_slot : (pool : PoolValue) → seen_pool ≡ pool → (id : ℕ) → IsLive pool id → IsSome (slot views id)
  live_slot pool e id h = live_some (seen_over lots) _ (subst IsSome (ap (λ (p : PoolValue). get p.views id) (sym e) ∙ get_view id) h)

  pub is_seen : (id : ℕ) (v : View) → slot views id ≡ Some v → get seen_pool.views id ≡ Some (seen_over lots v)
  is_seen id v is = get_view id ∙ ap (option_map (seen_over lots)) is

  pub seen_is : (pool : PoolValue) → seen_pool ≡ pool → (id : ℕ) (v : View) → slot views id ≡ Some v → view_at pool id ≡ seen_over lots v
  seen_is pool e id v is = ap (λ (p : PoolValue). view_at p id) (sym e) ∙ ap view_or (is_seen id v is)

  pub grid_is : (pool : PoolValue) → seen_pool ≡ pool → (id : ℕ) (v : View) → slot views id ≡ Some v → grid_at pool id ≡ shown_grid (block_of (slot lots v.block)) v
  grid_is pool e id v is = ap (λ (s : ViewValue). s.grid) (seen_is pool e id v is)

  pub block_is : (pool : PoolValue) → seen_pool ≡ pool → (id : ℕ) (v : View) → slot views id ≡ Some v → block_at pool id ≡ v.block
  block_is pool e id v is = ap (λ (s : ViewValue). s.block) (seen_is pool e id v is)

  pub size_is : (pool : PoolValue) → seen_pool ≡ pool → (id : ℕ) (v : View) → slot views id ≡ Some v → (view_at pool id).cells ≡ cells_of (block_of (slot lots v.block))
  size_is pool e id v is = ap (λ (s : ViewValue). s.cells) (seen_is pool e id v is)

  pub spare_is : (pool : PoolValue) → seen_pool ≡ pool → spare ≡ pool.spare
  spare_is pool e = ap (λ (p : PoolValue). p.spare) e

  -- an empty slot is the number of no live view
  pub free_slot : (pool : PoolValue) → seen_pool ≡ pool → (id : ℕ) → slot views id ≡ None → IsFree pool id
  free_slot pool e id is = ap (λ (p : PoolValue). get p.views id) (sym e) ∙ get_view id ∙ ap (option_map (seen_over lots)) is

  free_block : (pool : PoolValue) → seen_pool ≡ pool → (b : ℕ) → slot lots b ≡ None → get pool.blocks b ≡ None
  free_block pool e b is = ap (λ (p : PoolValue). get p.blocks b) (sym e) ∙ get_block b ∙ ap (option_map lot_cells) is

  -- a live view over its lot
  pub placed_on : (capacity held : ℕ) → IsPool lots views spare capacity held → (id : ℕ) (v : View) (lot : Lot) → slot views id ≡ Some v → slot lots v.block ≡ Some lot → IsPlaced lot.block v
  placed_on capacity held ok id v lot is there = subst (λ (o : Option Lot). IsPlaced (block_of o) v) there (ok.placed id v is)

  pub even_on : (capacity held : ℕ) → IsPool lots views spare capacity held → (b : ℕ) (lot : Lot) → slot lots b ≡ Some lot → IsEven lot.block
  even_on capacity held ok b lot there = subst (λ (o : Option Lot). IsEven (block_of o)) there (ok.even b)

  pub grid_on : (pool : PoolValue) → seen_pool ≡ pool → (id : ℕ) (v : View) (lot : Lot) → slot views id ≡ Some v → slot lots v.block ≡ Some lot → grid_at pool id ≡ shown_grid lot.block v
  grid_on pool e id v lot is there = grid_is pool e id v is ∙ ap (λ (o : Option Lot). shown_grid (block_of o) v) there

  module _ (capacity held : ℕ) (ok : IsPool lots views spare capacity held) where
    -- the block of a live view has users, and so a lot
    pub some_user : (id : ℕ) (v : View) → slot views id ≡ Some v → 0 < users_of (slot lots v.block)
    some_user id v is = omega (arith, ok.counted v.block, size_within (on v.block) refl views id, ap (on v.block) is, on_same v.block v refl)

    pub live_lot : (id : ℕ) (v : View) → slot views id ≡ Some v → IsSome (slot lots v.block)
    live_lot id v is = some_users (slot lots v.block) (some_user id v is)

    -- an empty slot is the name of no block, and no live view lies there
    pub block_new : (pool : PoolValue) → seen_pool ≡ pool → (b : ℕ) → slot lots b ≡ None → IsNewBlock pool b
    block_new pool e b is = record {
      unknown = free_block pool e b is;
      unused = λ id view there same.
          let w = of_some (seen_over lots) (slot views id) view (sym (get_view id) ∙ ap (λ (p : PoolValue). get p.views id) e ∙ there) in
          let at : w.0.block ≡ b = ap (λ (s : ViewValue). s.block) w.2 ∙ same in
          omega (arith, some_user id w.0 w.1, ap (λ i. users_of (slot lots i)) at, ap users_of is);
    }

    -- there are no more users than views
    pub few_users : (b : ℕ) → users_of (slot lots b) ≤ count_by is_some views
    few_users b = omega (arith, ok.counted b, fewer views)
      where
        fewer : (views : List (Option View)) → count_by (lies_on b) views ≤ count_by is_some views
        fewer [] = omega arith
        fewer (None ∷ views) = omega (arith, fewer views, sum_by-cons (on b) None views, sum_by-cons one_if_some None views)
        fewer (Some v ∷ views) = omega (arith, fewer views, sum_by-cons (on b) (Some v) views, sum_by-cons one_if_some (Some v) views, least (v.block == b))
          where
            least : (t : Bool) → cond {A = ℕ} t 1 0 ≤ 1
            least true = omega arith
            least false = omega arith

    -- the cells of a block are among those that are held
    pub size_held : (b : ℕ) → size_of (slot lots b) ≤ held
    size_held b = omega (arith, ok.cells, size_within size_of refl lots b)

-- of two slots that pass, the count is two or more
inside : {X : Type 0} (p : X → Bool) (xs : List X) (i : ℕ) (d : X) → p d ≡ false → p (slice_index_or xs i d) ≡ true → i < length xs
inside p [] i d out a = absurd (false≢true (sym out ∙ a))
inside p (x ∷ xs) zero d out a = omega arith
inside p (x ∷ xs) (suc i) d out a = let h = inside p xs i d out a in omega (arith, h)

one : {X : Type 0} (p : X → Bool) (x : X) → p x ≡ true → ◌≡◌ {A = ℕ} (cond (p x) 1 0) 1
one p x h = ap (λ b. cond {A = ℕ} b 1 0) h

count_two : {X : Type 0} (p : X → Bool) (xs : List X) (i j : ℕ) (d : X) → i ≢ j → p d ≡ false → p (slice_index_or xs i d) ≡ true → p (slice_index_or xs j d) ≡ true → 2 ≤ count_by p xs
count_two p xs i j d ne out a b =
    let other : j ≢ i = λ e. ne (sym e) in
    let within = inside p xs i d out a in
    let within_set : j < length (set xs i d) = omega (arith, length-set xs i d, inside p xs j d out b) in
    let less = sum_by-set (λ x. cond {A = ℕ} (p x) 1 0) xs i d d within in
    let first : ◌≡◌ {A = ℕ} (cond (p (slice_index_or xs i d)) 1 0) 1 = one p _ a in
    let second : ◌≡◌ {A = ℕ} (cond (p (slice_index_or (set xs i d) j d)) 1 0) 1 = one p _ (ap p (get_or-set_other xs i j d d other) ∙ b) in
    let least = get_or-le-sum_by (λ x. cond {A = ℕ} (p x) 1 0) (set xs i d) j d within_set in
    let gone : ◌≡◌ {A = ℕ} (cond (p d) 1 0) 0 = ap (λ b. cond {A = ℕ} b 1 0) out in
    omega (arith, less, first, second, least)

some_passes : {X : Type 0} (p : X → Bool) (xs : List X) (d : X) → 1 ≤ count_by p xs → (j : ℕ) × (p (slice_index_or xs j d) ≡ true)
some_passes p [] d h = absurd (omega arith)
some_passes p (x ∷ xs) d h =
    elim (p x) as (λ b. p x ≡ b → 1 ≤ cond b 1 0 + count_by p xs → (j : ℕ) × (p (slice_index_or (x ∷ xs) j d) ≡ true)) [
      | true ↦ λ e k. (zero, e)
      | false ↦ λ e k. let r = some_passes p xs d (omega (arith, k)) in (suc r.0, r.1)
    ] refl (rw (sum_by-cons) at h)

another : {X : Type 0} (p : X → Bool) (xs : List X) (i : ℕ) (d : X) → p (slice_index_or xs i d) ≡ true → 2 ≤ count_by p xs → (j : ℕ) × (j ≢ i) × (p (slice_index_or xs j d) ≡ true)
another p [] i d a h = absurd (omega arith)
another p (x ∷ xs) zero d a h =
    let r = some_passes p xs d (omega (arith, one p x a, sum_by-cons (λ y. cond {A = ℕ} (p y) 1 0) x xs, h)) in
    (suc r.0, λ e. omega arith, r.1)
another p (x ∷ xs) (suc i) d a h =
    elim (p x) as (λ b. p x ≡ b → 2 ≤ cond b 1 0 + count_by p xs → (j : ℕ) × (j ≢ suc i) × (p (slice_index_or (x ∷ xs) j d) ≡ true)) [
      | true ↦ λ e k. (zero, λ z. omega arith, e)
      | false ↦ λ e k. let r = another p xs i d a (omega (arith, k)) in (suc r.0, λ z. r.1 (omega arith), r.2)
    ] refl (rw (sum_by-cons) at h)

on_block : (b : ℕ) (o : Option View) (v : View) → o ≡ Some v → v.block ≡ b → lies_on b o ≡ true
on_block b o v e h = ap (lies_on b) e ∙ eq-eqb v.block b h

of_block : (b : ℕ) (o : Option View) → lies_on b o ≡ true → (v : View) × (o ≡ Some v) × (v.block ≡ b)
of_block b None h = absurd (false≢true h)
of_block b (Some v) h = (v, refl, eqb-true v.block b h)

-- a block with a user has a view
pub a_user : (b : ℕ) (views : List (Option View)) → 1 ≤ count_by (lies_on b) views → (id : ℕ) × (v : View) × (slot views id ≡ Some v) × (v.block ≡ b)
a_user b views some =
    let r = some_passes (lies_on b) views None some in
    let w = of_block b _ r.1 in
    (r.0, w.0, w.1, w.2)

module _ (lots : List (Option Lot)) (views : List (Option View)) (spare capacity held : ℕ) (ok : IsPool lots views spare capacity held) (pool : PoolValue) (e : pool_value lots views spare ≡ pool) (id : ℕ) (v : View) (is : slot views id ≡ Some v) where
  -- two live views on one block are two users
  pub two_users : (q : ℕ) (w : View) → q ≢ id → slot views q ≡ Some w → w.block ≡ v.block → 1 < users_of (slot lots v.block)
  two_users q w ne there same =
      omega (arith, ok.counted v.block, count_two (lies_on v.block) views id q None (λ z. ne (sym z)) refl (on_block v.block _ v is refl) (on_block v.block _ w there same))

  -- one user: no other view
  pub sole_from_users : users_of (slot lots v.block) ≡ 1 → IsSole pool id
  sole_from_users single = subst (λ (p : PoolValue). IsSole p id) e (λ other seen there ne same.
      let w = of_some (seen_over lots) (slot views other) seen (sym (get_view lots views spare other) ∙ there) in
      let at : seen.block ≡ w.0.block = ap (λ (s : ViewValue). s.block) (sym w.2) in
      let here : block_at (pool_value lots views spare) id ≡ v.block = block_is lots views spare _ refl id v is in
      omega (arith, two_users other w.0 ne w.1 (sym at ∙ same ∙ here), single))

  -- no other view: one user
  pub users_from_sole : IsSole pool id → users_of (slot lots v.block) ≡ 1
  users_from_sole sole =
      let alone : IsSole (pool_value lots views spare) id = subst (λ (p : PoolValue). IsSole p id) (sym e) sole in
      let here : block_at (pool_value lots views spare) id ≡ v.block = block_is lots views spare _ refl id v is in
      let none_else : 2 ≤ count_by (lies_on v.block) views → ⊥ = λ many.
      (let r = another (lies_on v.block) views id None (on_block v.block _ v is refl) many in
      let w = of_block v.block _ r.2 in
      alone r.0 (seen_over lots w.0) (is_seen lots views spare r.0 w.0 w.1) r.1 (w.2 ∙ sym here)) in
      omega (arith, some_user lots views spare capacity held ok id v is, ok.counted v.block, none_else)

  -- more users: another view
  pub shared_users : ¬ IsSole pool id → 1 < users_of (slot lots v.block)
  shared_users many =
      let not_one : users_of (slot lots v.block) ≡ 1 → ⊥ = λ single. many (sole_from_users single) in
      omega (arith, some_user lots views spare capacity held ok id v is, not_one)

-- a view over a lot with several users isn't alone
pub not_sole : (lots : List (Option Lot)) (views : List (Option View)) (spare capacity held : ℕ) → IsPool lots views spare capacity held → (pool : PoolValue) → pool_value lots views spare ≡ pool → (id : ℕ) (v : View) (lot : Lot) → slot views id ≡ Some v → slot lots v.block ≡ Some lot → (lot.users ≡ 1 → ⊥) → IsSole pool id → ⊥
not_sole lots views spare capacity held ok pool e id v lot is there many sole = many (ap users_of (sym there) ∙ users_from_sole lots views spare capacity held ok pool e id v is sole)

pub many_users : (lots : List (Option Lot)) (views : List (Option View)) (spare capacity held : ℕ) → IsPool lots views spare capacity held → (id : ℕ) (v : View) (lot : Lot) → slot views id ≡ Some v → slot lots v.block ≡ Some lot → (lot.users ≡ 1 → ⊥) → 1 < users_of (slot lots v.block)
many_users lots views spare capacity held ok id v lot is there many =
    let some = some_user lots views spare capacity held ok id v is in
    let same : users_of (slot lots v.block) ≡ lot.users = ap users_of there in
    let not_one : users_of (slot lots v.block) ≡ 1 → ⊥ = λ z. many (sym same ∙ z) in
    omega (arith, some, not_one)

-- the same slots with other room
pub grown_pool : (lots lots' : List (Option Lot)) (views views' : List (Option View)) (spare spare' capacity capacity' held : ℕ) → IsPool lots views spare capacity held → lots' ≡ lots → views' ≡ views → count_by is_some views' + spare' ≤ capacity' → IsPool lots' views' spare' capacity' held
grown_pool lots lots' views views' spare spare' capacity capacity' held ok l v room = rw l (rw v (record {
  placed = ok.placed;
  counted = ok.counted;
  used = ok.used;
  even = ok.even;
  room = subst (λ (w : List (Option View)). count_by is_some w + spare' ≤ capacity') v room;
  cells = ok.cells;
}))

-- nothing
pub new_pool : pool_value [] [] 0 ≡ empty_pool
new_pool =
    ap₂ (λ (v : FinMap nat_cmp ViewValue) (b : FinMap nat_cmp ℕ). record { views = v; blocks = b; spare = 0 })
    (same_map nat_cmp_total nat_cmp-IsAntisymmetric _ _ (λ q. get-slots_map [] q ∙ sym (get-empty nat_cmp q)))
    (same_map nat_cmp_total nat_cmp-IsAntisymmetric _ _ (λ q. get-slots_map [] q ∙ sym (get-empty nat_cmp q)))

pub new_is_pool : IsPool [] [] 0 0 0
new_is_pool = record {
  placed = λ id v is. cc;
  counted = λ b. refl;
  used = λ b live. absurd (false≢true live);
  even = λ b. no_block_even;
  room = omega arith;
  cells = refl;
}

-- the cells that are held
pub held_is : (lots : List (Option Lot)) (views : List (Option View)) (spare held : ℕ) (pool : PoolValue) → pool_value lots views spare ≡ pool → held ≡ sum_by size_of lots → held < 2 ^ 64 → held ≡ held_of pool
held_is lots views spare held pool e is small =
    let all : sum (values (pool_value lots views spare).blocks) ≡ held = sum-mapped lot_cells size_of refl (λ lot. refl) lots ∙ sym is in
    let here : total_of pool ≡ held = ap total_of (sym e) ∙ all in
    omega (arith, here, small)

pub total_small : (lots : List (Option Lot)) (views : List (Option View)) (spare capacity held : ℕ) → IsPool lots views spare capacity held → (pool : PoolValue) → pool_value lots views spare ≡ pool → held < 2 ^ 64 → total_of pool < 2 ^ 64
total_small lots views spare capacity held ok pool e small =
    subst (λ n. n < 2 ^ 64) (ok.cells ∙ sym (sum-mapped lot_cells size_of refl (λ x. refl) lots) ∙ ap total_of e) small

pub total_is : (lots : List (Option Lot)) (views : List (Option View)) (spare capacity held : ℕ) → IsPool lots views spare capacity held → (pool : PoolValue) → pool_value lots views spare ≡ pool → held ≡ total_of pool
total_is lots views spare capacity held ok pool e = ok.cells ∙ sym (sum-mapped lot_cells size_of refl (λ x. refl) lots) ∙ ap total_of e
