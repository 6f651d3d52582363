-- How often views stand in lists, and how often they are live.
use Rattle.{std.proofs.Common.{◌≡◌, ◌≢◌, ℕ, zero, suc, ◌+◌, ◌<◌, ◌≤◌, List, [], ◌∷◌, length, refl, ap, arith, Option, Some, None, IsSome, cond, get_or, eq-eqb, inl, inr}, std.proofs.lemmas.{Bool.{cases_eq, ne_eqb, false≢true}, List.Sums.{sum_by-cons, get_or-le-sum_by}}, std.specs.{Prelude.{is_some, ◌==◌}, FinMap.{get}}, block_pool.specs.Pools.{PoolValue, ViewValue, live_count, view_at, view_or, IsLive, IsFree}, block_manager.specs.Managed.{times, AreLive}}

-- 1 for the view itself, and else 0
abbrev pub same : ℕ → ℕ → ℕ
same q id = cond (id == q) 1 0

pub same_one : (q id : ℕ) → id ≡ q → same q id ≡ 1
same_one q id e = rw (eq-eqb id q e) refl

pub same_none : (q id : ℕ) → id ≢ q → same q id ≡ 0
same_none q id ne = rw (ne_eqb id q ne) refl

pub times-cons : (q x : ℕ) (xs : List ℕ) → times q (x ∷ xs) ≡ same q x + times q xs
times-cons q x xs = sum_by-cons (same q) x xs

pub times_here : (xs : List ℕ) (i d q : ℕ) → i < length xs → get_or xs i d ≡ q → 0 < times q xs
times_here xs i d q lt e = omega (arith, get_or-le-sum_by (same q) xs i d lt, same_one q (get_or xs i d) e)

-- what stands in a list has a place there
pub times_place : (q d : ℕ) (xs : List ℕ) → 0 < times q xs → (k : ℕ) × (k < length xs) × (get_or xs k d ≡ q)
times_place q d [] some = absurd (omega (arith, some))
times_place q d (x ∷ xs) some = elim (cases_eq x q) [
  | inl e ↦ (zero, omega arith, e)
  | inr ne ↦
      let rest = times_place q d xs (omega (arith, some, times-cons q x xs, same_none q x ne)) in
      (suc rest.0, omega (arith, rest.1), rest.2)
]

pub times_twice : (q d : ℕ) (xs : List ℕ) (i j : ℕ) → i < j → j < length xs → get_or xs i d ≡ q → get_or xs j d ≡ q → 1 < times q xs
times_twice q d [] i j lt below a b = absurd (omega (arith, below))
times_twice q d (x ∷ xs) i zero lt below a b = absurd (omega (arith, lt))
times_twice q d (x ∷ xs) zero (suc j) lt below a b =
    omega (arith, times-cons q x xs, same_one q x a, times_here xs j d q (omega (arith, below)) b)
times_twice q d (x ∷ xs) (suc i) (suc j) lt below a b =
    omega (arith, times-cons q x xs, times_twice q d xs i j (omega (arith, lt)) (omega (arith, below)) a b)

-- a view is live once or not at all
pub live_once : (pool : PoolValue) (q : ℕ) → live_count pool q ≤ 1
live_once pool q = at (get pool.views q)
  where
    at : (o : Option ViewValue) → cond {A = ℕ} (is_some o) 1 0 ≤ 1
    at None = omega arith
    at (Some v) = omega arith

pub live_some : (pool : PoolValue) (q : ℕ) → 0 < live_count pool q → IsLive pool q
live_some pool q some = at (get pool.views q) some
  where
    at : (o : Option ViewValue) → 0 < cond {A = ℕ} (is_some o) 1 0 → IsSome o
    at None some = absurd (omega (arith, some))
    at (Some v) some = refl

pub live_is_one : (pool : PoolValue) (q : ℕ) → IsLive pool q → live_count pool q ≡ 1
live_is_one pool q live = at (get pool.views q) live
  where
    at : (o : Option ViewValue) → IsSome o → cond {A = ℕ} (is_some o) 1 0 ≡ 1
    at None live = absurd (false≢true live)
    at (Some v) live = refl

pub free_is_none : (pool : PoolValue) (q : ℕ) → IsFree pool q → live_count pool q ≡ 0
free_is_none pool q free = ap (λ (o : Option ViewValue). cond {A = ℕ} (is_some o) 1 0) free

-- a view of the list is live
pub live_in : (pool : PoolValue) (views : List ℕ) (i d : ℕ) → AreLive pool views → i < length views → IsLive pool (get_or views i d)
live_in pool views i d live lt =
    live_some pool (get_or views i d) (omega (arith, live (get_or views i d), times_here views i d (get_or views i d) lt refl))

-- a view that is the same is as live
pub live_same : (old new : PoolValue) (q : ℕ) → get new.views q ≡ get old.views q → live_count new q ≡ live_count old q
live_same old new q same = ap (λ (o : Option ViewValue). cond {A = ℕ} (is_some o) 1 0) same

-- a live view is what is seen of it
pub live_view : (pool : PoolValue) (q : ℕ) → IsLive pool q → get pool.views q ≡ Some (view_at pool q)
live_view pool q live = at (get pool.views q) live
  where
    at : (o : Option ViewValue) → IsSome o → o ≡ Some (view_or o)
    at None live = absurd (false≢true live)
    at (Some v) live = refl
