-- How many cells more a pool holds after a change. These laws are for callers.
use Rattle.{std.proofs.Common.{◌≡◌, ℕ, ◌+◌, ◌≤◌, ◌∙◌, refl, ap, sym, arith, List, map, Option, Some, None, inl, inr, cond}, std.proofs.lemmas.{Bool.{cases_eq, cases_lt}, List.{nil_from_length}}, std.specs.{Prelude.{sum}, Cmp.{nat_cmp_total}, FinMap.{FinMap, get, remove, empty, entries, values, get-empty, get-remove, len-empty, len-entries, same_map, nat_cmp-IsAntisymmetric}, Ordering.{nat_cmp}}, column_core.specs.Blocks.{CellBlock}, block_pool.{specs.Pools.{PoolValue, Adds, Shares, Owns, Ends, IsFree, IsSole, KeepsBlocks, total_of, cells_of, grid_at, block_at}, proofs.{TotalLaws.{total-insert, total-remove}, Slots.{tied, apart_keys}}}}

abbrev total : FinMap nat_cmp ℕ → ℕ
total m = sum (values m)

-- a new block is held with its cells
pub adds_held : (old new : PoolValue) (id : ℕ) (grid : CellBlock) → Adds old new id grid → total_of new ≡ total_of old + cells_of grid
adds_held old new id grid a = ap total a.blocks ∙ total-insert old.blocks a.block (cells_of grid) a.new_block.unknown

pub owns_held : (old new : PoolValue) (id : ℕ) → Owns old new id → total_of new ≡ total_of old + cells_of (grid_at old id)
owns_held old new id a = ap total a.blocks ∙ total-insert old.blocks a.block (cells_of (grid_at old id)) a.new_block.unknown

-- a view more holds nothing more
pub shares_held : (old new : PoolValue) (id from : ℕ) (grid : CellBlock) → Shares old new id from grid → total_of new ≡ total_of old
shares_held old new id from grid a = ap total a.blocks

fewer : (m : FinMap nat_cmp ℕ) (k : ℕ) → total (remove m k) ≤ total m
fewer m k = at (get m k) refl
  where
    at : (o : Option ℕ) → get m k ≡ o → total (remove m k) ≤ total m
    at (Some n) is = omega (arith, total-remove m k n is)
    at None is =
        let same : remove m k ≡ m = same_map nat_cmp_total nat_cmp-IsAntisymmetric _ _ (λ q. get-remove nat_cmp_total m k q ∙ elim (cases_eq q k) [
          | inl e ↦ ap (λ b. cond b None (get m q)) (tied q k e) ∙ sym is ∙ ap (get m) (sym e)
          | inr ne ↦ ap (λ b. cond b None (get m q)) (apart_keys q k ne)
        ]) in
        omega (arith, ap total same)

-- a view that ended: its block goes or stays, and either way no more is held
pub ends_held : (old new : PoolValue) (id : ℕ) → Ends old new id → total_of new ≤ total_of old
ends_held old new id a = elim (cases_lt (total_of old) (total_of new)) [
  | inl more ↦
      let shared : ¬ IsSole old id = λ sole. omega (arith, more, ap total (a.sole sole), fewer old.blocks (block_at old id)) in
      absurd (omega (arith, more, ap total (a.shared shared)))
  | inr le ↦ omega (arith, le)
]

-- where no view is live nothing is held
pub none_held : (pool : PoolValue) → KeepsBlocks pool → ((id : ℕ) → IsFree pool id) → total_of pool ≡ 0
none_held pool keeps free =
    let none : pool.blocks ≡ empty = same_map nat_cmp_total nat_cmp-IsAntisymmetric _ _ (λ b. no_block b (get pool.blocks b) refl ∙ sym (get-empty nat_cmp b)) in
    ap total none ∙ ap (λ (es : List (ℕ × ℕ)). sum (map (λ e. e.1) es)) (nil_from_length (entries empty) (sym (len-entries empty) ∙ len-empty nat_cmp ℕ))
  where
    no_block : (b : ℕ) (o : Option ℕ) → get pool.blocks b ≡ o → o ≡ None
    no_block b None is = refl
    no_block b (Some n) is = let used = keeps.used b n is in let wrong : Some used.1 ≡ None = sym used.2 ∙ free used.0 in cc
