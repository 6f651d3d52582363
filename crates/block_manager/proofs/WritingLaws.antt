-- Cells that are set in columns.
use Rattle.{
  std.proofs.Common.{◌≡◌, ◌≢◌, ℕ, zero, suc, ◌+◌, ◌/◌, ◌%◌, ◌<◌, List, [], ◌∷◌, drop, length, refl, ap, sym, ◌∙◌, subst, arith, get_or, All, length-set, Some},
  std.proofs.lemmas.{Option.{get_or_from_slice_get, slice_get_within}},
  std.proofs.Math.Seq.{drop-cons},
  std.specs.{Prelude.{slice_index_or, slice_index, slice_set, slice_get}, FinMap.{FinMap}, Ordering.{nat_cmp}},
  cell_core.specs.declared.cell.{Kind.{Kind}, Cell.{Cell}, Cell.TheVariants.{Na}},
  meaning_tables.specs.{Table.{ColumnOf, column_at, no_column}, Change.{with_cell_at, with_cell, with_values_from}},
  block_pool.specs.Pools.{PoolValue, total_of},
  block_manager.{specs.{Parts.{IsHeld, AreBelow, AreHeld, AreRowsIn}, Managed.{times, Exchanges, Keeps, RaisesBy, StayOnBlocks}, Changes.{Writes}}, proofs.TimesLaws.{live_once}},
}

-- lists that have the same items
same_by : {X : Type 0} (xs ys : List X) → length ys ≡ length xs → ((k : ℕ) (d : X) → k < length xs → get_or ys k d ≡ get_or xs k d) → ys ≡ xs
same_by [] [] e same = refl
same_by [] (y ∷ ys) e same = absurd (omega (arith, e))
same_by (a ∷ xs) [] e same = absurd (omega (arith, e))
same_by (a ∷ xs) (y ∷ ys) e same =
    let first : y ≡ a = same 0 y (omega arith) in
    let rest : ys ≡ xs = same_by xs ys (omega (arith, e)) (λ k d lt. same (suc k) d (omega (arith, lt))) in
    cc

-- a list of which one item is another one
pub set_by : {X : Type 0} (xs ys : List X) (i : ℕ) (x : X) → length ys ≡ length xs → ((k : ℕ) (d : X) → k < length xs → k ≢ i → get_or ys k d ≡ get_or xs k d) → ((d : X) → i < length xs → get_or ys i d ≡ x) → ys ≡ slice_set xs i x
set_by [] [] i x e other here = refl
set_by [] (y ∷ ys) i x e other here = absurd (omega (arith, e))
set_by (a ∷ xs) [] i x e other here = absurd (omega (arith, e))
set_by (a ∷ xs) (y ∷ ys) zero x e other here =
    let first : y ≡ x = here y (omega arith) in
    let rest : ys ≡ xs = same_by xs ys (omega (arith, e)) (λ k d lt. other (suc k) d (omega (arith, lt)) (λ z. omega (arith, z))) in
    cc
set_by (a ∷ xs) (y ∷ ys) (suc i) x e other here =
    let first : y ≡ a = other 0 y (omega arith) (λ z. omega (arith, z)) in
    let rest : ys ≡ slice_set xs i x = set_by xs ys i x (omega (arith, e)) (λ k d lt ne. other (suc k) d (omega (arith, lt)) (λ z. ne (omega (arith, z)))) (λ d lt. here d (omega (arith, lt))) in
    cc

pub writes_none : (old : PoolValue) (views : List ℕ) → Writes old old views
writes_none old views = record { live = λ q. refl; kept = λ q none. refl; lies = record { blocks = refl; lies = λ q. refl } }

pub writes_more : (old mid new : PoolValue) (views : List ℕ) → Writes old mid views → Writes mid new views → Writes old new views
writes_more old mid new views a b = record {
  live = λ q. b.live q ∙ a.live q;
  kept = λ q none. b.kept q none ∙ a.kept q none;
  lies = record { blocks = b.lies.blocks ∙ a.lies.blocks; lies = λ q. b.lies.lies q ∙ a.lies.lies q };
}

-- columns of the same kinds and lengths
pub record AreAlike (now first : List (ColumnOf Cell)) : Type 0 where
  pub kinds : (place : ℕ) → (column_at now place).kind ≡ (column_at first place).kind
  pub lengths : (place : ℕ) → length (column_at now place).cells ≡ length (column_at first place).cells

-- an item is replaced by one that f cannot tell from it
set_seen : {X Y : Type 0} (f : X → Y) (xs : List X) (i q : ℕ) (x d : X) → f x ≡ f (slice_index_or xs i d) → f (slice_index_or (slice_set xs i x) q d) ≡ f (slice_index_or xs q d)
set_seen f (y ∷ ys) zero zero x d h = h
set_seen f (y ∷ ys) (suc i) (suc q) x d h = set_seen f ys i q x d h
set_seen f [] i q x d h = refl
set_seen f (y ∷ ys) i q x d h = refl

pub alike_self : (columns : List (ColumnOf Cell)) → AreAlike columns columns
alike_self columns = record { kinds = λ q. refl; lengths = λ q. refl }

pub alike_put : (now now' first : List (ColumnOf Cell)) (place row : ℕ) (cell : Cell) → AreAlike now first → now' ≡ with_cell now place row cell → AreAlike now' first
alike_put now _ first place row cell alike is = rw is (record {
  kinds = λ q. set_seen (λ c. c.kind) now place q (with_cell_at (column_at now place) row cell) no_column refl ∙ alike.kinds q;
  lengths = λ q. set_seen (λ c. length c.cells) now place q (with_cell_at (column_at now place) row cell) no_column (length-set (column_at now place).cells row cell) ∙ alike.lengths q;
})

-- one more value is put
pub one_more_put : (rows places : List ℕ) (values : List Cell) (k width place row : ℕ) (cell : Cell) (now now' whole : List (ColumnOf Cell)) → width ≡ length places
    → with_values_from k now rows places (drop k values) ≡ whole → k < length values
    → slice_get places (k % width) ≡ Some place → slice_get rows (k / width) ≡ Some row → slice_get values k ≡ Some cell
    → now' ≡ with_cell now place row cell → with_values_from (k + 1) now' rows places (drop (k + 1) values) ≡ whole
one_more_put rows places values k _ place row cell _ _ _ wide before lt at_place at_row at_value put =
    let next : k + 1 ≡ suc k = omega arith in
    let place_is : slice_index places (k % length places) ≡ place = grind (arith, get_or_from_slice_get) in
    let row_is : slice_index rows (k / length places) ≡ row = grind (arith, get_or_from_slice_get) in
    let cell_is : slice_index_or values k Na ≡ cell = search get_or_from_slice_get in
    grind (arith, drop-cons)

-- cells are set after views came in place of others
module _ (old mid new : PoolValue) (before after : List ℕ) (views : Exchanges old mid before after) (kept : Keeps old mid before) (writes : Writes mid new after) where
  pub set_views : Exchanges old new before after
  set_views q = omega (arith, views q, writes.live q)

  pub set_kept : Keeps old new before
  set_kept q none one =
      let apart : times q after ≡ 0 = omega (arith, views q, none, one, live_once mid q) in
      writes.kept q apart ∙ kept q none one

  pub set_held : (n : ℕ) → RaisesBy n old mid → RaisesBy n old new
  set_held n most = omega (arith, most, ap (λ (m : FinMap nat_cmp ℕ). total_of (record mid { blocks = m })) writes.lies.blocks)

  pub set_stays : mid ≡ old → StayOnBlocks old new
  set_stays same = subst (λ (p : PoolValue). StayOnBlocks p new) same writes.lies

-- what holds of each item holds of one that is read
pub holds_at : {X : Type 0} (P : X → Type 0) (xs : List X) (k : ℕ) (x : X) → All P xs → slice_get xs k ≡ Some x → P x
holds_at P xs k x all at = subst P (get_or_from_slice_get xs k x x at) (all k x (slice_get_within xs k x at))

-- what one of the values asks of its column
module _ (first now : List (ColumnOf Cell)) (rows places : List ℕ) (values : List Cell) (alike : AreAlike now first) (k width place : ℕ) (wide : width ≡ length places) (at_place : slice_get places (k % width) ≡ Some place) where
  pub value_row : (row : ℕ) → AreRowsIn first places rows → slice_get rows (k / width) ≡ Some row → row < length (column_at now place).cells
  value_row row inside at =
      let within : AreBelow (length (column_at first place).cells) rows = holds_at (λ p. AreBelow (length (column_at first p).cells) rows) places (k % width) place inside at_place in
      let below = holds_at (λ r. r < length (column_at first place).cells) rows (k / width) row within at in
      omega (arith, below, alike.lengths place)

  pub value_held : (cell : Cell) → AreHeld first places values → slice_get values k ≡ Some cell → IsHeld (column_at now place).kind cell
  value_held cell held at =
      let place_is : slice_index places (k % length places) ≡ place = ap (λ n. slice_index places (k % n)) (sym wide) ∙ get_or_from_slice_get places (k % width) place 0 at_place in
      let kind : (column_at first (slice_index places (k % length places))).kind ≡ (column_at now place).kind = ap (λ p. (column_at first p).kind) place_is ∙ sym (alike.kinds place) in
      subst (λ (x : Cell). IsHeld (column_at now place).kind x) (get_or_from_slice_get values k cell Na at)
      (subst (λ (n : Kind). IsHeld n (slice_index_or values k Na)) kind (held k (slice_get_within values k cell at)))
