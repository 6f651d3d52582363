-- The managers whose views a call leaves as they are. These laws are for callers.
use Rattle.{std.proofs.Common.{◌≡◌, ℕ, suc, ◌<◌, List, [], ◌∷◌, map, length, refl, ap, arith, All, inl, inr}, std.proofs.lemmas.Bool.{cases_lt}, std.specs.{Prelude.{slice_index_or}, FinMap.{get}}, column_core.specs.Blocks.{CellBlock}, block_pool.{specs.Pools.{PoolValue, grid_at}, proofs.ChangeLaws.{grid_kept}}, block_manager.{specs.Managed.{Place, ManagerValue, placed_column, columns_on, times, StandsOn, Keeps, grid_column}, proofs.TimesLaws.{live_once, live_same}}}

-- two functions that agree on the items of a list
pub map_by_all : {X Y : Type 0} (f g : X → Y) (xs : List X) → All (λ x. f x ≡ g x) xs → map f xs ≡ map g xs
map_by_all f g [] all = refl
map_by_all f g (x ∷ xs) all =
    let first : f x ≡ g x = all 0 x (omega arith) in
    let rest : map f xs ≡ map g xs = map_by_all f g xs (λ k d lt. all (suc k) d (omega (arith, lt))) in
    cc

module _ (old new : PoolValue) (own : List ℕ) (kept : Keeps old new own) (m : ManagerValue) (stands : StandsOn old m) (apart : (id : ℕ) → 0 < times id m.views → times id own ≡ 0) where
  same_view : (id : ℕ) → 0 < times id m.views → get new.views id ≡ get old.views id
  same_view id there = kept id (apart id there) (omega (arith, there, stands.live id, live_once old id))

  same_grid : (id : ℕ) → 0 < times id m.views → grid_at new id ≡ grid_at old id
  same_grid id there = grid_kept old new id (same_view id there)

  pub other_columns : columns_on new m ≡ columns_on old m
  other_columns = map_by_all (placed_column new) (placed_column old) m.places (λ k d lt.
      (let p : Place = slice_index_or m.places k d in ap (λ (g : CellBlock). grid_column g p.column) (same_grid p.view (stands.placed k d lt).view)))

  pub other_stands : StandsOn new m
  other_stands = record {
    live = λ id. elim (cases_lt 0 (times id m.views)) [
      | inl there ↦ omega (arith, stands.live id, live_same old new id (same_view id there))
      | inr none ↦ omega (arith, none)
    ];
    placed = λ k d lt.
        let p : Place = slice_index_or m.places k d in
        let before = stands.placed k d lt in
        record {
          view = before.view;
          column = omega (arith, before.column, ap (λ (g : CellBlock). length g.columns) (same_grid p.view before.view));
        };
    covered = λ p there. stands.covered p (record {
      view = there.view;
      column = omega (arith, there.column, ap (λ (g : CellBlock). length g.columns) (same_grid p.view there.view));
    });
    once = stands.once;
    even = λ k d lt.
        let p : Place = slice_index_or m.places k d in
        let same = same_grid p.view (stands.placed k d lt).view in
        omega (arith, stands.even k d lt, ap (λ (g : CellBlock). g.rows) same, ap (λ (g : CellBlock). length (grid_column g p.column).cells) same);
  }
