-- Groups of views that show what they showed.
use Rattle.{std.proofs.Common.{◌≡◌, ℕ, ◌<◌, suc, List, [], ◌∷◌, ◌++◌, length, refl, ap, ap₂, sym, ◌∙◌, subst, arith, get_or, All}, std.proofs.lemmas.{List.{get_or_default}, List.Sums.{get_or-le-sum_by}}, std.specs.{Prelude.{slice_index}, List.{flat_map}}, cell_core.specs.declared.cell.{Cell.{Cell}, Kind.TheVariants.{Int64}}, column_core.specs.Blocks.{CellBlock}, block_manager.{specs.{declared.spots.Spot.{Spot}, Managed.{times}, Spots.{spot_at}, Groups.{GroupValue, no_views, group_at, group_columns, width_of, AreSorted, AreTargets, AreGroups}}, proofs.TimesLaws.{times_here}}}

flat_same : (f g : ℕ → List (List Cell)) (xs : List ℕ) → All (λ x. f x ≡ g x) xs → flat_map f xs ≡ flat_map g xs
flat_same f g [] same = refl
flat_same f g (x ∷ xs) same = ap₂ (λ (a b : List (List Cell)). a ++ b) (same 0 x (omega arith)) (flat_same f g xs (λ k d lt. same (suc k) d (omega (arith, lt))))

module _ (old new : ℕ → CellBlock) (views : List ℕ) (groups : List GroupValue) (targets : List Spot) (same : (q : ℕ) → 0 < times q views → new q ≡ old q) (are : AreGroups old views groups targets) where
  in_views : (t k d : ℕ) → t < length groups → k < length (group_at groups t).views → new (get_or (group_at groups t).views k d) ≡ old (get_or (group_at groups t).views k d)
  in_views t k d lt below =
      let q : ℕ = get_or (group_at groups t).views k d in
      same q (omega (arith, times_here (group_at groups t).views k d q below refl, get_or-le-sum_by (λ (g : GroupValue). times q g.views) groups t (no_views Int64) lt, are.sorted.once q))

  at_view : (v : ℕ) → v < length views → new (slice_index views v) ≡ old (slice_index views v)
  at_view v lt = same (slice_index views v) (times_here views v 0 (slice_index views v) lt refl)

  columns_same : (t : ℕ) → t < length groups → group_columns new (group_at groups t) ≡ group_columns old (group_at groups t)
  columns_same t lt = flat_same (λ v. (new v).columns) (λ v. (old v).columns) (group_at groups t).views (λ k d below. ap (λ (g : CellBlock). g.columns) (in_views t k d lt below))

  width_same : (v : ℕ) → v < length views → width_of new views v ≡ width_of old views v
  width_same v lt = ap (λ (g : CellBlock). length g.columns) (at_view v lt)

  sorted_same : AreSorted new views groups
  sorted_same = record {
    kinds = are.sorted.kinds;
    alike = λ t d lt. subst (λ (g : GroupValue). All (λ view. (new view).kind ≡ g.kind) g.views) (get_or_default groups t (no_views Int64) d lt)
        (λ k e below. ap (λ (g : CellBlock). g.kind) (in_views t k e lt below) ∙ are.sorted.alike t (no_views Int64) lt k e below);
    counts = λ t d lt. subst (λ (g : GroupValue). g.count ≡ length (group_columns new g)) (get_or_default groups t (no_views Int64) d lt)
        (are.sorted.counts t (no_views Int64) lt ∙ ap length (sym (columns_same t lt)));
    once = are.sorted.once;
  }

  targets_same : AreTargets new views groups targets
  targets_same = record {
    long = are.targets_are.long;
    stands = λ v lt.
        let st = are.targets_are.stands v lt in
        record {
          inside = st.inside;
          kind_is = st.kind_is ∙ ap (λ (g : CellBlock). g.kind) (sym (at_view v lt));
          before = st.before;
          behind = st.behind;
          columns_are = columns_same (spot_at targets v).view st.inside ∙ st.columns_are ∙ ap (λ (g : CellBlock). st.before ++ (g.columns ++ st.behind)) (sym (at_view v lt));
          column = st.column;
        };
    there = λ t j lt below. (let f = are.targets_are.there t j lt below in (f.0, f.1, f.2, f.3, omega (arith, f.4, width_same f.0 f.1)));
    apart = λ u v lt below e. omega (arith, are.targets_are.apart u v lt below e, width_same u (omega (arith, lt, below)));
    few = λ v lt. omega (arith, are.targets_are.few v lt, width_same v lt);
  }

  pub same_groups : AreGroups new views groups targets
  same_groups = record { sorted = sorted_same; some = are.some; fewer = are.fewer; targets_are = targets_same }
