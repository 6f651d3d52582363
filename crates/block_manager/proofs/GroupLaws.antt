-- Columns of views once those of each group are on one view.
use Rattle.{std.proofs.Common.{◌≡◌, ℕ, zero, suc, ◌+◌, ◌-◌, ◌<◌, ◌≤◌, Bool, true, false, cond, List, [], ◌∷◌, ◌++◌, map, length, refl, ap, ap₂, sym, ◌∙◌, subst, arith, get_or, inl, inr, count_by, length-append}, std.proofs.lemmas.{Bool.{cases_eq, cases_lt, lt-ltb, le-ltb}, List.{length-map, get_or-map, get_or_append_left, get_or_default}, Simd.{map-map}}, std.specs.Prelude.{slice_index, slice_index_or}, cell_core.specs.declared.cell.{Cell.{Cell}, Kind.{Kind}, Kind.TheVariants.{Int64}}, column_core.specs.Blocks.{CellBlock}, block_manager.{specs.{declared.spots.Spot.{Spot}, Spots.{no_grid, grid_in, width_in, spot_at, spot_column, spot_columns, is_at, Covers, Fits}, Groups.{GroupValue, no_views, group_at, group_columns, group_grid, moved, AreSorted, AreTargets}}, proofs.{CountLaws.{one, counted-cons, counted_none}, SpotLaws.{at_parts, at_itself, spot_within}, PlanLaws.{sum_same}, CellLaws.{width_inside}, OtherLaws.{map_by_all}}}}

-- an item behind others
past : {X : Type 0} (xs ys : List X) (k : ℕ) (d : X) → slice_index_or (xs ++ ys) (length xs + k) d ≡ slice_index_or ys k d
past [] ys k d = (let e : zero + k ≡ k = omega arith in ap (λ n. slice_index_or ys n d) e)
past (x ∷ xs) ys k d = (let e : suc (length xs) + k ≡ suc (length xs + k) = omega arith in ap (λ n. slice_index_or (x ∷ (xs ++ ys)) n d) e ∙ past xs ys k d)

-- two tests that hold of the same
same_test : (b c : Bool) → (b ≡ true → c ≡ true) → (c ≡ true → b ≡ true) → b ≡ c
same_test true c there back = sym (there refl)
same_test false true there back = back refl
same_test false false there back = refl

counted-map : {X Y : Type 0} (f : Y → Bool) (g : X → Y) (xs : List X) → count_by f (map g xs) ≡ count_by (λ x. f (g x)) xs
counted-map f g [] = refl
counted-map f g (x ∷ xs) = counted-cons f (g x) (map g xs) ∙ ap (λ n. one f (g x) + n) (counted-map f g xs) ∙ sym (counted-cons (λ y. f (g y)) x xs)

module _ (grids : ℕ → CellBlock) (views : List ℕ) (groups : List GroupValue) (targets : List Spot) (sorted : AreSorted grids views groups) (are : AreTargets grids views groups targets) where
  abbrev at : ℕ → Spot
  at v = spot_at targets v

  abbrev group : ℕ → GroupValue
  group v = group_at groups (at v).view

  abbrev columns : ℕ → List (List Cell)
  columns v = (grids (slice_index views v)).columns

  abbrev joined : List CellBlock
  joined = map (group_grid grids) groups

  count_at : (t : ℕ) → t < length groups → (group_at groups t).count ≡ length (group_columns grids (group_at groups t))
  count_at t lt = sorted.counts t (no_views Int64) lt

  pub within : (v : ℕ) → v < length views → (at v).column + length (columns v) ≤ (group v).count
  within v lt =
      let s = are.stands v lt in
      omega (arith, count_at (at v).view s.inside, ap length s.columns_are, length-append s.before (columns v ++ s.behind), length-append (columns v) s.behind, s.column)

  shown : (v c : ℕ) → v < length views → c < length (columns v) → slice_index_or (group_columns grids (group v)) ((at v).column + c) [] ≡ slice_index_or (columns v) c []
  shown v c lt below =
      let s = are.stands v lt in
      ap₂ (λ (cs : List (List Cell)) (n : ℕ). slice_index_or cs (n + c) []) s.columns_are s.column
      ∙ past s.before (columns v ++ s.behind) c []
      ∙ get_or_append_left (columns v) s.behind [] c below

  joined_at : (t : ℕ) → t < length groups → grid_in joined t ≡ group_grid grids (group_at groups t)
  joined_at t lt = get_or-map (group_grid grids) groups t (no_views Int64) no_grid lt

  joined_long : length joined ≡ length groups
  joined_long = length-map groups (group_grid grids)

  joined_width : (t : ℕ) → t < length groups → width_in joined t ≡ (group_at groups t).count
  joined_width t lt = ap (λ (g : CellBlock). length g.columns) (joined_at t lt) ∙ sym (count_at t lt)

  group_of : (t j : ℕ) → j < width_in joined t → t < length groups
  group_of t j lt = (let h = width_inside joined t j lt in omega (arith, h, joined_long))

  -- groups of one kind are the same
  same_group : (t u : ℕ) → t < length groups → u < length groups → (group_at groups t).kind ≡ (group_at groups u).kind → t ≡ u
  same_group t u lt lu e = elim (cases_eq t u) [
    | inl same ↦ same
    | inr ne ↦ elim (cases_lt t u) [
      | inl lower ↦ absurd (sorted.kinds t u Int64 lower (omega (arith, lu, kinds_long)) (kind_at t lt ∙ e ∙ sym (kind_at u lu)))
      | inr upper ↦ absurd (sorted.kinds u t Int64 (omega (arith, upper, ne)) (omega (arith, lt, kinds_long)) (kind_at u lu ∙ sym e ∙ sym (kind_at t lt)))
    ]
  ]
    where
      kinds_long : length (map (λ (g : GroupValue). g.kind) groups) ≡ length groups
      kinds_long = length-map groups (λ (g : GroupValue). g.kind)

      kind_at : (k : ℕ) → k < length groups → get_or (map (λ (g : GroupValue). g.kind) groups) k Int64 ≡ (group_at groups k).kind
      kind_at k lt = get_or-map (λ (g : GroupValue). g.kind) groups k (no_views Int64) Int64 lt

  module _ (spots : List Spot) (fits : Fits (map grids views) spots) where
    widths : (v : ℕ) → v < length views → width_in (map grids views) v ≡ length (columns v)
    widths v lt = ap (λ (g : CellBlock). length g.columns) (get_or-map grids views v 0 no_grid lt)

    spot_on : (k : ℕ) (d : Spot) → k < length spots → (get_or spots k d).view < length views
    spot_on k d lt =
        let h = width_inside (map grids views) (get_or spots k d).view (get_or spots k d).column (spot_within (width_in (map grids views)) spots fits.covers k d lt) in
        omega (arith, h, length-map views grids)

    spot_below : (k : ℕ) (d : Spot) → k < length spots → (get_or spots k d).column < length (columns (get_or spots k d).view)
    spot_below k d lt = omega (arith, spot_within (width_in (map grids views)) spots fits.covers k d lt, widths (get_or spots k d).view (spot_on k d lt))

    -- a column of a group is that of one view
    module _ (t j v : ℕ) (lt : v < length views) (is : (at v).view ≡ t) (low : (at v).column ≤ j) (high : j < (at v).column + length (columns v)) where
      same_spot : (s : Spot) → s.view < length views → s.column < length (columns s.view) → is_at t j (moved targets s) ≡ is_at v (j - (at v).column) s
      same_spot s on below = same_test (is_at t j (moved targets s)) (is_at v (j - (at v).column) s) there back
        where
          there : is_at t j (moved targets s) ≡ true → is_at v (j - (at v).column) s ≡ true
          there e =
              let parts = at_parts t j (moved targets s) e in
              let same : s.view ≡ v = elim (cases_eq s.view v) [
                | inl z ↦ z
                | inr ne ↦ elim (cases_lt s.view v) [
                  | inl lower ↦ (let h = are.apart s.view v lower lt (parts.0 ∙ sym is) in absurd (omega (arith, h, low, parts.1, below)))
                  | inr upper ↦ (let h = are.apart v s.view (omega (arith, upper, ne)) on (is ∙ sym parts.0) in absurd (omega (arith, h, high, parts.1)))
                ]
              ] in
              let column : (at s.view).column ≡ (at v).column = ap (λ u. (at u).column) same in
              at_itself v (j - (at v).column) s same (omega (arith, parts.1, column))

          back : is_at v (j - (at v).column) s ≡ true → is_at t j (moved targets s) ≡ true
          back e =
              let parts = at_parts v (j - (at v).column) s e in
              let column : (at s.view).column ≡ (at v).column = ap (λ u. (at u).column) parts.0 in
              at_itself t j (moved targets s) (ap (λ u. (at u).view) parts.0 ∙ is) (omega (arith, parts.1, column, low))

    moved_covers : Covers (width_in joined) (map (moved targets) spots)
    moved_covers t j = counted-map (is_at t j) (moved targets) spots ∙ elim (cases_lt j (width_in joined t)) [
      | inl lt ↦
          let inside = group_of t j lt in
          let found = are.there t j inside (omega (arith, lt, joined_width t inside)) in
          let v : ℕ = found.0 in
          let c : ℕ = j - (at v).column in
          let below : c < width_in (map grids views) v = omega (arith, widths v found.1, found.3, found.4) in
          let same : count_by (λ s. is_at t j (moved targets s)) spots ≡ count_by (is_at v c) spots =
          sum_same (one (λ s. is_at t j (moved targets s))) (one (is_at v c)) spots (λ k d le. ap (λ b. cond {A = ℕ} b 1 0) (same_spot t j v found.1 found.2 found.3 found.4 (get_or spots k d) (spot_on k d le) (spot_below k d le))) in
          same ∙ fits.covers v c ∙ ap (λ b. cond {A = ℕ} b 1 0) (lt-ltb c (width_in (map grids views) v) below ∙ sym (lt-ltb j (width_in joined t) lt))
      | inr ge ↦
          counted_none (λ s. is_at t j (moved targets s)) spots (λ k d le. nowhere (get_or spots k d) (spot_on k d le) (spot_below k d le) ge (is_at t j (moved targets (get_or spots k d))) refl)
          ∙ sym (ap (λ b. cond {A = ℕ} b 1 0) (le-ltb j (width_in joined t) ge))
    ]
      where
        nowhere : (s : Spot) → s.view < length views → s.column < length (columns s.view) → width_in joined t ≤ j → (b : Bool) → is_at t j (moved targets s) ≡ b → is_at t j (moved targets s) ≡ false
        nowhere s on below ge false e = e
        nowhere s on below ge true e =
            let parts = at_parts t j (moved targets s) e in
            let inside : (at s.view).view < length groups = (are.stands s.view on).inside in
            absurd (omega (arith, within s.view on, parts.1, below, joined_width (at s.view).view inside, ap (width_in joined) parts.0, ge))

    moved_column : (s : Spot) → s.view < length views → s.column < length (columns s.view) → spot_column joined (moved targets s) ≡ spot_column (map grids views) s
    moved_column s on below =
        let stands = are.stands s.view on in
        ap (λ (g : CellBlock). record { kind = g.kind; cells = slice_index_or g.columns ((at s.view).column + s.column) [] }) (joined_at (at s.view).view stands.inside)
        ∙ ap₂ (λ (k : Kind) (cells : List Cell). record { kind = k; cells = cells }) stands.kind_is (shown s.view s.column on below)
        ∙ ap (λ (g : CellBlock). record { kind = g.kind; cells = slice_index_or g.columns s.column [] }) (sym (get_or-map grids views s.view 0 no_grid on))

    pub moved_columns : spot_columns joined (map (moved targets) spots) ≡ spot_columns (map grids views) spots
    moved_columns =
        map-map (spot_column joined) (moved targets) spots
        ∙ map_by_all (λ s. spot_column joined (moved targets s)) (spot_column (map grids views)) spots (λ k d lt. moved_column (get_or spots k d) (spot_on k d lt) (spot_below k d lt))

    module _ (rows : ℕ) (same_rows : (v : ℕ) → v < length views → (grids (slice_index views v)).rows ≡ rows) (first_rows : (t : ℕ) → t < length groups → (grids (slice_index (group_at groups t).views 0)).rows ≡ rows) where
      even_at : (t j : ℕ) → t < length groups → j < (group_at groups t).count → length (slice_index_or (group_columns grids (group_at groups t)) j []) ≡ rows
      even_at t j lt below =
          let found = are.there t j lt below in
          let v : ℕ = found.0 in
          let c : ℕ = j - (at v).column in
          let inside : c < length (columns v) = omega (arith, found.3, found.4) in
          let column : (at v).column + c ≡ j = omega (arith, found.3) in
          let seen : slice_index_or (group_columns grids (group_at groups t)) j [] ≡ slice_index_or (columns v) c [] =
          sym (ap₂ (λ (u n : ℕ). slice_index_or (group_columns grids (group_at groups u)) n []) found.2 column) ∙ shown v c found.1 inside in
          let grid : get_or (map grids views) v no_grid ≡ grids (slice_index views v) = get_or-map grids views v 0 no_grid found.1 in
          ap length seen
          ∙ subst (λ (g : CellBlock). length (slice_index_or g.columns c []) ≡ g.rows) grid (fits.even v no_grid (omega (arith, found.1, length-map views grids)) c [] (omega (arith, inside, widths v found.1)))
          ∙ same_rows v found.1

      pub moved_fits : Fits joined (map (moved targets) spots)
      moved_fits = record {
        covers = moved_covers;
        even = λ t d lt j e below.
            let inside : t < length groups = omega (arith, lt, joined_long) in
            let is : get_or joined t d ≡ group_grid grids (group_at groups t) = get_or-map (group_grid grids) groups t (no_views Int64) d inside in
            let short : j < (group_at groups t).count = omega (arith, below, ap (λ (g : CellBlock). length g.columns) is, count_at t inside) in
            ap (λ (g : CellBlock). length (get_or g.columns j e)) is
            ∙ ap length (get_or_default (group_columns grids (group_at groups t)) j e [] (omega (arith, short, count_at t inside)))
            ∙ even_at t j inside short ∙ sym (first_rows t inside) ∙ ap (λ (g : CellBlock). g.rows) (sym is);
      }

    -- columns of one kind are on one view
    pub moved_joined : (s u : Spot) → s.view < length views → u.view < length views → (spot_column joined (moved targets s)).kind ≡ (spot_column joined (moved targets u)).kind → (moved targets s).view ≡ (moved targets u).view
    moved_joined s u on un e =
        let a = (are.stands s.view on).inside in
        let b = (are.stands u.view un).inside in
        same_group (at s.view).view (at u.view).view a b (sym (ap (λ (g : CellBlock). g.kind) (joined_at (at s.view).view a)) ∙ e ∙ ap (λ (g : CellBlock). g.kind) (joined_at (at u.view).view b))
