-- A view that comes into the group of its kind.
use Rattle.{std.proofs.Common.{◌≡◌, ◌≢◌, ℕ, ◌+◌, ◌^◌, ◌<◌, ◌≤◌, List, [], ◌∷◌, ◌++◌, map, length, refl, ap, ap₂, sym, ◌∙◌, subst, arith, get_or, All, inl, inr, ◌⊎◌, length-append, length-set, slice_set, get_or-set_same, get_or-set_other, append_assoc}, std.proofs.lemmas.{Bool.{cases_eq, cases_lt}, List.{length-map, map-append, map-set, get_or-map, set-get_or, append-nil, flat_map_more}, List.Elements.{All-push, All-set, All-nil}, List.Sums.{sum_by_push, sum_by-set}}, std.specs.{Prelude.{slice_index, AllPairs}}, cell_core.specs.declared.cell.{Cell.{Cell}, Kind.{Kind}, Kind.TheVariants.{Int64}}, column_core.specs.Blocks.{CellBlock}, block_manager.{specs.{declared.{spots.Spot.{Spot}, groups.Group.{Group}}, Managed.{times}, Spots.{spot_at}, Groups.{GroupValue, no_views, group_at, group_seen, groups_seen, group_columns, with_view, width_of, HasGroup, Enters, StandsIn, AreSorted, AreTargets}}, proofs.{TimesLaws.{same}, PlanLaws.{s0, pushed_before, pushed_last}, GroupLaws.{within}}}}

-- pairs of a list with an item more
pairs_push : {X : Type 0} (R : X → X → Type 0) (xs : List X) (x : X) → AllPairs R xs → All (λ y. R y x) xs → AllPairs R (xs ++ x ∷ [])
pairs_push R xs x pairs all i j d lt below = elim (cases_lt j (length xs)) [
  | inl old ↦
      subst (λ y. R y (get_or (xs ++ x ∷ []) j d)) (sym (pushed_before xs x d i (omega (arith, lt, old))))
      (subst (R (get_or xs i d)) (sym (pushed_before xs x d j old)) (pairs i j d lt old))
  | inr new ↦
      let at : j ≡ length xs = omega (arith, below, new, length-append xs (x ∷ [])) in
      subst (λ y. R y (get_or (xs ++ x ∷ []) j d)) (sym (pushed_before xs x d i (omega (arith, lt, at))))
      (subst (R (get_or xs i d)) (sym (ap (λ k. get_or (xs ++ x ∷ []) k d) at ∙ pushed_last xs x d)) (all i d (omega (arith, lt, at))))
]

set_last : {X : Type 0} (xs : List X) (x y : X) → slice_set (xs ++ x ∷ []) (length xs) y ≡ xs ++ y ∷ []
set_last [] x y = refl
set_last (z ∷ xs) x y = ap (λ l. z ∷ l) (set_last xs x y)

-- nothing yet
pub sorted_start : (grids : ℕ → CellBlock) → AreSorted grids [] []
sorted_start grids = record {
  kinds = λ i j d lt below. absurd (omega (arith, below));
  alike = All-nil _;
  counts = All-nil _;
  once = λ q. refl;
}

pub targets_start : (grids : ℕ → CellBlock) → AreTargets grids [] [] []
targets_start grids = record {
  long = refl;
  stands = λ v lt. absurd (omega (arith, lt));
  there = λ t j lt. absurd (omega (arith, lt));
  apart = λ u v lt below. absurd (omega (arith, below));
  few = λ v lt. absurd (omega (arith, lt));
}

-- a new group, which has no views
module _ (grids : ℕ → CellBlock) (done : List ℕ) (old mid : List GroupValue) (kind : Kind) (place : ℕ) (has : HasGroup old mid kind place) where
  pub sorted_group : AreSorted grids done old → AreSorted grids done mid
  sorted_group s = at has.is
    where
      at : (mid ≡ old) ⊎ ((mid ≡ old ++ no_views kind ∷ []) × (place ≡ length old) × All (λ g. g.kind ≢ kind) old) → AreSorted grids done mid
      at (inl e) = subst (AreSorted grids done) (sym e) s
      at (inr e) = subst (AreSorted grids done) (sym e.0) (record {
        kinds = subst (AllPairs ◌≢◌) (sym (map-append (λ (g : GroupValue). g.kind) old (no_views kind ∷ [])))
            (pairs_push ◌≢◌ (map (λ (g : GroupValue). g.kind) old) kind s.kinds (λ k d lt.
            let inside : k < length old = omega (arith, lt, length-map old (λ (g : GroupValue). g.kind)) in
            subst (λ (n : Kind). n ≢ kind) (sym (get_or-map (λ (g : GroupValue). g.kind) old k (no_views Int64) d inside)) (e.2 k (no_views Int64) inside)));
        alike = All-push (λ (g : GroupValue). All (λ view. (grids view).kind ≡ g.kind) g.views) old (no_views kind) s.alike (All-nil _);
        counts = All-push (λ (g : GroupValue). g.count ≡ length (group_columns grids g)) old (no_views kind) s.counts refl;
        once = λ q. sum_by_push (λ (g : GroupValue). times q g.views) old (no_views kind) ∙ (let so_far = s.once q in omega (arith, so_far));
      })

  pub targets_group : (targets : List Spot) → AreTargets grids done old targets → AreTargets grids done mid targets
  targets_group targets s = at has.is
    where
      at : (mid ≡ old) ⊎ ((mid ≡ old ++ no_views kind ∷ []) × (place ≡ length old) × All (λ g. g.kind ≢ kind) old) → AreTargets grids done mid targets
      at (inl e) = subst (λ (gs : List GroupValue). AreTargets grids done gs targets) (sym e) s
      at (inr e) =
          let more : List GroupValue = old ++ no_views kind ∷ [] in
          let long : length more ≡ length old + 1 = length-append old (no_views kind ∷ []) in
          let seen : (k : ℕ) → k < length old → group_at more k ≡ group_at old k = λ k lt. pushed_before old (no_views kind) (no_views Int64) k lt in
          subst (λ (gs : List GroupValue). AreTargets grids done gs targets) (sym e.0) (record {
            long = s.long;
            stands = λ v lt.
                let st = s.stands v lt in
                let g = seen (spot_at targets v).view st.inside in
                record {
                  inside = omega (arith, st.inside, long);
                  kind_is = ap (λ (x : GroupValue). x.kind) g ∙ st.kind_is;
                  before = st.before;
                  behind = st.behind;
                  columns_are = ap (group_columns grids) g ∙ st.columns_are;
                  column = st.column;
                };
            there = λ t j lt below. elim (cases_lt t (length old)) [
              | inl here ↦ s.there t j here (omega (arith, below, ap (λ (x : GroupValue). x.count) (seen t here)))
              | inr last ↦
                  let at : t ≡ length old = omega (arith, lt, long, last) in
                  let none : (group_at more t).count ≡ 0 = ap (λ (x : GroupValue). x.count) (ap (group_at more) at ∙ pushed_last old (no_views kind) (no_views Int64)) in
                  absurd (omega (arith, below, none))
            ];
            apart = s.apart;
            few = s.few;
          })

-- the group has a view more
module _ (grids : ℕ → CellBlock) (done : List ℕ) (mid : List GroupValue) (targets : List Spot) (view : ℕ) (target : Spot) (sorted : AreSorted grids done mid) (are : AreTargets grids done mid targets) (inside : target.view < length mid) (kind : (group_at mid target.view).kind ≡ (grids view).kind) (column : target.column ≡ (group_at mid target.view).count) (short : target.column + length (grids view).columns < 2 ^ 64) where
  abbrev p : ℕ
  p = target.view

  abbrev g : GroupValue
  g = group_at mid p

  abbrev more : List (List Cell)
  more = (grids view).columns

  abbrev g' : GroupValue
  g' = with_view g view (length more)

  abbrev new : List GroupValue
  new = slice_set mid p g'

  abbrev views' : List ℕ
  views' = done ++ view ∷ []

  abbrev targets' : List Spot
  targets' = targets ++ target ∷ []

  new_columns : group_columns grids g' ≡ group_columns grids g ++ more
  new_columns = sym (flat_map_more (λ (v : ℕ). (grids v).columns) [] g.views view)

  count_here : g.count ≡ length (group_columns grids g)
  count_here = sorted.counts p (no_views Int64) inside

  pub sorted_view : AreSorted grids views' new
  sorted_view = record {
    kinds = subst (AllPairs ◌≢◌) (sym (map-set (λ (x : GroupValue). x.kind) mid p g' ∙ ap (slice_set (map (λ (x : GroupValue). x.kind) mid) p) (sym (get_or-map (λ (x : GroupValue). x.kind) mid p (no_views Int64) Int64 inside)) ∙ set-get_or (map (λ (x : GroupValue). x.kind) mid) p Int64)) sorted.kinds;
    alike = All-set (λ (x : GroupValue). All (λ v. (grids v).kind ≡ x.kind) x.views) mid p g' (All-push (λ v. (grids v).kind ≡ g.kind) g.views view (sorted.alike p (no_views Int64) inside) (sym kind)) sorted.alike;
    counts = All-set (λ (x : GroupValue). x.count ≡ length (group_columns grids x)) mid p g' (omega (arith, count_here, ap length new_columns, length-append (group_columns grids g) more)) sorted.counts;
    once = λ q. omega (arith, sum_by-set (λ (x : GroupValue). times q x.views) mid p g' (no_views Int64) inside, sum_by_push (same q) g.views view, sum_by_push (same q) done view, sorted.once q);
  }

  same_at : group_at new p ≡ g'
  same_at = get_or-set_same mid p g' (no_views Int64) inside

  other_at : (t : ℕ) → t ≢ p → group_at new t ≡ group_at mid t
  other_at t ne = get_or-set_other mid p t g' (no_views Int64) ne

  old_target : (v : ℕ) → v < length done → spot_at targets' v ≡ spot_at targets v
  old_target v lt = pushed_before targets target s0 v (omega (arith, lt, are.long))

  old_view : (v : ℕ) → v < length done → slice_index views' v ≡ slice_index done v
  old_view v lt = pushed_before done view 0 v lt

  new_target : (v : ℕ) → v ≡ length done → spot_at targets' v ≡ target
  new_target v e = ap (spot_at targets') (e ∙ sym are.long) ∙ pushed_last targets target s0

  new_view : (v : ℕ) → v ≡ length done → slice_index views' v ≡ view
  new_view v e = ap (slice_index views') e ∙ pushed_last done view 0

  old_width : (v : ℕ) → v < length done → width_of grids views' v ≡ width_of grids done v
  old_width v lt = ap (λ (id : ℕ). length (grids id).columns) (old_view v lt)

  -- what stood in groups still does
  still : (id : ℕ) (s : Spot) → StandsIn grids mid id s → StandsIn grids new id s
  still id s st = elim (cases_eq s.view p) [
    | inl e ↦
        let is : group_at new s.view ≡ g' = ap (group_at new) e ∙ same_at in
        let was : group_at mid s.view ≡ g = ap (group_at mid) e in
        record {
          inside = omega (arith, st.inside, length-set mid p g');
          kind_is = ap (λ (x : GroupValue). x.kind) is ∙ sym (ap (λ (x : GroupValue). x.kind) was) ∙ st.kind_is;
          before = st.before;
          behind = st.behind ++ more;
          columns_are = ap (group_columns grids) is ∙ new_columns ∙ ap (λ cs. cs ++ more) (sym (ap (group_columns grids) was) ∙ st.columns_are)
              ∙ append_assoc st.before ((grids id).columns ++ st.behind) more ∙ ap (λ cs. st.before ++ cs) (append_assoc (grids id).columns st.behind more);
          column = st.column;
        }
    | inr ne ↦
        let is = other_at s.view ne in
        record {
          inside = omega (arith, st.inside, length-set mid p g');
          kind_is = ap (λ (x : GroupValue). x.kind) is ∙ st.kind_is;
          before = st.before;
          behind = st.behind;
          columns_are = ap (group_columns grids) is ∙ st.columns_are;
          column = st.column;
        }
  ]

  entered : StandsIn grids new view target
  entered = record {
    inside = omega (arith, inside, length-set mid p g');
    kind_is = ap (λ (x : GroupValue). x.kind) same_at ∙ kind;
    before = group_columns grids g;
    behind = [];
    columns_are = ap (group_columns grids) same_at ∙ new_columns ∙ ap (λ cs. group_columns grids g ++ cs) (sym (append-nil more));
    column = column ∙ count_here;
  }

  stands_all : (v : ℕ) → v < length views' → StandsIn grids new (slice_index views' v) (spot_at targets' v)
  stands_all v lt = elim (cases_lt v (length done)) [
    | inl old ↦ subst (λ (s : Spot). StandsIn grids new (slice_index views' v) s) (sym (old_target v old)) (subst (λ (id : ℕ). StandsIn grids new id (spot_at targets v)) (sym (old_view v old)) (still (slice_index done v) (spot_at targets v) (are.stands v old)))
    | inr last ↦
        let at : v ≡ length done = omega (arith, lt, last, length-append done (view ∷ [])) in
        subst (λ (s : Spot). StandsIn grids new (slice_index views' v) s) (sym (new_target v at)) (subst (λ (id : ℕ). StandsIn grids new id target) (sym (new_view v at)) entered)
  ]

  -- a column of a group is that of a view
  found_old : (t j : ℕ) → t < length mid → j < (group_at mid t).count
      → (v : ℕ) × (v < length views') × ((spot_at targets' v).view ≡ t) × ((spot_at targets' v).column ≤ j) × (j < (spot_at targets' v).column + width_of grids views' v)
  found_old t j lt below =
      let f = are.there t j lt below in
      let same = old_target f.0 f.1 in (
        f.0,
        omega (arith, f.1, length-append done (view ∷ [])),
        ap (λ (s : Spot). s.view) same ∙ f.2,
        omega (arith, f.3, ap (λ (s : Spot). s.column) same),
        omega (arith, f.4, ap (λ (s : Spot). s.column) same, old_width f.0 f.1),
      )

  found_new : (j : ℕ) → g.count ≤ j → j < g.count + length more
      → (v : ℕ) × (v < length views') × ((spot_at targets' v).view ≡ p) × ((spot_at targets' v).column ≤ j) × (j < (spot_at targets' v).column + width_of grids views' v)
  found_new j low high =
      let same = new_target (length done) refl in
      let width : width_of grids views' (length done) ≡ length more = ap (λ (id : ℕ). length (grids id).columns) (new_view (length done) refl) in (
        length done,
        omega (arith, length-append done (view ∷ [])),
        ap (λ (s : Spot). s.view) same,
        omega (arith, low, ap (λ (s : Spot). s.column) same, column),
        omega (arith, high, ap (λ (s : Spot). s.column) same, column, width),
      )

  pub targets_view : AreTargets grids views' new targets'
  targets_view = record {
    long = omega (arith, are.long, length-append done (view ∷ []), length-append targets (target ∷ []));
    stands = stands_all;
    there = λ t j lt below.
        let there : t < length mid = omega (arith, lt, length-set mid p g') in
        elim (cases_eq t p) [
          | inl e ↦
              let size : (group_at new t).count ≡ g.count + length more = ap (λ (x : GroupValue). x.count) (ap (group_at new) e ∙ same_at) in
              elim (cases_lt j g.count) [
                | inl low ↦ found_old t j there (omega (arith, low, ap (λ k. (group_at mid k).count) e))
                | inr high ↦ (let f = found_new j high (omega (arith, below, size)) in (f.0, f.1, f.2 ∙ sym e, f.3, f.4))
              ]
          | inr ne ↦ found_old t j there (omega (arith, below, ap (λ (x : GroupValue). x.count) (other_at t ne)))
        ];
    apart = λ u v lt below same_view.
        elim (cases_lt v (length done)) [
          | inl old ↦
              let lower : u < length done = omega (arith, lt, old) in
              let a = old_target u lower in
              let b = old_target v old in
              let h = are.apart u v lt old (sym (ap (λ (s : Spot). s.view) a) ∙ same_view ∙ ap (λ (s : Spot). s.view) b) in
              omega (arith, h, ap (λ (s : Spot). s.column) a, ap (λ (s : Spot). s.column) b, old_width u lower)
          | inr last ↦
              let at : v ≡ length done = omega (arith, below, last, length-append done (view ∷ [])) in
              let lower : u < length done = omega (arith, lt, at) in
              let a = old_target u lower in
              let b = new_target v at in
              let there : (spot_at targets u).view ≡ p = sym (ap (λ (s : Spot). s.view) a) ∙ same_view ∙ ap (λ (s : Spot). s.view) b in
              let h = within grids done mid targets sorted are u lower in
              omega (arith, h, ap (λ k. (group_at mid k).count) there, ap (λ (s : Spot). s.column) a, ap (λ (s : Spot). s.column) b, column, old_width u lower)
        ];
    few = λ v lt. elim (cases_lt v (length done)) [
      | inl old ↦ omega (arith, are.few v old, ap (λ (s : Spot). s.column) (old_target v old), old_width v old)
      | inr last ↦
          let at : v ≡ length done = omega (arith, lt, last, length-append done (view ∷ [])) in
          omega (arith, short, ap (λ (s : Spot). s.column) (new_target v at), ap (λ (id : ℕ). length (grids id).columns) (new_view v at))
    ];
  }

-- a view came in
module _ (grids : ℕ → CellBlock) (done : List ℕ) (old new : List GroupValue) (targets : List Spot) (view : ℕ) (target : Spot) (enters : Enters grids view old new target) (sorted : AreSorted grids done old) (are : AreTargets grids done old targets) where
  pub sorted_more : AreSorted grids (done ++ view ∷ []) new
  sorted_more =
      subst (AreSorted grids (done ++ view ∷ [])) (sym enters.is)
      (sorted_view grids done enters.mid targets view target (sorted_group grids done old enters.mid (grids view).kind target.view enters.group sorted) (targets_group grids done old enters.mid (grids view).kind target.view enters.group targets are) enters.group.there enters.group.kind_is enters.column enters.few)

  pub targets_more : AreTargets grids (done ++ view ∷ []) new (targets ++ target ∷ [])
  targets_more =
      subst (λ (gs : List GroupValue). AreTargets grids (done ++ view ∷ []) gs (targets ++ target ∷ [])) (sym enters.is)
      (targets_view grids done enters.mid targets view target (sorted_group grids done old enters.mid (grids view).kind target.view enters.group sorted) (targets_group grids done old enters.mid (grids view).kind target.view enters.group targets are) enters.group.there enters.group.kind_is enters.column enters.few)

  -- there is one group more at most
  pub groups_more : length new ≤ length old + 1
  groups_more = omega (arith, ap length enters.is, length-set enters.mid target.view (with_view (group_at enters.mid target.view) view (length (grids view).columns)), at enters.group.is)
    where
      at : (enters.mid ≡ old) ⊎ ((enters.mid ≡ old ++ no_views (grids view).kind ∷ []) × (target.view ≡ length old) × All (λ x. x.kind ≢ (grids view).kind) old) → length enters.mid ≤ length old + 1
      at (inl e) = omega (arith, ap length e)
      at (inr e) = omega (arith, ap length e.0, length-append old (no_views (grids view).kind ∷ []))

  -- each group has some views
  pub some_more : All (λ g. 0 < length g.views) old → All (λ g. 0 < length g.views) new
  some_more some = subst (All (λ (g : GroupValue). 0 < length g.views)) (sym enters.is) (at enters.group.is)
    where
      g : GroupValue
      g = group_at enters.mid target.view

      h : GroupValue
      h = with_view g view (length (grids view).columns)

      one : 0 < length h.views
      one = omega (arith, length-append g.views (view ∷ []))

      at : (enters.mid ≡ old) ⊎ ((enters.mid ≡ old ++ no_views (grids view).kind ∷ []) × (target.view ≡ length old) × All (λ x. x.kind ≢ (grids view).kind) old) → All (λ (x : GroupValue). 0 < length x.views) (slice_set enters.mid target.view h)
      at (inl e) = All-set (λ (x : GroupValue). 0 < length x.views) enters.mid target.view h one (subst (All (λ (x : GroupValue). 0 < length x.views)) (sym e) some)
      at (inr e) =
          subst (All (λ (x : GroupValue). 0 < length x.views)) (sym (ap₂ (λ (gs : List GroupValue) (k : ℕ). slice_set gs k h) e.0 e.1 ∙ set_last old (no_views (grids view).kind) h))
          (All-push (λ (x : GroupValue). 0 < length x.views) old h some one)

-- groups as the code has them
pub group_there : (groups : List Group) (kind : Kind) (place : ℕ) (d : Group) → place < length groups → (get_or groups place d).kind ≡ kind → HasGroup (groups_seen groups) (groups_seen groups) kind place
group_there groups kind place d lt is = record {
  there = omega (arith, lt, length-map groups group_seen);
  kind_is = ap (λ (g : GroupValue). g.kind) (get_or-map group_seen groups place d (no_views Int64) lt) ∙ is;
  is = inl refl;
}

pub group_begun : (groups groups' : List Group) (g : Group) (kind : Kind) (place : ℕ) → groups' ≡ groups ++ g ∷ [] → group_seen g ≡ no_views kind → place ≡ length groups → All (λ x. x.kind ≢ kind) (groups_seen groups) → HasGroup (groups_seen groups) (groups_seen groups') kind place
group_begun groups groups' g kind place is new last none =
    let seen : groups_seen groups' ≡ groups_seen groups ++ no_views kind ∷ [] = ap groups_seen is ∙ map-append group_seen groups (g ∷ []) ∙ ap (λ (x : GroupValue). groups_seen groups ++ x ∷ []) new in
    let long : length (groups_seen groups) ≡ length groups = length-map groups group_seen in
    let at : place ≡ length (groups_seen groups) = omega (arith, last, long) in
    record {
      there = omega (arith, at, ap length seen, length-append (groups_seen groups) (no_views kind ∷ []));
      kind_is = ap (λ (gs : List GroupValue). (group_at gs place).kind) seen ∙ ap (λ k. (group_at (groups_seen groups ++ no_views kind ∷ []) k).kind) at ∙ ap (λ (x : GroupValue). x.kind) (pushed_last (groups_seen groups) (no_views kind) (no_views Int64));
      is = inr (seen, at, none);
    }

pub view_entered : (grids : ℕ → CellBlock) (view : ℕ) (old : List GroupValue) (groups groups' : List Group) (place column : ℕ) (g : Group) → HasGroup old (groups_seen groups) (grids view).kind place → groups' ≡ slice_set groups place g → group_seen g ≡ with_view (group_at (groups_seen groups) place) view (length (grids view).columns) → column ≡ (group_at (groups_seen groups) place).count → column + length (grids view).columns < 2 ^ 64
    → Enters grids view old (groups_seen groups') record { view = place; column = column }
view_entered grids view old groups groups' place column g has is seen at few = record {
  mid = groups_seen groups;
  group = has;
  column = at;
  few = few;
  is = ap groups_seen is ∙ map-set group_seen groups place g ∙ ap (slice_set (groups_seen groups) place) seen;
}

-- a group with more room
pub room_made : (groups : List Group) (place : ℕ) (g d : Group) → place < length groups → group_seen g ≡ group_seen (get_or groups place d) → groups_seen (slice_set groups place g) ≡ groups_seen groups
room_made groups place g d lt same =
    map-set group_seen groups place g
    ∙ ap (slice_set (groups_seen groups) place) (same ∙ sym (get_or-map group_seen groups place d (no_views Int64) lt))
    ∙ set-get_or (groups_seen groups) place (no_views Int64)
