-- Views of groups that are joined, one group after another.
use Rattle.{std.proofs.Common.{◌≡◌, ◌≢◌, ℕ, zero, suc, ◌+◌, ◌<◌, ◌≤◌, List, [], ◌∷◌, ◌++◌, map, length, refl, ap, ap₂, sym, ◌∙◌, subst, arith, get_or, All, AllPairs, cond, inl, inr, Option, Some, None, IsSome}, std.proofs.lemmas.{Bool.{cases_eq, cases_lt, false≢true}, List.{map-append, flat_map_more}, List.Folds.{flat_map-map}, List.Elements.{All-tail}, List.Sums.{sum_by_push, sum_by-append, sum_by-cons}}, std.specs.{Prelude.{slice_index, is_some}, List.{flat_map}, FinMap.{get}}, cell_core.specs.declared.cell.{Cell.{Cell}, Kind.{Kind}}, column_core.specs.Blocks.{CellBlock}, block_pool.{specs.Pools.{PoolValue, ViewValue, full_view, grid_at, block_at, view_at, view_or, live_count, total_of, cells_of, beside, with_block, IsLive, IsApart, EndEach, Joins, CanJoin}, proofs.{ChangeLaws.{get-put, get-put_other, count-changed, grid_is, live_kept, grid_kept, block_kept, ends_count, ends_other}, JoinLaws.{still_apart}}}, block_manager.{specs.{Managed.{times, AreLive}, Changes.{grids_of}, Groups.{GroupValue, group_columns, group_grid, times_in, IsGroup, JoinsGroup, JoinsGroups}}, proofs.{TimesLaws.{same, same_one, same_none, times-cons, times_twice, times_here, live_once, live_some}, GridLaws.{grids_kept}}}}

-- views that ended, the first one first
pub ends_all_count : (views : List ℕ) (old mid : PoolValue) → AreLive old views → EndEach old views mid → (q : ℕ) → live_count mid q + times q views ≡ live_count old q
ends_all_count [] old mid live e q = (let same : live_count mid q ≡ live_count old q = ap (λ (p : PoolValue). live_count p q) e in omega (arith, same))
ends_all_count (id ∷ views) old mid live e q =
    let there = live_some old id (omega (arith, live id, times-cons id id views, same_one id id refl)) in
    let rest : AreLive e.0 views = λ p. omega (arith, live p, times-cons p id views, ends_count old e.0 id e.1 there p) in
    omega (arith, ends_all_count views e.0 mid rest e.2 q, ends_count old e.0 id e.1 there q, times-cons q id views)

pub ends_all_other : (views : List ℕ) (old mid : PoolValue) → EndEach old views mid → (q : ℕ) → times q views ≡ 0 → get mid.views q ≡ get old.views q
ends_all_other [] old mid e q none = ap (λ (p : PoolValue). get p.views q) e
ends_all_other (id ∷ views) old mid e q none =
    let ne : q ≢ id = λ z. omega (arith, none, times-cons q id views, same_one q id (sym z)) in
    ends_all_other views e.0 mid e.2 q (omega (arith, none, times-cons q id views)) ∙ ends_other old e.0 id e.1 q ne

pub ends_all_apart : (views : List ℕ) (old mid : PoolValue) → AreLive old views → EndEach old views mid → All (IsApart old) views → (q : ℕ) → times q views ≡ 0 → IsApart old q → IsApart mid q
ends_all_apart [] old mid live e all q none there = subst (λ (p : PoolValue). IsApart p q) (sym e) there
ends_all_apart (id ∷ views) old mid live e all q none there =
    let here : IsApart old id = all 0 id (omega arith) in
    let ne : q ≢ id = λ z. omega (arith, none, times-cons q id views, same_one q id (sym z)) in
    let alone : times id views ≡ 0 = omega (arith, live id, live_once old id, times-cons id id views, same_one id id refl) in
    let rest : AreLive e.0 views = λ p. omega (arith, live p, times-cons p id views, ends_count old e.0 id e.1 here.live p) in
    let others : All (IsApart e.0) views = λ k d lt.
    still_apart old e.0 id e.1 here (get_or views k d) (λ z. (let some : 0 < times id views = times_here views k d id lt z in omega (arith, alone, some))) (all (suc k) d (omega (arith, lt))) in
    ends_all_apart views e.0 mid rest e.2 others q (omega (arith, none, times-cons q id views)) (still_apart old e.0 id e.1 here q ne there)

some_view : (o : Option ViewValue) → IsSome o → o ≡ Some (view_or o)
some_view None live = absurd (false≢true live)
some_view (Some v) live = refl

-- a view and its block have another grid
module _ (pool : PoolValue) (id : ℕ) (g : CellBlock) where
  abbrev new : PoolValue
  new = with_block pool id g

  block_view : get new.views id ≡ Some (full_view (block_at pool id) g)
  block_view = get-put pool.views id _

  block_other : (q : ℕ) → q ≢ id → get new.views q ≡ get pool.views q
  block_other q ne = get-put_other pool.views id _ q ne

  block_count : IsLive pool id → (q : ℕ) → live_count new q ≡ live_count pool q
  block_count live q = count-changed pool.views id q _ live

  block_apart : IsApart pool id → (q : ℕ) → q ≢ id → IsApart pool q → IsApart new q
  block_apart here q ne there =
      let same = block_other q ne in
      let other : block_at pool q ≢ block_at pool id = λ e. there.sole id (view_at pool id) (some_view (get pool.views id) here.live) (λ z. ne (sym z)) (sym e) in
      record {
        live = live_kept pool new q same there.live;
        sole = λ o view is n at. elim (cases_eq o id) [
          | inl e ↦
              let that : view.block ≡ block_at pool id = ap (λ (x : Option ViewValue). (view_or x).block) (sym is ∙ ap (get new.views) e ∙ block_view) in
              other (sym (block_kept pool new q same) ∙ sym at ∙ that)
          | inr m ↦ there.sole o view (sym (block_other o m) ∙ is) n (at ∙ block_kept pool new q same)
        ];
        full = ap (get new.blocks) (block_kept pool new q same)
            ∙ get-put_other pool.blocks (block_at pool id) (cells_of g) (block_at pool q) other
            ∙ there.full
            ∙ ap (λ (x : CellBlock). Some (cells_of x)) (sym (grid_kept pool new q same));
      }

-- the views of a group but the last one ended, and that one has all columns
module _ (old new : PoolValue) (g : GroupValue) (first : List ℕ) (last : ℕ) (is : g.views ≡ first ++ last ∷ []) (group : IsGroup old g) where
  counts : (q : ℕ) → times q g.views ≡ times q first + same q last
  counts q = ap (times q) is ∙ sum_by_push (same q) first last

  last_in : 0 < times last g.views
  last_in = omega (arith, counts last, same_one last last refl)

  live_first : AreLive old first
  live_first q = omega (arith, group.live q, counts q)

  not_first : times last first ≡ 0
  not_first = omega (arith, group.live last, live_once old last, counts last, same_one last last refl)

  all_of : (P : ℕ → Type 0) → All P g.views → All P (first ++ last ∷ [])
  all_of P all = subst (All P) is all

  at_last : (P : ℕ → Type 0) → All P g.views → P last
  at_last P all = go first (all_of P all)
    where
      go : (xs : List ℕ) → All P (xs ++ last ∷ []) → P last
      go [] h = h 0 last (omega arith)
      go (x ∷ xs) h = go xs (All-tail P x (xs ++ last ∷ []) h)

  at_first : (P : ℕ → Type 0) → All P g.views → All P first
  at_first P all = go first (all_of P all)
    where
      go : (xs : List ℕ) → All P (xs ++ last ∷ []) → All P xs
      go [] h k d lt = absurd (omega (arith, lt))
      go (x ∷ xs) h zero d lt = h 0 d (omega arith)
      go (x ∷ xs) h (suc k) d lt = go xs (All-tail P x (xs ++ last ∷ []) h) k d (omega (arith, lt))

  columns_first : flat_map (λ (b : CellBlock). b.columns) (map (grid_at old) first) ++ (grid_at old last).columns ≡ group_columns (grid_at old) g
  columns_first =
      ap (λ (cs : List (List Cell)). cs ++ (grid_at old last).columns) (flat_map-map (λ (b : CellBlock). b.columns) (grid_at old) first)
      ∙ flat_map_more (λ (v : ℕ). (grid_at old v).columns) [] first last
      ∙ ap (flat_map (λ (v : ℕ). (grid_at old v).columns)) (sym is)

  joined_grid : beside (map (grid_at old) first) (grid_at old last) ≡ group_grid (grid_at old) g
  joined_grid =
      ap₂ (λ (k : Kind) (cs : List (List Cell)). record { kind = k; rows = (grid_at old last).rows; columns = cs }) (at_last (λ v. (grid_at old v).kind ≡ g.kind) group.kinds) columns_first
      ∙ ap (λ (n : ℕ). record { kind = g.kind; rows = n; columns = group_columns (grid_at old) g }) (at_last (λ v. (grid_at old v).rows ≡ (grid_at old (slice_index g.views 0)).rows) group.rows)

  pub group_joins : Joins old new first last → total_of new ≡ total_of old → JoinsGroup old new g last
  group_joins joins held = subst (λ (p : PoolValue). JoinsGroup old p g last) (sym joins.is) (record {
    grid = grid_is after last (block_at joins.mid last) whole (block_view joins.mid last whole) ∙ joined_grid;
    views = λ q. omega (arith, block_count joins.mid last whole mid_last.live q, ends_all_count first old joins.mid live_first joins.ended q, counts q, times-cons q last []);
    kept = λ q none. block_other joins.mid last whole q (other q none) ∙ ends_all_other first old joins.mid joins.ended q (omega (arith, none, counts q));
    apart = λ q none there. block_apart joins.mid last whole mid_last q (other q none) (ends_all_apart first old joins.mid live_first joins.ended first_apart q (omega (arith, none, counts q)) there);
    held = ap total_of (sym joins.is) ∙ held;
  })
    where
      whole : CellBlock
      whole = beside (map (grid_at old) first) (grid_at old last)

      after : PoolValue
      after = with_block joins.mid last whole

      first_apart : All (IsApart old) first
      first_apart = at_first (IsApart old) group.apart

      mid_last : IsApart joins.mid last
      mid_last = ends_all_apart first old joins.mid live_first joins.ended first_apart last not_first (at_last (IsApart old) group.apart)

      other : (q : ℕ) → times q g.views ≡ 0 → q ≢ last
      other q none e = omega (arith, none, counts q, same_one q last (sym e))

  -- where there is one view alone, nothing is done
  pub group_same : first ≡ [] → new ≡ old → JoinsGroup old new g last
  group_same none e = subst (λ (p : PoolValue). JoinsGroup old p g last) (sym e) (record {
    grid = ap (λ (xs : List ℕ). beside (map (grid_at old) xs) (grid_at old last)) (sym none) ∙ joined_grid;
    views = λ q. omega (arith, counts q, ap (times q) none, times-cons q last []);
    kept = λ q z. refl;
    apart = λ q z there. there;
    held = refl;
  })

  -- what the pool asks
  pub group_can : CanJoin old first last
  group_can = record {
    different = different;
    apart = all_of (IsApart old) group.apart;
    alike = λ k d lt. record {
      kind = at_first (λ v. (grid_at old v).kind ≡ g.kind) group.kinds k d lt ∙ sym (at_last (λ v. (grid_at old v).kind ≡ g.kind) group.kinds);
      rows = at_first (λ v. (grid_at old v).rows ≡ (grid_at old (slice_index g.views 0)).rows) group.rows k d lt ∙ sym (at_last (λ v. (grid_at old v).rows ≡ (grid_at old (slice_index g.views 0)).rows) group.rows);
    };
  }
    where
      different : AllPairs ◌≢◌ (first ++ last ∷ [])
      different i j d lt below e =
          let xs : List ℕ = first ++ last ∷ [] in
          let two = times_twice (get_or xs j d) d xs i j lt below e refl in
          omega (arith, two, ap (times (get_or xs j d)) is, group.live (get_or xs j d), live_once old (get_or xs j d))

  pub group_width : length (beside (map (grid_at old) first) (grid_at old last)).columns ≡ length (group_columns (grid_at old) g)
  group_width = ap length columns_first

-- the groups done, and those that are left
pub record AreJoinedSo (old now : PoolValue) (done rest : List GroupValue) (left : List ℕ) : Type 0 where
  pub grids : grids_of now left ≡ map (group_grid (grid_at old)) done
  pub views : (q : ℕ) → live_count now q + times_in q done ≡ live_count old q + times q left
  pub within : (q : ℕ) → times q left ≤ times_in q done
  pub kept : (q : ℕ) → times_in q done ≡ 0 → get now.views q ≡ get old.views q
  pub apart : (q : ℕ) → times_in q done ≡ 0 → IsApart old q → IsApart now q
  pub held : total_of now ≡ total_of old

pub joined_start : (old : PoolValue) (rest : List GroupValue) → AreJoinedSo old old [] rest []
joined_start old rest = record {
  grids = refl;
  views = λ q. refl;
  within = λ q. omega arith;
  kept = λ q none. refl;
  apart = λ q none there. there;
  held = refl;
}

module _ (old now : PoolValue) (done rest : List GroupValue) (left : List ℕ) (g : GroupValue) (so_far : AreJoinedSo old now done (g ∷ rest) left) (apart : (q : ℕ) → times_in q (done ++ g ∷ rest) ≤ live_count old q) (group : IsGroup old g) where
  split : (q : ℕ) → times_in q (done ++ g ∷ rest) ≡ times_in q done + (times q g.views + times_in q rest)
  split q =
      let a = sum_by-append (λ (x : GroupValue). times q x.views) done (g ∷ rest) in
      let b = sum_by-cons (λ (x : GroupValue). times q x.views) g rest in
      omega (arith, a, b)

  not_done : (q : ℕ) → 0 < times q g.views → times_in q done ≡ 0
  not_done q some = omega (arith, some, apart q, split q, live_once old q)

  same_grid : (q : ℕ) → 0 < times q g.views → grid_at now q ≡ grid_at old q
  same_grid q some = grid_kept old now q (so_far.kept q (not_done q some))

  in_group : (k d : ℕ) → k < length g.views → 0 < times (get_or g.views k d) g.views
  in_group k d lt = times_here g.views k d (get_or g.views k d) lt refl

  first_grid : grid_at now (slice_index g.views 0) ≡ grid_at old (slice_index g.views 0)
  first_grid = same_grid (slice_index g.views 0) (in_group 0 0 group.some)

  -- the group is as it was
  pub group_still : IsGroup now g
  group_still = record {
    some = group.some;
    live = λ q. omega (arith, group.live q, so_far.views q, split q, apart q, so_far.within q);
    apart = λ k d lt. so_far.apart (get_or g.views k d) (not_done (get_or g.views k d) (in_group k d lt)) (group.apart k d lt);
    kinds = λ k d lt. ap (λ (b : CellBlock). b.kind) (same_grid (get_or g.views k d) (in_group k d lt)) ∙ group.kinds k d lt;
    rows = λ k d lt. ap (λ (b : CellBlock). b.rows) (same_grid (get_or g.views k d) (in_group k d lt)) ∙ group.rows k d lt ∙ ap (λ (b : CellBlock). b.rows) (sym first_grid);
  }

  columns_same : group_columns (grid_at now) g ≡ group_columns (grid_at old) g
  columns_same = at g.views (λ k d lt. ap (λ (b : CellBlock). b.columns) (same_grid (get_or g.views k d) (in_group k d lt)))
    where
      at : (xs : List ℕ) → All (λ v. (grid_at now v).columns ≡ (grid_at old v).columns) xs → flat_map (λ (v : ℕ). (grid_at now v).columns) xs ≡ flat_map (λ (v : ℕ). (grid_at old v).columns) xs
      at [] same = refl
      at (x ∷ xs) same = ap₂ (λ (a b : List (List Cell)). a ++ b) (same 0 x (omega arith)) (at xs (λ k d lt. same (suc k) d (omega (arith, lt))))

  pub columns_still : length (group_columns (grid_at now) g) ≡ length (group_columns (grid_at old) g)
  columns_still = ap length columns_same

  grid_same : group_grid (grid_at now) g ≡ group_grid (grid_at old) g
  grid_same =
      ap₂ (λ (n : ℕ) (cs : List (List Cell)). record { kind = g.kind; rows = n; columns = cs }) (ap (λ (b : CellBlock). b.rows) first_grid) columns_same

  module _ (new : PoolValue) (id : ℕ) (joins : JoinsGroup now new g id) where
    in_done : (q : ℕ) → times_in q (done ++ g ∷ []) ≡ times_in q done + times q g.views
    in_done q = sum_by_push (λ (x : GroupValue). times q x.views) done g

    -- the views that are left are as they were
    others : (k : ℕ) → k < length left → get new.views (get_or left k 0) ≡ get now.views (get_or left k 0)
    others k lt =
        let q : ℕ = get_or left k 0 in
        let some : 0 < times q left = times_here left k 0 q lt refl in
        joins.kept q (omega (arith, some, so_far.within q, apart q, split q, live_once old q))

    -- the view that is left was one of the group
    was_there : (q : ℕ) → same q id ≤ times q g.views
    was_there q = elim (cases_lt 0 (times q g.views)) [
      | inl some ↦ omega (arith, some, times-cons q id [], one_most q)
      | inr none ↦
          let gone : live_count new q ≡ live_count now q = ap (λ (o : Option ViewValue). cond {A = ℕ} (is_some o) 1 0) (joins.kept q (omega (arith, none))) in
          omega (arith, joins.views q, gone, none, times-cons q id [])
    ]
      where
        one_most : (q : ℕ) → same q id ≤ 1
        one_most q = elim (cases_eq id q) [
          | inl e ↦ omega (arith, same_one q id e)
          | inr ne ↦ omega (arith, same_none q id ne)
        ]

    pub joined_more : AreJoinedSo old new (done ++ g ∷ []) rest (left ++ id ∷ [])
    joined_more = record {
      grids = map-append (grid_at new) left (id ∷ [])
          ∙ ap₂ (λ (a : List CellBlock) (b : CellBlock). a ++ b ∷ []) (grids_kept now new left others ∙ so_far.grids) (joins.grid ∙ grid_same)
          ∙ sym (map-append (group_grid (grid_at old)) done (g ∷ []));
      views = λ q. omega (arith, joins.views q, so_far.views q, in_done q, sum_by_push (same q) left id, times-cons q id []);
      within = λ q. omega (arith, so_far.within q, in_done q, sum_by_push (same q) left id, was_there q);
      kept = λ q none. joins.kept q (omega (arith, none, in_done q)) ∙ so_far.kept q (omega (arith, none, in_done q));
      apart = λ q none there. joins.apart q (omega (arith, none, in_done q)) (so_far.apart q (omega (arith, none, in_done q)) there);
      held = joins.held ∙ so_far.held;
    }

-- all groups are done
pub all_joined : (old new : PoolValue) (groups : List GroupValue) (left : List ℕ) → AreJoinedSo old new groups [] left → JoinsGroups old new groups left
all_joined old new groups left so_far = record { grids = so_far.grids; views = so_far.views; kept = so_far.kept; held = so_far.held }
