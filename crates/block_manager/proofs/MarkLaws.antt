-- Columns that are marked, and what they cost.
use Rattle.{std.proofs.Common.{◌≡◌, ℕ, zero, suc, ◌+◌, ◌<◌, ◌≤◌, Bool, true, false, cond, List, [], ◌∷◌, ◌++◌, map, length, refl, ap, ap₂, sym, ◌∙◌, subst, arith, get_or, inl, inr, slice_set, length-set, get_or-set_same, get_or-set_other}, std.proofs.lemmas.{Bool.{cases_eq, ne_eqb, false≢true}, List.{length-replicate, map-append, append-nil, set-get_or, get_or-map}, List.Elements.{filter-append, All-push, All-nil}, List.Sums.{sum_by_push}}, std.specs.{Prelude.{◌==◌, ◌||◌, replicate, slice_index, sum}, List.{list_any}}, cell_core.specs.declared.cell.Cell.{Cell}, column_core.specs.Blocks.{CellBlock}, meaning_tables.specs.{Table.{ColumnOf, column_at, no_column}, cells.Reduce.{distinct}}, block_pool.specs.Pools.{PoolValue, IsSole}, block_manager.{specs.{declared.spots.Spot.{Spot}, Managed.{cells_named}, Spots.{width_in, no_grid, spot_at, spot_column, spot_columns, Fits, marked, marked_cost, picked_cost, rows_at, AreMarked, IsAloneAt}}, proofs.{PlanLaws.{s0}, SpotLaws.{spot_within}, CellLaws.{width_inside}}}}

-- one more of those that are counted once
distinct_push : (xs : List ℕ) (x : ℕ) → distinct ◌==◌ (xs ++ x ∷ []) ≡ distinct ◌==◌ xs ++ cond (list_any (λ y. x == y) xs) [] (x ∷ [])
distinct_push [] x = refl
distinct_push (k ∷ ks) x = grind (arith, filter-append, distinct_push ks x)

any_place : (q : ℕ) (xs : List ℕ) → list_any (λ o. q == o) xs ≡ true → (k : ℕ) × (k < length xs) × (get_or xs k 0 ≡ q)
any_place q [] is = absurd (false≢true is)
any_place q (x ∷ xs) is = elim (cases_eq q x) [
  | inl e ↦ (zero, omega arith, sym e)
  | inr ne ↦
      let rest = any_place q xs (sym (ap (λ b. b || list_any (λ o. q == o) xs) (ne_eqb q x ne)) ∙ is) in
      (suc rest.0, omega (arith, rest.1), rest.2)
]

-- nothing is marked
none_marked : (n place : ℕ) → marked (replicate n false) place ≡ false
none_marked zero place = refl
none_marked (suc n) zero = refl
none_marked (suc n) (suc place) = none_marked n place

none_cost : (f : ℕ → ℕ) (n : ℕ) → marked_cost f (replicate n false) ≡ 0
none_cost f zero = refl
none_cost f (suc n) = omega (arith, none_cost (λ k. f (suc k)) n)

pub marks_start : (pool : PoolValue) (views : List ℕ) (spots : List Spot) (marks split : List Bool) → marks ≡ replicate (length spots) false → split ≡ replicate (length views) false → AreMarked pool views spots marks split []
marks_start pool views spots marks split no_marks no_split = record {
  long = ap length no_marks ∙ length-replicate (length spots) false;
  wide = ap length no_split ∙ length-replicate (length views) false;
  named = All-nil _;
  split_too = λ place lt is. absurd (false≢true (sym (ap (λ (bs : List Bool). marked bs place) no_marks ∙ none_marked (length spots) place) ∙ is));
  shared = λ view is. absurd (false≢true (sym (ap (λ (bs : List Bool). marked bs view) no_split ∙ none_marked (length views) view) ∙ is));
  cost = λ f. (let none : marked_cost f marks ≡ 0 = ap (marked_cost f) no_marks ∙ none_cost f (length spots) in omega (arith, none));
}

-- a column that wasn't marked
cost_new : (f : ℕ → ℕ) (marks : List Bool) (p : ℕ) → p < length marks → marked marks p ≡ false → marked_cost f (slice_set marks p true) ≡ marked_cost f marks + f p
cost_new f [] p lt is = absurd (omega (arith, lt))
cost_new f (b ∷ marks) zero lt is = omega (arith, ap (λ x. cond {A = ℕ} x (f 0) 0) is)
cost_new f (b ∷ marks) (suc p) lt is = omega (arith, cost_new (λ k. f (suc k)) marks p (omega (arith, lt)) is)

-- one that wasn't there costs what it costs
cost_push : (f : ℕ → ℕ) (xs : List ℕ) (x : ℕ) → list_any (λ y. x == y) xs ≡ false → sum (map f (distinct ◌==◌ (xs ++ x ∷ []))) ≡ sum (map f (distinct ◌==◌ xs)) + f x
cost_push f xs x is =
    ap (λ (l : List ℕ). sum (map f l)) (distinct_push xs x ∙ ap (λ c. distinct ◌==◌ xs ++ cond c [] (x ∷ [])) is)
    ∙ ap sum (map-append f (distinct ◌==◌ xs) (x ∷ []))
    ∙ sum_by_push (λ (n : ℕ). n) (map f (distinct ◌==◌ xs)) (f x)

-- columns that are counted once cost no less with one more
cost_grows : (f : ℕ → ℕ) (xs : List ℕ) (x : ℕ) → sum (map f (distinct ◌==◌ xs)) ≤ sum (map f (distinct ◌==◌ (xs ++ x ∷ [])))
cost_grows f xs x = at (list_any (λ y. x == y) xs) refl
  where
    whole : (b : Bool) → list_any (λ y. x == y) xs ≡ b → distinct ◌==◌ (xs ++ x ∷ []) ≡ distinct ◌==◌ xs ++ cond b [] (x ∷ [])
    whole b is = distinct_push xs x ∙ ap (λ c. distinct ◌==◌ xs ++ cond c [] (x ∷ [])) is

    at : (b : Bool) → list_any (λ y. x == y) xs ≡ b → sum (map f (distinct ◌==◌ xs)) ≤ sum (map f (distinct ◌==◌ (xs ++ x ∷ [])))
    at true is = (let e : sum (map f (distinct ◌==◌ (xs ++ x ∷ []))) ≡ sum (map f (distinct ◌==◌ xs)) = ap (λ (l : List ℕ). sum (map f l)) (whole true is ∙ append-nil (distinct ◌==◌ xs)) in omega (arith, e))
    at false is = (let e : sum (map f (distinct ◌==◌ (xs ++ x ∷ []))) ≡ sum (map f (distinct ◌==◌ xs)) + f x = cost_push f xs x is in omega (arith, e))

module _ (pool : PoolValue) (views : List ℕ) (spots : List Spot) (marks split : List Bool) (done : List ℕ) (so_far : AreMarked pool views spots marks split done) (p : ℕ) where
  -- a column whose view is alone on its block
  pub marks_alone : IsAloneAt pool views spots p → AreMarked pool views spots marks split (done ++ p ∷ [])
  marks_alone alone = record {
    long = so_far.long;
    wide = so_far.wide;
    named = All-push (λ place. marked marks place ≡ false → IsAloneAt pool views spots place) done p so_far.named (λ e. alone);
    split_too = so_far.split_too;
    shared = so_far.shared;
    cost = λ f. omega (arith, so_far.cost f, cost_grows f done p);
  }

  -- a column whose view isn't
  module _ (lt : p < length spots) (inside : (spot_at spots p).view < length views) (not_alone : IsAloneAt pool views spots p → ⊥) where
    abbrev v : ℕ
    v = (spot_at spots p).view

    abbrev put : List Bool
    put = slice_set marks p true

    abbrev cut : List Bool
    cut = slice_set split v true

    put_here : marked put p ≡ true
    put_here = get_or-set_same marks p true false (omega (arith, lt, so_far.long))

    cut_here : marked cut v ≡ true
    cut_here = get_or-set_same split v true false (omega (arith, inside, so_far.wide))

    named_at : (q : ℕ) → (marked marks q ≡ false → IsAloneAt pool views spots q) → marked put q ≡ false → IsAloneAt pool views spots q
    named_at q before none = elim (cases_eq q p) [
      | inl e ↦ absurd (false≢true (sym none ∙ ap (marked put) e ∙ put_here))
      | inr ne ↦ before (sym (get_or-set_other marks p q true false ne) ∙ none)
    ]

    cut_still : (w : ℕ) → marked split w ≡ true → marked cut w ≡ true
    cut_still w is = elim (cases_eq w v) [
      | inl e ↦ ap (marked cut) e ∙ cut_here
      | inr ne ↦ get_or-set_other split v w true false ne ∙ is
    ]

    -- it wasn't named before where it wasn't marked
    new_name : marked marks p ≡ false → list_any (λ y. p == y) done ≡ false
    new_name none = at (list_any (λ y. p == y) done) refl
      where
        at : (b : Bool) → list_any (λ y. p == y) done ≡ b → list_any (λ y. p == y) done ≡ false
        at false is = is
        at true is =
            let found = any_place p done is in
            absurd (not_alone (subst (λ (q : ℕ). IsAloneAt pool views spots q) found.2 (so_far.named found.0 0 found.1 (ap (marked marks) found.2 ∙ none))))

    cost : (f : ℕ → ℕ) → marked_cost f put ≤ sum (map f (distinct ◌==◌ (done ++ p ∷ [])))
    cost f = at (marked marks p) refl
      where
        at : (b : Bool) → marked marks p ≡ b → marked_cost f put ≤ sum (map f (distinct ◌==◌ (done ++ p ∷ [])))
        at true is =
            let same : marked_cost f put ≡ marked_cost f marks = ap (marked_cost f) (ap (slice_set marks p) (sym is) ∙ set-get_or marks p false) in
            omega (arith, same, so_far.cost f, cost_grows f done p)
        at false is = omega (arith, cost_new f marks p (omega (arith, lt, so_far.long)) is, so_far.cost f, cost_push f done p (new_name is))

    pub marks_more : AreMarked pool views spots (slice_set marks p true) (slice_set split (spot_at spots p).view true) (done ++ p ∷ [])
    marks_more = record {
      long = length-set marks p true ∙ so_far.long;
      wide = length-set split v true ∙ so_far.wide;
      named = All-push (λ place. marked put place ≡ false → IsAloneAt pool views spots place) done p (λ k d le. named_at (get_or done k d) (so_far.named k d le)) (λ none. absurd (false≢true (sym none ∙ put_here)));
      split_too = λ place le is. elim (cases_eq place p) [
        | inl e ↦ ap (λ q. marked cut (spot_at spots q).view) e ∙ cut_here
        | inr ne ↦ cut_still (spot_at spots place).view (so_far.split_too place le (sym (get_or-set_other marks p place true false ne) ∙ is))
      ];
      shared = λ view is sole. elim (cases_eq view v) [
        | inl e ↦ not_alone (subst (λ (w : ℕ). IsSole pool (slice_index views w)) e sole)
        | inr ne ↦ so_far.shared view (sym (get_or-set_other split v view true false ne) ∙ is) sole
      ];
      cost = cost;
    }

-- what picked columns cost by their places
picked_marked : (h : ℕ → ℕ) (marks : List Bool) (spots : List Spot) → length marks ≡ length spots → picked_cost h marks spots ≡ marked_cost (λ k. h (spot_at spots k).view) marks
picked_marked h [] [] e = refl
picked_marked h [] (s ∷ spots) e = absurd (omega (arith, e))
picked_marked h (b ∷ marks) [] e = absurd (omega (arith, e))
picked_marked h (b ∷ marks) (s ∷ spots) e = ap (λ n. cond {A = ℕ} b (h s.view) 0 + n) (picked_marked h marks spots (omega (arith, e)))

marked_same : (f g : ℕ → ℕ) (marks : List Bool) → ((k : ℕ) → k < length marks → f k ≡ g k) → marked_cost f marks ≡ marked_cost g marks
marked_same f g [] same = refl
marked_same f g (b ∷ marks) same =
    ap₂ (λ (a n : ℕ). cond {A = ℕ} b a 0 + n) (same 0 (omega arith)) (marked_same (λ k. f (suc k)) (λ k. g (suc k)) marks (λ k lt. same (suc k) (omega (arith, lt))))

-- no more is copied than the columns that are named, each counted once
pub named_cost : (pool : PoolValue) (views : List ℕ) (grids : List CellBlock) (spots : List Spot) (marks split : List Bool) (places : List ℕ) → Fits grids spots → AreMarked pool views spots marks split places → picked_cost (rows_at grids) marks spots ≤ cells_named (spot_columns grids spots) places
named_cost pool views grids spots marks split places fits m =
    let picked = picked_marked (rows_at grids) marks spots m.long in
    let same = marked_same (λ k. rows_at grids (spot_at spots k).view) (λ k. length (column_at (spot_columns grids spots) k).cells) marks (λ k lt. sym (long k (omega (arith, lt, m.long)))) in
    omega (arith, picked, same, m.cost (λ k. length (column_at (spot_columns grids spots) k).cells))
  where
    long : (k : ℕ) → k < length spots → length (column_at (spot_columns grids spots) k).cells ≡ rows_at grids (spot_at spots k).view
    long k lt =
        let s : Spot = spot_at spots k in
        let below : s.column < width_in grids s.view = spot_within (width_in grids) spots fits.covers k s0 lt in
        ap (λ (c : ColumnOf Cell). length c.cells) (get_or-map (spot_column grids) spots k s0 no_column lt)
        ∙ fits.even s.view no_grid (width_inside grids s.view s.column below) s.column [] below
