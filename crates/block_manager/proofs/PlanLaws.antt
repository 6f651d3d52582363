-- Runs of columns of which new views are made.
use Rattle.{std.proofs.Common.{◌≡◌, ◌≢◌, ℕ, zero, suc, ◌+◌, ◌-◌, ◌*◌, ◌<◌, ◌≤◌, Bool, true, false, cond, nat_lt, List, [], ◌∷◌, ◌++◌, map, length, refl, ap, ap₂, sym, ◌∙◌, subst, arith, get_or, All, inl, inr, count_by, eq-eqb, Option, Some, None, pos, slice_set, get_or-set_same, get_or-set_other}, std.proofs.lemmas.{Bool.{false≢true, cases_eq, cases_lt, ne_eqb, lt-ltb, le-ltb}, List.{length-map, length-set, get_or-map, get_or_default, map-append, length-append, FromFn.{fill_by_all}}, List.Elements.{All-push, All-set, All-nil}, List.Sums.{sum_by-cons, sum_by_push, sum_by-set}, Simd.{map-map}}, std.specs.Prelude.{◌==◌, slice_index_or, sum_by}, cell_core.specs.{declared.{cell.Cell.{Cell}, cell.Cell.TheVariants.{Na}, grid.Rows.{Rows}}, Grids.{place_from}}, column_core.{specs.Blocks.{CellBlock}, proofs.{ColumnLaws.{length-tabulate}, MoveLaws.{get_or-tabulate}}}, meaning_tables.specs.{cells.{Block.{strided}}}, block_pool.specs.Pools.{cells_of}, block_manager.{specs.{declared.spots.{Spot.{Spot}, Run.{Run}}, Spots.{AreOn, no_grid, grid_in, width_in, spot_column, spot_columns, is_at, Covers, IsEvenGrid, Fits, no_run, run_in, origin, marked, picked_cost, alone_cost, copied_cells, rows_at, Plans, AreWholes, AreWholesOf, whole_run, whole_at, rows_by, run_grid, IsRunOf, longer, begun, Joins, column_by, IsPick}}, proofs.{CountLaws.{one, counted-push}, SpotLaws.{at_parts, spot_within, spot_there}, OtherLaws.{map_by_all}}}}

abbrev pub s0 : Spot
s0 = record { view = 0; column = 0 }

-- an item is replaced by one that f cannot tell from it
pub set_seen : {X Y : Type 0} (f : X → Y) (xs : List X) (i q : ℕ) (x d : X) → f x ≡ f (slice_index_or xs i d) → f (slice_index_or (slice_set xs i x) q d) ≡ f (slice_index_or xs q d)
set_seen f (y ∷ ys) zero zero x d h = h
set_seen f (y ∷ ys) (suc i) (suc q) x d h = set_seen f ys i q x d h
set_seen f [] i q x d h = refl
set_seen f (y ∷ ys) i q x d h = refl

pub beyond : {X : Type 0} (xs : List X) (k : ℕ) (d : X) → length xs ≤ k → slice_index_or xs k d ≡ d
beyond [] k d le = refl
beyond (x ∷ xs) zero d le = absurd (omega (arith, le))
beyond (x ∷ xs) (suc k) d le = beyond xs k d (omega (arith, le))

pub pushed_last : {X : Type 0} (xs : List X) (x d : X) → slice_index_or (xs ++ x ∷ []) (length xs) d ≡ x
pushed_last [] x d = refl
pushed_last (y ∷ xs) x d = pushed_last xs x d

pub pushed_before : {X : Type 0} (xs : List X) (x d : X) (k : ℕ) → k < length xs → slice_index_or (xs ++ x ∷ []) k d ≡ slice_index_or xs k d
pushed_before [] x d k lt = absurd (omega (arith, lt))
pushed_before (y ∷ xs) x d zero lt = refl
pushed_before (y ∷ xs) x d (suc k) lt = pushed_before xs x d k (omega (arith, lt))

-- what a pick more costs
picked_push : (f : ℕ → ℕ) (marks : List Bool) (picks : List Spot) (pick : Spot) → picked_cost f marks (picks ++ pick ∷ []) ≡ picked_cost f marks picks + cond {A = ℕ} (marked marks (length picks)) (f pick.view) 0
picked_push f [] [] pick = refl
picked_push f (b ∷ marks) [] pick = omega arith
picked_push f [] (p ∷ picks) pick = refl
picked_push f (b ∷ marks) (p ∷ picks) pick = omega (arith, picked_push f marks picks pick)

pub one_more : (column count : ℕ) → cond {A = ℕ} (nat_lt column (count + 1)) 1 0 ≡ cond {A = ℕ} (nat_lt column count) 1 0 + cond {A = ℕ} (count == column) 1 0
one_more column count = elim (cases_lt column count) [
  | inl lt ↦ (let ne : count ≢ column = λ e. omega (arith, lt, e) in rw (lt-ltb column (count + 1) (omega (arith, lt)), lt-ltb column count lt, ne_eqb count column ne) refl)
  | inr ge ↦ elim (cases_eq count column) [
    | inl e ↦ rw (lt-ltb column (count + 1) (omega (arith, e)), le-ltb column count ge, eq-eqb count column e) refl
    | inr ne ↦ rw (le-ltb column (count + 1) (omega (arith, ge, ne)), le-ltb column count ge, ne_eqb count column ne) refl
  ]
]

-- what a new spot adds
pub here : (run column count : ℕ) → one (is_at run column) record { view = run; column = count } ≡ cond {A = ℕ} (count == column) 1 0
here run column count = rw (eq-eqb run run refl) refl

pub elsewhere : (view column run count : ℕ) → run ≢ view → one (is_at view column) record { view = run; column = count } ≡ 0
elsewhere view column run count ne = rw (ne_eqb run view ne) refl

-- what stands on runs, of which so many are whole
abbrev CountsBy : ℕ → List Run → List Spot → List Spot → Type 0
CountsBy n runs spots picks = (view column : ℕ) → count_by (is_at view column) spots ≡ cond (nat_lt view n) (count_by (is_at (run_in runs view).view column) picks) (cond (nat_lt column (run_in runs view).count) 1 0)

counts_whole : (n : ℕ) (runs : List Run) (spots picks : List Spot) → CountsBy n runs spots picks → (view column : ℕ) → view < n → count_by (is_at view column) spots ≡ count_by (is_at (run_in runs view).view column) picks
counts_whole n runs spots picks counts view column lt =
    counts view column ∙ ap (λ b. cond {A = ℕ} b (count_by (is_at (run_in runs view).view column) picks) (cond (nat_lt column (run_in runs view).count) 1 0)) (lt-ltb view n lt)

counts_rest : (n : ℕ) (runs : List Run) (spots picks : List Spot) → CountsBy n runs spots picks → (view column : ℕ) → n ≤ view → count_by (is_at view column) spots ≡ cond (nat_lt column (run_in runs view).count) 1 0
counts_rest n runs spots picks counts view column ge =
    counts view column ∙ ap (λ b. cond {A = ℕ} b (count_by (is_at (run_in runs view).view column) picks) (cond (nat_lt column (run_in runs view).count) 1 0)) (le-ltb view n ge)

counts_both : (n : ℕ) (runs : List Run) (spots picks : List Spot) → ((view column : ℕ) → view < n → count_by (is_at view column) spots ≡ count_by (is_at (run_in runs view).view column) picks)
    → ((view column : ℕ) → n ≤ view → count_by (is_at view column) spots ≡ cond (nat_lt column (run_in runs view).count) 1 0) → CountsBy n runs spots picks
counts_both n runs spots picks whole rest view column = elim (cases_lt view n) [
  | inl lt ↦ whole view column lt ∙ sym (ap (λ b. cond {A = ℕ} b (count_by (is_at (run_in runs view).view column) picks) (cond (nat_lt column (run_in runs view).count) 1 0)) (lt-ltb view n lt))
  | inr ge ↦ rest view column ge ∙ sym (ap (λ b. cond {A = ℕ} b (count_by (is_at (run_in runs view).view column) picks) (cond (nat_lt column (run_in runs view).count) 1 0)) (le-ltb view n ge))
]

module _ (wholes : List Run) (places : List (Option ℕ)) (are : AreWholes wholes places) where
  plain : (k : ℕ) → k < length wholes → (run_in wholes k).alone ≡ false
  plain k lt = ap (λ (r : Run). r.alone) (are.there (run_in wholes k).view k (are.back k lt)).1

  -- nothing yet
  pub plans_start : (marks : List Bool) → Plans wholes places wholes [] [] marks
  plans_start marks = record {
    origins = refl;
    on = All-nil _;
    long = omega arith;
    first = λ k lt. refl;
    others = λ k ge lt. absurd (omega (arith, ge, lt));
    covers = counts_both (length wholes) wholes [] [] (λ view column lt. refl)
        (λ view column ge. sym (ap (λ (r : Run). cond {A = ℕ} (nat_lt column r.count) 1 0) (beyond wholes view no_run ge) ∙ ap (λ b. cond {A = ℕ} b 1 0) (le-ltb column 0 (omega arith))));
    some = are.some;
    single = λ k d lt e. absurd (false≢true (sym (plain k lt) ∙ ap (λ (r : Run). r.alone) (get_or_default wholes k no_run d lt) ∙ e));
    apart = λ k lt. absurd (omega (arith, lt));
    cost = λ f. no_cost f wholes (λ k lt. plain k lt);
  }
    where
      no_cost : (f : ℕ → ℕ) (runs : List Run) → ((k : ℕ) → k < length runs → (run_in runs k).alone ≡ false) → sum_by (alone_cost f) runs ≡ 0
      no_cost f [] none = refl
      no_cost f (r ∷ runs) none = omega (arith, sum_by-cons (alone_cost f) r runs, ap (λ b. cond {A = ℕ} b (f r.view) 0) (none 0 (omega arith)), no_cost f runs (λ k lt. none (suc k) (omega (arith, lt))))

  module _ (runs : List Run) (spots picks : List Spot) (marks : List Bool) (so_far : Plans wholes places runs spots picks marks) (pick : Spot) where
    abbrev n : ℕ
    n = length wholes

    as_many : length picks ≡ length spots
    as_many = ap length (sym so_far.origins) ∙ length-map spots (origin runs)

    cost_more : (f : ℕ → ℕ) → picked_cost f marks (picks ++ pick ∷ []) ≡ sum_by (alone_cost f) runs + cond {A = ℕ} (marked marks (length spots)) (f pick.view) 0
    cost_more f = picked_push f marks picks pick ∙ ap₂ (λ (a k : ℕ). a + cond {A = ℕ} (marked marks k) (f pick.view) 0) (sym (so_far.cost f)) as_many

    -- the whole view of a run
    whole_view : (k : ℕ) → k < n → whole_at places (run_in runs k).view ≡ Some k
    whole_view k lt = ap (λ (r : Run). whole_at places r.view) (so_far.first k lt) ∙ are.back k lt

    -- a spot more on whole views
    whole_more : (runs' : List Run) (s : Spot) (view column : ℕ) → view < n → (run_in runs' view).view ≡ (run_in runs view).view → one (is_at view column) s ≡ one (is_at (run_in runs view).view column) pick
        → count_by (is_at view column) (spots ++ s ∷ []) ≡ count_by (is_at (run_in runs' view).view column) (picks ++ pick ∷ [])
    whole_more runs' s view column lt same one_is =
        counted-push (is_at view column) spots s
        ∙ ap₂ (λ (a b : ℕ). a + b) (counts_whole n runs spots picks so_far.covers view column lt) one_is
        ∙ sym (ap (λ v. count_by (is_at v column) (picks ++ pick ∷ [])) same ∙ counted-push (is_at (run_in runs view).view column) picks pick)

    -- a pick on the run of its view
    module _ (run : ℕ) (is_whole : whole_at places pick.view ≡ Some run) (unmarked : marked marks (length spots) ≡ false) where
      abbrev w : Spot
      w = record { view = run; column = pick.column }

      inside : run < n
      inside = (are.there pick.view run is_whole).0

      run_is : run_in runs run ≡ whole_run pick.view (run_in wholes run).count
      run_is = so_far.first run inside ∙ (are.there pick.view run is_whole).1

      one_whole : (view column : ℕ) → view < n → one (is_at view column) w ≡ one (is_at (run_in runs view).view column) pick
      one_whole view column lt = elim (cases_eq run view) [
        | inl e ↦ subst (λ v. one (is_at v column) w ≡ one (is_at (run_in runs v).view column) pick) e
            (here run column pick.column ∙ sym (ap (λ (r : Run). one (is_at r.view column) pick) run_is ∙ here pick.view column pick.column))
        | inr ne ↦
            let apart : pick.view ≢ (run_in runs view).view = λ e. ne (let same : Some run ≡ Some view = sym is_whole ∙ ap (whole_at places) e ∙ whole_view view lt in cc) in
            elsewhere view column run pick.column ne ∙ sym (elsewhere (run_in runs view).view column pick.view pick.column apart)
      ]

      pub whole_plans : Plans wholes places runs (spots ++ w ∷ []) (picks ++ pick ∷ []) marks
      whole_plans = record {
        origins = map-append (origin runs) spots (w ∷ [])
            ∙ ap₂ (λ (a : List Spot) (b : Spot). a ++ b ∷ []) so_far.origins (ap (λ (x : Run). record { view = x.view; column = x.from + pick.column }) run_is ∙ ap (λ c. record { view = pick.view; column = c }) (omega arith));
        on = All-push (λ (t : Spot). t.view < length runs) spots w so_far.on (omega (arith, inside, so_far.long));
        long = so_far.long;
        first = so_far.first;
        others = so_far.others;
        covers = counts_both n runs (spots ++ w ∷ []) (picks ++ pick ∷ [])
            (λ view column lt. whole_more runs w view column lt refl (one_whole view column lt))
            (λ view column ge.
            let none = elsewhere view column run pick.column (λ e. omega (arith, e, ge, inside)) in
            counted-push (is_at view column) spots w ∙ omega (arith, none) ∙ counts_rest n runs spots picks so_far.covers view column ge);
        some = so_far.some;
        single = so_far.single;
        apart = λ k lt is. elim (cases_lt k (length spots)) [
          | inl old ↦ ap (λ (t : Spot). (run_in runs t.view).alone) (pushed_before spots w s0 k old) ∙ so_far.apart k old is
          | inr new ↦ (let at : k ≡ length spots = omega (arith, lt, new, length-append spots (w ∷ [])) in absurd (false≢true (sym unmarked ∙ ap (marked marks) (sym at) ∙ is)))
        ];
        cost = λ f. (let none : cond {A = ℕ} (marked marks (length spots)) (f pick.view) 0 ≡ 0 = ap (λ b. cond {A = ℕ} b (f pick.view) 0) unmarked in omega (arith, cost_more f, none));
      }

    -- a pick on no whole view
    module _ (free : whole_at places pick.view ≡ None) where
      not_there : (k : ℕ) → k < n → pick.view ≢ (run_in runs k).view
      not_there k lt e = (let none : Some k ≡ None = sym (whole_view k lt) ∙ ap (whole_at places) (sym e) ∙ free in cc)

      one_free : (view column : ℕ) → view < n → (run count : ℕ) → run ≢ view → one (is_at view column) record { view = run; column = count } ≡ one (is_at (run_in runs view).view column) pick
      one_free view column lt run count ne = elsewhere view column run count ne ∙ sym (elsewhere (run_in runs view).view column pick.view pick.column (not_there view lt))

      module _ (run : ℕ) (there : run < length runs) (view_is : (run_in runs run).view ≡ pick.view) (next : (run_in runs run).from + (run_in runs run).count ≡ pick.column) (unlike : (run_in runs run).alone ≡ false) (unmarked : marked marks (length spots) ≡ false) where
        abbrev r : Run
        r = run_in runs run

        abbrev put : List Run
        put = slice_set runs run (longer r)

        abbrev s : Spot
        s = record { view = run; column = r.count }

        behind : n ≤ run
        behind = elim (cases_lt run n) [
          | inl lt ↦ absurd (not_there run lt (sym view_is))
          | inr ge ↦ ge
        ]

        same_view : (k : ℕ) → (run_in put k).view ≡ (run_in runs k).view
        same_view k = set_seen (λ (x : Run). x.view) runs run k (longer r) no_run refl

        same_from : (k : ℕ) → (run_in put k).from ≡ (run_in runs k).from
        same_from k = set_seen (λ (x : Run). x.from) runs run k (longer r) no_run refl

        same_alone : (k : ℕ) → (run_in put k).alone ≡ (run_in runs k).alone
        same_alone k = set_seen (λ (x : Run). x.alone) runs run k (longer r) no_run refl

        same_run : (k : ℕ) → k ≢ run → run_in put k ≡ run_in runs k
        same_run k ne = get_or-set_other runs run k (longer r) no_run ne

        count_here : (run_in put run).count ≡ r.count + 1
        count_here = ap (λ (x : Run). x.count) (get_or-set_same runs run (longer r) no_run there)

        put_long : length put ≡ length runs
        put_long = length-set runs run (longer r)

        long_rest : (view column : ℕ) → n ≤ view → count_by (is_at view column) (spots ++ s ∷ []) ≡ cond (nat_lt column (run_in put view).count) 1 0
        long_rest view column ge = counted-push (is_at view column) spots s ∙ elim (cases_eq run view) [
          | inl e ↦ subst (λ v. count_by (is_at v column) spots + one (is_at v column) s ≡ cond {A = ℕ} (nat_lt column (run_in put v).count) 1 0) e
              (ap₂ (λ (a b : ℕ). a + b) (counts_rest n runs spots picks so_far.covers run column behind) (here run column r.count)
              ∙ sym (ap (λ k. cond {A = ℕ} (nat_lt column k) 1 0) count_here ∙ one_more column r.count))
          | inr ne ↦
              let none = elsewhere view column run r.count ne in
              omega (arith, none, counts_rest n runs spots picks so_far.covers view column ge, ap (λ (x : Run). cond {A = ℕ} (nat_lt column x.count) 1 0) (same_run view (λ z. ne (sym z))))
        ]

        pub longer_plans : Plans wholes places put (spots ++ s ∷ []) (picks ++ pick ∷ []) marks
        longer_plans = record {
          origins = map-append (origin put) spots (s ∷ [])
              ∙ ap₂ (λ (a : List Spot) (b : Spot). a ++ b ∷ [])
              (map_by_all (origin put) (origin runs) spots (λ k d lt. ap₂ (λ (v c : ℕ). record { view = v; column = c + (get_or spots k d).column }) (same_view (get_or spots k d).view) (same_from (get_or spots k d).view)) ∙ so_far.origins)
              (ap₂ (λ (v c : ℕ). record { view = v; column = c }) (same_view run ∙ view_is) (ap (λ c. c + r.count) (same_from run) ∙ next));
          on = All-push (λ (t : Spot). t.view < length put) spots s (λ k d lt. (let h = so_far.on k d lt in omega (arith, h, put_long))) (omega (arith, there, put_long));
          long = omega (arith, so_far.long, put_long);
          first = λ k lt. same_run k (λ e. omega (arith, e, lt, behind)) ∙ so_far.first k lt;
          others = λ k ge lt. ap (whole_at places) (same_view k) ∙ so_far.others k ge (omega (arith, lt, put_long));
          covers = counts_both n put (spots ++ s ∷ []) (picks ++ pick ∷ [])
              (λ view column lt. whole_more put s view column lt (same_view view) (one_free view column lt run r.count (λ e. omega (arith, e, lt, behind))))
              long_rest;
          some = All-set (λ (x : Run). 0 < x.count) runs run (longer r) (omega arith) so_far.some;
          single = All-set (λ (x : Run). x.alone ≡ true → x.count ≡ 1) runs run (longer r) (λ e. absurd (false≢true (sym unlike ∙ e))) so_far.single;
          apart = λ k lt is. elim (cases_lt k (length spots)) [
            | inl old ↦ ap (λ (t : Spot). (run_in put t.view).alone) (pushed_before spots s s0 k old) ∙ same_alone (get_or spots k s0).view ∙ so_far.apart k old is
            | inr new ↦ (let at : k ≡ length spots = omega (arith, lt, new, length-append spots (s ∷ [])) in absurd (false≢true (sym unmarked ∙ ap (marked marks) (sym at) ∙ is)))
          ];
          cost = λ f.
              let same : alone_cost f (longer r) ≡ alone_cost f r = refl in
              let none : cond {A = ℕ} (marked marks (length spots)) (f pick.view) 0 ≡ 0 = ap (λ b. cond {A = ℕ} b (f pick.view) 0) unmarked in
              omega (arith, sum_by-set (alone_cost f) runs run (longer r) no_run there, same, cost_more f, none);
        }

      module _ (alone : Bool) (mark : alone ≡ marked marks (length spots)) where
        abbrev more : List Run
        more = runs ++ begun pick alone ∷ []

        abbrev t : Spot
        t = record { view = length runs; column = 0 }

        old_run : (k : ℕ) → k < length runs → run_in more k ≡ run_in runs k
        old_run k lt = pushed_before runs (begun pick alone) no_run k lt

        new_run : run_in more (length runs) ≡ begun pick alone
        new_run = pushed_last runs (begun pick alone) no_run

        more_long : length more ≡ length runs + 1
        more_long = length-append runs (begun pick alone ∷ [])

        same : (view : ℕ) → view ≢ length runs → run_in more view ≡ run_in runs view
        same view ne = elim (cases_lt view (length runs)) [
          | inl lt ↦ old_run view lt
          | inr ge ↦ beyond more view no_run (omega (arith, more_long, ge, ne)) ∙ sym (beyond runs view no_run ge)
        ]

        new_rest : (view column : ℕ) → n ≤ view → count_by (is_at view column) (spots ++ t ∷ []) ≡ cond (nat_lt column (run_in more view).count) 1 0
        new_rest view column ge = counted-push (is_at view column) spots t ∙ elim (cases_eq (length runs) view) [
          | inl e ↦ subst (λ v. count_by (is_at v column) spots + one (is_at v column) t ≡ cond {A = ℕ} (nat_lt column (run_in more v).count) 1 0) e
              (ap₂ (λ (a b : ℕ). a + b) (counts_rest n runs spots picks so_far.covers (length runs) column so_far.long ∙ ap (λ (x : Run). cond {A = ℕ} (nat_lt column x.count) 1 0) (beyond runs (length runs) no_run (omega arith))) (here (length runs) column 0)
              ∙ sym (ap (λ (x : Run). cond {A = ℕ} (nat_lt column x.count) 1 0) new_run ∙ one_more column 0))
          | inr ne ↦
              let none = elsewhere view column (length runs) 0 ne in
              omega (arith, none, counts_rest n runs spots picks so_far.covers view column ge, ap (λ (x : Run). cond {A = ℕ} (nat_lt column x.count) 1 0) (same view (λ z. ne (sym z))))
        ]

        pub begun_plans : Plans wholes places more (spots ++ t ∷ []) (picks ++ pick ∷ []) marks
        begun_plans = record {
          origins = map-append (origin more) spots (t ∷ [])
              ∙ ap₂ (λ (a : List Spot) (b : Spot). a ++ b ∷ [])
              (map_by_all (origin more) (origin runs) spots (λ k d lt. ap (λ (x : Run). record { view = x.view; column = x.from + (get_or spots k d).column }) (old_run (get_or spots k d).view (so_far.on k d lt))) ∙ so_far.origins)
              (ap (λ (x : Run). record { view = x.view; column = x.from + 0 }) new_run ∙ ap (λ c. record { view = pick.view; column = c }) (omega arith));
          on = All-push (λ (x : Spot). x.view < length more) spots t (λ k d lt. (let h = so_far.on k d lt in omega (arith, h, more_long))) (omega (arith, more_long));
          long = omega (arith, so_far.long, more_long);
          first = λ k lt. old_run k (omega (arith, lt, so_far.long)) ∙ so_far.first k lt;
          others = λ k ge lt. elim (cases_lt k (length runs)) [
            | inl old ↦ ap (λ (x : Run). whole_at places x.view) (old_run k old) ∙ so_far.others k ge old
            | inr new ↦ ap (λ i. whole_at places (run_in more i).view) (let at : k ≡ length runs = omega (arith, lt, new, more_long) in at) ∙ ap (λ (x : Run). whole_at places x.view) new_run ∙ free
          ];
          covers = counts_both n more (spots ++ t ∷ []) (picks ++ pick ∷ [])
              (λ view column lt. whole_more more t view column lt (ap (λ (x : Run). x.view) (old_run view (omega (arith, lt, so_far.long)))) (one_free view column lt (length runs) 0 (λ e. omega (arith, e, lt, so_far.long))))
              new_rest;
          some = All-push (λ (x : Run). 0 < x.count) runs (begun pick alone) so_far.some (omega arith);
          single = All-push (λ (x : Run). x.alone ≡ true → x.count ≡ 1) runs (begun pick alone) so_far.single (λ e. refl);
          apart = λ k lt is. elim (cases_lt k (length spots)) [
            | inl old ↦
                let at = pushed_before spots t s0 k old in
                ap (λ (x : Spot). (run_in more x.view).alone) at ∙ ap (λ (x : Run). x.alone) (old_run (get_or spots k s0).view (so_far.on k s0 old)) ∙ so_far.apart k old is
            | inr new ↦
                let at : k ≡ length spots = omega (arith, lt, new, length-append spots (t ∷ [])) in
                ap (λ i. (run_in more (slice_index_or (spots ++ t ∷ []) i s0).view).alone) at
                ∙ ap (λ (x : Spot). (run_in more x.view).alone) (pushed_last spots t s0)
                ∙ ap (λ (x : Run). x.alone) new_run ∙ mark ∙ ap (marked marks) (sym at) ∙ is
          ];
          cost = λ f. sum_by_push (alone_cost f) runs (begun pick alone) ∙ ap (λ b. sum_by (alone_cost f) runs + cond {A = ℕ} b (f pick.view) 0) mark ∙ sym (cost_more f);
        }

    -- where the run of one pick more begins
    pub from_below : (runs' : List Run) (run : ℕ) (alone : Bool) → Joins (whole_at places pick.view) runs runs' run pick alone → (run < length runs') × ((run_in runs' run).from ≤ pick.column)
    from_below runs' run alone j = at (whole_at places pick.view) refl j
      where
        at : (o : Option ℕ) → whole_at places pick.view ≡ o → Joins o runs runs' run pick alone → (run < length runs') × ((run_in runs' run).from ≤ pick.column)
        at (Some w) is j =
            let whole : whole_at places pick.view ≡ Some run = is ∙ ap (λ (k : ℕ). Some k) (sym j.0) in
            let lt = (are.there pick.view run whole).0 in
            let from : (run_in runs' run).from ≡ 0 = ap (λ (rs : List Run). (run_in rs run).from) j.1 ∙ ap (λ (x : Run). x.from) (so_far.first run lt ∙ (are.there pick.view run whole).1) in
            (omega (arith, lt, so_far.long, ap length j.1), omega (arith, from))
        at None is (inl l) =
            let from : (run_in runs' run).from ≡ (run_in runs run).from = ap (λ (rs : List Run). (run_in rs run).from) l.is ∙ set_seen (λ (x : Run). x.from) runs run run (longer (run_in runs run)) no_run refl in
            (omega (arith, l.there, ap length l.is, length-set runs run (longer (run_in runs run))), omega (arith, from, l.next))
        at None is (inr b) =
            let from : (run_in runs' run).from ≡ pick.column = ap₂ (λ (rs : List Run) (k : ℕ). (run_in rs k).from) b.is b.last ∙ ap (λ (x : Run). x.from) (pushed_last runs (begun pick alone) no_run) in
            (omega (arith, b.last, ap length b.is, length-append runs (begun pick alone ∷ [])), omega (arith, from))

    -- one pick more
    pub plans_more : (runs' : List Run) (run column : ℕ) (alone : Bool) → alone ≡ marked marks (length spots) → (marked marks (length spots) ≡ true → whole_at places pick.view ≡ None) → Joins (whole_at places pick.view) runs runs' run pick alone → column ≡ pick.column - (run_in runs' run).from
        → Plans wholes places runs' (spots ++ record { view = run; column = column } ∷ []) (picks ++ pick ∷ []) marks
    plans_more runs' run column alone mark rest j at = by (whole_at places pick.view) refl j
      where
        by : (o : Option ℕ) → whole_at places pick.view ≡ o → Joins o runs runs' run pick alone → Plans wholes places runs' (spots ++ record { view = run; column = column } ∷ []) (picks ++ pick ∷ []) marks
        by (Some w) is j =
            let whole : whole_at places pick.view ≡ Some run = is ∙ ap (λ (k : ℕ). Some k) (sym j.0) in
            let from : (run_in runs' run).from ≡ 0 = ap (λ (rs : List Run). (run_in rs run).from) j.1 ∙ ap (λ (x : Run). x.from) (run_is run whole (unmarked_by (marked marks (length spots)) refl (Some w) is)) in
            let c : column ≡ pick.column = omega (arith, at, from) in
            subst (λ (rs : List Run). Plans wholes places rs (spots ++ record { view = run; column = column } ∷ []) (picks ++ pick ∷ []) marks) (sym j.1)
            (subst (λ k. Plans wholes places runs (spots ++ record { view = run; column = k } ∷ []) (picks ++ pick ∷ []) marks) (sym c)
            (whole_plans run whole (unmarked_by (marked marks (length spots)) refl (Some w) is)))
          where
            unmarked_by : (b : Bool) → marked marks (length spots) ≡ b → (o : Option ℕ) → whole_at places pick.view ≡ Some w → marked marks (length spots) ≡ false
            unmarked_by false e o is = e
            unmarked_by true e o is = (let none : Some w ≡ None = sym is ∙ rest e in cc)
        by None is (inl l) =
            let unmarked : marked marks (length spots) ≡ false = sym mark ∙ l.shared in
            let from : (run_in runs' run).from ≡ (run_in runs run).from = ap (λ (rs : List Run). (run_in rs run).from) l.is ∙ set_seen (λ (x : Run). x.from) runs run run (longer (run_in runs run)) no_run refl in
            let c : column ≡ (run_in runs run).count = omega (arith, at, from, l.next) in
            subst (λ k. Plans wholes places runs' (spots ++ record { view = run; column = k } ∷ []) (picks ++ pick ∷ []) marks) (sym c)
            (subst (λ (rs : List Run). Plans wholes places rs (spots ++ record { view = run; column = (run_in runs run).count } ∷ []) (picks ++ pick ∷ []) marks) (sym l.is) (longer_plans is run l.there l.view l.next l.plain unmarked))
        by None is (inr b) =
            let from : (run_in runs' run).from ≡ pick.column = ap₂ (λ (rs : List Run) (k : ℕ). (run_in rs k).from) b.is b.last ∙ ap (λ (x : Run). x.from) (pushed_last runs (begun pick alone) no_run) in
            let c : column ≡ 0 = omega (arith, at, from) in
            subst (λ k. Plans wholes places runs' (spots ++ record { view = run; column = k } ∷ []) (picks ++ pick ∷ []) marks) (sym c)
            (subst (λ v. Plans wholes places runs' (spots ++ record { view = v; column = 0 } ∷ []) (picks ++ pick ∷ []) marks) (sym b.last)
            (subst (λ (rs : List Run). Plans wholes places rs (spots ++ record { view = length runs; column = 0 } ∷ []) (picks ++ pick ∷ []) marks) (sym b.is) (begun_plans is alone mark)))

-- a plan in which each column of each run stands once
pub record FullPlan (runs : List Run) (spots picks : List Spot) (marks : List Bool) : Type 0 where
  pub origins : map (origin runs) spots ≡ picks
  pub on : AreOn (length runs) spots
  pub covers : Covers (λ view. (run_in runs view).count) spots
  pub some : All (λ r. 0 < r.count) runs
  pub single : All (λ r. r.alone ≡ true → r.count ≡ 1) runs
  pub apart : (k : ℕ) → k < length spots → marked marks k ≡ true → (run_in runs (slice_index_or spots k record { view = 0; column = 0 }).view).alone ≡ true
  pub cost : (f : ℕ → ℕ) → sum_by (alone_cost f) runs ≡ picked_cost f marks picks

full_by : (wholes : List Run) (places : List (Option ℕ)) (runs : List Run) (spots picks : List Spot) (marks : List Bool) → Plans wholes places runs spots picks marks → Covers (λ view. (run_in runs view).count) spots → FullPlan runs spots picks marks
full_by wholes places runs spots picks marks plan covers = record { origins = plan.origins; on = plan.on; covers = covers; some = plan.some; single = plan.single; apart = plan.apart; cost = plan.cost }

-- where no view stays whole, and where all columns of whole views are picked
pub full_none : (wholes : List Run) (places : List (Option ℕ)) (runs : List Run) (spots picks : List Spot) (marks : List Bool) → wholes ≡ [] → Plans wholes places runs spots picks marks → FullPlan runs spots picks marks
full_none wholes places runs spots picks marks none plan =
    full_by wholes places runs spots picks marks plan (λ view column. counts_rest (length wholes) runs spots picks plan.covers view column (omega (arith, ap length none)))

pub full_all : (grids : List CellBlock) (count : ℕ) (split : List Bool) (wholes : List Run) (places : List (Option ℕ)) (runs : List Run) (spots picks : List Spot) (marks : List Bool) → AreWholesOf grids count split wholes places → Covers (width_in grids) picks → Plans wholes places runs spots picks marks → FullPlan runs spots picks marks
full_all grids count split wholes places runs spots picks marks are covers plan = full_by wholes places runs spots picks marks plan (λ view column. elim (cases_lt view (length wholes)) [
  | inl lt ↦
      let run = run_in wholes view in
      let width : run.count ≡ width_in grids run.view = (are.counts run.view view (are.wholes.back view lt)).0 in
      counts_whole (length wholes) runs spots picks plan.covers view column lt
      ∙ ap (λ (r : Run). count_by (is_at r.view column) picks) (plan.first view lt)
      ∙ covers run.view column
      ∙ sym (ap (λ (r : Run). cond {A = ℕ} (nat_lt column r.count) 1 0) (plan.first view lt) ∙ ap (λ k. cond {A = ℕ} (nat_lt column k) 1 0) width)
  | inr ge ↦ counts_rest (length wholes) runs spots picks plan.covers view column ge
])

-- the run of a column of a whole view, which no other run is of
pub whole_run_is : (wholes : List Run) (places : List (Option ℕ)) (runs : List Run) (spots picks : List Spot) (marks : List Bool) → AreWholes wholes places → Plans wholes places runs spots picks marks → (k run : ℕ) → k < length runs → whole_at places (run_in runs k).view ≡ Some run → k ≡ run
whole_run_is wholes places runs spots picks marks are plan k run lt is = elim (cases_lt k (length wholes)) [
  | inl inside ↦ (let same : Some k ≡ Some run = sym (ap (λ (r : Run). whole_at places r.view) (plan.first k inside) ∙ are.back k inside) ∙ is in cc)
  | inr ge ↦ (let none : Some run ≡ None = sym is ∙ plan.others k ge lt in cc)
]

-- two functions that agree on the items of a list
pub sum_same : {X : Type 0} (f g : X → ℕ) (xs : List X) → All (λ x. f x ≡ g x) xs → sum_by f xs ≡ sum_by g xs
sum_same f g [] same = refl
sum_same f g (x ∷ xs) same =
    sum_by-cons f x xs ∙ ap₂ (λ (a b : ℕ). a + b) (same 0 x (omega arith)) (sum_same f g xs (λ k d lt. same (suc k) d (omega (arith, lt)))) ∙ sym (sum_by-cons g x xs)

-- all cells of a column, by their rows
strided_all : (cells : List Cell) (n : ℕ) → length cells ≡ n → strided Na cells record { start = 0; step = pos 1; count = n } ≡ cells
strided_all cells n long = sym (fill_by_all _ cells n Na long (λ k lt. ap (λ i. slice_index_or cells i Na) (sym (place_all k))))
  where
    place_all : (k : ℕ) → place_from 0 (pos 1) k ≡ k
    place_all k = omega arith

one_times : (n : ℕ) → 1 * n ≡ n
one_times n = omega arith

-- what the new views show
module _ (runs : List Run) (spots picks : List Spot) (marks : List Bool) (plan : FullPlan runs spots picks marks) (grids : List CellBlock) (rows : Option Rows) (even : All IsEvenGrid grids) (inside : All (IsPick grids rows) picks) where
  abbrev made : List CellBlock
  made = map (run_grid grids rows) runs

  made_long : length made ≡ length runs
  made_long = length-map runs (run_grid grids rows)

  picks_long : length picks ≡ length spots
  picks_long = ap length (sym plan.origins) ∙ length-map spots (origin runs)

  made_at : (k : ℕ) → k < length runs → grid_in made k ≡ run_grid grids rows (run_in runs k)
  made_at k lt = get_or-map (run_grid grids rows) runs k no_run no_grid lt

  widths : (k : ℕ) → width_in made k ≡ (run_in runs k).count
  widths k = elim (cases_lt k (length runs)) [
    | inl lt ↦ ap (λ (g : CellBlock). length g.columns) (made_at k lt) ∙ length-tabulate (run_in runs k).count _
    | inr ge ↦ ap (λ (g : CellBlock). length g.columns) (beyond made k no_grid (omega (arith, made_long, ge))) ∙ sym (ap (λ (x : Run). x.count) (beyond runs k no_run ge))
  ]

  -- each spot is a pick
  pick_at : (k : ℕ) → k < length spots → IsPick grids rows (origin runs (get_or spots k s0))
  pick_at k lt = subst (IsPick grids rows) (ap (λ (xs : List Spot). get_or xs k s0) (sym plan.origins) ∙ get_or-map (origin runs) spots k s0 s0 lt) (inside k s0 (omega (arith, lt, picks_long)))

  pub plan_runs : All (IsRunOf grids rows) runs
  plan_runs k d lt =
      let r : Run = run_in runs k in
      let some : 0 < r.count = plan.some k no_run lt in
      let found = spot_there (λ view. (run_in runs view).count) spots plan.covers s0 k (r.count - 1) (omega (arith, some)) in
      let at = at_parts k (r.count - 1) (get_or spots found.0 s0) found.2 in
      let pick : IsPick grids rows record { view = r.view; column = r.from + (r.count - 1) } =
      subst (IsPick grids rows) (ap₂ (λ (v c : ℕ). record { view = (run_in runs v).view; column = (run_in runs v).from + c }) at.0 at.1) (pick_at found.0 found.1) in
      subst (IsRunOf grids rows) (get_or_default runs k no_run d lt) (record { view = pick.view; some = some; columns = (let h = pick.column in omega (arith, h, some)); rows = pick.rows })

  pub plan_fits : Fits made spots
  plan_fits = record {
    covers = λ view column. plan.covers view column ∙ ap (λ n. cond {A = ℕ} (nat_lt column n) 1 0) (sym (widths view));
    even = λ k d lt column e below.
        let within : k < length runs = omega (arith, lt, made_long) in
        let r : Run = run_in runs k in
        let g : CellBlock = run_grid grids rows r in
        let is : get_or made k d ≡ g = get_or-map (run_grid grids rows) runs k no_run d within in
        let short : column < r.count = omega (arith, below, ap (λ (x : CellBlock). length x.columns) is, length-tabulate r.count (λ c. strided Na (slice_index_or (grid_in grids r.view).columns (r.from + c) []) (rows_by rows (grid_in grids r.view)))) in
        ap (λ (x : CellBlock). length (get_or x.columns column e)) is
        ∙ ap length (get_or-tabulate r.count (λ c. strided Na (slice_index_or (grid_in grids r.view).columns (r.from + c) []) (rows_by rows (grid_in grids r.view))) column e short)
        ∙ length-tabulate (rows_by rows (grid_in grids r.view)).count _
        ∙ ap (λ (x : CellBlock). x.rows) (sym is);
  }

  column_there : (g : CellBlock) (c : ℕ) → IsEvenGrid g → c < length g.columns → record { kind = g.kind; cells = strided Na (slice_index_or g.columns c []) (rows_by rows g) } ≡ column_by rows record { kind = g.kind; cells = slice_index_or g.columns c [] }
  column_there g c es lt = by rows
    where
      by : (o : Option Rows) → record { kind = g.kind; cells = strided Na (slice_index_or g.columns c []) (rows_by o g) } ≡ column_by o record { kind = g.kind; cells = slice_index_or g.columns c [] }
      by None = ap (λ (cells : List Cell). record { kind = g.kind; cells = cells }) (strided_all (slice_index_or g.columns c []) g.rows (es c [] lt))
      by (Some rs) = refl

  spot_is : (k : ℕ) → k < length spots → spot_column made (get_or spots k s0) ≡ column_by rows (spot_column grids (origin runs (get_or spots k s0)))
  spot_is k lt =
      let s : Spot = get_or spots k s0 in
      let r : Run = run_in runs s.view in
      let g : CellBlock = grid_in grids r.view in
      let on = plan.on k s0 lt in
      let below = spot_within (λ view. (run_in runs view).count) spots plan.covers k s0 lt in
      let pick = pick_at k lt in
      ap (λ (x : CellBlock). record { kind = x.kind; cells = slice_index_or x.columns s.column [] }) (made_at s.view on)
      ∙ ap (λ (cells : List Cell). record { kind = g.kind; cells = cells }) (get_or-tabulate r.count (λ c. strided Na (slice_index_or g.columns (r.from + c) []) (rows_by rows g)) s.column [] below)
      ∙ column_there g (r.from + s.column) (even r.view no_grid pick.view) pick.column

  pub plan_columns : spot_columns made spots ≡ map (column_by rows) (spot_columns grids picks)
  plan_columns =
      map_by_all (spot_column made) (λ s. column_by rows (spot_column grids (origin runs s))) spots
      (λ k d lt. subst (λ (s : Spot). spot_column made s ≡ column_by rows (spot_column grids (origin runs s))) (get_or_default spots k s0 d lt) (spot_is k lt))
      ∙ sym (map-map (column_by rows) (λ s. spot_column grids (origin runs s)) spots)
      ∙ ap (map (column_by rows)) (sym (map-map (spot_column grids) (origin runs) spots) ∙ ap (map (spot_column grids)) plan.origins)

  -- what is copied for runs that are alone, each of one column
  pub plan_copied : sum_by (copied_cells grids) runs ≡ picked_cost (rows_at grids) marks picks
  plan_copied = sum_same (copied_cells grids) (alone_cost (rows_at grids)) runs (λ k d lt. one_run (get_or runs k d) (plan.single k d lt)) ∙ plan.cost (rows_at grids)
    where
      one_run : (r : Run) → (r.alone ≡ true → r.count ≡ 1) → copied_cells grids r ≡ alone_cost (rows_at grids) r
      one_run r single = at r.alone refl
        where
          at : (b : Bool) → r.alone ≡ b → copied_cells grids r ≡ alone_cost (rows_at grids) r
          at true e =
              let size : cells_of (run_grid grids None r) ≡ rows_at grids r.view =
              ap (λ n. n * rows_at grids r.view) (length-tabulate r.count (λ c. strided Na (slice_index_or (grid_in grids r.view).columns (r.from + c) []) (rows_by None (grid_in grids r.view))) ∙ single e) ∙ one_times (rows_at grids r.view) in
              ap (λ n. cond {A = ℕ} r.alone n 0) size
          at false e = ap (λ b. cond {A = ℕ} b (cells_of (run_grid grids None r)) 0) e ∙ sym (ap (λ b. cond {A = ℕ} b (rows_at grids r.view) 0) e)
