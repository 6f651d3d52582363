-- Columns of two lists of views together.
use Rattle.{std.proofs.Common.{◌≡◌, ◌≢◌, ℕ, zero, suc, ◌+◌, ◌-◌, ◌<◌, ◌≤◌, Bool, false, cond, nat_lt, List, [], ◌∷◌, ◌++◌, map, length, refl, ap, ap₂, sym, ◌∙◌, subst, arith, get_or, All, inl, inr, count_by, eq-eqb, length-append, append_assoc, take, drop}, std.proofs.lemmas.{Bool.{cases_eq, cases_lt, ne_eqb, lt-ltb, le-ltb}, List.{get_or_append_left, map-append}, List.Elements.{All-append, All-cons, All-drop, All-nil, All-take}, List.Sums.{sum_by-insert, sum_by-append}, Simd.{map-map}}, std.specs.Prelude.{◌==◌, ◌&&◌, slice_index_or, slice_set, insert, remove}, cell_core.specs.declared.cell.Cell.{Cell}, column_core.specs.Blocks.{CellBlock}, meaning_tables.specs.{Table.{ColumnOf}, Change.{put_at}}, block_manager.{specs.{declared.spots.Spot.{Spot}, Parts.{block_column, IsSingle}, Spots.{AreOn, no_grid, grid_in, width_in, spot_column, spot_columns, is_at, shifted, singles_from, all_single, Covers, IsEvenGrid, Fits}}, proofs.{CountLaws.{one, counted-cons, one_false}, SpotLaws.{spot_within}, PlanLaws.{beyond, here, elsewhere, one_more}, CellLaws.{width_inside}, OtherLaws.{map_by_all}}}}

-- the test of a shifted spot
shifted_at : (n view column : ℕ) (s : Spot) → n ≤ view → is_at view column (shifted n s) ≡ is_at (view - n) column s
shifted_at n view column s le = elim (cases_eq s.view (view - n)) [
  | inl e ↦ rw (eq-eqb (n + s.view) view (omega (arith, e, le)), eq-eqb s.view (view - n) e) refl
  | inr ne ↦ rw (ne_eqb (n + s.view) view (λ z. ne (omega (arith, z, le))), ne_eqb s.view (view - n) ne) refl
]

shifted_below : (n view column : ℕ) (s : Spot) → view < n → is_at view column (shifted n s) ≡ false
shifted_below n view column s lt = rw (ne_eqb (n + s.view) view (λ z. omega (arith, z, lt))) refl

shifted_count : (n view column : ℕ) (spots : List Spot) → n ≤ view → count_by (is_at view column) (map (shifted n) spots) ≡ count_by (is_at (view - n) column) spots
shifted_count n view column [] le = refl
shifted_count n view column (s ∷ spots) le =
    counted-cons (is_at view column) (shifted n s) (map (shifted n) spots)
    ∙ ap₂ (λ (a b : ℕ). a + b) (ap (λ b. cond {A = ℕ} b 1 0) (shifted_at n view column s le)) (shifted_count n view column spots le)
    ∙ sym (counted-cons (is_at (view - n) column) s spots)

shifted_none : (n view column : ℕ) (spots : List Spot) → view < n → count_by (is_at view column) (map (shifted n) spots) ≡ 0
shifted_none n view column [] lt = refl
shifted_none n view column (s ∷ spots) lt =
    omega (arith, counted-cons (is_at view column) (shifted n s) (map (shifted n) spots), one_false (is_at view column) (shifted n s) (shifted_below n view column s lt), shifted_none n view column spots lt)

-- a spot that is put in, and a list with an item more
pub counted-inserted : (view column : ℕ) (spots : List Spot) (place : ℕ) (s : Spot) → count_by (is_at view column) (insert spots place s) ≡ count_by (is_at view column) spots + count_by (is_at view column) (s ∷ [])
counted-inserted view column spots place s =
    let alone = counted-cons (is_at view column) s [] in
    omega (arith, sum_by-insert (one (is_at view column)) spots place s, alone)

pub map-insert : {X Y : Type 0} (f : X → Y) (xs : List X) (place : ℕ) (x : X) → map f (insert xs place x) ≡ insert (map f xs) place (f x)
map-insert f [] zero x = refl
map-insert f [] (suc place) x = refl
map-insert f (y ∷ xs) zero x = refl
map-insert f (y ∷ xs) (suc place) x = ap (λ l. f y ∷ l) (map-insert f xs place x)

-- a spot that is put in stands on the views behind
pub appended_on : {X : Type 0} (views added after : List X) (spots spots' : List Spot) (place : ℕ) (s : Spot) → AreOn (length views) spots → s.view < length added → after ≡ views ++ added → spots' ≡ insert spots place (shifted (length views) s) → AreOn (length after) spots'
appended_on views added after spots spots' place s on lt views_are spots_are =
    let n : ℕ = length views + length added in
    let long : length after ≡ n = ap length views_are ∙ length-append views added in
    let wide : All (λ (t : Spot). t.view < n) spots = λ k d le. omega (arith, on k d le) in
    let put : AreOn n (insert spots place (shifted (length views) s)) =
    All-append (λ (t : Spot). t.view < n) (take place spots) (shifted (length views) s ∷ drop place spots) (All-take (λ (t : Spot). t.view < n) place spots wide)
    (All-cons (λ (t : Spot). t.view < n) (shifted (length views) s) (drop place spots) (omega (arith, lt)) (All-drop (λ (t : Spot). t.view < n) place spots wide)) in
    subst (AreOn (length after)) (sym spots_are) (subst (λ k. AreOn k (insert spots place (shifted (length views) s))) (sym long) put)

-- an item that is put in where one was removed, or last
insert-removed : {X : Type 0} (xs : List X) (place : ℕ) (x : X) → place < length xs → insert (remove xs place) place x ≡ slice_set xs place x
insert-removed [] place x lt = absurd (omega (arith, lt))
insert-removed (y ∷ xs) zero x lt = refl
insert-removed (y ∷ xs) (suc place) x lt = ap (λ l. y ∷ l) (insert-removed xs place x (omega (arith, lt)))

pub put_in-removed : {X : Type 0} (xs : List X) (place : ℕ) (x : X) → place < length xs → insert (remove xs place) place x ≡ put_at xs place x
put_in-removed xs place x lt = insert-removed xs place x lt ∙ sym (rw (lt-ltb place (length xs) lt) refl)

pub put_at-last : {X : Type 0} (xs : List X) (place : ℕ) (x : X) → length xs ≤ place → put_at xs place x ≡ xs ++ x ∷ []
put_at-last xs place x le = rw (le-ltb place (length xs) le) refl

grid_left : (g h : List CellBlock) (k : ℕ) → k < length g → grid_in (g ++ h) k ≡ grid_in g k
grid_left g h k lt = get_or_append_left g h no_grid k lt

grid_right : (g h : List CellBlock) (k : ℕ) → length g ≤ k → grid_in (g ++ h) k ≡ grid_in h (k - length g)
grid_right [] h k le = ap (grid_in h) (omega arith)
grid_right (x ∷ g) h zero le = absurd (omega (arith, le))
grid_right (x ∷ g) h (suc k) le = grid_right g h k (omega (arith, le)) ∙ ap (grid_in h) (omega arith)

module _ (g h : List CellBlock) (s t : List Spot) (fit : Fits g s) (fit' : Fits h t) where
  on : AreOn (length g) s
  on k d lt = width_inside g (get_or s k d).view (get_or s k d).column (spot_within (width_in g) s fit.covers k d lt)

  covers_both : (all : List Spot) → ((view column : ℕ) → count_by (is_at view column) all ≡ count_by (is_at view column) s + count_by (is_at view column) (map (shifted (length g)) t)) → Covers (width_in (g ++ h)) all
  covers_both all counts view column = counts view column ∙ elim (cases_lt view (length g)) [
    | inl lt ↦ (let none = shifted_none (length g) view column t lt in omega (arith, none, fit.covers view column, ap (λ (x : CellBlock). cond {A = ℕ} (nat_lt column (length x.columns)) 1 0) (grid_left g h view lt)))
    | inr ge ↦
        let first : count_by (is_at view column) s ≡ 0 = fit.covers view column ∙ ap (λ (x : CellBlock). cond {A = ℕ} (nat_lt column (length x.columns)) 1 0) (beyond g view no_grid ge) ∙ ap (λ b. cond {A = ℕ} b 1 0) (le-ltb column 0 (omega arith)) in
        omega (arith, first, shifted_count (length g) view column t ge, fit'.covers (view - length g) column, ap (λ (x : CellBlock). cond {A = ℕ} (nat_lt column (length x.columns)) 1 0) (grid_right g h view ge))
  ]

  pub both_fit : (all : List Spot) → ((view column : ℕ) → count_by (is_at view column) all ≡ count_by (is_at view column) s + count_by (is_at view column) (map (shifted (length g)) t)) → Fits (g ++ h) all
  both_fit all counts = record {
    covers = covers_both all counts;
    even = All-append IsEvenGrid g h fit.even fit'.even;
  }

  pub left_columns : spot_columns (g ++ h) s ≡ spot_columns g s
  left_columns = map_by_all (spot_column (g ++ h)) (spot_column g) s (λ k d lt. ap (λ (x : CellBlock). record { kind = x.kind; cells = slice_index_or x.columns (get_or s k d).column [] }) (grid_left g h (get_or s k d).view (on k d lt)))

  pub right_columns : spot_columns (g ++ h) (map (shifted (length g)) t) ≡ spot_columns h t
  right_columns =
      map-map (spot_column (g ++ h)) (shifted (length g)) t
      ∙ map_by_all (λ x. spot_column (g ++ h) (shifted (length g) x)) (spot_column h) t (λ k d lt.
      ap (λ (x : CellBlock). record { kind = x.kind; cells = slice_index_or x.columns (get_or t k d).column [] })
      (grid_right g h (length g + (get_or t k d).view) (omega arith) ∙ ap (grid_in h) (omega arith)))

-- one view of one column
pub single_fit : (g : CellBlock) (cells : List Cell) → g.columns ≡ cells ∷ [] → length cells ≡ g.rows → Fits (g ∷ []) (record { view = 0; column = 0 } ∷ [])
single_fit g cells is long = record {
  covers = λ view column. counted-cons (is_at view column) record { view = 0; column = 0 } [] ∙ at view column;
  even = All-cons IsEvenGrid g [] (subst (All (λ (c : List Cell). length c ≡ g.rows)) (sym is) (All-cons (λ (c : List Cell). length c ≡ g.rows) cells [] long (All-nil _))) (All-nil _);
}
  where
    none : (column : ℕ) → cond {A = ℕ} (nat_lt column 0) 1 0 ≡ 0
    none column = ap (λ b. cond {A = ℕ} b 1 0) (le-ltb column 0 (omega arith))

    at : (view column : ℕ) → one (is_at view column) record { view = 0; column = 0 } + count_by (is_at view column) [] ≡ cond {A = ℕ} (nat_lt column (width_in (g ∷ []) view)) 1 0
    at view column = elim (cases_eq 0 view) [
      | inl e ↦ subst (λ v. one (is_at v column) record { view = 0; column = 0 } + 0 ≡ cond {A = ℕ} (nat_lt column (width_in (g ∷ []) v)) 1 0) e
          (omega (arith, here 0 column 0, one_more column 0, none column, ap (λ (cs : List (List Cell)). cond {A = ℕ} (nat_lt column (length cs)) 1 0) is))
      | inr ne ↦
          let beside = elsewhere view column 0 0 ne in
          omega (arith, beside, ap (λ (x : CellBlock). cond {A = ℕ} (nat_lt column (length x.columns)) 1 0) (beyond (g ∷ []) view no_grid (omega (arith, ne))), none column)
    ]

-- the columns of two lists of grids, one behind the other
module _ (g h : List CellBlock) (s t : List Spot) (fit : Fits g s) (fit' : Fits h t) where
  abbrev all : List Spot
  all = s ++ map (shifted (length g)) t

  pub behind_fit : Fits (g ++ h) (s ++ map (shifted (length g)) t)
  behind_fit = both_fit g h s t fit fit' all (λ view column. sum_by-append (one (is_at view column)) s (map (shifted (length g)) t))

  pub behind_columns : spot_columns (g ++ h) (s ++ map (shifted (length g)) t) ≡ spot_columns g s ++ spot_columns h t
  behind_columns =
      map-append (spot_column (g ++ h)) s (map (shifted (length g)) t)
      ∙ ap₂ (λ (a b : List (ColumnOf Cell)). a ++ b) (left_columns g h s t fit fit') (right_columns g h s t fit fit')

-- the spots of columns that have a view each
singles_push : (n count : ℕ) → singles_from n (suc count) ≡ singles_from n count ++ record { view = n + count; column = 0 } ∷ []
singles_push n zero = ap (λ k. record { view = k; column = 0 } ∷ []) (omega arith)
singles_push n (suc count) =
    ap (λ l. record { view = n; column = 0 } ∷ l) (singles_push (suc n) count)
    ∙ ap (λ k. record { view = n; column = 0 } ∷ (singles_from (suc n) count ++ record { view = k; column = 0 } ∷ [])) (omega arith)

pub single_more : (count : ℕ) → all_single (count + 1) ≡ all_single count ++ record { view = count; column = 0 } ∷ []
single_more count =
    let next : count + 1 ≡ suc count = omega arith in
    let here : 0 + count ≡ count = omega arith in
    ap all_single next ∙ singles_push 0 count ∙ ap (λ (k : ℕ). all_single count ++ record { view = k; column = 0 } ∷ []) here

-- they are all columns of grids of one column each
singles_count : (n count view column : ℕ) → n ≤ view → count_by (is_at view column) (singles_from n count) ≡ cond {A = ℕ} (nat_lt view (n + count) && nat_lt column 1) 1 0
singles_count n zero view column le = sym (ap (λ b. cond {A = ℕ} (b && nat_lt column 1) 1 0) (le-ltb view (n + 0) (omega (arith, le))))
singles_count n (suc count) view column le =
    counted-cons (is_at view column) record { view = n; column = 0 } (singles_from (suc n) count)
    ∙ elim (cases_eq n view) [
      | inl e ↦
          let first : one (is_at view column) record { view = n; column = 0 } ≡ cond {A = ℕ} (nat_lt column 1) 1 0 =
          subst (λ v. one (is_at v column) record { view = n; column = 0 } ≡ cond {A = ℕ} (nat_lt column 1) 1 0) e (here n column 0 ∙ zero_column column) in
          let rest : count_by (is_at view column) (singles_from (suc n) count) ≡ 0 = singles_none (suc n) count view column (omega (arith, e)) in
          omega (arith, first, rest, ap (λ b. cond {A = ℕ} (b && nat_lt column 1) 1 0) (lt-ltb view (n + suc count) (omega (arith, e))))
      | inr ne ↦
          let rest = singles_count (suc n) count view column (omega (arith, le, ne)) in
          let same : suc n + count ≡ n + suc count = omega arith in
          omega (arith, elsewhere view column n 0 ne, rest, ap (λ k. cond {A = ℕ} (nat_lt view k && nat_lt column 1) 1 0) same)
    ]
  where
    zero_column : (column : ℕ) → cond {A = ℕ} (0 == column) 1 0 ≡ cond {A = ℕ} (nat_lt column 1) 1 0
    zero_column zero = refl
    zero_column (suc column) =
        let ne : 0 ≢ suc column = λ e. omega (arith, e) in
        ap (λ b. cond {A = ℕ} b 1 0) (ne_eqb 0 (suc column) ne) ∙ sym (ap (λ b. cond {A = ℕ} b 1 0) (le-ltb (suc column) 1 (omega arith)))

    singles_none : (n count view column : ℕ) → view < n → count_by (is_at view column) (singles_from n count) ≡ 0
    singles_none n zero view column lt = refl
    singles_none n (suc count) view column lt =
        omega (arith, counted-cons (is_at view column) record { view = n; column = 0 } (singles_from (suc n) count), elsewhere view column n 0 (λ e. omega (arith, lt, e)), singles_none (suc n) count view column (omega (arith, lt)))

module _ (blocks : List CellBlock) (single : All IsSingle blocks) where
  width_one : (view : ℕ) → view < length blocks → width_in blocks view ≡ 1
  width_one view lt = ap (λ (g : CellBlock). length g.columns) (single view no_grid lt)

  pub blocks_fit : Fits blocks (all_single (length blocks))
  blocks_fit = record {
    covers = λ view column. singles_count 0 (length blocks) view column (omega arith) ∙ elim (cases_lt view (length blocks)) [
      | inl lt ↦ ap₂ (λ (b : Bool) (n : ℕ). cond {A = ℕ} (b && nat_lt column n) 1 0) (lt-ltb view (0 + length blocks) (omega (arith, lt))) (sym (width_one view lt))
      | inr ge ↦
          ap (λ b. cond {A = ℕ} (b && nat_lt column 1) 1 0) (le-ltb view (0 + length blocks) (omega (arith, ge)))
          ∙ sym (ap (λ (g : CellBlock). cond {A = ℕ} (nat_lt column (length g.columns)) 1 0) (beyond blocks view no_grid ge) ∙ ap (λ b. cond {A = ℕ} b 1 0) (le-ltb column 0 (omega arith)))
    ];
    even = λ k d lt. even_single (get_or blocks k d) (single k d lt);
  }
    where
      even_single : (g : CellBlock) → IsSingle g → IsEvenGrid g
      even_single g is = subst IsEvenGrid (sym is) (All-cons (λ (c : List Cell). length c ≡ length (block_column g).cells) (block_column g).cells [] refl (All-nil _))

  pub blocks_columns : spot_columns blocks (all_single (length blocks)) ≡ map block_column blocks
  blocks_columns = at [] blocks refl
    where
      at : (front rest : List CellBlock) → front ++ rest ≡ blocks → map (spot_column blocks) (singles_from (length front) (length rest)) ≡ map block_column rest
      at front [] e = refl
      at front (g ∷ rest) e =
          let here_is : grid_in blocks (length front) ≡ g = ap (λ (gs : List CellBlock). grid_in gs (length front)) (sym e) ∙ at_front front in
          let next : (front ++ g ∷ []) ++ rest ≡ blocks = append_assoc front (g ∷ []) rest ∙ e in
          let long : length (front ++ g ∷ []) ≡ suc (length front) = omega (arith, length-append front (g ∷ [])) in
          ap₂ (λ (c : ColumnOf Cell) (cs : List (ColumnOf Cell)). c ∷ cs) (ap block_column here_is)
          (ap (λ n. map (spot_column blocks) (singles_from n (length rest))) (sym long) ∙ at (front ++ g ∷ []) rest next)
        where
          at_front : (xs : List CellBlock) → grid_in (xs ++ g ∷ rest) (length xs) ≡ g
          at_front [] = refl
          at_front (x ∷ xs) = at_front xs
