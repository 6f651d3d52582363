-- Views that show all cells of their blocks.
use Rattle.{std.proofs.Common.{◌≡◌, ℕ, zero, suc, ◌+◌, ◌-◌, ◌*◌, ◌<◌, ◌≤◌, Bool, true, false, List, [], map, length, take, refl, ap, sym, ◌∙◌, subst, arith, slice_index_or, cond, inl, inr, get_or-take}, std.proofs.lemmas.{Bool.{cases_lt}, List.{length-map, map-id, length-reverse, get_or-reverse, get_or-map, nil_from_length, length-take-le}, Simd.{map-map}}, std.specs.{Prelude.{reverse}, List.{take-map}}, cell_core.specs.declared.cell.Kind.{Kind}, column_core.{specs.{Blocks.{CellBlock, columns_in}, Columns.{CellColumn}, Lanes.{LaneFits, lane_place}}, proofs.{cells.Common.{Na, Cell, tabulate, fill_by_all}}}, block_pool.{specs.{declared.views.View.{View}, Pools.{cells_of}, Placed.{shown_cell, shown_column, shown_grid, turned, IsEven, IsPlaced}}, proofs.ShowLaws.{columns_of, count_within}}}

-- a part that has as many cells as the whole is the whole
fits_exactly : (a b d e : ℕ) → a * b ≡ (a + d) * (b + e) → 0 < a → 0 < b + e → (d ≡ 0) × (e ≡ 0)
fits_exactly a b d (suc e) h some more = absurd (omega (arith, h, some))
fits_exactly a b zero zero h some more = (refl, refl)
fits_exactly a zero (suc d) zero h some more = absurd (omega (arith, more))
fits_exactly a (suc b) (suc d) zero h some more = absurd (omega (arith, h))

-- so many rows among as many are all of them, in order or from the last one on
ahead : (start stride n row : ℕ) → start + n * stride < suc n → (0 < n → 0 < stride) → row ≤ n → start + row * stride ≡ row
ahead start stride zero zero h moves le = omega (arith, h)
ahead start stride zero (suc row) h moves le = absurd (omega (arith, le))
ahead start zero (suc n) row h moves le = absurd (omega (arith, moves (omega arith)))
ahead start (suc zero) (suc n) row h moves le = omega (arith, h, le)
ahead start (suc (suc d)) (suc n) row h moves le = absurd (omega (arith, h))

behind : (start stride n row : ℕ) → n * stride ≤ start → start < suc n → (0 < n → 0 < stride) → row ≤ n → start - row * stride ≡ n - row
behind start stride zero zero h lt moves le = omega (arith, lt)
behind start stride zero (suc row) h lt moves le = absurd (omega (arith, le))
behind start zero (suc n) row h lt moves le = absurd (omega (arith, moves (omega arith)))
behind start (suc zero) (suc n) row h lt moves le = omega (arith, h, lt, le)
behind start (suc (suc d)) (suc n) row h lt moves le = absurd (omega (arith, h, lt))

all_rows : (start stride count row : ℕ) (back : Bool) → LaneFits start stride back count count count → (1 < count → 0 < stride) → row < count → lane_place start stride back row ≡ cond back (count - 1 - row) row
all_rows start stride count row false fits moves lt =
    ahead start stride (count - 1) row (let h = fits.within (count - 1) (omega (arith, lt)) in omega (arith, h, lt)) (λ some. moves (omega (arith, some))) (omega (arith, lt))
all_rows start stride count row true fits moves lt =
    behind start stride (count - 1) row (fits.above refl (count - 1) (omega (arith, lt))) (let h = fits.within 0 (omega (arith, lt)) in omega (arith, h, lt)) (λ some. moves (omega (arith, some))) (omega (arith, lt))

abbrev about : Bool → List Cell → List Cell
about back cells = cond back (reverse cells) cells

about_length : (back : Bool) (cells : List Cell) → length (about back cells) ≡ length cells
about_length true cells = length-reverse cells
about_length false cells = refl

about_at : (back : Bool) (cells : List Cell) (k : ℕ) → k < length cells → slice_index_or (about back cells) k Na ≡ slice_index_or cells (cond back (length cells - 1 - k) k) Na
about_at true cells k lt = get_or-reverse cells k Na lt
about_at false cells k lt = refl

-- all rows of a column
whole_column : (v : View) (cells : List Cell) → length cells ≡ v.count → LaneFits v.start v.stride v.back v.count v.count v.count → (1 < v.count → 0 < v.stride) → tabulate v.count (shown_cell v cells) ≡ about v.back cells
whole_column v cells long fits moves =
    sym (fill_by_all (shown_cell v cells) (about v.back cells) v.count Na (about_length v.back cells ∙ long) (λ k lt.
    about_at v.back cells k (omega (arith, lt, long))
    ∙ ap (λ n. slice_index_or cells (cond v.back (n - 1 - k) k) Na) long
    ∙ ap (λ place. slice_index_or cells place Na) (sym (all_rows v.start v.stride v.count k v.back fits moves lt))))

module _ (block : CellBlock) (v : View) (p : IsPlaced block v) (even : IsEven block) (full : cells_of (shown_grid block v) ≡ cells_of block) where
  sizes : v.columns * v.count ≡ length block.columns * block.rows
  sizes = ap (λ n. n * v.count) (sym (columns_of block v)) ∙ full

  within : v.count ≤ block.rows
  within = count_within block v p

  parts : 0 < v.columns → 0 < block.rows → (length block.columns - v.columns ≡ 0) × (block.rows - v.count ≡ 0)
  parts some more =
      fits_exactly v.columns v.count (length block.columns - v.columns) (block.rows - v.count)
      (sizes ∙ ap (λ n. n * block.rows) (omega (arith, p.columns)) ∙ ap (λ n. (v.columns + (length block.columns - v.columns)) * n) (omega (arith, within)))
      some (omega (arith, more))

  rows_are : 0 < v.columns → v.count ≡ block.rows
  rows_are some = elim (cases_lt 0 block.rows) [
    | inl more ↦ (let h = (parts some more).1 in omega (arith, h, within))
    | inr none ↦ omega (arith, none, within)
  ]

  -- the columns of the view are the first of the block, or have no cells
  first_are : (k : ℕ) → k < v.columns → slice_index_or block.columns (v.first + k) [] ≡ slice_index_or block.columns k []
  first_are k lt = elim (cases_lt 0 block.rows) [
    | inl more ↦ (let h = (parts (omega (arith, lt)) more).0 in ap (λ i. slice_index_or block.columns i []) (omega (arith, h, p.columns)))
    | inr none ↦ nil_from_length _ (omega (arith, even.each (v.first + k) [] (omega (arith, lt, p.columns)), none)) ∙ sym (nil_from_length _ (omega (arith, even.each k [] (omega (arith, lt, p.columns)), none)))
  ]

  column_is : (k : ℕ) → k < v.columns → shown_column block v k ≡ about v.back (slice_index_or block.columns k [])
  column_is k lt =
      let n = rows_are (omega (arith, lt)) in
      ap (λ cells. tabulate v.count (shown_cell v cells)) (first_are k lt)
      ∙ whole_column v (slice_index_or block.columns k []) (even.each k [] (omega (arith, lt, p.columns)) ∙ sym n) (subst (λ (r : ℕ). LaneFits v.start v.stride v.back v.count r r) (sym n) p.fits) p.moves

  columns_are : (shown_grid block v).columns ≡ map (about v.back) (take v.columns block.columns)
  columns_are =
      let long : length (take v.columns block.columns) ≡ v.columns = length-take-le v.columns block.columns (omega (arith, p.columns)) in
      sym (fill_by_all (shown_column block v) (map (about v.back) (take v.columns block.columns)) v.columns [] (length-map (take v.columns block.columns) (about v.back) ∙ long) (λ k lt.
      get_or-map (about v.back) (take v.columns block.columns) k [] [] (omega (arith, lt, long))
      ∙ ap (about v.back) (get_or-take v.columns block.columns k [] lt)
      ∙ sym (column_is k lt)))

-- a view that shows all cells of its block shows its columns, from the first row on or from the last
abbrev pub about_column : Bool → CellColumn → CellColumn
about_column back c = cond back (turned c) c

turned_columns : (kind : Kind) (back : Bool) (xs : List (List Cell)) → map (λ (cells : List Cell). record { kind = kind; cells = cells }) (map (about back) xs) ≡ map (about_column back) (map (λ (cells : List Cell). record { kind = kind; cells = cells }) xs)
turned_columns kind true xs = map-map _ _ xs ∙ sym (map-map _ _ xs)
turned_columns kind false xs = map-map _ _ xs ∙ sym (map-map _ _ xs)

shown_full : (block : CellBlock) (v : View) → IsPlaced block v → IsEven block → cells_of (shown_grid block v) ≡ cells_of block → columns_in (shown_grid block v) ≡ map (about_column v.back) (take v.columns (columns_in block))
shown_full block v p even full =
    ap (map (λ (cells : List Cell). record { kind = block.kind; cells = cells })) (columns_are block v p even full)
    ∙ turned_columns block.kind v.back (take v.columns block.columns)
    ∙ ap (map (about_column v.back)) (sym (take-map _ v.columns block.columns))

pub shown_ahead : (block : CellBlock) (v : View) → IsPlaced block v → IsEven block → cells_of (shown_grid block v) ≡ cells_of block → v.back ≡ false → columns_in (shown_grid block v) ≡ take v.columns (columns_in block)
shown_ahead block v p even full e = shown_full block v p even full ∙ ap (λ b. map (about_column b) (take v.columns (columns_in block))) e ∙ map-id _

pub shown_back : (block : CellBlock) (v : View) → IsPlaced block v → IsEven block → cells_of (shown_grid block v) ≡ cells_of block → v.back ≡ true → columns_in (shown_grid block v) ≡ map turned (take v.columns (columns_in block))
shown_back block v p even full e = shown_full block v p even full ∙ ap (λ b. map (about_column b) (take v.columns (columns_in block))) e
