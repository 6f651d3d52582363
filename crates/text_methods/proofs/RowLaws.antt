-- What was made of texts stays so in a longer dictionary, row by row.
use Rattle.{column_core.{proofs.{cells.Common.{◌≡◌, ◌∙◌, ap, sym, ℕ, ◌+◌, ◌<◌, List, [], ◌++◌, length, map, take, replicate, slice_index_or, slice_set, arith, append_assoc, append-nil, length-append, length-replicate, length-set, Bool, Option, Some, None, is_some, unwrap_or, inl, inr, cases_eq, cases_lt, same_Some, get_or-append, get_or-set_same, get_or-set_other, get_or_past, take_at, Cell, Kind, TextId, datum, text_of, IsGiven, AreGiven, IsLonger, range_with_len, tabulate}, CellRows.{map-map, range-same}, ColumnLaws.{given-tabulate}, RowsMade.{option-set_same, option-set_other}}, specs.{Columns.{CellColumn, text_cell, column_value, column_with}, Lanes.{option_at}}}, cell_core.{proofs.TextLaws.{datum_stays}, specs.declared.cell.{Cell.TheVariants.{Text as text}, Kind.TheVariants.{Text as string}}}, std.proofs.lemmas.List.{get_or-replicate}, meaning_text.specs.TextMethod.{TextMethod, points_of, method_value, method_cell, method_kind, method_column}, text_methods.specs.Rows.{IsMade, IsMemo, IsRow, AreRows}}

pub longer_trans : (a b c : List (List ℕ)) → IsLonger a b → IsLonger b c → IsLonger a c
longer_trans a b c (m, e) (n, f) = grind (arith, append_assoc)

-- a given text stays in a longer dictionary
pub text_stays : (earlier later : List (List ℕ)) (id : TextId) → IsLonger earlier later → id.0 < length earlier → text_of later id ≡ text_of earlier id
text_stays _ _ _ (more, e) = grind (arith, get_or-append)

given_stays : (earlier later : List (List ℕ)) (c : Cell) → IsLonger earlier later → IsGiven earlier c → IsGiven later c
given_stays _ _ (text id) (more, e) g = grind (arith, length-append)
given_stays _ _ _ l g = tt

nothing : {V : Type 0} (value : V) → None ≡ Some value → ⊥
nothing value e = cc

module _ {U : Type 0} (cell : Option U → Cell) (method : TextMethod) (early : List (List ℕ)) where
  made_stays : (middle late : List (List ℕ)) (number : ℕ) (value : U) → IsLonger middle late → IsMade cell method early middle number value → IsMade cell method early late number value
  made_stays middle late number value longer (is, given) =
      (datum_stays middle late (cell (Some value)) longer given ∙ is, given_stays middle late (cell (Some value)) longer given)

  -- what is remembered stays right, and so does it with one more
  pub memo_stays : (middle late : List (List ℕ)) (memo : List (Option U)) → IsLonger middle late → IsMemo cell method early middle memo → IsMemo cell method early late memo
  memo_stays middle late memo more (many, (longer, fair)) =
      (many, (longer_trans early middle late longer more, λ number value e. made_stays middle late number value more (fair number value e)))

  pub memo_more : (late : List (List ℕ)) (memo : List (Option U)) (number : ℕ) (value : U) → number < length memo → IsMade cell method early late number value → IsMemo cell method early late memo → IsMemo cell method early late (slice_set memo number (Some value))
  memo_more late memo number value lt made (many, (longer, fair)) = (
    length-set memo number (Some value) ∙ many,
    (
      longer,
      λ k other e.
          elim (cases_eq k number) [
            | inl same ↦
                let here : slice_index_or (slice_set memo number (Some value)) k None ≡ Some value = rw same (get_or-set_same memo number (Some value) None lt) in
                let is : other ≡ value = same_Some other value (sym e ∙ here) in
                rw (same, is) made
            | inr apart ↦ fair k other (sym (get_or-set_other memo number k (Some value) None apart) ∙ e)
          ],
    ),
  )

  -- what was made now of a text that had its number early
  pub made_now : (middle late : List (List ℕ)) (id : TextId) (value : U) → IsLonger early middle → id.0 < length early → datum late (cell (Some value)) ≡ method_value method (points_of (text_of middle id)) → IsGiven late (cell (Some value)) → IsMade cell method early late id.0 value
  made_now middle late id value longer lt is given = (is ∙ ap (λ t. method_value method (points_of t)) (text_stays early middle id longer lt), given)

  -- nothing is remembered at first
  pub nothing_yet : (memo : List (Option U)) (count : ℕ) → memo ≡ replicate count None → count ≡ length early → IsMemo cell method early early memo
  nothing_yet memo count is many =
      rw is (
        length-replicate {A = Option U} count None ∙ many,
        (
          ([], sym (append-nil early)),
          λ number value e.
              elim (cases_lt number count) [
                | inl low ↦ absurd (nothing value (sym (get_or-replicate {A = Option U} count number None None low) ∙ e))
                | inr past ↦ absurd (nothing value (sym (get_or_past {X = Option U} (replicate count None) number None (omega (arith, length-replicate {A = Option U} count None))) ∙ e))
              ],
        ),
      )

  row_stays : (middle late : List (List ℕ)) (id : Option TextId) (value : Option U) → IsLonger middle late → IsRow cell method early middle id value → IsRow cell method early late id value
  row_stays middle late id value longer (is, given) =
      (datum_stays middle late (cell value) longer given ∙ is, given_stays middle late (cell value) longer given)

  -- one more row
  pub row_more : (middle late : List (List ℕ)) (row : ℕ → Option TextId) (i : ℕ) (id : Option TextId) (values : List U) (present : List Bool) (value : Option U) (blank v : U) (p : Bool) → IsLonger middle late → AreRows cell method early middle i row values present → i < length values → i < length present
      → id ≡ row i → v ≡ unwrap_or value blank → p ≡ is_some value → IsRow cell method early late id value → AreRows cell method early late (i + 1) row (slice_set values i v) (slice_set present i p)
  row_more middle late row i id values present value blank v p longer rows hv hp here ev ep now k h =
      elim (cases_eq k i) [
        | inl same ↦ rw (same, ev, ep, option-set_same values present i value blank hv hp, ← here) now
        | inr apart ↦
            rw (option-set_other values present i k v p apart)
            (row_stays middle late (row k) (option_at values present k) longer (rows k (omega (arith, apart))))
      ]

  cells_made : (late : List (List ℕ)) (row : ℕ → Option TextId) (count : ℕ) (values : List U) (present : List Bool) → AreRows cell method early late count row values present
      → map (datum late) (tabulate count (λ k. cell (option_at values present k))) ≡ map (method_cell method) (map (datum early) (tabulate count (λ k. text_cell (row k))))
  cells_made late row count values present rows =
      map-map (λ k. cell (option_at values present k)) (datum late) (range_with_len 0 count)
      ∙ range-same (λ k. datum late (cell (option_at values present k))) (λ k. method_cell method (datum early (text_cell (row k)))) 0 count (λ k le lt. (rows k (omega arith)).0)
      ∙ sym (ap (map (method_cell method)) (map-map (λ k. text_cell (row k)) (datum early) (range_with_len 0 count)) ∙ map-map (λ k. datum early (text_cell (row k))) (method_cell method) (range_with_len 0 count))

  -- a column of the rows' values, made through the fronts of vectors
  pub rows_made : (late : List (List ℕ)) (row : ℕ → Option TextId) (count n m : ℕ) (values vs : List U) (present ps : List Bool) (kind : Kind) (col : CellColumn) → AreRows cell method early late count row values present
      → col ≡ column_with kind cell (length (take n (values ++ vs))) (option_at (take n (values ++ vs)) (take m (present ++ ps))) → count ≡ n → length values ≡ n → length present ≡ m → method_kind method ≡ kind
      → (column_value late col ≡ method_column method (column_value early (column_with string text_cell count row)).cells) × AreGiven late col.cells
  rows_made late row count n m values vs present ps kind col rows e same hv hp is =
      let made : col ≡ column_with kind cell count (option_at values present) = cc (take_at values vs n hv, take_at present ps m hp) in (
        rw (made, ← is) (ap (λ l. record { kind = method_kind method; cells = l }) (cells_made late row count values present rows)),
        rw made (given-tabulate late count _ (λ k lt. (rows k lt).1)),
      )
