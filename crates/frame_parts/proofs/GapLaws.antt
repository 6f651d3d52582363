-- The rows that labels take, by their numbers as by their texts, and the columns on such rows.
use Rattle.{
  column_core.{proofs.cells.Common.{map-map, map_push, map_more, All-map, All-push, arith, ◌≡◌, ◌∙◌, refl, sym, ℕ, ◌+◌, ◌<◌, false, List, [], ◌∷◌, ◌++◌, map, length, take, slice_index_or, All, Option, Result, Ok, Err, Cell, Na, Label, AreDistinct, AreGiven, IsGiven, Text, na_cell, datum, gap_cell, taken, FaultValue}, specs.{Blocks.{CellBlock}, Columns.{CellColumn}, Moves.{IsPlaceOf}}},
  std.proofs.Math.ListN.{get_or-map},
  frame_store.specs.{tables.{Table.{column_value, ColumnOf, tuple_value, no_column}, Settled.{IsSettled}}, Parts.{HaveRows, IsSingle, block_column, table_column}, Shown.{labels_value, columns_value}},
  meaning_form.{specs.{Infix.{same_tuple, on_rows}, align.{Faults.{met_rows}, Targets.{reindexed}}}, proofs.align.{SeenLaws.{gaps_seen, reindexed_seen}, FoundLaws.{reindexed_count, reindexed_below, repeat_given}}},
  label_align.specs.{Answers.{AlignsBy, as_it_is}, declared.fault.AlignFault.{AlignFault, TheVariants.{DuplicateLabels}}},
  frame_parts.{specs.{Makes.{MakesBy}, Faults.{align_refusal}}, proofs.RowLaws.{tuple_by_number, tuples_settled}},
}
use Rattle.label_align.specs.row_keys.Keys as numbers

module _ (texts : List Text) (distinct : AreDistinct texts) (keys targets : List (List Label)) (given : IsSettled labels_value texts keys) (asked : IsSettled labels_value texts targets) where
  -- rows that are found by numbers are those by texts
  reindexed_by_number : reindexed same_tuple (labels_value texts keys) (labels_value texts targets) ≡ gaps_seen (tuple_value texts) (reindexed numbers.same_tuple keys targets)
  reindexed_by_number =
      reindexed_seen (tuple_value texts) _ numbers.same_tuple (λ x y. false) same_tuple (λ x y. false) (λ x y. tuple_by_number texts x y distinct) (λ x y f g. refl)
      keys (tuples_settled texts keys given) targets (tuples_settled texts targets asked)

  abbrev pub found_rows : Result (List (Option ℕ)) FaultValue
  found_rows = met_rows (reindexed same_tuple (labels_value texts keys) (labels_value texts targets))

  pub rows_met : (rows : List (Option ℕ)) → reindexed numbers.same_tuple keys targets ≡ Ok rows → found_rows ≡ Ok rows
  rows_met _ is = cc reindexed_by_number

  pub rows_refused : (fault : AlignFault) → AlignsBy as_it_is (Err fault) (reindexed numbers.same_tuple keys targets) → MakesBy (λ _ rows. rows) texts (Err (align_refusal fault)) found_rows
  rows_refused (DuplicateLabels key) is =
      let settled = repeat_given numbers.same_tuple keys targets (IsSettled tuple_value texts) key (tuples_settled texts keys given) is in
      (grind (arith, reindexed_by_number, gaps_seen), search)
  rows_refused fault is = grind (arith, reindexed_by_number, gaps_seen)

-- as many rows as labels, and rows of the axis
pub rows_counted : (keys targets : List (List Label)) (rows : List (Option ℕ)) → reindexed numbers.same_tuple keys targets ≡ Ok rows → length rows ≡ length targets
rows_counted keys targets _ is = rw is at (reindexed_count numbers.same_tuple keys targets)

pub rows_below : (keys targets : List (List Label)) (rows : List (Option ℕ)) → reindexed numbers.same_tuple keys targets ≡ Ok rows → All (IsPlaceOf (length keys)) rows
rows_below keys targets _ is = rw is at (reindexed_below numbers.same_tuple keys targets)

module _ (texts : List Text) where
  -- cells on other rows, with texts
  cell_on : (cells : List Cell) (gap : Option ℕ) → datum texts (gap_cell Na cells gap) ≡ gap_cell na_cell (map (datum texts) cells) gap
  cell_on cells gap = grind (arith, get_or-map (datum texts) cells)

  cells_on : (cells : List Cell) (rows : List (Option ℕ)) → map (datum texts) (taken Na cells rows) ≡ taken na_cell (map (datum texts) cells) rows
  cells_on cells rows = map-map (datum texts) (gap_cell Na cells) rows ∙ (λ j. map (λ gap. cell_on cells gap j) rows)

  pub on_rows_seen : (rows : List (Option ℕ)) (cs : List (ColumnOf Cell)) → columns_value texts (on_rows Na rows cs) ≡ on_rows na_cell rows (columns_value texts cs)
  on_rows_seen rows cs = map-map (column_value texts) _ cs ∙ (λ j. map (λ c. record { kind = c.kind; cells = cells_on c.cells rows j }) cs) ∙ sym (map-map _ (column_value texts) cs)

  -- their texts were given
  pub on_rows_given : (count : ℕ) (rows : List (Option ℕ)) (cs : List (ColumnOf Cell)) → HaveRows count cs → All (IsPlaceOf count) rows → All (λ c. AreGiven texts c.cells) cs → All (λ c. AreGiven texts c.cells) (on_rows Na rows cs)
  on_rows_given count rows cs filled inside given =
      All-map (λ c. AreGiven texts c.cells) _ cs (λ k d lt. All-map (IsGiven texts) (gap_cell Na (slice_index_or cs k d).cells) rows (λ j e within. grind (arith, given k d lt, inside j e, filled k d)))

-- one more column on other rows
pub block_on : (block : CellBlock) (made a : CellColumn) (at : ColumnOf Cell) (rows : List (Option ℕ)) → block ≡ record { kind = made.kind; rows = length made.cells; columns = made.cells ∷ [] } → made.kind ≡ a.kind → made.cells ≡ taken Na a.cells rows → at ≡ table_column a
    → block_column block ≡ record { kind = at.kind; cells = taken Na at.cells rows }
block_on = grind arith

pub single_on : (blocks blocks' : List CellBlock) (block : CellBlock) (made : CellColumn) → All IsSingle blocks → block ≡ record { kind = made.kind; rows = length made.cells; columns = made.cells ∷ [] } → blocks' ≡ blocks ++ block ∷ [] → All IsSingle blocks'
single_on blocks blocks' block made all is pushed = rw pushed (All-push IsSingle blocks block all (rw is refl))

pub one_more_on : (columns : List (ColumnOf Cell)) (rows : List (Option ℕ)) (place : ℕ) (made made' : List CellBlock) (block : CellBlock) → place < length columns
    → map block_column made ≡ on_rows Na rows (take place columns) → made' ≡ made ++ block ∷ [] → block_column block ≡ record { kind = (slice_index_or columns place no_column).kind; cells = taken Na (slice_index_or columns place no_column).cells rows }
    → map block_column made' ≡ on_rows Na rows (take (place + 1) columns)
one_more_on columns rows place made made' block lt before pushed here =
    let on : ColumnOf Cell → ColumnOf Cell = λ c. record { kind = c.kind; cells = taken Na c.cells rows } in
    cc (map_push block_column made block, map_more on columns place no_column lt)
