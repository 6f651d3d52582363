-- Cells one after the other: the kind of the first that is present, a test of all, and the column of them.
use Rattle.{
  column_core.{proofs.cells.Common.{slice_get_within, drop_more, take_more, take_all, get_or_from_slice_get, ◌≡◌, ℕ, suc, ◌+◌, ◌<◌, Bool, true, false, ◌&&◌, List, [], ◌∷◌, ◌++◌, length, take, drop, arith, Some, Ok, drop-cons, drop-length, slice_get, list_all, Cell, Na, Kind, Int64, CellValue, datum, holds, Text}, specs.Columns.{CellColumn}},
  meaning_form.specs.Set.{first_kind},
  frame_store.specs.Shown.{cells_value},
  frame_parts.specs.Makes.{column_seen, held_column},
}

-- the cells from one on
from_here : (cells : List Cell) (k : ℕ) (c : Cell) → slice_get cells k ≡ Some c → drop k cells ≡ c ∷ drop (k + 1) cells
from_here cells k c at = cc (drop_more cells k Na (slice_get_within cells k c at), get_or_from_slice_get cells k c Na at)

-- the kind of the first cell that is present, from one on
abbrev pub kind_from : List Text → List Cell → ℕ → Kind
kind_from texts cells k = first_kind (cells_value texts (drop k cells))

module _ (texts : List Text) (cells : List Cell) (k : ℕ) (c : Cell) (whole : Kind) (at : slice_get cells k ≡ Some c) where
  pub kind_met : (kind : Kind) → ((texts : List Text) (rest : List CellValue) → first_kind (datum texts c ∷ rest) ≡ kind) → kind_from texts cells k ≡ whole → kind ≡ whole
  kind_met _ first before = cc (from_here cells k c at, first texts (cells_value texts (drop (k + 1) cells)))

  pub kind_passed : ((texts : List Text) (rest : List CellValue) → first_kind (datum texts c ∷ rest) ≡ first_kind rest) → kind_from texts cells k ≡ whole → kind_from texts cells (k + 1) ≡ whole
  kind_passed first before = cc (from_here cells k c at, first texts (cells_value texts (drop (k + 1) cells)))

pub no_kind : (texts : List Text) (cells : List Cell) (k : ℕ) (whole : Kind) → k ≡ length cells → kind_from texts cells k ≡ whole → Int64 ≡ whole
no_kind _ cells k _ end before = cc (drop-length cells)

-- whether all cells from one on pass a test
abbrev pub all_from : (CellValue → Bool) → List Text → List Cell → ℕ → Bool
all_from test texts cells k = list_all test (cells_value texts (drop k cells))

module _ (test : CellValue → Bool) (texts : List Text) (cells : List Cell) (k : ℕ) where
  module _ (c : Cell) (b whole : Bool) (at : slice_get cells k ≡ Some c) (same : b ≡ test (datum texts c)) where
    from_test : all_from test texts cells k ≡ (test (datum texts c) && all_from test texts cells (suc k))
    from_test =
        let next : k + 1 ≡ suc k = omega arith in
        cc (from_here cells k c at)

    pub test_passed : b ≡ true → all_from test texts cells k ≡ whole → all_from test texts cells (k + 1) ≡ whole
    test_passed is_so before =
        let next : k + 1 ≡ suc k = omega arith in
        cc from_test

    pub test_failed : b ≡ false → all_from test texts cells k ≡ whole → false ≡ whole
    test_failed other before = cc from_test

  pub tests_done : (whole : Bool) → k ≡ length cells → all_from test texts cells k ≡ whole → true ≡ whole
  tests_done _ end before = cc (drop-length cells)

-- one more cell in a column
pub one_pushed : (kind : Kind) (cells : List Cell) (k : ℕ) (c : Cell) (before after : CellColumn) → slice_get cells k ≡ Some c → before ≡ record { kind = kind; cells = take k cells }
    → after ≡ record { kind = before.kind; cells = before.cells ++ c ∷ [] } → after ≡ record { kind = kind; cells = take (k + 1) cells }
one_pushed _ cells k c _ _ at = grind (arith, take_more cells k Na (slice_get_within cells k c at), get_or_from_slice_get cells k c Na at)

-- all of them
pub column_done : (texts : List Text) (cells : List Cell) (k : ℕ) (column : CellColumn) (kind : Kind) → k ≡ length cells → column ≡ record { kind = kind; cells = take k cells }
    → all_from (holds kind) texts cells k ≡ list_all (holds kind) (cells_value texts cells) → held_column kind (cells_value texts cells) ≡ Ok (column_seen texts column)
column_done texts cells k column kind end made before = grind (arith, tests_done (holds kind) texts cells k (list_all (holds kind) (cells_value texts cells)) end before, take_all)
