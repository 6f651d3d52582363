-- Labels, rows and columns of a spread, one after the other.
use Rattle.{frame_parts.proofs.Common.{block_on, single_on, arith, ◌≡◌, ◌∙◌, ap, refl, Na, CellColumn, table_column, ◌+◌, ◌<◌, ℕ, List, [], ◌∷◌, ◌++◌, map, take, length, slice_get, slice_index_or, Option, Some, None, map-append, take_all, take_more, get_or_from_slice_get, slice_get_within, map-range_with_len_more, All, range_with_len, Label, HaveLevels, ColumnOf, Cell, CellBlock, columns_of, block_column}, column_core.{proofs.cells.Common.{◌*◌, get_or_default}, specs.cells.Column.{taken}}, std.proofs.lemmas.Nat.{mul-add-lt}, reshape.specs.{row_keys.Keys.{label_in}, shapes.{Reshape.{SpreadOf}}}, frame_reshape.specs.Spreads.{places_of_column as places_there}}
use Rattle.cell_core.specs.declared.cell.Label.TheVariants as label

abbrev first_label : List Label → Option Label
first_label tuple = Some (label_in 0 tuple)

pub one_more_first : (columns : List (List Label)) (k : ℕ) (t : List Label) (l : Label) (made made' : List (Option Label)) → slice_get columns k ≡ Some t → slice_get t 0 ≡ Some l → made' ≡ made ++ Some l ∷ [] → made ≡ map first_label (take k columns)
    → made' ≡ map first_label (take (k + 1) columns)
one_more_first columns k t l _ _ at here pushed before =
    grind (arith, map-append, take_more columns k [] (slice_get_within columns k t at), get_or_from_slice_get columns k t [] at, get_or_from_slice_get t 0 l label.Na here)

pub some_label : (columns : List (List Label)) (k : ℕ) (t : List Label) → HaveLevels 1 columns → slice_get columns k ≡ Some t → 0 < length t
some_label columns k t one at = grind (arith, one k [] (slice_get_within columns k t at), get_or_from_slice_get columns k t [] at)

-- the place of a cell
pub cell_inside : (rows columns row column count : ℕ) → count ≡ rows * columns → row < rows → column < columns → row * columns + column < count
cell_inside rows columns row column count is lt inside = omega (arith, is, mul-add-lt row columns column rows lt inside)

pub one_more_in : {X : Type 0} (f : ℕ → X) (k : ℕ) (x : X) (made made' : List X) → x ≡ f k → made' ≡ made ++ x ∷ [] → made ≡ map f (range_with_len 0 k) → made' ≡ map f (range_with_len 0 (k + 1))
one_more_in = grind (arith, map-range_with_len_more)

pub one_more_spread : (f : ℕ → ColumnOf Cell) (k : ℕ) (block : CellBlock) (made made' : List CellBlock) → block_column block ≡ f k → made' ≡ made ++ block ∷ [] → columns_of made ≡ map f (range_with_len 0 k) → columns_of made' ≡ map f (range_with_len 0 (k + 1))
one_more_spread = grind (arith, map-append, map-range_with_len_more)

-- a column of the frame
abbrev pub spread_at : SpreadOf Label → CellColumn → ℕ → ColumnOf Cell
spread_at s a column = record { kind = a.kind; cells = taken Na a.cells (places_there s column) }

pub one_more_column : (s : SpreadOf Label) (a made : CellColumn) (column : ℕ) (gaps : List (Option ℕ)) (block : CellBlock) (blocks blocks' : List CellBlock) → gaps ≡ places_there s column → made.kind ≡ a.kind → made.cells ≡ taken Na a.cells gaps
    → block ≡ record { kind = made.kind; rows = length made.cells; columns = made.cells ∷ [] } → blocks' ≡ blocks ++ block ∷ [] → columns_of blocks ≡ map (spread_at s a) (range_with_len 0 column) → columns_of blocks' ≡ map (spread_at s a) (range_with_len 0 (column + 1))
one_more_column s a made column gaps block blocks blocks' at kind cells is pushed before =
    one_more_spread (spread_at s a) column block blocks blocks' (block_on block made a (table_column a) (places_there s column) is kind (cells ∙ ap (taken Na a.cells) at) refl) pushed before

pub ruleset first_labels = (some_label, take_all)
