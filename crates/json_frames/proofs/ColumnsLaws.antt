-- The labels of rows, and the columns, one after the other.
use Rattle.{meaning_json.{proofs.cells.Common.{◌≡◌, ℕ, ◌+◌, List, [], ◌∷◌, ◌++◌, ℤ, pos, map, refl, ap, sym, ◌∙◌, arith, map-append, map-range_with_len_more, rules, ◌<◌, ◌^◌, to_z, w64, Label, int, Text, true, false, ◌||◌, length, list_any, list_any-append, list_any_at, range_with_len, get_or-map-range_with_len, length-map-range_with_len, get_or_append_left, cases_lt, ⊎_elim, slice_index_or, Kind, Int64, Bool, not, list_all, false≢true, append-nil, Option, unwrap_or, String, CellValue, IsLonger}, specs.{tables.{Table.{tuple_value, ColumnOf}, Settled.{IsSettled}}, form.Finish.{default_labels}, JsonRead.{cells_at, cells_under, has_two_kinds, kind_of_cells, column_of_cells, is_of, cell_kind}}}, std.{proofs.{Common.{ap₂}, lemmas.List.{get_or_push, length_push}}}, csv_frames.{specs.Views.{tuples_seen, column_seen, columns_seen}, proofs.SettledLaws.{seen_more}}, column_core.specs.Columns.{CellColumn}, serde_json.specs.Data.{Data}, std.specs.BTreeMap.{BTreeMap}, json_frames.{specs.Kinds.{KindsAt, OfRows, kind_under}, proofs.KindLaws.{one_kind}}}
use Rattle.cell_core.specs.declared.cell.Label.TheVariants as label

-- the label of the next row
pub default_more : (texts : List Text) (tuples tuples' : List (List Label)) (t : List Label) (z : ℤ) (row : ℕ) → tuples_seen texts tuples ≡ default_labels row → tuples' ≡ tuples ++ t ∷ [] → t ≡ label.Int z ∷ [] → z ≡ pos row → tuples_seen texts tuples' ≡ default_labels (row + 1)
default_more texts tuples tuples' t z row so_far is one number =
    ap (map (tuple_value texts)) is ∙ map-append (tuple_value texts) tuples (t ∷ []) ∙ ap₂ (λ l r. l ++ r ∷ []) so_far (ap (tuple_value texts) one ∙ ap (λ x. int x ∷ []) number)
    ∙ sym (map-range_with_len_more (λ r. int (pos r) ∷ []) 0 row row (omega arith))

pub small_number : (n : ℕ) → n < 2 ^ 26 → to_z w64 n ≡ pos n
small_number = search rules

-- a column of two kinds
pub two_at : (rows : List Data) (place width : ℕ) → place < width → has_two_kinds (cells_at rows place) ≡ true → list_any has_two_kinds (map (cells_at rows) (range_with_len 0 width)) ≡ true
two_at rows place width h two =
    list_any_at has_two_kinds (map (cells_at rows) (range_with_len 0 width)) place [] (let n = length-map-range_with_len (cells_at rows) 0 width in omega arith)
    (ap has_two_kinds (get_or-map-range_with_len (cells_at rows) 0 width place place [] h (omega arith)) ∙ two)

-- the kind of one column more
kind_each : (kinds : List Kind) (kind : Kind) (rows : List Data) (place : ℕ) → KindsAt kinds rows place → kind ≡ kind_of_cells (cells_at rows place) → (k : ℕ) → k < place + 1 → slice_index_or (kinds ++ kind ∷ []) k Int64 ≡ kind_of_cells (cells_at rows k)
kind_each kinds kind rows place h e k b =
    ⊎_elim (λ lt. get_or_append_left kinds (kind ∷ []) Int64 k (omega (arith, h.count)) ∙ h.each k lt)
    (λ le. get_or_push kinds kind Int64 k (omega (arith, h.count)) ∙ e ∙ ap (λ p. kind_of_cells (cells_at rows p)) (omega arith)) (cases_lt k place)

pub kinds_more : (kinds kinds' : List Kind) (kind : Kind) (rows : List Data) (place : ℕ) → KindsAt kinds rows place → kinds' ≡ kinds ++ kind ∷ [] → has_two_kinds (cells_at rows place) ≡ false → kind ≡ kind_of_cells (cells_at rows place) → KindsAt kinds' rows (place + 1)
kinds_more kinds kinds' kind rows place h is two e = record {
  count = ap length is ∙ length_push kinds kind ∙ ap (λ n. n + 1) h.count;
  one = ap (list_any has_two_kinds) (map-range_with_len_more (cells_at rows) 0 place place (omega arith)) ∙ list_any-append has_two_kinds (map (cells_at rows) (range_with_len 0 place)) (cells_at rows place ∷ []) ∙ ap₂ (λ a b. a || (b || false)) h.one two;
  each = λ k b. ap (λ l. slice_index_or l k Int64) is ∙ kind_each kinds kind rows place h e k b;
}

-- the cells at a place are of its kind
pub held_at : (kinds : List Kind) (kind : Kind) (rows : List Data) (place : ℕ) → KindsAt kinds rows (length kinds) → place < length kinds → kind ≡ slice_index_or kinds place Int64 → list_all (λ c. is_of kind (cell_kind c)) (cells_at rows place) ≡ true
held_at kinds kind rows place h lt e = ap (λ k. list_all (λ c. is_of k (cell_kind c)) (cells_at rows place)) (e ∙ h.each place lt) ∙ by _ refl
  where
    by : (b : Bool) → list_all (λ c. is_of (kind_of_cells (cells_at rows place)) (cell_kind c)) (cells_at rows place) ≡ b → list_all (λ c. is_of (kind_of_cells (cells_at rows place)) (cell_kind c)) (cells_at rows place) ≡ true
    by true all = all
    by false all = absurd (false≢true (sym h.one ∙ two_at rows place (length kinds) lt (ap not all)))

-- those under a key are of the kind that is known
module _ {Y : Type 0} (kinds : BTreeMap (String Y) (Option Kind)) (rows : List Data) (key : Text) (known : Option Kind) (kind : Kind) (h : OfRows kinds rows) (under : known ≡ kind_under kinds key) (is : kind ≡ unwrap_or known Int64) where
  pub kind_under_is : kind ≡ kind_of_cells (cells_under rows key)
  kind_under_is = is ∙ ap (λ o. unwrap_or o Int64) (under ∙ h.known key)

  pub held_under : list_all (λ c. is_of kind (cell_kind c)) (cells_under rows key) ≡ true
  held_under = ap (λ k. list_all (λ c. is_of k (cell_kind c)) (cells_under rows key)) kind_under_is ∙ one_kind (cells_under rows key) (h.fit key)

pub column_is : (cells : List CellValue) (kind : Kind) (column : ColumnOf CellValue) → column ≡ record { kind = kind; cells = cells } → kind ≡ kind_of_cells cells → column ≡ column_of_cells cells
column_is cells kind column is e =
    let of_kind : Kind → ColumnOf CellValue = λ k. record { kind = k; cells = cells } in
    is ∙ ap of_kind e

-- the column at the next place
pub columns_more : (old new : List Text) (columns columns' : List CellColumn) (c : CellColumn) → IsLonger old new → IsSettled columns_seen old columns → columns' ≡ columns ++ c ∷ [] → (rows : List Data) (place : ℕ) → columns_seen old columns ≡ map column_of_cells (map (cells_at rows) (range_with_len 0 place))
    → column_seen new c ≡ column_of_cells (cells_at rows place) → columns_seen new columns' ≡ map column_of_cells (map (cells_at rows) (range_with_len 0 (place + 1)))
columns_more old new columns columns' c longer settled is rows place so_far seen =
    let whole = map column_of_cells (map (cells_at rows) (range_with_len 0 (place + 1))) in
    let next : whole ≡ map column_of_cells (map (cells_at rows) (range_with_len 0 place)) ++ column_of_cells (cells_at rows place) ∷ [] = ap (map column_of_cells) (map-range_with_len_more (cells_at rows) 0 place place (omega arith)) ∙ map-append column_of_cells (map (cells_at rows) (range_with_len 0 place)) (cells_at rows place ∷ []) in
    sym (append-nil (columns_seen new columns')) ∙ seen_more column_seen old new columns columns' c longer settled is (column_of_cells (cells_at rows place)) [] whole seen (ap (λ l. l ++ column_of_cells (cells_at rows place) ∷ []) so_far ∙ sym next)
