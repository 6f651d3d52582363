-- Laws of what is settled.
use Rattle.{
  meaning_tables.{proofs.cells.Common.{get_or_append_left, get_or-map, cases_lt, cond_both, nat_tests, inl, inr, ◌≡◌, ◌∙◌, ◌≤◌, refl, ap, sym, List, [], ◌∷◌, ◌++◌, length, replicate, append_assoc, Some, option_map, ℕ, suc, zero, nat_eq, if◌then◌else◌, All, slice_index_or, arith, AreGiven, IsLonger, IsGiven, Cell, CellValue, datum, Text}, specs.{Settled.{IsSettled}, Table.{ColumnOf, NumberedTable, table_value, heading_value, column_value, no_column}}},
  std.proofs.{lemmas.List.{get_or-replicate}, Common.{append-nil}},
  frame_store.specs.{Objects.{Tables, with_object}, Shown.{shown, with_shown, labels_value, headings_value, columns_value, cells_value}},
}
use Rattle.cell_core.specs.declared.cell.Cell.TheVariants as cell

-- what is settled stays so
pub settled_later : {X Y : Type 0} (view : List Text → X → Y) (old new : List Text) (x : X) → IsLonger old new → IsSettled view old x → IsSettled view new x
settled_later = grind (arith, append_assoc)

-- and is seen as before
pub seen_later : {X Y : Type 0} (view : List Text → X → Y) (old new : List Text) (x : X) → IsLonger old new → IsSettled view old x → view new x ≡ view old x
seen_later = grind arith

-- what is made of settled things by a law that holds for all texts is settled
pub settled_by : {X X' Y Y' : Type 0} (view : List Text → X → Y) (view' : List Text → X' → Y') (f : Y → Y') (texts : List Text) (x : X) (x' : X')
    → ((texts : List Text) → f (view texts x) ≡ view' texts x') → IsSettled view texts x → IsSettled view' texts x'
settled_by = grind arith

pub longer_self : (texts : List Text) → IsLonger texts texts
longer_self texts = ([], sym (append-nil texts))

pub longer_twice : (a b c : List Text) → IsLonger a b → IsLonger b c → IsLonger a c
longer_twice = grind (arith, append_assoc)

-- a table of a store
pub object_settled : (texts : List Text) (tables : Tables) (id : ℕ) (t : NumberedTable) → tables id ≡ Some t → IsSettled shown texts tables → IsSettled table_value texts t
object_settled texts tables id t is settled = λ more.
    let same : option_map (table_value (texts ++ more)) (tables id) ≡ option_map (table_value texts) (tables id) = λ j. settled more j id in
    cc

-- one table more or another, and the others as they were
pub shown_with : (old new : List Text) (tables tables' : Tables) (id : ℕ) (t : NumberedTable) → IsLonger old new → IsSettled shown old tables → tables' ≡ with_object tables id (Some t)
    → shown new tables' ≡ with_shown (shown old tables) id (Some (table_value new t))
shown_with old new tables tables' id t longer settled is = rw is (λ j other. at other j)
  where
    at : (other : ℕ) → option_map (table_value new) (if nat_eq id other then Some t else tables other) ≡ (if nat_eq id other then Some (table_value new t) else option_map (table_value old) (tables other))
    at other =
        let before : option_map (table_value new) (tables other) ≡ option_map (table_value old) (tables other) = λ j. seen_later shown old new tables longer settled j other in
        grind (arith, nat_tests)

pub settled_with : (texts : List Text) (tables tables' : Tables) (id : ℕ) (t : NumberedTable) → IsSettled shown texts tables → IsSettled table_value texts t → tables' ≡ with_object tables id (Some t)
    → IsSettled shown texts tables'
settled_with texts tables tables' id t settled here is = rw is (λ more j other. cond_both (nat_eq id other) (Some t) (tables other) (λ o. option_map (table_value (texts ++ more)) o ≡ option_map (table_value texts) o) (λ _. ap (λ v. Some v) (here more)) (λ _ k. settled more k other) j)

-- a number that was given keeps its text
pub cell_settled : (texts : List Text) (c : Cell) → IsGiven texts c → IsSettled datum texts c
cell_settled = grind (arith, get_or_append_left)

-- a number that wasn't given would be seen otherwise among further texts
beyond : (texts : List Text) (i : ℕ) → length texts ≤ i → (more : List Text) × (slice_index_or (texts ++ more) i [] ≡ 0 ∷ []) × (slice_index_or texts i [] ≡ [])
beyond [] i _ = (replicate (suc i) (0 ∷ []), get_or-replicate (suc i) i (0 ∷ []) [] (omega arith), refl)
beyond (t ∷ ts) zero le = absurd (omega arith)
beyond (t ∷ ts) (suc i) le = beyond ts i (omega arith)

pub cell_given : (texts : List Text) (c : Cell) → IsSettled datum texts c → IsGiven texts c
cell_given texts (cell.Text id) settled = elim (cases_lt id.0 (length texts)) [
  | inl lt ↦ lt
  | inr le ↦ let far = beyond texts id.0 le in grind arith
]
cell_given _ _ _ = tt

abbrev cells_in : ColumnOf CellValue → List CellValue
cells_in c = c.cells

-- the cells of a column
pub cells_settled : (texts : List Text) (cs : List Cell) → AreGiven texts cs → IsSettled cells_value texts cs
cells_settled _ [] _ = λ more. refl
cells_settled texts (c ∷ cs) given = λ more j.
    cell_settled texts c (given 0 c (omega arith)) more j ∷ cells_settled texts cs (λ k d lt. given (suc k) d (omega arith)) more j

pub cells_given : (texts : List Text) (cs : List Cell) → IsSettled cells_value texts cs → AreGiven texts cs
cells_given _ [] settled = grind arith
cells_given texts (c ∷ cs) settled = grind (arith, cell_given, cells_given texts cs (λ more. cc (settled more)))

pub column_settled : (texts : List Text) (c : ColumnOf Cell) → AreGiven texts c.cells → IsSettled column_value texts c
column_settled = search cells_settled

pub columns_settled : (texts : List Text) (cs : List (ColumnOf Cell)) → All (λ c. AreGiven texts c.cells) cs → IsSettled columns_value texts cs
columns_settled _ [] _ = λ more. refl
columns_settled texts (c ∷ cs) given = λ more j.
    column_settled texts c (given 0 c (omega arith)) more j ∷ columns_settled texts cs (λ k d lt. given (suc k) d (omega arith)) more j

pub columns_given : (texts : List Text) (cs : List (ColumnOf Cell)) → IsSettled columns_value texts cs → All (λ c. AreGiven texts c.cells) cs
columns_given texts cs settled k d lt =
    cells_given texts (slice_index_or cs k d).cells (λ more.
    sym (grind (arith, get_or-map))
    ∙ ap (λ l. cells_in (slice_index_or l k no_column)) (settled more)
    ∙ ap cells_in (get_or-map (column_value texts) cs k d no_column lt))

-- the parts of a table
pub columns_part : (texts : List Text) (t : NumberedTable) → IsSettled table_value texts t → IsSettled columns_value texts t.columns
columns_part = grind arith

pub headings_part : (texts : List Text) (t : NumberedTable) → IsSettled table_value texts t → IsSettled headings_value texts t.headings
headings_part = grind arith

pub labels_part : (texts : List Text) (t : NumberedTable) → IsSettled table_value texts t → IsSettled labels_value texts t.labels
labels_part = grind arith

pub level_names_part : (texts : List Text) (t : NumberedTable) → IsSettled table_value texts t → IsSettled headings_value texts t.level_names
level_names_part = grind arith

pub columns_name_part : (texts : List Text) (t : NumberedTable) → IsSettled table_value texts t → IsSettled heading_value texts t.columns_name
columns_name_part _ t settled = λ more. ap (λ v. v.columns_name) (settled more)

pub table_settled : (texts : List Text) (t : NumberedTable) → IsSettled heading_value texts t.columns_name → IsSettled headings_value texts t.level_names → IsSettled labels_value texts t.labels
    → IsSettled headings_value texts t.headings → IsSettled columns_value texts t.columns → IsSettled table_value texts t
table_settled _ t name levels labels headings columns = λ more j.
    record { shape = t.shape; columns_name = name more j; level_names = levels more j; labels = labels more j; headings = headings more j; columns = columns more j }

-- a table with other columns
pub with_columns_settled : (texts : List Text) (t : NumberedTable) (cs : List (ColumnOf Cell)) → IsSettled table_value texts t → All (λ c. AreGiven texts c.cells) cs
    → IsSettled table_value texts (record t { columns = cs })
with_columns_settled = search (columns_name_part, level_names_part, labels_part, headings_part, columns_settled)
