-- The cells that rows have at one place, row by row.
use Rattle.{meaning_json.{proofs.cells.Common.{◌≡◌, ◌&&◌, Bool, true, false, length, arith, and_parts, list_all, unwrap_or, datum, Cell, Label, label_datum, Text, List, [], ◌∷◌, ◌++◌, ap, sym, ◌∙◌, append_assoc, append-nil, Option, CellValue, Kind, Int64}, specs.{cells.Cell.{cell_label}, tables.{Settled.{IsSettled}, Table.{tuple_value}}, JsonRead.{cell_kind, cell_found, first_kind, known_kind, has_two_kinds, kind_of_cells, is_of}}}, serde_json.specs.{View.{view}, declared.value.Value.{Value}}, std.proofs.Common.{ap₂}, csv_frames.proofs.SettledLaws.{after}, json_frames.{specs.{Views.{values_seen, found_in, cells_in}, declared.values.Field.{Field}, Kinds.{clash, IsUniform}}, proofs.KindLaws.{known_next, uniform_more, not_two, two_kinds_found}}}

-- the cell of the first row
abbrev pub cell_there : Field → Value → CellValue
cell_there f x = cell_found (found_in f (view x))

module _ (f : Field) (rest : List Value) (x : Value) (front : rest ≡ x ∷ after rest) where
  pub cells_front : cells_in f (values_seen rest) ≡ cell_there f x ∷ cells_in f (values_seen (after rest))
  cells_front = ap (λ l. cells_in f (values_seen l)) front

  pub cells_moved : (all done : List CellValue) → all ≡ done ++ cells_in f (values_seen rest) → all ≡ (done ++ cell_there f x ∷ []) ++ cells_in f (values_seen (after rest))
  cells_moved all done e = e ∙ ap (λ l. done ++ l) cells_front ∙ sym (append_assoc done (cell_there f x ∷ []) (cells_in f (values_seen (after rest))))

-- what is known of the cells so far
module _ (f : Field) (rows rest : List Value) (x : Value) (done : List CellValue) (known kind : Option Kind) (front : rest ≡ x ∷ after rest) (all : cells_in f (values_seen rows) ≡ done ++ cells_in f (values_seen rest)) (so_far : known ≡ known_kind done) (is : kind ≡ cell_kind (cell_there f x)) where
  pub known_there : (next : Option Kind) → next ≡ first_kind known kind → next ≡ known_kind (done ++ cell_there f x ∷ [])
  known_there next e = e ∙ ap₂ first_kind so_far is ∙ sym (known_next done (cell_there f x))

  pub uniform_there : IsUniform done → (differs : Bool) → differs ≡ clash known kind → differs ≡ false → IsUniform (done ++ cell_there f x ∷ [])
  uniform_there h differs e n = uniform_more done (cell_there f x) h (sym (ap₂ clash so_far is) ∙ sym e ∙ n)

  pub two_there : (differs : Bool) → differs ≡ clash known kind → differs ≡ true → has_two_kinds (cells_in f (values_seen rows)) ≡ true
  two_there differs e n =
      ap has_two_kinds (all ∙ ap (λ l. done ++ l) (cells_front f rest x front)) ∙ two_kinds_found done (cell_there f x) (cells_in f (values_seen (after rest))) (sym (ap₂ clash so_far is) ∙ sym e ∙ n)

-- all rows are done
pub none_left : (f : Field) (rest : List Value) (all done : List CellValue) → length rest ≡ 0 → all ≡ done ++ cells_in f (values_seen rest) → all ≡ done
none_left f [] all done h e = e ∙ append-nil done
none_left f (x ∷ rest) all done h e = absurd (omega arith)

pub one_there : (all done : List CellValue) → all ≡ done → IsUniform done → has_two_kinds all ≡ false
one_there all done e h = ap has_two_kinds e ∙ not_two done h

pub kind_there_is : (all done : List CellValue) (known : Option Kind) (kind : Kind) → all ≡ done → known ≡ known_kind done → kind ≡ unwrap_or known Int64 → kind ≡ kind_of_cells all
kind_there_is all done known kind e k is = is ∙ ap (λ o. unwrap_or o Int64) k ∙ ap kind_of_cells (sym e)

-- A cell more

label_settled_at : (texts : List Text) (cell : Cell) (l : Label) → ((ts : List Text) → label_datum ts l ≡ cell_label (datum ts cell)) → IsSettled datum texts cell → (more : List Text) → label_datum (texts ++ more) l ≡ label_datum texts l
label_settled_at texts cell l is settled more = is (texts ++ more) ∙ ap cell_label (settled more) ∙ sym (is texts)

-- the label that a cell is, as a tuple of its own
pub label_settled : (texts : List Text) (cell : Cell) (l : Label) → ((ts : List Text) → label_datum ts l ≡ cell_label (datum ts cell)) → IsSettled datum texts cell → IsSettled tuple_value texts (l ∷ [])
label_settled texts cell l is settled = λ more. ap (λ x. x ∷ []) (label_settled_at texts cell l is settled more)

pub label_seen : (texts : List Text) (cell : Cell) (l : Label) (c : CellValue) → ((ts : List Text) → label_datum ts l ≡ cell_label (datum ts cell)) → datum texts cell ≡ c → tuple_value texts (l ∷ []) ≡ cell_label c ∷ []
label_seen texts cell l c is seen = ap (λ x. x ∷ []) (is texts ∙ ap cell_label seen)

-- the first cell is of the kind, and so are the others
module _ (kind : Kind) (f : Field) (rest : List Value) (x : Value) (front : rest ≡ x ∷ after rest) (held : list_all (λ c. is_of kind (cell_kind c)) (cells_in f (values_seen rest)) ≡ true) where
  held_parts : (is_of kind (cell_kind (cell_there f x)) && list_all (λ c. is_of kind (cell_kind c)) (cells_in f (values_seen (after rest)))) ≡ true
  held_parts = sym (ap (list_all (λ c. is_of kind (cell_kind c))) (cells_front f rest x front)) ∙ held

  pub first_held : is_of kind (cell_kind (cell_there f x)) ≡ true
  first_held = (and_parts (is_of kind (cell_kind (cell_there f x))) (list_all (λ c. is_of kind (cell_kind c)) (cells_in f (values_seen (after rest)))) held_parts).0

  pub rest_held : list_all (λ c. is_of kind (cell_kind c)) (cells_in f (values_seen (after rest))) ≡ true
  rest_held = (and_parts (is_of kind (cell_kind (cell_there f x))) (list_all (λ c. is_of kind (cell_kind c)) (cells_in f (values_seen (after rest)))) held_parts).1
