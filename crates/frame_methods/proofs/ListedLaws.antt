-- Cells that are in a list, by number and with texts.
use Rattle.{
  frame_parts.proofs.Common.{◌≡◌, ◌∙◌, ◌<◌, ◌+◌, refl, sym, ℕ, Bool, true, ◌||◌, List, [], ◌∷◌, ◌++◌, length, drop, get_or, Option, Some, None, IfSome, Result, arith, map-append, list_any-append, All-push, option_map, Decides, list_any, Cell, AreDistinct, label_of, same_by_number, Text, CellValue, truth_cell, datum, label_datum, IsGiven, AreGiven, cell_label, same_cell, FaultValue, IsSettled, Table, Entry, GivenList, on, cells_of, Tables, items_of, cells_value, Item, cell_settled, cell_given},
  frame_labels.specs.method.Methods.{is_in, each_column},
  frame_signatures.{proofs.ScalarLaws.{IsScalarOf, scalars_are, scalars_from}, specs.Scalars.{scalars, with_cell}},
  frame_methods.specs.{Listed.{noted, listed_column}, Columns.{EachGiven}},
  column_operators.specs.Marks.{same_number},
}

-- a cell as a label
label_seen : (texts : List Text) (c : Cell) → label_datum texts (label_of c) ≡ cell_label (datum texts c)
label_seen = grind arith

label_settled : (texts : List Text) (c : Cell) → IsGiven texts c → IsSettled label_datum texts (label_of c)
label_settled = search (label_seen, cell_settled)

-- a test by numbers is the test by texts
pub cell_by_number : (texts : List Text) (a b : Cell) → AreDistinct texts → IsGiven texts a → IsGiven texts b → same_number a b ≡ same_cell (datum texts a) (datum texts b)
cell_by_number texts a b distinct f g =
    let labels : Decides (same_number a b) (label_of a ≡ label_of b) = grind arith in
    grind (arith, same_by_number _ _ _ _ distinct (label_settled _ a f) (label_settled _ b g) labels, label_seen)

pub any_by_number : (texts : List Text) (c : Cell) (values : List Cell) → AreDistinct texts → IsGiven texts c → EachGiven texts values
    → list_any (same_cell (datum texts c)) (cells_value texts values) ≡ list_any (same_number c) values
any_by_number _ c [] _ _ _ = refl
any_by_number texts c (v ∷ vs) distinct here given = grind (arith, cell_by_number texts c v distinct here given.0, any_by_number texts c vs distinct here given.1)

-- a cell and those after it are settled where they are so together
abbrev AreBoth : List Text → Option Cell → (List Text → List CellValue) → Type 0
AreBoth texts o rest = IfSome o (IsGiven texts) × ((more : List Text) → rest (texts ++ more) ≡ rest texts)

pub both_settled : (texts : List Text) (o : Option Cell) (rest : List Text → List CellValue)
    → ((more : List Text) → with_cell (option_map (datum (texts ++ more)) o) (rest (texts ++ more)) ≡ with_cell (option_map (datum texts) o) (rest texts)) → AreBoth texts o rest
both_settled = grind (arith, cell_given)

pub first_settled : (texts : List Text) (items : List Item) (i : ℕ) (item : Item) (o : Option Cell) → i < length items → item ≡ get_or items i item → IsScalarOf o item
    → IsSettled scalars texts (drop i items) → AreBoth texts o (λ ts. scalars ts (drop (i + 1) items))
first_settled _ items i _ o lt is scalar settled =
    both_settled _ o (λ ts. scalars ts (drop (i + 1) items))
    (λ more. sym (scalars_from _ _ i _ o lt is scalar) ∙ settled more ∙ scalars_from _ _ i _ o lt is scalar)

-- one cell more among the different ones
pub noted_given : (texts : List Text) (values : List Cell) (o : Option Cell) → AreGiven texts values → IfSome o (IsGiven texts) → AreGiven texts (noted values o)
noted_given _ _ None given _ = given
noted_given texts values (Some c) given here = grind (arith, All-push (IsGiven texts) values c given here)

-- what passes at a cell passes where the cell is
passes_at : (test : CellValue → Bool) (texts : List Text) (c : Cell) (values : List Cell) → list_any (same_number c) values ≡ true → test (datum texts c) ≡ true → list_any test (cells_value texts values) ≡ true
passes_at _ _ c [] among passes = cc
passes_at test texts c (v ∷ vs) among passes = grind (arith, passes_at test texts c vs)

noted_more : (test : CellValue → Bool) (texts : List Text) (values : List Cell) (c : Cell) (r : Bool)
    → (list_any test (cells_value texts (noted values (Some c))) || r) ≡ (list_any test (cells_value texts values) || (test (datum texts c) || r))
noted_more test texts values c r = grind (arith, passes_at test texts c values, map-append (datum texts) values (c ∷ []), list_any-append test (cells_value texts values) (cells_value texts (c ∷ [])))

pub noted_step : (texts : List Text) (items : List Item) (i : ℕ) (item : Item) (o : Option Cell) (values values' : List Cell) (test : CellValue → Bool) (all : Bool) → i < length items → item ≡ get_or items i item → IsScalarOf o item → values' ≡ noted values o
    → (list_any test (cells_value texts values) || list_any test (scalars texts (drop i items))) ≡ all
    → (list_any test (cells_value texts values') || list_any test (scalars texts (drop (i + 1) items))) ≡ all
noted_step texts items i item o _ _ _ _ lt is scalar = grind (arith, noted_more, scalars_from texts items i item o lt is scalar)

-- what the cells of a list are in its place
abbrev isin_of : Table → GivenList → Result Entry FaultValue
isin_of t parts = each_column (listed_column (cells_of parts)) t

pub isin_meant : (live : Tables) (dict : List Text) (items : List Item) (values : List Cell) (o : Option GivenList) (t : Table) → Some (items_of live dict items) ≡ o
    → ((test : CellValue → Bool) → list_any test (cells_value dict values) ≡ list_any test (scalars dict items))
    → each_column (listed_column (cells_value dict values)) t ≡ on o (isin_of t)
isin_meant live dict items values o t is same = let cells : is_in (cells_value dict values) ≡ is_in (scalars dict items) = (λ j c. truth_cell (same (same_cell c) j)) in grind (arith, scalars_are live dict items)
