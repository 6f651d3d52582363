-- The scalars of a list are the same among any objects.
use Rattle.{
  frame_store.{proofs.cells.Common.{arith, ◌≡◌, ◌<◌, ◌+◌, refl, ℕ, List, [], ◌∷◌, ◌++◌, length, drop, get_or, drop-cons, Option, Some, option_map, Cell, Text, datum}, specs.{tables.{Settled.{IsSettled}, Value.{Given, GivenList, more_given, scalar_in, list_in}}, declared.arguments.Item.{Item, One as OneItem}, Objects.{Tables}, Arguments.{item_of, items_of, arguments_of}}},
  meaning_call.specs.form.Select.{cells_of},
  frame_signatures.{specs.{Bound.{Tells}, Scalars.{scalars, with_cell}, declared.bound.Bound.{Bound}}, proofs.ToldLaws.{told_settled}},
}

pub cells_of_more : (g : Given) (rest : GivenList) → cells_of (more_given g rest) ≡ with_cell (scalar_in g) (cells_of rest)
cells_of_more = grind arith

-- the scalars from a part on
abbrev pub IsScalarOf : Option Cell → Item → Type 0
IsScalarOf o item = (live : Tables) (texts : List Text) → option_map (datum texts) o ≡ scalar_in (item_of live texts item)

pub scalars_from : (texts : List Text) (items : List Item) (i : ℕ) (item : Item) (o : Option Cell) → i < length items → item ≡ get_or items i item → IsScalarOf o item
    → scalars texts (drop i items) ≡ with_cell (option_map (datum texts) o) (scalars texts (drop (i + 1) items))
scalars_from = grind (arith, drop-cons, cells_of_more)

scalar_same : (live other : Tables) (texts : List Text) (item : Item) → scalar_in (item_of live texts item) ≡ scalar_in (item_of other texts item)
scalar_same live other texts (OneItem v) = grind arith
scalar_same _ _ _ _ = grind arith

any_objects : (live other : Tables) (texts : List Text) (items : List Item) → cells_of (items_of live texts items) ≡ cells_of (items_of other texts items)
any_objects _ _ _ [] = refl
any_objects live other texts (item ∷ rest) = grind (arith, cells_of_more, scalar_same, any_objects live other texts rest)

pub scalars_are : (live : Tables) (texts : List Text) (items : List Item) → cells_of (items_of live texts items) ≡ scalars texts items
scalars_are = search any_objects

-- those of a list that was given
pub items_settled : (b : Bound) (place : ℕ) (items : List Item) (live : Tables) (dict : List Text) → Tells b place list_in (λ live texts. Some (items_of live texts items))
    → IsSettled (arguments_of live) dict b.args.now → IsSettled scalars dict items
items_settled b place items live dict tells settled = λ more.
    grind (arith, scalars_are live (dict ++ more) items, scalars_are live dict items, told_settled b place list_in (λ live texts. Some (items_of live texts items)) live dict tells settled more)
