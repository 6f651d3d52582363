-- Keys of one level on both sides.
use Rattle.{
  column_core.{proofs.cells.Common.{◌≡◌, ◌∙◌, ◌++◌, ℕ, arith, refl, sym, List, [], ◌∷◌, length, All, All-append, All-head, Label}, specs.Columns.{CellColumn}},
  factorize.specs.{multi_index.Axes.{HaveLevels}, Keys.{levels_of}},
  reshape.specs.Blocks.{HaveOneHeight},
}

abbrev IsSingle : List Label → Type 0
IsSingle tuple = length tuple ≡ 1

pub one_level : (tuples : List (List Label)) → All IsSingle tuples → levels_of tuples ≡ 1
one_level [] _ = refl
one_level (tuple ∷ tuples) all = All-head IsSingle tuple tuples all

pub both_alike : (left right : List (List Label)) → HaveLevels 1 left → HaveLevels 1 right → HaveLevels (levels_of (left ++ right)) (left ++ right)
both_alike left right l r k d lt =
    let all = All-append IsSingle left right l r in
    all k d lt ∙ sym (one_level (left ++ right) all)

pub one_alike : (tuples : List (List Label)) → HaveLevels 1 tuples → HaveLevels (levels_of tuples) tuples
one_alike tuples single k d lt = single k d lt ∙ sym (one_level tuples single)

-- columns of so many cells each
pub one_height : (columns : List CellColumn) (rows : ℕ) → All (λ column. length column.cells ≡ rows) columns → HaveOneHeight columns
one_height [] rows all = grind arith
one_height (column ∷ columns) rows all = λ k d lt. all k d lt ∙ sym (All-head (λ (c : CellColumn). length c.cells ≡ rows) column columns all)
