-- Labels of tuples, one more at a time.
use Rattle.{index_core.proofs.cells.Common.{arith, ◌≡◌, ℕ, ◌+◌, ◌<◌, ◌≤◌, List, [], ◌∷◌, ◌++◌, map, take, set, length, Some, slice_index_or, take_more, take_all, take_more_set, map_more, slice_get-get_or, get_or_from_slice_get, Label}, std.proofs.lemmas.List.{append_assoc}, cell_core.specs.declared.cell.Label.TheVariants.{Na}, multi_index.specs.Axes.{AxisValue, label_at}}
pub use Rattle.multi_index.proofs.SameTuples.{tuple_there}

-- what is made of one row more
pub one_row_more : {X Y : Type 0} (f : X → Y) (xs : List X) (i : ℕ) (d : X) (y : Y) (start made made' : List Y) → i < length xs → y ≡ f (slice_index_or xs i d)
    → made ≡ start ++ map f (take i xs) → made' ≡ made ++ y ∷ [] → made' ≡ start ++ map f (take (i + 1) xs)
one_row_more = grind (arith, map_more, append_assoc)

pub every_row : {X Y : Type 0} (f : X → Y) (xs : List X) (i : ℕ) (start made : List Y) → length xs ≤ i → made ≡ start ++ map f (take i xs) → made ≡ start ++ map f xs
every_row = grind (arith, take_all)

pub label_there : (axis : AxisValue) (row level : ℕ) (label : Label) → row < length axis.tuples → label_at axis row level ≡ Some label → slice_index_or (slice_index_or axis.tuples row []) level Na ≡ label
label_there = grind (arith, get_or_from_slice_get, slice_get-get_or)

-- one more label of a tuple is written
pub one_label_more : (labels tuple : List Label) (level : ℕ) (label : Label) → level < length labels → level < length tuple → slice_index_or tuple level Na ≡ label
    → take level labels ≡ take level tuple → take (level + 1) (set labels level label) ≡ take (level + 1) tuple
one_label_more = grind (arith, take_more_set, take_more)
