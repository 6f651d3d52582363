-- Columns of scalars.
use Rattle.frame_parts.proofs.Common.{column_seen, ◌≡◌, ℕ, zero, suc, List, length, map, replicate, refl, ap, arith, Cell, Kind, Text, datum, CellColumn}

-- one cell in each row
pub map-replicate : (texts : List Text) (n : ℕ) (c : Cell) → map (datum texts) (replicate n c) ≡ replicate n (datum texts c)
map-replicate _ zero c = refl
map-replicate texts (suc n) c = cc (map-replicate texts n c)

pub scalar_is : (texts : List Text) (kind meant : Kind) (rows : ℕ) (c : Cell) (made : CellColumn) → made ≡ record { kind = kind; cells = replicate rows c } → meant ≡ kind → column_seen texts made ≡ record { kind = meant; cells = replicate rows (datum texts c) }
scalar_is = grind (arith, map-replicate)

-- columns of missing cells
pub length-replicate : (n : ℕ) (c : Cell) → length (replicate n c) ≡ n
length-replicate zero c = refl
length-replicate (suc n) c = ap suc (length-replicate n c)
