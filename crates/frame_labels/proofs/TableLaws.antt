-- Tables within the limits, and the headings of frames.
use Rattle.frame_parts.proofs.Common.{arith, ◌≡◌, true, ℕ, List, length, All, IsSome, Option, Ok, Label, Frame, AreHeadings, Table, table, within_limits, limited}

-- a table within the limits
pub limited_within : (t : Table) (rows columns : ℕ) → length t.labels ≡ rows → length t.columns ≡ columns → within_limits rows columns ≡ true → limited t ≡ Ok (table t)
limited_within t _ _ r c within = search

-- labels of a frame's columns
pub frame_heads : (name : Option Label) (labels : List (Option Label)) → All IsSome labels → AreHeadings Frame name labels
frame_heads = grind arith
