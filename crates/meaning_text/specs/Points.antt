-- What is made of the code points of a text.
use Rattle.std.specs.Prelude.{ℕ, ◌-◌, ℤ, pos, negsuc, Bool, ◌==◌, ◌||◌, List, [], ◌∷◌, ◌++◌, length, replicate, nat_eq, Option, Result, Ok, Err, if◌then◌else◌}
use Rattle.std.specs.List.{starts_with}
use Rattle.std.specs.Str.{skip_leading_whitespace, drop_trailing_whitespace}
use Rattle.meaning_pick.specs.cells.cell_core.declared.grid.Rows.{Rows}
use Rattle.meaning_pick.specs.cells.Block.{strided}
use Rattle.meaning_pick.specs.Faults.{PickFault}
use Rattle.meaning_pick.specs.Positions.{slice_with_step, step_or_one}

-- without the white space at both ends, which is Unicode's property White_Space
abbrev pub stripped : List ℕ → List ℕ
stripped cs = drop_trailing_whitespace (skip_leading_whitespace cs)

-- whether the pattern stands at some place
abbrev pub stands_in : List ℕ → List ℕ → Bool
stands_in pattern [] = starts_with nat_eq [] pattern
stands_in pattern (c ∷ cs) = starts_with nat_eq (c ∷ cs) pattern || stands_in pattern cs

-- the code points at these places
abbrev pub points_at : List ℕ → Result Rows (PickFault ℕ) → List ℕ
points_at cs (Ok rows) = strided 0 cs rows
points_at cs (Err fault) = []

-- the places of Python's slice among so many; a step of 0 is refused before
abbrev pub slice_places : ℕ → Option ℤ → Option ℤ → ℤ → Result Rows (PickFault ℕ)
slice_places count from to step = slice_with_step count from to step

abbrev pub sliced : Option ℤ → Option ℤ → Option ℤ → List ℕ → List ℕ
sliced from to step cs = points_at cs (slice_places (length cs) from to (step_or_one step))

-- `+` or `-`
abbrev pub is_sign : ℕ → Bool
is_sign c = c == 43 || c == 45

abbrev pub first_sign : List ℕ → List ℕ
first_sign [] = []
first_sign (c ∷ cs) = if is_sign c then c ∷ [] else []

abbrev pub after_sign : List ℕ → List ℕ
after_sign [] = []
after_sign (c ∷ cs) = if is_sign c then cs else c ∷ cs

-- a width below 0 is that of no code point
abbrev pub width_of : ℤ → ℕ
width_of (pos n) = n
width_of (negsuc n) = 0

-- as many `0` as the width lacks, after a first sign
abbrev pub zero_filled : ℤ → List ℕ → List ℕ
zero_filled width cs = first_sign cs ++ (replicate (width_of width - length cs) 48 ++ after_sign cs)
