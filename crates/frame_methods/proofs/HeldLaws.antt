-- The cells that an operation holds were given.
use Rattle.{
  frame_parts.proofs.Common.{suc, List, [], ◌∷◌, arith, length-append, All-cons, All-nil, Cell, Text, IsGiven, AreGiven, IsLonger},
  frame_methods.specs.Columns.{EachGiven},
}

-- by the list, and one by one
pub each_given : (texts : List Text) (cs : List Cell) → AreGiven texts cs → EachGiven texts cs
each_given _ [] _ = tt
each_given _ (c ∷ cs) given = (given 0 c (omega arith), each_given _ cs (λ k d lt. given (suc k) d (omega (arith, lt))))

pub are_given : (texts : List Text) (cs : List Cell) → EachGiven texts cs → AreGiven texts cs
are_given texts [] _ = All-nil (IsGiven texts)
are_given texts (c ∷ cs) given = All-cons (IsGiven texts) c cs given.0 (are_given _ cs given.1)

-- what was given one by one stays so
pub each_later : (old new : List Text) (cs : List Cell) → IsLonger old new → EachGiven old cs → EachGiven new cs
each_later _ _ [] _ _ = tt
each_later _ _ (c ∷ cs) longer given = (grind (arith, length-append), each_later _ _ cs longer given.1)
