-- The leading labels of a tuple, one for each of its first levels.
use Rattle.std.specs.Prelude.{Bool, true, false, List, [], ◌∷◌, ◌&&◌}
use Rattle.std.specs.Ordering.{ordering_then}
use Rattle.std.specs.declared.cmp.Ordering.{Ordering}
use Rattle.std.specs.declared.cmp.Ordering.TheVariants.{Less, Equal}

-- the labels are the leading ones of the tuple
abbrev pub leads : {L : Type 0} → (L → L → Bool) → List L → List L → Bool
leads same [] tuple = true
leads same (k ∷ key) [] = false
leads same (k ∷ key) (l ∷ tuple) = same k l && leads same key tuple

-- how a tuple's leading labels stand to as many labels: by the first that differs
abbrev pub leading_cmp : {L : Type 0} → (L → L → Ordering) → List L → List L → Ordering
leading_cmp cmp tuple [] = Equal
leading_cmp cmp [] (b ∷ bound) = Less
leading_cmp cmp (l ∷ tuple) (b ∷ bound) = ordering_then (cmp l b) (leading_cmp cmp tuple bound)
