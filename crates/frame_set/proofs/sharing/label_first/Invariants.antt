use Rattle.frame_parts.proofs.Common.{◌≡◌, ◌∷◌, take, Some}
use Rattle.frame_set.proofs.sharing.label_first.Given as goal

-- the label and the headings so far
abbrev pub invariant-loop-place : goal.invariant-loop-place
invariant-loop-place l = l.headings ≡ record { columns_name = l.on.columns_name; labels = Some l.fn.label ∷ take l.place l.on.headings }
