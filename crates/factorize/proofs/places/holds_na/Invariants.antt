use Rattle.{
  column_core.proofs.cells.Common.{◌≡◌, ℕ, false, List, [], map, slice_index_or, list_any, range_with_len, label_datum},
  row_keys.specs.Keys.{label_in},
  meaning_group.specs.Keys.{is_na},
}
use Rattle.factorize.proofs.places.holds_na.Given as goal

-- no label so far is missing
abbrev pub invariant-loop-level : goal.invariant-loop-level
invariant-loop-level g l =
    (texts : List (List ℕ)) → list_any is_na (map (λ level. label_datum texts (label_in level (slice_index_or (g.R.KeyLevels.keys l.rows) l.row []))) (range_with_len 0 l.level)) ≡ false
