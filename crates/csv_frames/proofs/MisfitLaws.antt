-- Laws of records with a field of another kind than the one that is named.
use Rattle.{
  column_core.proofs.cells.Common.{rules, ◌≡◌, ◌+◌, ◌<◌, ◌≤◌, ℕ, refl, List, [], ◌∷◌, length, drop, get_or, arith, Option, None, Bool, false, ◌||◌, min, drop_more, drop_all, get_or_past, Kind, Text},
  meaning_csv.specs.CsvRead.{field_in, is_misfit, has_misfit},
}

no_fields : (kinds : List (Option Kind)) → has_misfit kinds [] ≡ false
no_fields [] = refl
no_fields (k ∷ ks) = refl

module _ (kinds : List (Option Kind)) (fields : List Text) (place : ℕ) where
  module _ (before : has_misfit (drop place kinds) (drop place fields) ≡ has_misfit kinds fields) where
    -- no kind or no field is left
    pub misfit_done : min (length kinds) (length fields) ≤ place → false ≡ has_misfit kinds fields
    misfit_done = grind (arith, drop_all, no_fields)

  -- the field at a place, which is empty in a record that is too short, and those after it
  misfit_at : place < length kinds → has_misfit (drop place kinds) (drop place fields) ≡ (is_misfit (get_or kinds place None) (field_in place fields) || has_misfit (drop (place + 1) kinds) (drop (place + 1) fields))
  misfit_at = search (rules, drop_more, drop_all, no_fields, get_or_past)

  module _ (so_far : Bool) (before : (so_far || has_misfit (drop place kinds) (drop place fields)) ≡ has_misfit kinds fields) where
    -- one field more
    pub misfit_more : (other : Bool) → place < length kinds → other ≡ is_misfit (get_or kinds place None) (field_in place fields) → ((so_far || other) || has_misfit (drop (place + 1) kinds) (drop (place + 1) fields)) ≡ has_misfit kinds fields
    misfit_more = grind (arith, misfit_at)
