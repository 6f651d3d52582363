-- What is met is the same where groups are seen otherwise.
use Rattle.{meaning_pick.proofs.cells.Common.{◌≡◌, ap, refl, arith, ℕ, ℤ, suc, Bool, ◌&&◌, List, [], ◌∷◌, map, All, Option, map-map}, meaning_pick.{proofs.RowLaws.{rows_where-map}}, meaning_asof.specs.{AsOf.{may_meet, candidates, nearest, asof_rows, asof_merged, first_unsorted, unless_unsorted}, declared.Direction.{Direction}}}

module _ {G H : Type 0} (P : G → Type 0) (same' : H → H → Bool) (same : G → G → Bool) (f : G → H) (alike : (x y : G) → P x → P y → same' (f x) (f y) ≡ same x y) where
  abbrev pub row_seen : Option ℤ × G → Option ℤ × H
  row_seen row = (row.0, f row.1)

  module _ (direction : Direction) (tolerance : Option ℕ) (others : List (Option ℤ × G)) (others_known : All (λ other. P other.1) others) where
    candidates_seen : (row : Option ℤ × G) → P row.1 → candidates same' direction tolerance (map row_seen others) (row_seen row) ≡ candidates same direction tolerance others row
    candidates_seen row known =
        rows_where-map (λ other. P other.1) _ _ row_seen
        (λ other is. ap (λ b. b && may_meet direction tolerance row.0 other.0) (alike row.1 other.1 known is)) 0 others others_known

    pub asof_rows_seen : (rows : List (Option ℤ × G)) → All (λ row. P row.1) rows
        → asof_rows same' direction tolerance (map row_seen rows) (map row_seen others) ≡ asof_rows same direction tolerance rows others
    asof_rows_seen [] known = refl
    asof_rows_seen (row ∷ rows) known =
        let more = asof_rows_seen rows (λ k d lt. known (suc k) d (omega arith)) in
        λ i. nearest direction (candidates_seen row (known 0 row (omega arith)) i) ∷ more i

    keys_seen : (rows : List (Option ℤ × G)) → first_unsorted (map (λ row. row.0) (map row_seen rows)) ≡ first_unsorted (map (λ row. row.0) rows)
    keys_seen rows = ap first_unsorted (map-map _ _ rows)

    -- and so are the refusals
    pub asof_merged_seen : (rows : List (Option ℤ × G)) → All (λ row. P row.1) rows
        → asof_merged same' direction tolerance (map row_seen rows) (map row_seen others) ≡ asof_merged same direction tolerance rows others
    asof_merged_seen rows known = λ i. unless_unsorted (keys_seen rows i) (keys_seen others i) (asof_rows_seen rows known i)
