-- What is answered for what is meant.
use Rattle.{column_core.proofs.cells.Common.{◌≡◌, ◌∙◌, ap, sym, refl, arith, ℕ, ℤ, Bool, List, [], ◌∷◌, map, length, Option, Some, None, Result, Ok, Err, zip}, column_core.specs.cells.{FaultOf.{side_of}}, cell_core.specs.declared.cell.Side.{TheVariants.{Left, Right}}, meaning_asof.specs.{AsOf.{asof_rows, asof_merged, unless_unsorted, first_unsorted, UnsortedKey}, declared.Direction.{Direction}}, row_keys.specs.Keys.{same_tuple}, asof_merge.{proofs.GroupLaws.{as_many}, specs.{Keys.{ungrouped, AreSorted, IsUnsorted}, Answers.{MatchesBy}, declared.fault.AsofFault.{AsofFault, TheVariants.{Unsorted, NoMemory}}}}}

keys_beside : {G : Type 0} (keys : List (Option ℤ)) (groups : List G) → length keys ≡ length groups → map (λ (row : Option ℤ × G). row.0) (zip keys groups) ≡ keys
keys_beside [] groups e = refl
keys_beside (key ∷ keys) [] e = absurd (omega arith)
keys_beside (key ∷ keys) (group ∷ groups) e = ap (λ more. key ∷ more) (keys_beside keys groups (omega arith))

module _ {G : Type 0} (same : G → G → Bool) (direction : Direction) (tolerance : Option ℕ) (left_keys right_keys : List (Option ℤ)) (left_by right_by : List G)
    (lefts : length left_keys ≡ length left_by) (rights : length right_keys ≡ length right_by) where
  abbrev meant : Result (List (Option ℕ)) UnsortedKey
  meant = asof_merged same direction tolerance (zip left_keys left_by) (zip right_keys right_by)

  abbrev rows : List (Option ℕ)
  rows = asof_rows same direction tolerance (zip left_keys left_by) (zip right_keys right_by)

  meant_is : (left_first right_first : Option ℕ) → first_unsorted left_keys ≡ left_first → first_unsorted right_keys ≡ right_first → meant ≡ unless_unsorted left_first right_first rows
  meant_is left_first right_first of_left of_right =
      (λ i. unless_unsorted (first_unsorted (keys_beside left_keys left_by lefts i)) (first_unsorted (keys_beside right_keys right_by rights i)) rows)
      ∙ (λ i. unless_unsorted (of_left i) (of_right i) rows)

  pub left_refused : (fault : AsofFault) → IsUnsorted Left left_keys fault → MatchesBy (Err fault) meant
  left_refused (Unsorted side row) is = meant_is (Some row) _ is.1 refl ∙ (λ i. Err record { side = side_of (sym is.0 i); row = row })
  left_refused NoMemory is = tt

  module _ (left_made : List ℤ) (left_sorted : AreSorted left_keys left_made) where
    pub right_refused : (fault : AsofFault) → IsUnsorted Right right_keys fault → MatchesBy (Err fault) meant
    right_refused (Unsorted side row) is = meant_is None (Some row) left_sorted.sorted is.1 ∙ (λ i. Err record { side = side_of (sym is.0 i); row = row })
    right_refused NoMemory is = tt

    pub rows_answered : (right_made : List ℤ) → AreSorted right_keys right_made → (left_read right_read : List ℤ) → left_read ≡ left_made → right_read ≡ right_made
        → (found : List (Option ℕ)) → found ≡ asof_rows same direction tolerance (zip (map Some left_read) left_by) (zip (map Some right_read) right_by)
        → meant ≡ Ok found
    rows_answered right_made right_sorted left_read right_read left_same right_same found is =
        let left_present = left_sorted.present ∙ ap (map Some) (sym left_same) in
        let right_present = right_sorted.present ∙ ap (map Some) (sym right_same) in
        meant_is None None left_sorted.sorted right_sorted.sorted
        ∙ (λ i. Ok (asof_rows same direction tolerance (zip (left_present i) left_by) (zip (right_present i) right_by)))
        ∙ ap Ok (sym is)

-- where all rows are of one group
pub ungrouped_answered : (direction : Direction) (tolerance : Option ℕ) (left_keys right_keys : List (Option ℤ)) (left_made : List ℤ) → AreSorted left_keys left_made → (right_made : List ℤ) → AreSorted right_keys right_made
    → (left_read right_read : List ℤ) → left_read ≡ left_made → right_read ≡ right_made
    → (found : List (Option ℕ)) → found ≡ asof_rows same_tuple direction tolerance (ungrouped (map Some left_read)) (ungrouped (map Some right_read))
    → asof_merged same_tuple direction tolerance (ungrouped left_keys) (ungrouped right_keys) ≡ Ok found
ungrouped_answered direction tolerance left_keys right_keys left_made left_sorted right_made right_sorted left_read right_read left_same right_same found is =
    let left_present = left_sorted.present ∙ ap (map Some) (sym left_same) in
    let right_present = right_sorted.present ∙ ap (map Some) (sym right_same) in
    meant_is same_tuple direction tolerance left_keys right_keys _ _ (as_many left_keys) (as_many right_keys) None None left_sorted.sorted right_sorted.sorted
    ∙ (λ i. Ok (asof_rows same_tuple direction tolerance (ungrouped (left_present i)) (ungrouped (right_present i))))
    ∙ ap Ok (sym is)
