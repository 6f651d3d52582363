-- The cells of keys and labels by their numbers.
use Rattle.{
  column_core.proofs.cells.Common.{◌≡◌, ◌∙◌, ap, ◌&&◌, IsEquivalence, nat_eq_equiv, laws-law, and_parts, ◌<◌, ◌≤◌, ◌+◌, ℕ, Bool, List, [], ◌∷◌, ◌++◌, refl, arith, length, map, take, Option, Some, None, All, All-map, slice_get, slice_index_or, unwrap_or, nat_tests, length-map, length-set, take_all, fill_by_all, get_or-set_same, get_or-set_other, append-nil, get_or_from_slice_get, zip, Label, distinct},
  std.proofs.{Math.ListN.{get_or-map}, lemmas.Slice.Zip.{get_or-zip, length-zip}},
  factorize.{proofs.pick.RowLaws.{rows_more}, specs.{group.Rows.{GroupsValue, rows_of_group, is_in}, Numbers.{number_in}, index_core.Labels.{same_number}}},
  row_keys.{specs.Keys.{same_pair, codes_of, first_rows, label_in, place_among}, proofs.{ZipLaws.{zip_get}, KeyLaws.{position_in, all_known}}},
  reshape.specs.Slots.{slot_of, slots_of, placed_at, rows_at_slots, last_row, labelled},
}

pub labelled_at : (labels : List (List Label)) (codes : List (Option ℕ)) (row : ℕ) (label : Label) (code : Option ℕ) → row < length (labelled labels codes) → label ≡ label_in 0 (slice_index_or labels row []) → slice_get codes row ≡ Some code
    → slice_get (labelled labels codes) row ≡ Some (label, unwrap_or code 0)
labelled_at labels codes row label code lt is at =
    grind (arith, zip_get (map (label_in 0) labels) (map number_in codes) row (label_in 0 []) 0 lt, get_or-map (label_in 0) labels row [], get_or-map number_in codes row None, get_or_from_slice_get codes row code None)

-- numbers of pairs
pair_laws : {L : Type 0} (eq : L → L → Bool) → IsEquivalence eq → IsEquivalence (same_pair eq)
pair_laws eq laws = record {
  refl = λ p. (λ i. laws.refl p.0 i && nat_eq_equiv.refl p.1 i);
  symm = λ p q i. laws.symm p.0 q.0 i && nat_eq_equiv.symm p.1 q.1 i;
  congr = λ p q r e. let both = and_parts _ _ e in λ i. laws.congr p.0 q.0 r.0 both.0 i && nat_eq_equiv.congr p.1 q.1 r.1 both.1 i;
}

pub numbers_below : (rows : List (Label × ℕ)) (codes firsts : List ℕ) (n : ℕ) → codes ≡ codes_of (same_pair same_number) rows → firsts ≡ first_rows (same_pair same_number) rows → n ≡ length firsts → All (λ code. code < n) codes
numbers_below rows codes firsts n coded first counted =
    let eq : Label × ℕ → Label × ℕ → Bool = same_pair same_number in
    let size : n ≡ length (distinct eq rows) = counted ∙ ap length first ∙ length-map (distinct eq rows) _ in
    rw (coded, size)
    (All-map (λ code. code < length (distinct eq rows)) (place_among eq (distinct eq rows)) rows
    (λ k d lt. position_in (eq (slice_index_or rows k d)) (distinct eq rows) (all_known eq (pair_laws same_number laws-law) rows k d lt)))

-- the number of a row's cell
pub slot_at : (keys labels : GroupsValue) (row : ℕ) → row < length keys.codes → length keys.codes ≡ length labels.codes → slice_index_or (slots_of keys labels) row None ≡ slot_of labels.count (slice_index_or keys.codes row None) (slice_index_or labels.codes row None)
slot_at keys labels row lt alike = grind (arith, get_or-map (λ (z : Option ℕ × Option ℕ). slot_of labels.count z.0 z.1) (zip keys.codes labels.codes) row (None, None), get_or-zip keys.codes labels.codes row (None, None), length-zip)

pub slots_counted : (keys labels : GroupsValue) → length keys.codes ≡ length labels.codes → length (slots_of keys labels) ≡ length keys.codes
slots_counted keys labels alike = grind (arith, length-map, length-zip)

last_push : (before : Option ℕ) (rows : List ℕ) (row : ℕ) → last_row before (rows ++ row ∷ []) ≡ Some row
last_push before [] row = refl
last_push before (r ∷ rows) row = last_push (Some r) rows row

-- one row more
module _ (slots : List (Option ℕ)) (row cells : ℕ) (lt : row < length slots) (places : List (Option ℕ))
    (so_far : (slot : ℕ) → slot < cells → slice_index_or places slot None ≡ last_row None (rows_of_group slot (take row slots))) where
  pub slot_placed : length places ≡ cells → (here : Option ℕ) → here ≡ slice_index_or slots row None → (after : List (Option ℕ)) → after ≡ placed_at places here row
      → (slot : ℕ) → slot < cells → slice_index_or after slot None ≡ last_row None (rows_of_group slot (take (row + 1) slots))
  slot_placed size None at after is slot inside = grind (arith, rows_more (is_in slot) slots row None lt, append-nil, so_far slot inside)
  slot_placed size (Some here) at after is slot inside = grind (arith, rows_more (is_in slot) slots row None lt, nat_tests, last_push, append-nil, get_or-set_same, get_or-set_other, so_far slot inside)

pub still_placed : (places after : List (Option ℕ)) (slot : Option ℕ) (row cells : ℕ) → length places ≡ cells → after ≡ placed_at places slot row → length after ≡ cells
still_placed places after None row cells size is = grind arith
still_placed places after (Some slot) row cells size is = grind (arith, length-set)

-- each cell has the last of its rows
pub cells_placed : (slots places : List (Option ℕ)) (rows cells : ℕ) → length slots ≤ rows → length places ≡ cells → ((slot : ℕ) → slot < cells → slice_index_or places slot None ≡ last_row None (rows_of_group slot (take rows slots))) → places ≡ rows_at_slots cells slots
cells_placed slots places rows cells all size so_far = fill_by_all (λ slot. last_row None (rows_of_group slot slots)) places cells None size (λ slot lt. grind (arith, take_all, so_far slot lt))
