-- Laws of what runs up to each row.
use Rattle.{
  column_core.{proofs.cells.Common.{◌≡◌, ℕ, min, arith, ℤ, List, [], ◌∷◌, ◌++◌, length, map, refl, sym, ap, ◌∙◌, Option, Some, None, nat_tests, length-append, append-nil, map-append, datum, Cell}, specs.Columns.{number_cell}},
  std.proofs.lemmas.List.Sums.{fold_push},
  meaning_window.specs.Window.{window_answer},
  nullable_array.specs.{Folds.{cumulation_of}, Distincts.{present_values}},
  rolling.{specs.{Answers.{start_of, step_of, came_to, answer_of}, Expandings.{ExpandingValue, HasTaken, HasPushed, with_row, answer_so_far}}, proofs.SlideLaws.{present_values-append, answer_seen}},
}

-- A row more.
module _ (e : ExpandingValue) (rows : List (Option ℤ)) (has : HasTaken e rows) where
  pub taken_more : (o : Option ℤ) → HasTaken (with_row e o) (rows ++ o ∷ [])
  taken_more None =
      let values : present_values (rows ++ None ∷ []) ≡ present_values rows = present_values-append rows None ∙ append-nil _ in
      record {
        counted = has.counted ∙ ap (λ l. min e.min_periods (length l)) (sym values);
        gathered = has.gathered ∙ ap (came_to e.op) (sym values);
      }
  taken_more (Some x) =
      let values : present_values (rows ++ Some x ∷ []) ≡ present_values rows ++ x ∷ [] = present_values-append rows (Some x) in
      record {
        counted = rw (values, length-append) (grind (arith, nat_tests, has.counted));
        gathered = rw values (ap (λ s. step_of e.op s x) has.gathered ∙ sym (fold_push (step_of e.op) (start_of e.op) (present_values rows) x));
      }

  pub taken_answer : answer_so_far e ≡ answer_of e.min_periods e.op (present_values rows)
  taken_answer = grind (arith, nat_tests, has.counted, has.gathered)

settings : (e : ExpandingValue) (o : Option ℤ) (rows : List ℤ) → answer_of (with_row e o).min_periods (with_row e o).op rows ≡ answer_of e.min_periods e.op rows
settings e None rows = refl
settings e (Some x) rows = refl

-- what all rows come to, with one more
pub taken_next : (e : ExpandingValue) (rows : List (Option ℤ)) (o : Option ℤ) → HasTaken e rows → answer_so_far (with_row e o) ≡ answer_of e.min_periods e.op (present_values (rows ++ o ∷ []))
taken_next e rows o has = taken_answer (with_row e o) (rows ++ o ∷ []) (taken_more e rows has o) ∙ settings e o (present_values (rows ++ o ∷ []))

-- Cells that are pushed.
module _ (e : ExpandingValue) (pushed : List Cell) (o : Option ℤ) (has : HasPushed e pushed) where
  cells_more : map number_cell (has.rows ++ o ∷ []) ≡ pushed ++ number_cell o ∷ []
  cells_more = map-append number_cell has.rows (o ∷ []) ∙ ap (λ l. l ++ number_cell o ∷ []) has.rows_are

  pub pushed_more : (next : ExpandingValue) → next ≡ with_row e o → HasPushed next (pushed ++ number_cell o ∷ [])
  pushed_more next is = rw is record { rows = has.rows ++ o ∷ []; rows_are = cells_more; taken = taken_more e has.rows has.taken o }

  pub pushed_answer : (texts : List (List ℕ)) → datum texts (number_cell (answer_so_far (with_row e o))) ≡ window_answer e.min_periods (cumulation_of e.op) (map (datum texts) (pushed ++ number_cell o ∷ []))
  pushed_answer texts =
      ap (λ a. datum texts (number_cell a)) (taken_next e has.rows o has.taken)
      ∙ answer_seen texts e.min_periods e.op (has.rows ++ o ∷ [])
      ∙ ap (λ l. window_answer e.min_periods (cumulation_of e.op) (map (datum texts) l)) cells_more

-- where none was pushed, none was taken
pub none_taken : (e : ExpandingValue) → HasPushed e [] → HasTaken e []
none_taken e has = by has.rows has.rows_are has.taken
  where
    by : (rows : List (Option ℤ)) → map number_cell rows ≡ [] → HasTaken e rows → HasTaken e []
    by [] is taken = taken
    by (o ∷ rows) is taken = absurd (cc)
