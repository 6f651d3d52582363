-- The different labels of rows by first sight, one row at a time.
use Rattle.{index_core.{proofs.{cells.Common.{◌≡◌, ◌∙◌, ◌+◌, ◌<◌, ◌++◌, ◌∷◌, [], ◌&&◌, ℕ, Bool, true, false, cond, List, refl, sym, ap, arith, length, take, drop, filter, filter_more, append-nil, append_assoc, length-append, length_push, take-append-drop, slice_get, slice_index_or, slice_get-get_or, get_or_from_slice_get, get_or_append_left, get_or_push, slice_get_within, Some, list_any, list_any-append, list_any_at, take_more, length-take-le, get_or-take, filter-append, false≢true, All, filter_passes, Label, distinct}, NumberLaws.{label_decides, not_same}}, specs.{pick.Labels.{all_differ}, Labels.{same_number}}}, cell_core.specs.{declared.cell.Label.TheVariants.{Na}, contracts.cell.LabelEq.TheImpl.Laws.{laws-law}}, std.proofs.lemmas.Map.Views.{any-filter_same}, multi_index.{specs.{Levels.{IsPresent, is_present, seen_labels}, Kept.{is_new}}, proofs.DistinctLaws.{distinct_push, distinct_has, all_distinct, distinct_differ}}}

-- what is there at a place stays there
distinct_starts : {K : Type 0} (eq : K → K → Bool) (xs ys : List K) (i : ℕ) (z : K) → slice_get (distinct eq xs) i ≡ Some z → slice_get (distinct eq (xs ++ ys)) i ≡ Some z
distinct_starts eq xs [] i z at = grind (arith, append-nil)
distinct_starts eq xs (y ∷ ys) i z at =
    let inside = slice_get_within (distinct eq xs) i z at in
    let more : slice_get (distinct eq (xs ++ y ∷ [])) i ≡ Some z
    = rw (distinct_push eq xs y) (slice_get-get_or _ i z (omega (arith, length-append (distinct eq xs) (cond (list_any (eq y) xs) [] (y ∷ [])), inside))
    ∙ ap Some (get_or_append_left (distinct eq xs) (cond (list_any (eq y) xs) [] (y ∷ [])) z i inside ∙ get_or_from_slice_get (distinct eq xs) i z z at)) in
    rw (sym (append_assoc xs (y ∷ []) ys)) (distinct_starts eq (xs ++ y ∷ []) ys i z more)

-- a present label is among those that were seen where a row has it
pub seen_has : (rows : List Label) (l : Label) → is_present l ≡ true → list_any (same_number l) (seen_labels rows) ≡ list_any (same_number l) rows
seen_has rows l present =
    let same : (k : Label) → same_number l k ≡ true → is_present k ≡ true = grind (arith, label_decides) in
    grind (arith, distinct_has same_number laws-law l, any-filter_same (same_number l) is_present true same rows)

-- one row more
pub seen_more : (rows : List Label) (k : ℕ) → k < length rows
    → seen_labels (take (k + 1) rows) ≡ seen_labels (take k rows) ++ cond (is_new rows k) (slice_index_or rows k Na ∷ []) []
seen_more rows k lt =
    rw (filter_more is_present rows k Na lt) (grind (arith, distinct_push, append-nil, seen_has (take k rows) (slice_index_or rows k Na), distinct_has same_number laws-law))

-- the code of a new label is how many were seen before it
pub new_at : (rows : List Label) (k : ℕ) → k < length rows → is_new rows k ≡ true → slice_get (seen_labels rows) (length (seen_labels (take k rows))) ≡ Some (slice_index_or rows k Na)
new_at rows k lt new =
    let l = slice_index_or rows k Na in
    let seen = seen_labels (take k rows) in
    let grown : seen_labels (take (k + 1) rows) ≡ seen ++ l ∷ [] = grind (arith, seen_more rows k lt) in
    let at : slice_get (seen_labels (take (k + 1) rows)) (length seen) ≡ Some l = rw grown (slice_get-get_or _ (length seen) l (omega (arith, length_push seen l)) ∙ ap Some (get_or_push seen l l (length seen) refl)) in
    let all : filter is_present (take (k + 1) rows) ++ filter is_present (drop (k + 1) rows) ≡ filter is_present rows
    = sym (filter-append is_present (take (k + 1) rows) (drop (k + 1) rows)) ∙ ap (filter is_present) (take-append-drop (k + 1) rows) in
    rw (sym all) (distinct_starts same_number (filter is_present (take (k + 1) rows)) (filter is_present (drop (k + 1) rows)) (length seen) l at)

-- whether a row before has the label
module _ (rows : List Label) (k : ℕ) (l x : Label) (at : slice_get rows k ≡ Some x) where
  here : slice_index_or rows k Na ≡ x
  here = get_or_from_slice_get rows k x Na at

  pub none_so_far : k < length rows → same_number x l ≡ false → list_any (same_number l) (take k rows) ≡ false → list_any (same_number l) (take (k + 1) rows) ≡ false
  none_so_far lt other before =
      let apart : same_number l x ≡ false = not_same (same_number l x) (label_decides l x) (λ e. false≢true (sym other ∙ (label_decides x l).1 (sym e))) in
      rw (take_more rows k Na lt, here) (list_any-append (same_number l) (take k rows) (x ∷ []) ∙ cc (before, apart))

  pub seen_before : (row : ℕ) → k < row → row < length rows → same_number x l ≡ true → slice_get rows row ≡ Some l → false ≡ is_new rows row
  seen_before row lt inside same there =
      let size : length (take row rows) ≡ row = length-take-le row rows (omega arith) in
      let one : l ≡ x = sym ((label_decides x l).0 same) in
      let found : same_number l (slice_index_or (take row rows) k Na) ≡ true = rw (get_or-take row rows k Na lt, here) ((label_decides l x).1 one) in
      let any = list_any_at (same_number l) (take row rows) k Na (omega (arith, size)) found in
      rw (get_or_from_slice_get rows row l Na there, any) (sym (none_new (is_present l)))
    where
      none_new : (b : Bool) → (b && false) ≡ false
      none_new true = refl
      none_new false = refl

pub new_told : (rows : List Label) (row : ℕ) (l : Label) → slice_get rows row ≡ Some l → same_number l Na ≡ false → list_any (same_number l) (take row rows) ≡ false → true ≡ is_new rows row
new_told rows row l at other before =
    let present : is_present l ≡ true = is_there l other in
    rw (get_or_from_slice_get rows row l Na at, present, before) refl
  where
    is_there : (l : Label) → same_number l Na ≡ false → is_present l ≡ true
    is_there Na other = absurd (false≢true (sym other))
    is_there l other = refl

-- what was seen up to a row
module _ (rows : List Label) (k : ℕ) (lt : k < length rows) where
  pub count_new : (count count' : ℕ) → is_new rows k ≡ true → count ≡ length (seen_labels (take k rows)) → count' ≡ count + 1 → count' ≡ length (seen_labels (take (k + 1) rows))
  count_new count count' new was more =
      let grown : seen_labels (take (k + 1) rows) ≡ seen_labels (take k rows) ++ slice_index_or rows k Na ∷ [] = grind (arith, seen_more rows k lt) in
      omega (arith, ap length grown, length_push (seen_labels (take k rows)) (slice_index_or rows k Na))

  pub seen_stays : is_new rows k ≡ false → seen_labels (take (k + 1) rows) ≡ seen_labels (take k rows)
  seen_stays old = grind (arith, seen_more rows k lt, append-nil)

  pub count_old : (count count' : ℕ) → is_new rows k ≡ false → count ≡ length (seen_labels (take k rows)) → count' ≡ count → count' ≡ length (seen_labels (take (k + 1) rows))
  count_old count count' old was same = same ∙ was ∙ sym (ap length (seen_stays old))

  pub other_new : (l x : Label) → slice_get rows k ≡ Some x → is_new rows k ≡ true → same_number x l ≡ false → list_any (same_number l) (seen_labels (take k rows)) ≡ false
      → list_any (same_number l) (seen_labels (take (k + 1) rows)) ≡ false
  other_new l x at new other before =
      let apart : same_number l x ≡ false = not_same (same_number l x) (label_decides l x) (λ e. false≢true (sym other ∙ (label_decides x l).1 (sym e))) in
      let here : slice_index_or rows k Na ≡ x = get_or_from_slice_get rows k x Na at in
      let grown : seen_labels (take (k + 1) rows) ≡ seen_labels (take k rows) ++ slice_index_or rows k Na ∷ [] = grind (arith, seen_more rows k lt) in
      rw (grown, here) (list_any-append (same_number l) (seen_labels (take k rows)) (x ∷ []) ∙ cc (before, apart))

  pub row_more : (made made' : List Label) (l : Label) → slice_get rows k ≡ Some l → made ≡ take k rows → made' ≡ made ++ l ∷ [] → made' ≡ take (k + 1) rows
  row_more made made' l at was pushed =
      let here : slice_index_or rows k Na ≡ l = get_or_from_slice_get rows k l Na at in
      rw (take_more rows k Na lt, here) (pushed ∙ ap (λ xs. xs ++ l ∷ []) was)

-- they are present and differ
pub seen_present : (rows : List Label) → All IsPresent (seen_labels rows)
seen_present rows = all_distinct IsPresent same_number _ (filter_passes is_present rows)

pub seen_differ : (rows : List Label) → all_differ same_number (seen_labels rows) ≡ true
seen_differ rows = distinct_differ (filter is_present rows)
