-- Laws of windows that slide.
use Rattle.{
  column_core.{proofs.cells.Common.{◌≡◌, ℕ, ◌+◌, ◌<◌, ◌≤◌, arith, ℤ, ◌+ℤ◌, Bool, true, false, List, [], ◌∷◌, ◌++◌, length, map, fold, refl, sym, ap, ◌∙◌, Option, Some, None, int_wrap, w64, nat_lt, length-append, append-nil, drop, drop-map, nat_eq, int_cmp, is_lt, length-map, map-append, if◌then◌else◌, present, na_cell, int_cell, number_in, datum, CellValue, Cell, cumulation_cell}, specs.{cells.Reduce.{lesser, greater}, Columns.{number_cell}}},
  meaning_window.{specs.Window.{window_cells, window_answer, last}, proofs.WindowLaws.{window_of_last, last_push}},
  nullable_array.specs.{declared.ops.Cumulation.{Cumulation, TheVariants.{Sum, Min, Max}}, Folds.{sum_step, least_step, greatest_step, cumulation_of}, Distincts.{present_values}},
  rolling.{specs.{declared.running.Running.{Running}, Answers.{came_to, answer_of}, Running.{IsRunning, HasRoom}, Windows.{WindowValue, HasPushed, HasRows, answer_of_rows, answer_at, slid, IsWindow}}, proofs.RunningLaws.{has_room, totals}},
}

pub present_values-append : (rows : List (Option ℤ)) (o : Option ℤ) → present_values (rows ++ o ∷ []) ≡ present_values rows ++ present_values (o ∷ [])
present_values-append [] o = refl
present_values-append (None ∷ rows) o = present_values-append rows o
present_values-append (Some x ∷ rows) o = ap (λ l. x ∷ l) (present_values-append rows o)

pub present_fewer : (rows : List (Option ℤ)) → length (present_values rows) ≤ length rows
present_fewer [] = omega arith
present_fewer (None ∷ rows) = omega (arith, present_fewer rows)
present_fewer (Some x ∷ rows) = omega (arith, present_fewer rows)

-- A cell comes in behind the others.
module _ (size capacity : ℕ) (op : Cumulation) (recent : List (Option ℤ)) (count : ℕ) (running : Running) (is : IsWindow size capacity op recent count running) (few : length recent < size) where
  pub room_for_one : HasRoom running
  room_for_one = has_room running op size (present_values recent) is.comes_to (omega (arith, present_fewer recent))

  module _ (more : List (Option ℤ)) (room : ℕ) (same : capacity ≤ room) where
    pub none_in : more ≡ recent ++ None ∷ [] → IsWindow size room op more count running
    none_in pushed =
        let values : present_values more ≡ present_values recent = ap present_values pushed ∙ present_values-append recent None ∙ append-nil _ in
        record {
          some = is.some;
          within = omega (arith, ap length pushed, length-append recent (None ∷ []), is.within);
          room = omega (arith, is.room);
          counted = is.counted ∙ ap length (sym values);
          comes_to = rw values is.comes_to;
        }

    pub some_in : (x z : ℤ) (next : Running) → z ≡ x → more ≡ recent ++ Some x ∷ [] → ((op : Cumulation) (count : ℕ) (values : List ℤ) → IsRunning running op count values → IsRunning next op count (values ++ z ∷ [])) → IsWindow size room op more (count + 1) next
    some_in x z next same_value pushed add =
        let values : present_values more ≡ present_values recent ++ x ∷ [] = ap present_values pushed ∙ present_values-append recent (Some x) in
        record {
          some = is.some;
          within = omega (arith, ap length pushed, length-append recent (Some x ∷ []), is.within);
          room = omega (arith, is.room);
          counted = omega (arith, is.counted, ap length values, length-append (present_values recent) (x ∷ []));
          comes_to = rw (values, ← same_value) (add op size (present_values recent) is.comes_to);
        }

-- What values come to, as cells.
numbers_present : (texts : List (List ℕ)) (rows : List (Option ℤ)) → present (map (datum texts) (map number_cell rows)) ≡ map int_cell (present_values rows)
numbers_present texts [] = refl
numbers_present texts (None ∷ rows) = numbers_present texts rows
numbers_present texts (Some x ∷ rows) = ap (λ l. int_cell x ∷ l) (numbers_present texts rows)

abbrev cell_of : Option ℤ → CellValue
cell_of None = na_cell
cell_of (Some x) = int_cell x

sums_seen : (values : List ℤ) (s : ℤ) → fold (λ total c. int_wrap w64 (total +ℤ number_in c)) s (map int_cell values) ≡ fold sum_step s values
sums_seen [] s = refl
sums_seen (x ∷ values) s = sums_seen values (sum_step s x)

seen : (texts : List (List ℕ)) (o : Option ℤ) → datum texts (number_cell o) ≡ cell_of o
seen texts None = refl
seen texts (Some x) = refl

chosen : (b : Bool) (x s : ℤ) → (if b then int_cell x else int_cell s) ≡ cell_of (if b then Some x else Some s)
chosen true x s = refl
chosen false x s = refl

least_seen : (values : List ℤ) (s : Option ℤ) → fold lesser (cell_of s) (map int_cell values) ≡ cell_of (fold (least_step int_cmp) s values)
least_seen [] s = refl
least_seen (x ∷ values) None = least_seen values (Some x)
least_seen (x ∷ values) (Some s) = ap (λ c. fold lesser c (map int_cell values)) (chosen (is_lt (int_cmp x s)) x s) ∙ least_seen values _

greatest_seen : (values : List ℤ) (s : Option ℤ) → fold greater (cell_of s) (map int_cell values) ≡ cell_of (fold (greatest_step int_cmp) s values)
greatest_seen [] s = refl
greatest_seen (x ∷ values) None = greatest_seen values (Some x)
greatest_seen (x ∷ values) (Some s) = ap (λ c. fold greater c (map int_cell values)) (chosen (is_lt (int_cmp s x)) x s) ∙ greatest_seen values _

came_seen : (texts : List (List ℕ)) (op : Cumulation) (rows : List (Option ℤ)) → datum texts (number_cell (came_to op (present_values rows))) ≡ cumulation_cell (cumulation_of op) (map (datum texts) (map number_cell rows))
came_seen texts Sum rows = rw (numbers_present, totals, sums_seen) refl
came_seen texts Min rows = rw numbers_present (seen texts _ ∙ sym (least_seen (present_values rows) None))
came_seen texts Max rows = rw numbers_present (seen texts _ ∙ sym (greatest_seen (present_values rows) None))

pub answer_seen : (texts : List (List ℕ)) (min_periods : ℕ) (op : Cumulation) (rows : List (Option ℤ)) → datum texts (number_cell (answer_of min_periods op (present_values rows))) ≡ window_answer min_periods (cumulation_of op) (map (datum texts) (map number_cell rows))
answer_seen texts min_periods op rows =
    let many : length (present (map (datum texts) (map number_cell rows))) ≡ length (present_values rows) = ap length (numbers_present texts rows) ∙ length-map _ _ in
    rw many (by (nat_lt (length (present_values rows)) min_periods))
  where
    by : (b : Bool) → datum texts (number_cell (if b then None else came_to op (present_values rows))) ≡ (if b then na_cell else cumulation_cell (cumulation_of op) (map (datum texts) (map number_cell rows)))
    by true = refl
    by false = came_seen texts op rows

pub map-last : {X Y : Type 0} (f : X → Y) (n : ℕ) (xs : List X) → map f (last n xs) ≡ last n (map f xs)
map-last f n xs = rw (length-map, drop-map) refl

map-slid : {X Y : Type 0} (f : X → Y) (n : ℕ) (xs : List X) (x : X) → map f (slid n xs x) ≡ slid n (map f xs) (f x)
map-slid f n xs x = rw length-map (by (nat_eq (length xs) n))
  where
    by : (b : Bool) → map f ((if b then drop 1 xs else xs) ++ x ∷ []) ≡ (if b then drop 1 (map f xs) else map f xs) ++ f x ∷ []
    by true = map-append f (drop 1 xs) (x ∷ []) ∙ ap (λ l. l ++ f x ∷ []) (sym (drop-map f 1 xs))
    by false = map-append f xs (x ∷ [])

-- Cells that are pushed.
module _ (w : WindowValue) (pushed : List Cell) (o : Option ℤ) (some : 0 < w.size) (has : HasPushed w pushed) where
  cells_slid : map number_cell (slid w.size w.recent o) ≡ last w.size (pushed ++ number_cell o ∷ [])
  cells_slid = map-slid number_cell w.size w.recent o ∙ ap (λ l. slid w.size l (number_cell o)) has ∙ sym (last_push w.size pushed (number_cell o) some)

  pub pushed_more : (next : WindowValue) → next ≡ record w { recent = slid w.size w.recent o } → HasPushed next (pushed ++ number_cell o ∷ [])
  pushed_more next is = rw is cells_slid

  pub pushed_answer : (texts : List (List ℕ)) → datum texts (number_cell (answer_of w.min_periods w.op (present_values (slid w.size w.recent o)))) ≡ answer_at w (map (datum texts) (pushed ++ number_cell o ∷ [])) (length pushed)
  pushed_answer texts =
      let window : last w.size (map (datum texts) (pushed ++ number_cell o ∷ [])) ≡ window_cells w.size (map (datum texts) (pushed ++ number_cell o ∷ [])) (length pushed) = rw (map-append, ← length-map pushed (datum texts)) (sym (window_of_last w.size (map (datum texts) pushed) (datum texts (number_cell o)))) in
      answer_seen texts w.min_periods w.op (slid w.size w.recent o)
      ∙ ap (λ l. window_answer w.min_periods (cumulation_of w.op) l) (ap (map (datum texts)) cells_slid ∙ map-last (datum texts) w.size _ ∙ window)

-- Rows that are taken.
module _ (w : WindowValue) (rows : List (Option ℤ)) (o : Option ℤ) (some : 0 < w.size) (has : HasRows w rows) where
  rows_slid : slid w.size w.recent o ≡ last w.size (rows ++ o ∷ [])
  rows_slid = ap (λ l. slid w.size l o) has ∙ sym (last_push w.size rows o some)

  pub rows_more : (next : WindowValue) → next ≡ record w { recent = slid w.size w.recent o } → HasRows next (rows ++ o ∷ [])
  rows_more next is = rw is rows_slid

  pub rows_answer : answer_of w.min_periods w.op (present_values (slid w.size w.recent o)) ≡ answer_of_rows w (rows ++ o ∷ [])
  rows_answer = ap (λ l. answer_of w.min_periods w.op (present_values l)) rows_slid
