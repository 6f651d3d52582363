-- Rows in order, cut into runs of rows that carry one key.
use Rattle.std.specs.Prelude.{ℕ, ◌+◌, ◌-◌, ◌*◌, Bool, true, not, nat_lt, if◌then◌else◌, List, [], ◌∷◌, ◌++◌, map, take, drop, max, slice_index_or, All}
use Rattle.std.specs.List.{sum_by}
use Rattle.cell_core.specs.declared.cell.Label.{Label}
use Rattle.cell_core.specs.Texts.{IsGivenLabel}
use Rattle.meaning_align.specs.Joins.{Entry, entries_of}
use Rattle.row_keys.specs.Keys.{same_tuple, label_in}
use Rattle.label_align.specs.declared.runs.Run.{Run}

-- the tuple of a row
abbrev pub tuple_of_row : List (List Label) → ℕ → List Label
tuple_of_row tuples row = slice_index_or tuples row []

-- its label at a level, or NA
abbrev pub label_of_row : List (List Label) → ℕ → ℕ → Label
label_of_row tuples row level = label_in level (tuple_of_row tuples row)

-- whether two rows carry the same tuple
abbrev pub same_row : List (List Label) → ℕ → ℕ → Bool
same_row tuples i j = same_tuple (tuple_of_row tuples i) (tuple_of_row tuples j)

-- the texts of all labels were given numbers
abbrev pub AreGivenTuples : List (List ℕ) → List (List Label) → Type 0
AreGivenTuples texts tuples = All (λ tuple. All (IsGivenLabel texts) tuple) tuples

abbrev pub run_of : ℕ → ℕ → ℕ → Run
run_of row lefts rights = record { row = row; lefts = lefts; rights = rights }

abbrev pub no_run : Run
no_run = run_of 0 0 0

-- a run with one row more, where the rows below a count are those of the left side
abbrev pub with_row : ℕ → Run → ℕ → Run
with_row count run row = if nat_lt row count then run_of row (run.lefts + 1) run.rights else run_of row run.lefts (run.rights + 1)

abbrev pub gathered : ℕ → Run → List ℕ → Run
gathered count run [] = run
gathered count run (row ∷ rows) = gathered count (with_row count run row) rows

-- whether a run ends with a row, where these come next
abbrev pub ends : (ℕ → ℕ → Bool) → ℕ → List ℕ → Bool
ends same row [] = true
ends same row (next ∷ rows) = not (same row next)

-- the runs of rows, of which the first one has begun
abbrev pub runs_from : (ℕ → ℕ → Bool) → ℕ → Run → List ℕ → List Run
runs_from same count run [] = []
runs_from same count run (row ∷ rows) = if ends same row rows then with_row count run row ∷ runs_from same count no_run rows else runs_from same count (with_row count run row) rows

abbrev pub rows_in : Run → ℕ
rows_in run = run.lefts + run.rights

abbrev pub total : List Run → ℕ
total runs = sum_by rows_in runs

-- the entries of a run at the head of rows, keyed by one of its rows: the rows of the right are counted from 0
abbrev pub entries_in : ℕ → Run → List ℕ → List (Entry ℕ)
entries_in count run rows = entries_of run.row (take run.lefts rows) (map (λ row. row - count) (take run.rights (drop run.lefts rows)))

abbrev pub run_entries : ℕ → List Run → List ℕ → List (Entry ℕ)
run_entries count [] rows = []
run_entries count (run ∷ runs) rows = entries_in count run rows ++ run_entries count runs (drop (rows_in run) rows)

-- how many entries a run has, and runs have
abbrev pub count_in : Run → ℕ
count_in run = max run.lefts 1 * max run.rights 1

abbrev pub counted : List Run → ℕ
counted runs = sum_by count_in runs
