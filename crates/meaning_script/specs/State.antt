-- What names stand for.
use Rattle.std.specs.Prelude.{ℕ, max, Bool, true, false, ◌&&◌, ◌||◌, not, List, [], ◌∷◌, length, Option, Some, None, if◌then◌else◌, filter}
use Rattle.meaning_method.specs.cells.Text.{Text, same_text}
use Rattle.meaning_method.specs.tables.Table.{Table}
use Rattle.meaning_method.specs.tables.Value.{Entry, cell, table, is_table}

-- The names in the order in which they were first bound, the value of each, and which names stand for one object. A name that isn't bound, or bound to a scalar, stands for no object.
pub record State : Type 0 where
  pub names : List Text
  pub value : Text → Option Entry
  pub paired : Text → Text → Bool

abbrev pub no_names : State
no_names = record { names = []; value = λ _. None; paired = λ _ _. false }

-- the names with this one, last if it is new
abbrev pub with_name : List Text → Text → List Text
with_name [] x = x ∷ []
with_name (n ∷ ns) x = if same_text x n then n ∷ ns else n ∷ with_name ns x

-- the name has this value: a scalar, or an object of its own with this table
abbrev pub with_new : State → Text → Entry → State
with_new s x v =
    record {
      names = with_name s.names x;
      value = λ m. if same_text x m then Some v else s.value m;
      paired = λ a b. if same_text x a then same_text x b && is_table v else if same_text x b then false else s.paired a b;
    }

-- the name stands for the object of the name n, and so is paired with n and with the names that are paired with n
abbrev pub with_object : State → Text → Text → State
with_object s x n =
    record {
      names = with_name s.names x;
      value = λ m. if same_text x m then s.value n else s.value m;
      paired = λ a b. if same_text x a then (if same_text x b then true else s.paired n b) else if same_text x b then s.paired a n else s.paired a b;
    }

-- the object of the name gets another table: so do all names that stand for it
abbrev pub with_table : State → Text → Table → State
with_table s n t = record { names = s.names; value = λ m. if same_text n m || s.paired n m then Some (table t) else s.value m; paired = s.paired }

-- the name, its value and its pairs are taken out
abbrev pub without_name : State → Text → State
without_name s x =
    record {
      names = filter (λ n. not (same_text x n)) s.names;
      value = λ m. if same_text x m then None else s.value m;
      paired = λ a b. if same_text x a then false else if same_text x b then false else s.paired a b;
    }

-- The rows in which a value holds cells: those of a table with a column. A table without one holds no cell, and a scalar has
-- no row.
abbrev pub rows_under : {C : Type 0} → List C → ℕ → ℕ
rows_under [] rows = 0
rows_under (c ∷ cs) rows = rows

abbrev pub held_rows : Table → ℕ
held_rows t = rows_under t.columns (length t.labels)

abbrev pub entry_rows : Entry → ℕ
entry_rows (cell c) = 0
entry_rows (table t) = held_rows t

abbrev pub value_rows : Option Entry → ℕ
value_rows None = 0
value_rows (Some v) = entry_rows v

-- the most of them that the value of a name has
abbrev pub most_rows_of : (Text → Option Entry) → List Text → ℕ
most_rows_of value [] = 0
most_rows_of value (n ∷ ns) = max (value_rows (value n)) (most_rows_of value ns)

abbrev pub most_rows : State → ℕ
most_rows s = most_rows_of s.value s.names
