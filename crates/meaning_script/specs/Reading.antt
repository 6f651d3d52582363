-- What is read of files on the way to an answer.
use Rattle.std.specs.Prelude.{ℕ, List, [], ◌∷◌, Option, Some, None, Result, Ok, Err, if◌then◌else◌}
use Rattle.std.specs.FinMap.{get}
use Rattle.meaning_method.specs.cells.Text.{Text, same_text, Contents}
use Rattle.meaning_method.specs.cells.Fault.{FaultValue, no_file}
use Rattle.meaning_script.specs.Spent.{Spent, nothing_spent, one_fetch, spent_for, spent_sum}

-- the names of the command line, each with the path that it stands for, and the bytes that paths hold
pub record Files : Type 0 where
  pub paths : List (Text × Text)
  pub held : Contents

-- what is spent on the way, and the answer
pub record Reading (X : Type 0) : Type 0 where
  pub spent : Spent
  pub answer : X

-- a value or a fault, with what is spent on the way to it
abbrev pub Reads : Type 0 → Type 0
Reads A = Reading (Result A FaultValue)

-- an answer for nothing
abbrev pub at_once : {X : Type 0} → X → Reading X
at_once x = record { spent = nothing_spent; answer = x }

-- a value for nothing
abbrev pub gives : {A : Type 0} → A → Reads A
gives a = at_once (Ok a)

-- an answer that costs so much where it is a value
abbrev pub costing : {A : Type 0} → (A → ℕ) → Result A FaultValue → Reads A
costing charge r = record { spent = spent_for charge r; answer = r }

-- what is read after this was spent
abbrev pub after : {X : Type 0} → Spent → Reading X → Reading X
after spent r = record { spent = spent_sum spent r.spent; answer = r.answer }

-- a fault stops, and a value goes on
abbrev pub goes_on : {A X : Type 0} → (FaultValue → X) → Result A FaultValue → (A → Reading X) → Reading X
goes_on stop (Ok a) go = go a
goes_on stop (Err fault) go = at_once (stop fault)

abbrev pub then_or : {A X : Type 0} → (FaultValue → X) → Reads A → (A → Reading X) → Reading X
then_or stop r go = after r.spent (goes_on stop r.answer go)

-- the first fault, or what the value goes on to
abbrev pub then_read : {A B : Type 0} → Reads A → (A → Reads B) → Reads B
then_read r go = then_or Err r go

-- the path that a name stands for
abbrev pub path_of_name : List (Text × Text) → Text → Option Text
path_of_name [] name = None
path_of_name (p ∷ ps) name = if same_text p.0 name then Some p.1 else path_of_name ps name

abbrev pub of_bytes : {A : Type 0} → Text → Option (List ℕ) → (List ℕ → Reads A) → Reads A
of_bytes name None go = at_once (Err (no_file name))
of_bytes name (Some bytes) go = go bytes

-- what is made of the bytes of a path, which is fetched once; without a path nothing is fetched
abbrev pub of_path : {A : Type 0} → Contents → Text → Option Text → (List ℕ → Reads A) → Reads A
of_path held name None go = at_once (Err (no_file name))
of_path held name (Some path) go = after one_fetch (of_bytes name (get held path) go)

-- what is made of the file of a name
abbrev pub of_file : {A : Type 0} → Files → Text → (List ℕ → Reads A) → Reads A
of_file files name go = of_path files.held name (path_of_name files.paths name) go
