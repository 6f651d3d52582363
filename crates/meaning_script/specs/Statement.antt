-- What a statement does.
use Rattle.std.specs.Prelude.{Bool, true, false, [], ◌++◌, Option, Some, None, Result, Ok, Err}
use Rattle.meaning_method.specs.cells.Text.{Text}
use Rattle.meaning_method.specs.cells.Fault.{FaultValue}
use Rattle.meaning_language.specs.Tree as tree
use Rattle.meaning_method.specs.tables.Table.{Table}
use Rattle.meaning_method.specs.tables.Value.{Entry, Given, cell, table}
use Rattle.meaning_method.specs.select.Set.{assign_result, removal_result}
use Rattle.meaning_method.specs.format.Print.{table_text_of}
pub use Rattle.meaning_method.specs.Texts.{cell_text}
use Rattle.meaning_charge.specs.Charge.{setting_charge}
use Rattle.meaning_script.specs.Spent.{spent_for}
use Rattle.meaning_script.specs.Reading.{Files, Reading, Reads, at_once, then_or}
use Rattle.meaning_script.specs.State.{State, with_new, with_object, with_table, without_name}
use Rattle.meaning_script.specs.Expression.{Target, named_by, value_of_name, value_of, given_of, target_of}

-- The state that it leaves and the text that it prints, or the first fault, which leaves the state as it was. The mark says that a setting of an object without a name was reached.
pub data Answer : Type 0 where
  done : State → Text → Bool → Answer
  refused : FaultValue → Bool → Answer

-- a fault refuses the statement, and a value goes on
abbrev pub then_answer : {A : Type 0} → Reads A → (A → Reading Answer) → Reading Answer
then_answer r go = then_or (λ fault. refused fault false) r go

-- a name that is bound to another name's object is that object; any other value is its own
abbrev pub with_value : State → Text → Option Text → Entry → State
with_value s x (Some n) (table t) = with_object s x n
with_value s x other v = with_new s x v

-- a setting on an object without a name changes nothing that a name stands for
abbrev pub with_set : State → Option Text → Table → State
with_set s None t = s
with_set s (Some n) t = with_table s n t

abbrev pub is_chained : Option Text → Bool
is_chained None = true
is_chained (Some n) = false

abbrev pub set_answer : State → Option Text → Result Table FaultValue → Answer
set_answer s on (Ok t) = done (with_set s on t) [] (is_chained on)
set_answer s on (Err fault) = refused fault (is_chained on)

-- how a value is printed
abbrev pub entry_text : Entry → Text
entry_text (cell c) = cell_text c
entry_text (table t) = table_text_of t

abbrev pub assigned : Entry → Target → Given → Result Table FaultValue
assigned v target g = assign_result v target.way target.first target.second g

-- what a setting does to the state, and costs
abbrev pub set_reading : State → Option Text → Entry → Target → Given → Reading Answer
set_reading s on v target g =
    record { spent = spent_for (setting_charge v target.way target.first target.second) (assigned v target g); answer = set_answer s on (assigned v target g) }

abbrev pub statement_result : Files → State → tree.Action → Reading Answer
statement_result files s tree.import_pandas = at_once (done s [] false)
statement_result files s (tree.bind x e) = then_answer (value_of files s e) (λ v. at_once (done (with_value s x (named_by e) v) [] false))
statement_result files s (tree.put x step a) =
    then_answer (given_of files s a) (λ g. then_answer (value_of files s x) (λ v. then_answer (target_of files s step) (λ target.
    set_reading s (named_by x) v target g)))
statement_result files s (tree.drop_name n) = then_answer (at_once (value_of_name n (s.value n))) (λ v. at_once (done (without_name s n) [] false))
statement_result files s (tree.drop_column n x) =
    then_answer (at_once (value_of_name n (s.value n))) (λ v. then_answer (value_of files s x) (λ k. at_once (set_answer s (Some n) (removal_result v k))))
statement_result files s (tree.print x end) = then_answer (value_of files s x) (λ v. at_once (done s (entry_text v ++ end) false))
