-- What calls cost, in cells.
use Rattle.std.specs.Prelude.{ℕ, ◌*◌, Bool, true, false, List, [], ◌∷◌, length, Option, Some, None, unwrap_or, if◌then◌else◌}
use Rattle.meaning_call.specs.cells.Text.{Text}
use Rattle.meaning_select.specs.tables.Table.{Table}
use Rattle.meaning_select.specs.tables.Value.{Entry, cell, table, Given, NamedGiven}
use Rattle.meaning_select.specs.tables.Cost.{answer_charge}
use Rattle.meaning_call.specs.declared.Method.{Method}
use Rattle.meaning_call.specs.declared.Method.TheVariants as method
use Rattle.meaning_call.specs.declared.TableMethod.TheVariants as table_method
use Rattle.meaning_call.specs.declared.LevelMethod.TheVariants as level_method
use Rattle.meaning_call.specs.Binding.{Bound, bound, bound_of, truth_in}
use Rattle.meaning_call.specs.Signature.{parameters_of, method_named}
use Rattle.meaning_method.specs.Calls as calls
use Rattle.meaning_method.specs.Calls.{ChainValue}

-- the methods whose answer shares all cells with what is there
abbrev pub is_free_method : Method → Bool
is_free_method (method.Table table_method.Copy) = true
is_free_method (method.Table table_method.Head) = true
is_free_method (method.Table table_method.Tail) = true
is_free_method (method.Table table_method.RenameSeries) = true
is_free_method (method.Table table_method.RenameFrame) = true
is_free_method (method.Table table_method.DropColumns) = true
is_free_method (method.Table table_method.ToFrame) = true
is_free_method (method.Levels level_method.RenameAxis) = true
is_free_method (method.Levels level_method.SetIndex) = true
is_free_method (method.Levels level_method.Droplevel) = true
is_free_method (method.Levels level_method.Swaplevel) = true
is_free_method m = false

-- whether `reset_index` drops the labels
abbrev pub drops_labels : Bound → Bool
drops_labels (bound (drop ∷ [])) = unwrap_or (truth_in drop) false
drops_labels b = false

-- `reset_index`: the labels that become cells
abbrev pub reset_charge : List NamedGiven → Table → ℕ
reset_charge gs t = if drops_labels (bound_of (parameters_of (method.Levels level_method.ResetIndex)) gs) then 0 else length t.labels * length t.level_names

-- a method of a table, with these arguments and this answer
abbrev pub method_charge : Method → List NamedGiven → Table → Entry → ℕ
method_charge (method.Levels level_method.ResetIndex) gs t answer = reset_charge gs t
method_charge m gs t answer = if is_free_method m then 0 else answer_charge answer

abbrev pub named_charge : Option Method → List NamedGiven → Table → Entry → ℕ
named_charge None gs t answer = 0
named_charge (Some m) gs t answer = method_charge m gs t answer

abbrev pub plain_charge : Entry → Text → List NamedGiven → Entry → ℕ
plain_charge (cell c) name gs answer = 0
plain_charge (table t) name gs answer = named_charge (method_named t.shape name) gs t answer

-- any call behind a value; behind `str`, `groupby`, `rolling` and `expanding` it costs the answer's cells
abbrev pub call_charge : Entry → ChainValue → List NamedGiven → Entry → ℕ
call_charge v (calls.plain name) gs answer = plain_charge v name gs answer
call_charge v chain gs answer = answer_charge answer
