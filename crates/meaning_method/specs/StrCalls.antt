-- What a call behind `str` answers: a method of the texts of a Series.
use Rattle.std.specs.Prelude.{Bool, false, is_some, List, [], ◌∷◌, codes, Option, Some, None, option_map, Result, Ok, Err, if◌then◌else◌}
use Rattle.meaning_call.specs.cell_core.declared.cell.Kind.{Kind}
use Rattle.meaning_call.specs.cell_core.declared.cell.Kind.TheVariants.{Text as string}
use Rattle.meaning_call.specs.cell_core.declared.grid.Shape.{Shape}
use Rattle.meaning_call.specs.cell_core.declared.grid.Shape.TheVariants.{Series, Frame}
use Rattle.meaning_call.specs.cells.Text.{Text}
use Rattle.meaning_call.specs.cells.Cell.{CellValue}
use Rattle.meaning_call.specs.cells.Column.{ColumnValue}
use Rattle.meaning_call.specs.cells.Fault.{FaultValue, no_attribute, wrong_kind, bad_value, argument}
use Rattle.meaning_select.specs.tables.Table.{ColumnOf, Table, column_at}
use Rattle.meaning_select.specs.tables.Value.{Entry, cell, table, Given, NamedGiven}
use Rattle.meaning_call.specs.declared.StrMethod.{StrMethod}
use Rattle.meaning_call.specs.declared.StrMethod.TheVariants as str_method
use Rattle.meaning_call.specs.Signature.{str_parameters, str_named}
use Rattle.meaning_call.specs.Binding.{bound_of, on_bound, whole_in, text_in}
use Rattle.meaning_call.specs.form.Finish.{value_of_column, column_of_value, same_kind}
use Rattle.meaning_call.specs.form.Make.{on}
use Rattle.meaning_text.specs.TextMethod as means
use Rattle.meaning_text.specs.TextMethod.{TextMethod, TextMethodFault, not_text, bad_argument, text_method}
use Rattle.meaning_method.specs.Methods.{each_column}

-- a Series has texts behind `str` where its cells are texts; no frame and no scalar has
abbrev pub has_texts_of : Shape → Kind → Bool
has_texts_of Series kind = same_kind kind string
has_texts_of Frame kind = false

abbrev pub has_texts : Entry → Bool
has_texts (cell c) = false
has_texts (table t) = has_texts_of t.shape (column_at t.columns 0).kind

abbrev pub has_str_method : Text → Bool
has_str_method name = is_some (str_named name)

-- the method with the arguments that were bound
abbrev pub told : StrMethod → List Given → Option TextMethod
told str_method.Len [] = Some means.len
told str_method.Strip [] = Some means.strip
told str_method.Startswith (pattern ∷ []) = option_map means.starts (text_in pattern)
told str_method.Endswith (pattern ∷ []) = option_map means.ends (text_in pattern)
told str_method.Contains (pattern ∷ regex ∷ []) = option_map means.contains (text_in pattern)
told str_method.Slice (start ∷ stop ∷ step ∷ []) = Some (means.slice (whole_in start) (whole_in stop) (whole_in step))
told str_method.Zfill (width ∷ []) = option_map means.fill (whole_in width)
-- no other number of arguments is bound
told m gs = None

-- a step of 0 and a width that is too great are ValueErrors; that the cells are texts is tested before
abbrev pub made_texts : Result ColumnValue TextMethodFault → Result (ColumnOf CellValue) FaultValue
made_texts (Ok c) = Ok (column_of_value c)
made_texts (Err not_text) = Err wrong_kind
made_texts (Err bad_argument) = Err (bad_value argument)

abbrev pub worked : TextMethod → ColumnOf CellValue → Result (ColumnOf CellValue) FaultValue
worked m c = made_texts (text_method m (value_of_column c))

-- each text by itself; the labels of the rows and the name stay
abbrev pub str_answer : Table → StrMethod → List Given → Result Entry FaultValue
str_answer t m gs = on (told m gs) (λ method. each_column (worked method) t)

abbrev pub str_call : Option StrMethod → Text → List NamedGiven → Table → Result Entry FaultValue
str_call None name gs t = Err (no_attribute name)
str_call (Some m) name gs t = on_bound (bound_of (str_parameters m) gs) (str_answer t m)

-- a method of texts, by its name
abbrev pub str_result : Entry → Text → List NamedGiven → Result Entry FaultValue
str_result (cell c) name gs = Err (no_attribute (codes "str"))
str_result (table t) name gs = if has_texts (table t) then str_call (str_named name) name gs t else Err (no_attribute (codes "str"))
