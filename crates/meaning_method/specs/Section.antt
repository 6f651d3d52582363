-- `xs`: rows by their label on one level.
use Rattle.std.specs.Prelude.{ℕ, Bool, List, [], ◌∷◌, slice_index_or, Option, Result}
use Rattle.meaning_call.specs.cells.Cell.{CellValue, LabelValue, na}
use Rattle.meaning_call.specs.cells.Operator.{cell_label}
use Rattle.meaning_call.specs.cells.Fault.{FaultValue, then_value}
use Rattle.meaning_group.specs.pick.Labels.{unless_none}
use Rattle.meaning_group.specs.pick.Rows.{rows_where}
use Rattle.meaning_select.specs.tables.Table.{Table}
use Rattle.meaning_select.specs.tables.Value.{Entry}
use Rattle.meaning_call.specs.Binding.{same_label}
use Rattle.meaning_call.specs.form.Finish.{limited}
use Rattle.meaning_select.specs.Keys.{found_pick}
use Rattle.meaning_select.specs.Select.{rows_taken}
use Rattle.meaning_method.specs.Levels.{level_of, of_several, level_dropped}

-- the tuple has the label on the level
abbrev pub has_label : ℕ → LabelValue → List LabelValue → Bool
has_label level l tuple = same_label l (slice_index_or tuple level na)

-- the rows that have it, or a KeyError
abbrev pub rows_with_label : Table → LabelValue → ℕ → Result (List ℕ) FaultValue
rows_with_label t l level = found_pick (unless_none (l ∷ []) (rows_where (has_label level l) 0 t.labels))

-- they lose that level
abbrev pub section : Table → LabelValue → ℕ → Result Entry FaultValue
section t l level = then_value (rows_with_label t l level) (λ rows. limited (level_dropped (rows_taken t rows) level))

abbrev pub xs_result : Table → CellValue → Option CellValue → Result Entry FaultValue
xs_result t key level = of_several t (then_value (level_of t level) (section t (cell_label key)))
