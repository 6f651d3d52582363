-- A setting and a removal change one object alone.
use Rattle.std.specs.Prelude.{◌≡◌, false, Option, Some, None}
use Rattle.script_state.specs.cells.Text.{Text, same_text}
use Rattle.script_state.specs.script.State.{State}
use Rattle.script_state.specs.script.Expression.{named_by}
use Rattle.script_state.specs.language.Tree as tree

-- A setting through a name changes the values of that name and of the names of its object alone, and a setting on an object without a name changes nothing. A removal of a column is one through its name.
abbrev pub IsSetApart : Option Text → State → State → Type 0
IsSetApart None old new = new ≡ old
IsSetApart (Some n) old new = (m : Text) → same_text n m ≡ false → old.paired n m ≡ false → new.value m ≡ old.value m

abbrev pub ChangesOneObject : tree.Action → State → State → Type 0
ChangesOneObject (tree.put x step a) old new = IsSetApart (named_by x) old new
ChangesOneObject (tree.drop_column n x) old new = IsSetApart (Some n) old new
ChangesOneObject action old new = Unit {0}
