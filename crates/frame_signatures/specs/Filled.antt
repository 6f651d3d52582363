-- What stands at the places of bound arguments.
use Rattle.std.specs.Prelude.{◌≡◌, ℕ, Bool, true, not, ◌&&◌, ◌||◌, ◌⊎◌, List, slice_get, Option, Some, None, if◌then◌else◌}
use Rattle.frame_store.specs.cells.Text.{Text}
use Rattle.frame_store.specs.tables.Value.{Given, nothing}
use Rattle.meaning_call.specs.declared.Accepted.{Accepted}
use Rattle.meaning_call.specs.declared.Parameter.{Parameter}
use Rattle.meaning_call.specs.Binding.{takes, stands_for, may_be_omitted, argument_at}
use Rattle.frame_store.specs.declared.arguments.Named.{Named}
use Rattle.frame_store.specs.Objects.{Tables}
use Rattle.frame_store.specs.Arguments.{arguments_of}

-- the parameter takes it, or it stands for an argument that may be left out
abbrev pub Fills : Parameter → Given → Type 0
Fills p g = (takes p g ≡ true) ⊎ ((may_be_omitted p.omitted ≡ true) × (g ≡ stands_for p.omitted))

-- what stands at each place fits its parameter, by the tables and texts with which the arguments were bound
pub record AreFilled (ps : List Parameter) (args : List Named) : Type 0 where
  pub live : Tables
  pub texts : List Text
  pub filled : (place : ℕ) (p : Parameter) → slice_get ps place ≡ Some p → Fills p (argument_at ps (arguments_of live texts args) place)

-- a parameter that takes all that may stand there, and doesn't take None
abbrev pub is_sure : Parameter → Bool
is_sure p = not (takes p nothing) && (not (may_be_omitted p.omitted) || takes p (stands_for p.omitted))

-- the form of what always stands at a parameter, where it has one
abbrev pub sure_accepted : Option Parameter → Option Accepted
sure_accepted None = None
sure_accepted (Some p) = if is_sure p then Some p.accepted else None
