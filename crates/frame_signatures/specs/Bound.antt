-- Bound arguments, and what binding answers.
use Rattle.std.specs.Prelude.{◌≡◌, ℕ, List, slice_get, Option, Result, Ok, Err}
use Rattle.cell_core.specs.declared.code.Code.{Code}
use Rattle.cell_core.specs.declared.code.Code.TheVariants.{WrongKind, BadValue}
use Rattle.cell_core.specs.declared.code.Reason.TheVariants.{Argument}
use Rattle.frame_store.specs.cells.Text.{Text}
use Rattle.frame_store.specs.tables.Value.{Given}
use Rattle.meaning_call.specs.declared.Accepted.{Accepted}
use Rattle.meaning_call.specs.declared.Parameter.{Parameter}
use Rattle.meaning_call.specs.Binding.{not_taken, not_listed, bound, bound_of, argument_at, arguments_from}
use Rattle.frame_store.specs.declared.arguments.Named.{Named}
use Rattle.frame_store.specs.Objects.{Tables}
use Rattle.frame_store.specs.Arguments.{arguments_of}
use Rattle.frame_store.specs.World.{World, arguments_in}
use Rattle.frame_signatures.specs.Filled.{sure_accepted}
use Rattle.frame_signatures.specs.declared.bound.Bound.{Bound}
use Rattle.frame_signatures.specs.declared.binding.Unbound.{Unbound}
use Rattle.frame_signatures.specs.declared.binding.Unbound.TheVariants.{NotTaken, NotListed}

-- bound arguments in the order of the signature
abbrev pub given_in : World → Bound → List Given
given_in w b = arguments_from b.parameters.now (arguments_in w b.args.now) 0 b.parameters.now

-- the one at a place, and the form of what always stands there
abbrev pub stands_at : Tables → List Text → Bound → ℕ → Given
stands_at live texts b place = argument_at b.parameters.now (arguments_of live texts b.args.now) place

abbrev pub accepted_at : Bound → ℕ → Option Accepted
accepted_at b place = sure_accepted (slice_get b.parameters.now place)

-- what a reader gives is what stands at the place, whatever the tables and texts
abbrev pub Tells : {A : Type 0} → Bound → ℕ → (Given → Option A) → (Tables → List Text → Option A) → Type 0
Tells b place read told = (live : Tables) (texts : List Text) → told live texts ≡ read (stands_at live texts b place)

-- the arguments are bound, or that is the refusal
abbrev pub IsBound : World → List Parameter → List Named → Result Bound Unbound → Type 0
IsBound w ps args (Ok b) = (bound_of ps (arguments_in w args) ≡ bound (given_in w b)) × (b.parameters.now ≡ ps) × (b.args.now ≡ args)
IsBound w ps args (Err NotTaken) = bound_of ps (arguments_in w args) ≡ not_taken
IsBound w ps args (Err NotListed) = bound_of ps (arguments_in w args) ≡ not_listed

-- why a form whose arguments aren't bound is refused
abbrev pub code_of : Unbound → Code
code_of NotTaken = WrongKind
code_of NotListed = BadValue Argument
