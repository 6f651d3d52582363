-- Calls of `merge`.
use Rattle.std.specs.Prelude.{◌≡◌, ℕ, slice_get, Some}
use Rattle.frame_store.specs.tables.Settled.{IsSettled}
use Rattle.meaning_call.specs.declared.Method.TheVariants.{Other}
use Rattle.meaning_call.specs.declared.OtherMethod.TheVariants.{Merge}
use Rattle.meaning_call.specs.declared.Parameter.{Parameter}
use Rattle.meaning_call.specs.Signature.{parameters_of}
use Rattle.frame_store.specs.Arguments.{arguments_of, AreLive}
use Rattle.frame_store.specs.World.{World}
use Rattle.frame_signatures.specs.Bound.{stands_at}
use Rattle.frame_signatures.specs.Filled.{Fills}
use Rattle.frame_signatures.specs.declared.bound.Bound.{Bound}

-- the arguments are those of `merge`, which takes them, and their texts were given
pub record IsMergeCall (w : World) (b : Bound) : Type 0 where
  pub parameters : b.parameters.now ≡ parameters_of (Other Merge)
  pub given : IsSettled (arguments_of w.tables) w.texts b.args.now
  pub live : AreLive w.tables b.args.now
  pub filled : (place : ℕ) (p : Parameter) → slice_get (parameters_of (Other Merge)) place ≡ Some p → Fills p (stands_at w.tables w.texts b place)
