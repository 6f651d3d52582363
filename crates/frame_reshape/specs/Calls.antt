-- Calls of methods of another shape.
use Rattle.std.specs.Prelude.{◌≡◌, ℕ, true, slice_get, Some}
use Rattle.frame_store.specs.tables.Settled.{IsSettled}
use Rattle.meaning_call.specs.declared.Method.TheVariants.{Reshape}
use Rattle.meaning_call.specs.declared.Parameter.{Parameter}
use Rattle.meaning_call.specs.declared.ReshapeMethod.{ReshapeMethod}
use Rattle.meaning_call.specs.Binding.{are_listed}
use Rattle.meaning_call.specs.Signature.{parameters_of}
use Rattle.frame_store.specs.Arguments.{arguments_of}
use Rattle.frame_store.specs.World.{World, arguments_in}
use Rattle.frame_signatures.specs.Bound.{stands_at}
use Rattle.frame_signatures.specs.Filled.{Fills}
use Rattle.frame_signatures.specs.declared.bound.Bound.{Bound}

-- the arguments are those of the method, which takes them and lists them where it lists any, and their texts were given
pub record IsReshapeCall (w : World) (m : ReshapeMethod) (b : Bound) : Type 0 where
  pub parameters : b.parameters.now ≡ parameters_of (Reshape m)
  pub given : IsSettled (arguments_of w.tables) w.texts b.args.now
  pub filled : (place : ℕ) (p : Parameter) → slice_get (parameters_of (Reshape m)) place ≡ Some p → Fills p (stands_at w.tables w.texts b place)
  pub listed : are_listed (parameters_of (Reshape m)) 0 (arguments_in w b.args.now) ≡ true
