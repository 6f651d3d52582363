use Rattle.{frame_parts.proofs.Common.{arith, Ok, List, ◌≡◌, option_map, World, world, AreKnownArguments, Named, Text, IsSettled, list_in, labels_of}, frame_signatures.specs.{Bound.{IsBound, stands_at}, declared.bound.Bound.{Bound as BoundArguments}}, meaning_call.specs.{declared.Function.TheVariants.{Concat}, Signature.{function_parameters}}, frame_concat.specs.{declared.asked.Asked.{Asked}, Asked.{asked_value, keys_value}}}
use Rattle.frame_concat.proofs.calling.concat.Goals as goal

-- the labels of parts were given
asked_given : (w : World) (args : List Named) (b : BoundArguments) → IsBound w (function_parameters Concat) args (Ok b) → (a : Asked) → AreKnownArguments w args → ((texts : List Text) → keys_value texts a.keys ≡ option_map labels_of (list_in (stands_at w.tables texts b 4))) → IsSettled asked_value w.texts a
asked_given = grind arith

pub parts_of-requires : goal.parts_of-requires
parts_of-requires c = c.objects.ensures.live _ (grind arith)

pub concatenated-requires-clause-known : goal.concatenated-requires-clause-known
concatenated-requires-clause-known c = rw c.deref.ensures.value (c.in_ok-parts.ensures.known _ c.requires.settled)

pub concatenated-requires-clause-keys : goal.concatenated-requires-clause-keys
concatenated-requires-clause-keys c =
    let w = world c.args.store.now c.args.dict.now in
    asked_given w _ c.in_ok-bound.bound (rw c.function_parameters.ensures at c.in_ok-bound.ensures) _ c.requires.known (c.in_ok-asked.ensures.keys w.tables)
