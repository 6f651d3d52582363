-- Tables that are read of a world, and answers by another wording.
use Rattle.{frame_parts.proofs.Common.{◌≡◌, ◌∙◌, refl, ap, subst, ℕ, List, [], Option, None, Some, option_map, Result, Ok, Err, Text, FaultValue, then_value, NumberedTable, IsWhole, Entry, Value, OpFault, World, IsSettledWorld, IsKnownTable, MakesBy, object_settled}, frame_store.proofs.FormLaws.{free_forms}, frame_store.specs.{Derivations.{Derives}, World.{FormsFor}, tables.Cost.{free}, declared.{derivations.Derivation.{Derivation}, fault.OpFault.TheVariants.{Refused, NoMemory}}, tables.Value.{NamedGiven}}, frame_select.specs.Selected.{as_it_is}, frame_signatures.specs.call.Binding.{Bound, not_taken, not_listed, bound, bound_of}, meaning_method.specs.Groups.{of_bound, without_arguments}}

-- a table that is read of a settled world
pub known_table : (w : World) (id : ℕ) (t : NumberedTable) → w.tables id ≡ Some t → IsWhole t → IsSettledWorld w → IsKnownTable w.texts t
known_table = search object_settled

pub forms_so : (charge : Entry → ℕ) (r : Result Value OpFault) (meant meant' : Result Entry FaultValue) (old new : World) → meant ≡ meant' → FormsFor charge r meant old new → FormsFor charge r meant' old new
forms_so charge r _ _ old new is forms = subst (λ m. FormsFor charge r m old new) is forms

-- what shares its cells has a charge, and costs nothing
pub free_so : (charge : Entry → ℕ) (r : Result Value OpFault) (meant meant' : Result Entry FaultValue) (old new : World) → meant ≡ meant' → FormsFor free r meant old new → FormsFor charge r meant' old new
free_so charge r _ meant' old new is forms = free_forms charge r meant' old new (forms_so free r _ meant' old new is forms)

-- the same charge, in other words
pub charged_so : (charge charge' : Entry → ℕ) (r : Result Value OpFault) (meant meant' : Result Entry FaultValue) (old new : World) → charge ≡ charge' → meant ≡ meant' → FormsFor charge r meant old new → FormsFor charge' r meant' old new
charged_so charge _ r _ meant' old new same is forms = subst (λ (c : Entry → ℕ). FormsFor c r meant' old new) same (forms_so charge r _ meant' old new is forms)

pub derives_so : (texts : List Text) (t : NumberedTable) (r : Result Derivation OpFault) (meant meant' : Result Entry FaultValue) → meant ≡ meant' → Derives texts t r meant → Derives texts t r meant'
derives_so texts t r _ _ is derives = subst (Derives texts t r) is derives

-- what is made, in other words
module _ {C D : Type 0} (view : C → D) where
  made_by : (texts : List Text) (made : Result C OpFault) (m : Result C FaultValue) → MakesBy as_it_is texts made m → MakesBy (λ _ c. view c) texts made (then_value m (λ c. Ok (view c)))
  made_by _ (Ok c) m is = ap (λ m. then_value m (λ c. Ok (view c))) is
  made_by _ (Err (Refused code)) m refuses = (ap (λ m. then_value m (λ c. Ok (view c))) refuses.0, refuses.1)
  made_by _ (Err NoMemory) m any = any

  bound_by : (c : C) (b : Bound) → then_value (of_bound (λ gs. Ok c) b) (λ c. Ok (view c)) ≡ of_bound (λ gs. Ok (view c)) b
  bound_by c not_taken = refl
  bound_by c not_listed = refl
  bound_by c (bound gs) = refl

  meant_by : (call : Option C) (name : Text) (gs : List NamedGiven) → then_value (without_arguments call name gs) (λ c. Ok (view c)) ≡ without_arguments (option_map view call) name gs
  meant_by None name gs = refl
  meant_by (Some c) name gs = bound_by c (bound_of [] gs)

  pub called_by : (texts : List Text) (call : Option C) (meant : Option D) (name : Text) (gs : List NamedGiven) (made : Result C OpFault) → option_map view call ≡ meant
      → MakesBy as_it_is texts made (without_arguments call name gs) → MakesBy (λ _ c. view c) texts made (without_arguments meant name gs)
  called_by texts call _ name gs made is makes =
      subst (MakesBy (λ _ c. view c) texts made) (meant_by call name gs ∙ ap (λ o. without_arguments o name gs) is) (made_by texts made _ makes)
