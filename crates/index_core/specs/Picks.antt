-- What a call answers for a label or a slice.
use Rattle.std.specs.Prelude.{◌≡◌, Result, Ok, Err}
use Rattle.cell_core.specs.declared.cell.Label.{Label}
use Rattle.meaning_pick.specs.Faults.{PickFault, not_there, bound_not_unique}
use Rattle.index_core.specs.declared.fault.IndexFault.{IndexFault}
use Rattle.index_core.specs.declared.fault.IndexFault.TheVariants.{NotThere, BoundNotUnique, NoMemory}

-- what is answered is what is meant, as it is seen, or the fault is; of want of memory the last word tells
abbrev pub PicksOr : {A B : Type 0} → Type 0 → (A → B) → Result A IndexFault → Result B (PickFault Label) → Type 0
PicksOr want view (Ok made) meant = meant ≡ Ok (view made)
PicksOr want view (Err (NotThere label)) meant = meant ≡ Err (not_there label)
PicksOr want view (Err (BoundNotUnique label)) meant = meant ≡ Err (bound_not_unique label)
PicksOr want view (Err NoMemory) meant = want

-- want of memory may come in place of any answer
abbrev pub PicksBy : {A B : Type 0} → (A → B) → Result A IndexFault → Result B (PickFault Label) → Type 0
PicksBy view result meant = PicksOr (Unit {0}) view result meant

-- it never comes
abbrev pub TellsBy : {A B : Type 0} → (A → B) → Result A IndexFault → Result B (PickFault Label) → Type 0
TellsBy view result meant = PicksOr ⊥ view result meant

-- an answer as it is
abbrev pub as_it_is : {A : Type 0} → A → A
as_it_is a = a
