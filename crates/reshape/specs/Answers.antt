-- What reshaping answers for what is meant.
use Rattle.std.specs.Prelude.{◌≡◌, List, Result, Ok, Err}
use Rattle.cell_core.specs.declared.cell.Label.{Label}
use Rattle.meaning_shapes.specs.join.Concat.{ConcatRefusal, mixed_kinds}
use Rattle.meaning_shapes.specs.join.Concat as concat
use Rattle.merge_concat.specs.declared.fault.MergeFault.{MergeFault}
use Rattle.merge_concat.specs.declared.fault.MergeFault.TheVariants as merge
use Rattle.meaning_shapes.specs.Reshape.{SpreadOf, UnstackRefusal, duplicate_entry, too_large}
use Rattle.reshape.specs.declared.fault.ReshapeFault.{ReshapeFault}
use Rattle.reshape.specs.declared.fault.ReshapeFault.TheVariants.{Duplicates, MixedKinds, TooLarge, NoMemory}
use Rattle.reshape.specs.declared.unstack.Spread.{Spread}

-- a spread as it is made
abbrev pub spread_value : Spread → SpreadOf Label
spread_value made = record { rows = made.rows; columns = made.columns; places = made.places }

-- what is answered is what is meant, or the fault is; want of memory may come in place of any answer
abbrev pub Unstacks : Result Spread ReshapeFault → Result (SpreadOf Label) (UnstackRefusal (List Label)) → Type 0
Unstacks (Ok made) meant = meant ≡ Ok (spread_value made)
Unstacks (Err (Duplicates entry)) meant = meant ≡ Err (duplicate_entry entry)
Unstacks (Err MixedKinds) meant = ⊥
Unstacks (Err TooLarge) meant = meant ≡ Err too_large
Unstacks (Err NoMemory) meant = Unit {0}

-- the same of one column, as it is seen
abbrev pub ReshapesBy : {A B : Type 0} → (A → B) → Result A ReshapeFault → Result B (ConcatRefusal (List Label)) → Type 0
ReshapesBy view (Ok made) meant = meant ≡ Ok (view made)
ReshapesBy view (Err (Duplicates entry)) meant = ⊥
ReshapesBy view (Err MixedKinds) meant = meant ≡ Err mixed_kinds
ReshapesBy view (Err TooLarge) meant = meant ≡ Err concat.too_large
ReshapesBy view (Err NoMemory) meant = Unit {0}

-- the fault of a concatenation as one of reshaping
abbrev pub fault_of : MergeFault → ReshapeFault
fault_of (merge.NotOneToOne side key) = Duplicates key
fault_of (merge.DuplicateLabels label) = Duplicates label
fault_of merge.MixedKinds = MixedKinds
fault_of merge.TooLarge = TooLarge
fault_of merge.NoMemory = NoMemory
