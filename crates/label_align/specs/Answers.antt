-- What a call answers for what is meant.
use Rattle.std.specs.Prelude.{◌≡◌, List, Result, Ok, Err}
use Rattle.cell_core.specs.declared.cell.Label.{Label}
use Rattle.meaning_align.specs.Faults.{AlignRefusal, duplicate_labels, too_large}
use Rattle.label_align.specs.declared.fault.AlignFault.{AlignFault}
use Rattle.label_align.specs.declared.fault.AlignFault.TheVariants.{DuplicateLabels, TooLarge, NoMemory}
pub use Rattle.index_core.specs.Picks.{as_it_is}

-- what is answered is what is meant, as it is seen, or the fault is; want of memory may come in place of any answer
abbrev pub AlignsBy : {A B : Type 0} → (A → B) → Result A AlignFault → Result B (AlignRefusal (List Label)) → Type 0
AlignsBy view (Ok made) meant = meant ≡ Ok (view made)
AlignsBy view (Err (DuplicateLabels key)) meant = meant ≡ Err (duplicate_labels key)
AlignsBy view (Err TooLarge) meant = meant ≡ Err too_large
AlignsBy view (Err NoMemory) meant = Unit {0}
