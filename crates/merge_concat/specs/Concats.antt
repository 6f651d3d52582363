-- What a call answers for what is put together.
use Rattle.std.specs.Prelude.{◌≡◌, List, Result, Ok, Err}
use Rattle.cell_core.specs.declared.cell.Label.{Label}
use Rattle.meaning_join.specs.Concat.{ConcatRefusal, mixed_kinds, repeated_label, too_large}
use Rattle.merge_concat.specs.declared.fault.MergeFault.{MergeFault}
use Rattle.merge_concat.specs.declared.fault.MergeFault.TheVariants.{NotOneToOne, DuplicateLabels, MixedKinds, TooLarge, NoMemory}
pub use Rattle.factorize.specs.index_core.Picks.{as_it_is}

-- what is answered is what is meant, as it is seen, or the fault is; want of memory may come in place of any answer
abbrev pub ConcatsBy : {A B : Type 0} → (A → B) → Result A MergeFault → Result B (ConcatRefusal (List Label)) → Type 0
ConcatsBy view (Ok made) meant = meant ≡ Ok (view made)
ConcatsBy view (Err (NotOneToOne side key)) meant = ⊥
ConcatsBy view (Err (DuplicateLabels label)) meant = meant ≡ Err (repeated_label label)
ConcatsBy view (Err MixedKinds) meant = meant ≡ Err mixed_kinds
ConcatsBy view (Err TooLarge) meant = meant ≡ Err too_large
ConcatsBy view (Err NoMemory) meant = Unit {0}
