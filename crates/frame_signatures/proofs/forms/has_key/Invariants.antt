use Rattle.frame_store.{proofs.cells.Common.{◌≡◌, length, label_datum}, specs.{Objects.{Tables}, Arguments.{entries_of}}}
use Rattle.meaning_call.specs.Binding as plain
use Rattle.frame_signatures.proofs.forms.has_key.Given as goal

abbrev pub invariant-loop-rest : goal.invariant-loop-rest
invariant-loop-rest l = (live : Tables) → plain.has_key (label_datum l.dict l.key) (entries_of live l.dict l.rest) ≡ plain.has_key (label_datum l.dict l.key) (entries_of live l.dict l.pairs)

abbrev pub decreases-loop-rest : goal.decreases-loop-rest
decreases-loop-rest l = length l.rest
