use Rattle.frame_store.{proofs.cells.Common.{◌≡◌, length}, specs.{Objects.{Tables}, Arguments.{entries_of}}}
use Rattle.meaning_call.specs.Binding as plain
use Rattle.frame_signatures.proofs.forms.are_kind_names.Given as goal

abbrev pub invariant-loop-rest : goal.invariant-loop-rest
invariant-loop-rest l = (live : Tables) → plain.each_value plain.is_kind_name (entries_of live l.dict l.rest) ≡ plain.each_value plain.is_kind_name (entries_of live l.dict l.pairs)

abbrev pub decreases-loop-rest : goal.decreases-loop-rest
decreases-loop-rest l = length l.rest
