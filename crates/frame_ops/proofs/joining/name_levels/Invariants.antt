use Rattle.frame_parts.proofs.Common.{◌≡◌, ◌<◌, ℕ, length, slice_index_or, None, IsSettled, heading_value, common_name}
use Rattle.frame_ops.proofs.joining.name_levels.Given as goal

abbrev pub invariant-loop-level : goal.invariant-loop-level
invariant-loop-level l =
    record {
      tuples : l.axis.tuples ≡ l.fn.axis.tuples;
      count : length l.axis.names ≡ length l.a.names;
      named : (k : ℕ) → k < l.level → heading_value l.dict (slice_index_or l.axis.names k None) ≡ common_name (heading_value l.dict (slice_index_or l.a.names k None)) (heading_value l.dict (slice_index_or l.b.names k None));
      given : (k : ℕ) → k < l.level → IsSettled heading_value l.dict (slice_index_or l.axis.names k None);
    }
