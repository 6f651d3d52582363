use Rattle.frame_parts.proofs.Common.{◌≡◌, drop, headings_value}
use Rattle.frame_parts.specs.form.Infix as meant
use Rattle.frame_ops.proofs.headings.same_headings.Given as goal

abbrev pub invariant-loop-column : goal.invariant-loop-column
invariant-loop-column l =
    meant.same_headings (headings_value l.dict (drop l.column l.a.headings)) (headings_value l.dict (drop l.column l.b.headings))
    ≡ meant.same_headings (headings_value l.dict l.a.headings) (headings_value l.dict l.b.headings)
