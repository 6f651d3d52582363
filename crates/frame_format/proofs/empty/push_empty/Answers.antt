use Rattle.frame_format.proofs.FieldLaws.{both, both_at_last}
use Rattle.frame_format.proofs.empty.push_empty.Goals as goal

pub returns : goal.returns
returns g c =
    let out = c.args.out.now in
    both_at_last _ _ _ _ _ _
    (both out _ _ _ _
    (both out _ _ _ _
    (both out _ _ _ _ c.in_ok-push_str.ensures.ok c.in_ok-push_all_headings.ensures)
    c.in_ok-push_str-2.ensures.ok)
    c.in_ok-push_all_labels.ensures)
    c.push_str-3.ensures.ok
