use Rattle.{
  frame_parts.proofs.Common.{◌∷◌, [], Table, longer_twice},
  frame_merge.{specs.Headings.{label_beside}, proofs.KeyLaws.{labels_given, one_more_label}},
}
use Rattle.frame_merge.proofs.headings.labels_beside.Goals as goal

pub loop-k-preserved : goal.loop-k-preserved
loop-k-preserved c =
    let h = c.in_ok-label_beside.field-0 in
    let made = c.in_ok-label_beside.ensures in
    let f : Table → _ = λ T. label_beside T c.args.on.now c.args.keys.now c.args.suffix.now c.args.others.now.keys in
    record {
      longer = search longer_twice;
      given = labels_given _ _ _ (h ∷ []) _ made.longer c.loop-k.invariant.given (λ more j. made.given more j ∷ []) c.in_ok-push.ensures.items;
      labels = one_more_label _ _ _ f _ _ _ _ h _ _ made.longer c.loop-k.invariant.given c.in_ok-push.ensures.items c.at-column.ensures c.loop-k.invariant.longer c.requires.known.given made.label
          c.loop-k.invariant.labels;
    }
