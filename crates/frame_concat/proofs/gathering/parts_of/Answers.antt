use Rattle.{
  frame_parts.proofs.Common.{arith, ◌∙◌, ◌++◌, ◌∷◌, [], ap, Some, tables},
  frame_concat.proofs.{PartLaws.{object_live, no_part, part_more, known_more}, gathering.parts_of.Goals.{in-Some+in_ok-new+in_ok-push, in_default}},
}
use Rattle.frame_concat.proofs.gathering.parts_of.Goals as goal

pub read-requires : goal.read-requires
read-requires c = object_live _ _ _ _ _ _ c.requires c.loop-item-test.true c.item-item.is c.object.ensures.live c.in-Some.is

pub loop-item-preserved : goal.loop-item-preserved
loop-item-preserved c =
    let k = c.loop-item.item-index in
    let before = c.loop-item.invariant in
    elim c.match-object.branch [
      | in-Some+in_ok-new+in_ok-push w ↦
          let grown = ap (λ v. v.items) w.parts-is ∙ w.in_ok-push.ensures.items ∙ (λ i. c.loop-item.parts.items ++ w.in_ok-new.ensures i ∷ []) in
          record {
            whole = part_more _ _ k _ c.loop-item-test.true c.item-item.is _ _ _ grown
                (λ texts. ap (λ t. Some t) (grind arith) ∙ w.in-Some.ensures.table (tables c.args.store.now) texts) before.whole;
            known = known_more _ _ k _ c.loop-item-test.true c.item-item.is _ _ _ _ grown w.read.ensures.table w.read.ensures.whole before.known;
          }
      | in_default w ↦ record {
        whole = grind (arith, no_part);
        known = rw (ap (λ v. v.items) w.parts-is) before.known;
      }
    ]
