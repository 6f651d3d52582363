use Rattle.{
  frame_parts.proofs.Common.{◌<◌, arith, err_from_is_err_and, length, table_value, length-append, All-push},
  frame_asof.proofs.KeyLaws.{label_given, places_more, label_fails},
}
use Rattle.frame_asof.proofs.keys.each_named.Goals as goal

pub columns_named-requires-clause-given : goal.columns_named-requires-clause-given
columns_named-requires-clause-given c = label_given c.args.dict.now c.args.labels.now c.loop-k.k _ c.at.ensures c.requires.given

pub returns-in_err-places-clause-answer : goal.returns-in_err-places-clause-answer
returns-in_err-places-clause-answer c =
    let texts = c.args.dict.now in
    let p = err_from_is_err_and c.from_residual.result c.from_residual.ensures.1 in
    rw (p.1, p.2) (label_fails texts (table_value texts c.args.l.now) (table_value texts c.args.r.now) c.args.labels.now c.loop-k.left c.loop-k.right c.loop-k.k _ c.at.ensures _ _ c.in_err-places.ensures.answer c.loop-k.invariant.places)

pub loop-k-preserved : goal.loop-k-preserved
loop-k-preserved c =
    record {
      places = places_more c.args.dict.now (table_value c.args.dict.now c.args.l.now) (table_value c.args.dict.now c.args.r.now) c.args.labels.now c.loop-k.left c.loop-k.right c.loop-k.k _ c.at.ensures _ _ _ _ _ c.in_ok-places.ensures.answer c.in_ok-push.ensures.ok c.in_ok-push-2.ensures.ok c.loop-k.invariant.places;
      left = rw c.in_ok-push.ensures.ok (All-push (λ place. place < length c.args.l.now.columns) _ _ c.loop-k.invariant.left c.in_ok-places.ensures.left);
      right = rw c.in_ok-push-2.ensures.ok (All-push (λ place. place < length c.args.r.now.columns) _ _ c.loop-k.invariant.right c.in_ok-places.ensures.right);
      left_count = grind (arith, length-append);
      right_count = grind (arith, length-append);
    }
