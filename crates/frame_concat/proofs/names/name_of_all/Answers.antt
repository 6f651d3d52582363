use Rattle.{
  column_core.proofs.cells.Common.{All-take, All-drop},
  frame_parts.proofs.Common.{arith, IsKnownTable},
  frame_concat.proofs.{PartLaws.{name_given, name_seen, next_name, item_known}, PlaceLaws.{rest_of}},
}
use Rattle.frame_concat.proofs.names.name_of_all.Goals as goal

pub loop-other-init : goal.loop-other-init
loop-other-init c =
    record {
      whole = grind (arith, name_seen, rest_of);
      given = rw c.name-name.ensures (name_given _ _ _ (item_known _ c.args.parts.now 0 _ c.requires (omega arith) c.first-item.is));
    }

pub common_name-name-requires-clause-b : goal.common_name-name-requires-clause-b
common_name-name-requires-clause-b c =
    rw c.name.ensures (name_given _ _ _ (item_known _ _ _ _ (All-take (IsKnownTable c.args.dict.now) _ _ (All-drop (IsKnownTable c.args.dict.now) 1 _ c.requires)) c.loop-other-test.true c.other-item.is))

pub loop-other-preserved : goal.loop-other-preserved
loop-other-preserved c = search next_name
