use Rattle.{
  script_state.{proofs.cells.Common.{◌*◌, ◌+◌, ◌++◌, max}, specs.{language.{Tree.{bare, named, keyed, parts}, Depth.{depth, step_depth, sub_depth, optional_sub_depth, optional_arg_depth, arg_depth, parts_depth}}, script.Expression.{parts_by, arguments_by, pairs_by}, Evaluates.{moment}, Work.{world_of}}},
  script_tree.specs.View.{expr_of, step_of, sub_of, arg_of, optional_arg, optional_sub, parts_of, named_parts_of, pair_parts_of},
  script_session.{specs.{Masks.{frame_in, asks, masked}, Parts.{items_in, pairs_in}}, proofs.{MaskLaws.{room}, Gathering.{Gathers}, Parts.{join_parts, join_pairs}}},
  frame_store.specs.World.{arguments_in, AreKnownItems, AreKnownPairs, AreKnownArguments},
}
use Rattle.script_session.proofs.evaluating.+evaluating.Given as goal

abbrev pub invariant-arguments-loop-i : goal.invariant-arguments-loop-i
invariant-arguments-loop-i g l = let F = g.F.Files in let at = moment F.seen in let f = frame_in (world_of l.fn.work) l.frame in record {
  known : AreKnownArguments (world_of l.work) l.arguments;
  gathers : Gathers l.names (λ a b. a ++ b) (λ fs s xs. arguments_by (asks f fs) fs (masked f s) (parts xs)) (named_parts_of l.args) l.i (arguments_in (world_of l.work) l.arguments) (at l.fn.work l.fn.files) (at l.work l.files);
}

abbrev pub invariant-entries-loop-i : goal.invariant-entries-loop-i
invariant-entries-loop-i g l = let F = g.F.Files in let at = moment F.seen in let f = frame_in (world_of l.fn.work) l.frame in record {
  known : AreKnownPairs (world_of l.work) l.entries.pairs.items;
  gathers : Gathers l.names join_pairs (λ fs s xs. pairs_by (asks f fs) fs (masked f s) (parts xs)) (pair_parts_of l.pairs) l.i (pairs_in (world_of l.work) l.entries) (at l.fn.work l.fn.files) (at l.work l.files);
}

abbrev pub invariant-items-loop-i : goal.invariant-items-loop-i
invariant-items-loop-i g l = let F = g.F.Files in let at = moment F.seen in let f = frame_in (world_of l.fn.work) l.frame in record {
  known : AreKnownItems (world_of l.work) l.items.items.items;
  gathers : Gathers l.names join_parts (λ fs s xs. parts_by (asks f fs) fs (masked f s) (parts xs)) (parts_of l.parts) l.i (items_in (world_of l.work) l.items) (at l.fn.work l.fn.files) (at l.work l.files);
}

abbrev pub decreases-evaluate : goal.decreases-evaluate
decreases-evaluate g l = 8 * depth (expr_of l.expr.now) + room l.frame

abbrev pub decreases-given : goal.decreases-given
decreases-given g l = 8 * arg_depth (arg_of l.arg.now) + 1 + room l.frame

abbrev pub decreases-item : goal.decreases-item
decreases-item g l = 8 * arg_depth (arg_of l.arg.now) + 1 + room l.frame

abbrev pub decreases-items : goal.decreases-items
decreases-items g l = 8 * parts_depth {by = bare} (parts (parts_of l.parts.now)) + 2 + room l.frame

abbrev pub decreases-entries : goal.decreases-entries
decreases-entries g l = 8 * parts_depth {by = keyed} (parts (pair_parts_of l.pairs.now)) + 2 + room l.frame

abbrev pub decreases-arguments : goal.decreases-arguments
decreases-arguments g l = 8 * parts_depth {by = named} (parts (named_parts_of l.args.now)) + 2 + room l.frame

abbrev pub decreases-bound : goal.decreases-bound
decreases-bound g l = 8 * optional_arg_depth (optional_arg l.arg.now) + 2 + room l.frame

abbrev pub decreases-brackets : goal.decreases-brackets
decreases-brackets g l = 8 * optional_arg_depth (optional_arg l.arg.now) + 2 + room l.frame

abbrev pub decreases-sub : goal.decreases-sub
decreases-sub g l = 8 * sub_depth (sub_of l.sub.now) + 3 + room l.frame

abbrev pub decreases-subscripts : goal.decreases-subscripts
decreases-subscripts g l = 8 * max (sub_depth (sub_of l.first.now)) (optional_sub_depth (optional_sub l.second.now)) + 5 + room l.frame

abbrev pub decreases-through : goal.decreases-through
decreases-through g l = 8 * max (parts_depth {by = named} (parts (named_parts_of l.call.args.now))) (max (optional_arg_depth (optional_arg l.call.by.now)) (parts_depth {by = named} (parts (named_parts_of l.call.more.now)))) + 5 + room l.frame

abbrev pub decreases-after : goal.decreases-after
decreases-after g l = 8 * step_depth (step_of l.step.now) + 6 + room l.frame

abbrev pub decreases-asked : goal.decreases-asked
decreases-asked g l = room l.frame
