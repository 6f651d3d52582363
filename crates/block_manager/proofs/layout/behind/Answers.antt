use Rattle.{std.proofs.Common.{◌∙◌, ◌++◌, ◌∷◌, [], List, ap, sym, arith, map}, std.proofs.lemmas.List.{take_all}, block_manager.{specs.{declared.spots.Spot.{Spot}, Spots.{all_single, shifted}}, proofs.BothLaws.{single_more}}}
use Rattle.block_manager.proofs.layout.behind.Goals as goal

pub loop-view-preserved : goal.loop-view-preserved
loop-view-preserved c = c.in_ok-push.ensures.items ∙ ap (λ (l : List Spot). l ++ record { view = c.loop-view.view; column = 0 } ∷ []) c.loop-view.invariant ∙ sym (single_more c.loop-view.view)

pub returns : goal.returns
returns c = c.loop-k.invariant ∙ ap (λ (ss : List Spot). all_single c.args.count ++ map (shifted c.args.count) ss) (take_all c.loop-k.k c.args.spots.now (omega arith))
