use Rattle.{std.proofs.Common.{◌∙◌, ◌<◌, ◌++◌, ◌∷◌, [], List, ap, sym, length, map, take}, std.proofs.lemmas.{List.{map_more}, Option.{get_or_from_slice_get, slice_get_within}}, block_manager.specs.{declared.spots.Spot.{Spot}, Spots.{spot_at}}}
use Rattle.block_manager.proofs.layout.picked.Goals as goal

pub loop-k-preserved : goal.loop-k-preserved
loop-k-preserved c =
    let spots = c.args.spots.now in
    let places = c.args.places.now in
    let k = c.loop-k.k in
    let place = c.at.result.now in
    let lt : k < length places = slice_get_within places k place c.at.ensures in
    c.in_ok-push.ensures.items
    ∙ ap (λ (l : List Spot). l ++ spot_at spots place ∷ []) c.loop-k.invariant
    ∙ sym (map_more (spot_at spots) places k 0 lt ∙ ap (λ p. map (spot_at spots) (take k places) ++ spot_at spots p ∷ []) (get_or_from_slice_get places k place 0 c.at.ensures))
