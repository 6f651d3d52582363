use Rattle.{std.proofs.Common.{◌≡◌, ◌∙◌, ◌++◌, ℕ, List, ap, ap₂, sym, refl, arith, rules, length}, std.proofs.lemmas.List.{length-map}, std.specs.Prelude.{insert}, block_pool.specs.declared.views.ViewId.{ViewId}, block_manager.{specs.{declared.spots.Spot.{Spot}, Changes.{numbers_of}, Managed.{ManagerValue}, Spots.{place_of, laid_out, shifted}}, proofs.{ManagerLaws.{taken_last}, LayoutLaws.{inner_shows, views_are}}}}
use Rattle.block_manager.proofs.manager.Manager.append_from.Goals as goal

pub returns : goal.returns
returns c =
    let m = c.args.self.now in
    let from = c.args.from in
    let views = c.self.inside.views.items in
    let spots = c.self.inside.spots.items in
    let others = c.from.inside.views.items in
    let from_spots = c.from.inside.spots.items in
    let after = c.put_in.new.views.items in
    let after_spots = c.put_in.new.spots.items in
    let s = c.index.result.now in
    let views_now : after ≡ views ++ others = c.put_in.ensures.views ∙ ap₂ (λ (a b : List ViewId). a ++ b) c.reserve.ensures.items c.deref.ensures.value in
    let last : c.len-last.result ≡ length spots = omega (arith, c.len-last.ensures, ap length c.reserve-2.ensures.items) in
    let spots_now : after_spots ≡ insert spots (length spots) (shifted (length views) s) = c.put_in.ensures.spots
    ∙ ap₂ (λ (ss : List Spot) (k : ℕ). insert ss k (shifted (length c.reserve.new.self.items) s)) c.reserve-2.ensures.items last
    ∙ ap (λ (l : List ViewId). insert spots (length spots) (shifted (length l) s)) c.reserve.ensures.items in
    let one : length from_spots ≡ 1 = sym (length-map from_spots (place_of (numbers_of others))) ∙ ap (λ (n : ManagerValue). length n.places) c.from.view_is ∙ c.requires.one in
    record {
      ok = λ pool stands from_stands live. taken_last pool m from (laid_out (numbers_of after) after_spots) views others after spots after_spots from_spots s
          (inner_shows pool m views spots c.self.view_is c.self.invariant stands) (inner_shows pool from others from_spots c.from.view_is c.from.invariant from_stands) one c.index.ensures
          (views_are pool m views spots c.self.view_is c.self.invariant stands) (views_are pool from others from_spots c.from.view_is c.from.invariant from_stands) live (length spots) refl views_now spots_now refl;
      err = search rules;
      returned = search rules;
    }
