use Rattle.{std.proofs.Common.{◌≡◌, ◌∙◌, ℕ, List, [], ◌∷◌, ◌++◌, All, ap, ap₂, sym, subst, refl, arith, rules, length}, std.specs.Prelude.{insert}, block_pool.specs.{declared.views.ViewId.{ViewId}, Pools.{IsSole}}, block_manager.{specs.{declared.spots.Spot.{Spot}, Parts.{block_column}, Managed.{Exchanges, Keeps, columns_on}, Changes.{numbers_of}, Spots.{shifted}}, proofs.{ManagerLaws.{put_shows, put_views, put_kept, put_held, put_alone, last_columns}, ShowLaws.{shows_columns, shows_stand}, LayoutLaws.{inner_shows, views_are}}}}
use Rattle.block_manager.proofs.manager.Manager.append_block.Goals as goal

pub returns : goal.returns
returns c =
    let old = c.args.pool.now in
    let m = c.args.self.now in
    let new = c.add.new.self in
    let id = c.in_ok-view.view in
    let views = c.self.inside.views.items in
    let spots = c.self.inside.spots.items in
    let shows = inner_shows old m views spots c.self.view_is c.self.invariant c.requires.stands in
    let first : Spot = record { view = 0; column = 0 } in
    let after = c.put_in.new.views.items in
    let after_spots = c.put_in.new.spots.items in
    let views_now : after ≡ views ++ id ∷ [] = c.put_in.ensures.views ∙ ap (λ (l : List ViewId). l ++ id ∷ []) c.reserve.ensures.items in
    let last : c.len-last.result ≡ length spots = omega (arith, c.len-last.ensures, ap length c.reserve-2.ensures.items) in
    let spots_now : after_spots ≡ insert spots (length spots) (shifted (length views) first) = c.put_in.ensures.spots
    ∙ ap₂ (λ (ss : List Spot) (k : ℕ). insert ss k (shifted (length c.reserve.new.self.items) first)) c.reserve-2.ensures.items last
    ∙ ap (λ (l : List ViewId). insert spots (length spots) (shifted (length l) first)) c.reserve.ensures.items in
    let all = put_shows old new views after spots after_spots (columns_on old m) id c.args.block first shows c.in_ok-view.ensures.fresh c.in_ok-view.ensures.ok c.requires.single refl (length spots) views_now spots_now in
    let is = views_are old m views spots c.self.view_is c.self.invariant c.requires.stands in
    record {
      columns = shows_columns new (numbers_of after) after_spots _ all ∙ last_columns old (numbers_of views) spots (columns_on old m) (block_column c.args.block) (length spots) shows refl;
      stands = shows_stand new (numbers_of after) after_spots _ all;
      views = subst (λ (ids : List ℕ). Exchanges old new ids (numbers_of after)) (sym is)
          (put_views old new views after spots after_spots (columns_on old m) id c.args.block first shows c.in_ok-view.ensures.fresh c.in_ok-view.ensures.ok c.requires.single refl (length spots) views_now spots_now);
      kept = subst (Keeps old new) (sym is)
          (put_kept old new views after spots after_spots (columns_on old m) id c.args.block first shows c.in_ok-view.ensures.fresh c.in_ok-view.ensures.ok c.requires.single refl (length spots) views_now spots_now);
      held = omega (arith, put_held old new views after spots after_spots (columns_on old m) id c.args.block first shows c.in_ok-view.ensures.fresh c.in_ok-view.ensures.ok c.requires.single refl (length spots) views_now spots_now);
      sole = λ alone. put_alone old new views after id c.args.block shows.stands.live c.in_ok-view.ensures.fresh c.in_ok-view.ensures.ok views_now (subst (All (IsSole old)) is alone);
      err = search rules;
      returned = search rules;
    }
