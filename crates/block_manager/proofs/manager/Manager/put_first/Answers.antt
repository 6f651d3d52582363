use Rattle.{std.proofs.Common.{◌≡◌, ◌∙◌, ◌++◌, ℕ, List, ap₂, sym, subst, refl, arith, rules, length, map}, block_pool.specs.{declared.views.ViewId.{ViewId}}, block_manager.{specs.{declared.spots.Spot.{Spot}, Managed.{AreLive}, Changes.{EndsEach, numbers_of}, Spots.{AreOn, all_single, shifted}}, proofs.{GridLaws.{numbers_long}, SpotLaws.{spots_on}, ManagerLaws.{first_shows, first_views, first_kept, first_held}, ShowLaws.{shows_columns, shows_stand}, LayLaws.{lays_gone}, LayoutLaws.{inner_shows, views_are}, AddingLaws.{grown_live, stays_stands, stays_traded, stays_kept}}}}
use Rattle.block_manager.proofs.manager.Manager.put_first.Goals as goal

pub returns-in_err-views-clause-stands : goal.returns-in_err-views-clause-stands
returns-in_err-views-clause-stands c = stays_stands c.args.pool.now c.add_all.new.pool c.args.self.now c.in_err-views.ensures.err c.requires.stands

pub release_all-requires : goal.release_all-requires
release_all-requires c =
    let same : c.extend_from_slice.new.self.items ≡ c.in_ok-views.views.items = grind arith in
    subst (λ (vs : List ViewId). AreLive c.add_all.new.pool (numbers_of vs)) (sym same)
    (grown_live c.args.pool.now c.add_all.new.pool (numbers_of c.in_ok-views.views.items) c.in_ok-views.ensures.ok.lays)

pub returns-then-is_err : goal.returns-then-is_err
returns-then-is_err c =
    let old = c.args.pool.now in
    let new = c.release_all.new.pool in
    let m = c.args.self.now in
    let same : c.extend_from_slice.new.self.items ≡ c.in_ok-views.views.items = grind arith in
    let stays = lays_gone old (numbers_of c.in_ok-views.views.items) c.add_all.new.pool new c.in_ok-views.ensures.ok.lays
    (subst (λ (vs : List ViewId). EndsEach c.add_all.new.pool (numbers_of vs) new) same c.release_all.ensures) in
    record {
      columns = search rules;
      stands = stays_stands old new m stays c.requires.stands;
      views = stays_traded old new m.views stays;
      kept = stays_kept old new m.views stays;
      held = search rules;
      err = (refl, stays);
    }

pub returns : goal.returns
returns c =
    let old = c.args.pool.now in
    let mid = c.add_all.new.pool in
    let m = c.args.self.now in
    let before = c.self.inside.views.items in
    let spots = c.self.inside.spots.items in
    let added = c.in_ok-views.views.items in
    let after = c.extend_from_slice.new.self.items in
    let after_spots = c.in_ok-spots.spots.items in
    let blocks = c.args.first.items in
    let shows = inner_shows old m before spots c.self.view_is c.self.invariant c.requires.stands in
    let is = views_are old m before spots c.self.view_is c.self.invariant c.requires.stands in
    let views_now : after ≡ added ++ before = grind arith in
    let count : c.len.result ≡ length blocks = omega (arith, c.len.ensures) in
    let spots_now : after_spots ≡ all_single (length blocks) ++ map (shifted (length blocks)) spots = c.in_ok-spots.ensures
    ∙ ap₂ (λ (n : ℕ) (ss : List Spot). all_single n ++ map (shifted n) ss) count c.deref.ensures.value in
    let all = first_shows old mid m added before after blocks spots after_spots shows is c.in_ok-views.ensures.ok c.requires.single views_now spots_now in
    record {
      columns = shows_columns mid (numbers_of after) after_spots _ all;
      stands = shows_stand mid (numbers_of after) after_spots _ all;
      views = first_views old mid m added before after blocks spots after_spots shows is c.in_ok-views.ensures.ok c.requires.single views_now spots_now;
      kept = first_kept old mid m added before after blocks spots after_spots shows is c.in_ok-views.ensures.ok c.requires.single views_now spots_now;
      held = first_held old mid m added before after blocks spots after_spots shows is c.in_ok-views.ensures.ok c.requires.single views_now spots_now;
      err = search rules;
    }

pub invariant_of-self : goal.invariant_of-self
invariant_of-self c =
    let old = c.args.pool.now in
    let mid = c.add_all.new.pool in
    let m = c.args.self.now in
    let before = c.self.inside.views.items in
    let spots = c.self.inside.spots.items in
    let added = c.in_ok-views.views.items in
    let after = c.extend_from_slice.new.self.items in
    let after_spots = c.in_ok-spots.spots.items in
    let blocks = c.args.first.items in
    let views_now : after ≡ added ++ before = grind arith in
    let count : c.len.result ≡ length blocks = omega (arith, c.len.ensures) in
    let spots_now : after_spots ≡ all_single (length blocks) ++ map (shifted (length blocks)) spots = c.in_ok-spots.ensures
    ∙ ap₂ (λ (n : ℕ) (ss : List Spot). all_single n ++ map (shifted n) ss) count c.deref.ensures.value in
    let all = first_shows old mid m added before after blocks spots after_spots (inner_shows old m before spots c.self.view_is c.self.invariant c.requires.stands) (views_are old m before spots c.self.view_is c.self.invariant c.requires.stands) c.in_ok-views.ensures.ok c.requires.single views_now spots_now in
    subst (λ n. AreOn n after_spots) (numbers_long after) (spots_on mid (numbers_of after) after_spots all.stands)
