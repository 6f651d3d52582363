use Rattle.{std.proofs.Common.{◌≡◌, ◌∙◌, ◌++◌, [], ℕ, List, true, false, Result, Ok, Err, OnOk, OnErr, is_err, ap, sym, subst, arith, rules, length, map}, std.proofs.lemmas.Bool.{false≢true}, cell_core.specs.declared.cell.Cell.{Cell}, meaning_tables.specs.Table.{ColumnOf}, block_manager.{specs.{Parts.{HaveRows, block_column}, Managed.{ManagerValue, rows_of}, Changes.{EndsEach, numbers_of}, Spots.{AreOn, all_single}}, proofs.{GridLaws.{numbers_long}, SpotLaws.{spots_on}, ShowLaws.{shows_stand, shows_columns}, LayLaws.{lays_views, lays_keep, lays_same, lays_gone}, RenewLaws.{then_views, then_kept}, AddingLaws.{stays_kept}, ManagerLaws.{blocks_show, blocks_sole}}}}
use Rattle.block_manager.proofs.manager.Manager.of_blocks.Goals as goal

on_ok : {X E : Type 0} (P : Type 0) (r : Result X E) → is_err r ≡ false → OnOk r P → P
on_ok P (Ok x) e p = p
on_ok P (Err x) e p = absurd (false≢true (sym e))

on_err : {X E : Type 0} (P : Type 0) (r : Result X E) → is_err r ≡ true → OnErr r P → P
on_err P (Ok x) e p = absurd (false≢true e)
on_err P (Err x) e p = p

pub invariant_of-made : goal.invariant_of-made
invariant_of-made c =
    let mid = c.add_all.new.pool in
    let views = c.in_ok-views.views.items in
    let spots = c.in_ok-spots.spots.items in
    let blocks = c.args.blocks.items in
    let each : spots ≡ all_single (length blocks) ++ [] = c.in_ok-spots.ensures ∙ ap (λ n. all_single n ++ []) (let e : c.len.result ≡ length blocks = omega (arith, c.len.ensures) in e) in
    let shows = blocks_show c.args.pool.now mid views blocks spots c.in_ok-views.ensures.ok c.requires.single each in
    subst (λ n. AreOn n spots) (numbers_long views) (spots_on mid (numbers_of views) spots shows.stands)

pub consolidate-requires : goal.consolidate-requires
consolidate-requires c =
    let old = c.args.pool.now in
    let mid = c.add_all.new.pool in
    let views = c.in_ok-views.views.items in
    let spots = c.in_ok-spots.spots.items in
    let blocks = c.args.blocks.items in
    let each : spots ≡ all_single (length blocks) ++ [] = c.in_ok-spots.ensures ∙ ap (λ n. all_single n ++ []) (let e : c.len.result ≡ length blocks = omega (arith, c.len.ensures) in e) in
    let shows = blocks_show old mid views blocks spots c.in_ok-views.ensures.ok c.requires.single each in
    record {
      stands = shows_stand mid (numbers_of views) spots (map block_column blocks) shows;
      sole = blocks_sole old mid views blocks spots c.in_ok-views.ensures.ok c.requires.single each;
      rows = subst (λ (cs : List (ColumnOf Cell)). HaveRows (rows_of cs) cs) (sym (shows_columns mid (numbers_of views) spots (map block_column blocks) shows)) c.requires.rows;
    }

pub returns-then-is_err-clause-err : goal.returns-then-is_err-clause-err
returns-then-is_err-clause-err c =
    let old = c.args.pool.now in
    let mid = c.add_all.new.pool in
    let then = c.consolidate.new.pool in
    let new = c.release_all.new.pool in
    let ids = numbers_of c.in_ok-views.views.items in
    let same = on_err _ c.consolidate.result (sym c.if-is_err.ensures.value) c.consolidate.ensures.err in
    let views : numbers_of c.made.inside.views.items ≡ ids = ap (λ (n : ManagerValue). n.views) (c.made.view_is ∙ same.0) in
    lays_gone old ids then new (lays_same old ids mid then c.in_ok-views.ensures.ok.lays same.1) (subst (λ (vs : List ℕ). EndsEach then vs new) views c.release_all.ensures)

pub returns-then-is_err-clause-kept : goal.returns-then-is_err-clause-kept
returns-then-is_err-clause-kept c =
    let old = c.args.pool.now in
    let mid = c.add_all.new.pool in
    let then = c.consolidate.new.pool in
    let new = c.release_all.new.pool in
    let ids = numbers_of c.in_ok-views.views.items in
    let same = on_err _ c.consolidate.result (sym c.if-is_err.ensures.value) c.consolidate.ensures.err in
    let views : numbers_of c.made.inside.views.items ≡ ids = ap (λ (n : ManagerValue). n.views) (c.made.view_is ∙ same.0) in
    stays_kept old new [] (lays_gone old ids then new (lays_same old ids mid then c.in_ok-views.ensures.ok.lays same.1) (subst (λ (vs : List ℕ). EndsEach then vs new) views c.release_all.ensures))

pub returns : goal.returns
returns c =
    let old = c.args.pool.now in
    let mid = c.add_all.new.pool in
    let new = c.consolidate.new.pool in
    let made = c.consolidate.new.self in
    let views = c.in_ok-views.views.items in
    let ids = numbers_of views in
    let spots = c.in_ok-spots.spots.items in
    let blocks = c.args.blocks.items in
    let adds = c.in_ok-views.ensures.ok in
    let each : spots ≡ all_single (length blocks) ++ [] = c.in_ok-spots.ensures ∙ ap (λ n. all_single n ++ []) (let e : c.len.result ≡ length blocks = omega (arith, c.len.ensures) in e) in
    let shows = blocks_show old mid views blocks spots adds c.requires.single each in
    let e = c.consolidate.ensures in
    record {
      columns = on_ok _ c.consolidate.result (sym c.if-is_err.ensures.value) e.columns ∙ shows_columns mid ids spots (map block_column blocks) shows;
      stands = e.stands;
      views = then_views old mid new [] ids made.views (lays_views old ids mid adds.lays) e.views;
      kept = then_kept old mid new [] ids (lays_views old ids mid adds.lays) (lays_keep old ids mid adds.lays) e.kept;
      held = omega (arith, adds.held, e.held);
      joined = on_ok _ c.consolidate.result (sym c.if-is_err.ensures.value) e.joined;
      err = search rules;
    }
