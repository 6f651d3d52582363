use Rattle.{
  frame_parts.proofs.Common.{◌≡◌, ◌<◌, ◌∙◌, ap, arith, length, All, IsSome, NumberedTable, Some, subst, sym, Tables, tables, table_at, table_or, IsWhole, block_column},
  column_core.proofs.cells.Common.{is_some},
  frame_store.{specs.Objects.{blocks_on, changing}, proofs.FormLaws.{lie_but, lie_twice}},
  frame_set.{specs.{Assigned.{with_places}, Places.{column_first, columns_taken}}, proofs.{CostLaws.{live_before, live_beside}, PutLaws.{another, kept_there, table_there}, SharingLaws.{in_places, no_more, picks_inside, put_done, put_held, put_undone, wide_left}}},
}
use Rattle.frame_set.proofs.sharing.put_in_places.Goals as goal

pub replace_by_columns-done-requires-clause-live : goal.replace_by_columns-done-requires-clause-live
replace_by_columns-done-requires-clause-live c =
    ap is_some
    (kept_there _ _ _ _ _ c.in_ok-wide.ensures.ok
    (grind (arith, another)))
    ∙ c.requires.live

pub replace_by_columns-done-requires-clause-from : goal.replace_by_columns-done-requires-clause-from
replace_by_columns-done-requires-clause-from c =
    ap is_some (table_there _ _ _ _ c.in_ok-wide.ensures.ok)

pub replace_by_columns-done-requires-clause-frame : goal.replace_by_columns-done-requires-clause-frame
replace_by_columns-done-requires-clause-frame c =
    let there = ap table_or (table_there _ _ _ _ c.in_ok-wide.ensures.ok) in
    ap (λ (t : NumberedTable). t.shape) there ∙ c.requires.fits.frame

pub replace_by_columns-done-requires-clause-places : goal.replace_by_columns-done-requires-clause-places
replace_by_columns-done-requires-clause-places c =
    let t = table_at (tables c.args.store.now) c.args.on.0 in
    let there = ap table_or (table_there _ _ _ _ c.in_ok-wide.ensures.ok) in
    subst (λ (w : NumberedTable). All (λ place. place < length w.columns) c.in_ok-picks.picks) (sym there)
    (picks_inside t c.args.label (block_column c.args.block) _ c.args.places.now _ (grind arith) c.in_ok-picks.ensures)

pub drop_object-requires : goal.drop_object-requires
drop_object-requires c =
    let done = c.replace_by_columns-done in
    wide_left done.result (tables c.args.store.now) (tables c.derive_first.new.store) (tables done.new.store) (tables done.new.store) c.args.on.0 c.in_ok-wide.wide.0 (table_at (tables c.args.store.now) c.args.on.0) _ done.ensures.ok done.ensures.err
    (ap is_some (table_there _ _ _ _ c.in_ok-wide.ensures.ok))

pub returns-clause-ok : goal.returns-clause-ok
returns-clause-ok c =
    let t = table_at (tables c.args.store.now) c.args.on.0 in
    let column = block_column c.args.block in
    let same : c.read.result ≡ t = sym (ap table_or c.read.ensures.table) in
    let whole : IsWhole t = subst IsWhole same c.read.ensures.whole in
    let there : table_at (tables c.derive_first.new.store) c.in_ok-wide.wide.0 ≡ column_first t c.args.label column = ap table_or (table_there _ _ _ _ c.in_ok-wide.ensures.ok) in
    let made : columns_taken (table_at (tables c.derive_first.new.store) c.in_ok-wide.wide.0) c.in_ok-picks.picks ≡ with_places t c.args.places.now c.args.label column =
    ap (λ (w : NumberedTable). columns_taken w c.in_ok-picks.picks) there ∙ in_places t c.args.label column _ c.args.places.now _ whole (grind arith) c.requires.fits.inside c.in_ok-picks.ensures in
    let done = c.replace_by_columns-done in
    put_done done.result (tables c.args.store.now) (tables c.derive_first.new.store) (tables done.new.store) (tables c.drop_object.new.self) c.args.on.0 c.in_ok-wide.wide.0 _ _ _ done.ensures.ok c.in_ok-wide.ensures.ok c.in_ok-wide.ensures.fresh c.requires.live c.drop_object.ensures.ok made

pub returns-clause-err : goal.returns-clause-err
returns-clause-err c =
    let done = c.replace_by_columns-done in
    put_undone done.result (tables c.args.store.now) (tables c.derive_first.new.store) (tables done.new.store) (tables c.drop_object.new.self) c.args.on.0 c.in_ok-wide.wide.0 _ (table_at (tables c.args.store.now) c.args.on.0) done.ensures.err c.in_ok-wide.ensures.ok c.in_ok-wide.ensures.fresh c.drop_object.ensures.ok

pub returns-clause-blocks : goal.returns-clause-blocks
returns-clause-blocks c =
    let old = c.args.store.now in
    let mid = c.derive_first.new.store in
    let after = c.replace_by_columns-done.new.store in
    let new = c.drop_object.new.self in
    let done = c.replace_by_columns-done in
    let but = changing c.args.on.0 done.result in
    let first = lie_but but (tables old) (tables mid) (blocks_on old) (blocks_on mid) c.in_ok-wide.ensures.blocks in
    let both = lie_twice but (tables old) (tables mid) (tables after) (blocks_on old) (blocks_on mid) (blocks_on after)
    (λ id was is. live_beside (tables old) (tables mid) c.in_ok-wide.wide.0 _ c.in_ok-wide.ensures.ok id was) first done.ensures.blocks in
    lie_twice but (tables old) (tables after) (tables new) (blocks_on old) (blocks_on after) (blocks_on new)
    (λ id was is. live_before (Some c.in_ok-wide.wide) (tables after) id (subst (λ (live : Tables). IsSome (live id)) c.drop_object.ensures.ok is)) both
    (lie_but but (tables after) (tables new) (blocks_on after) (blocks_on new) c.drop_object.ensures.blocks)

pub returns-clause-held : goal.returns-clause-held
returns-clause-held c =
    let done = c.replace_by_columns-done in
    put_held done.result c.args.store.now c.derive_first.new.store done.new.store c.drop_object.new.self (length (table_at (tables c.args.store.now) c.args.on.0).labels) c.in_ok-wide.ensures.held done.ensures.held c.drop_object.ensures.held
    (no_more c.args.store.now c.drop_object.new.self c.args.on.0 done.result c.held.ensures.once c.held-2.ensures.once (returns-clause-err c) (returns-clause-blocks c))
