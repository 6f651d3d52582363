use Rattle.{
  frame_parts.proofs.Common.{Some, arith, ◌∙◌, ap, tables, table_at},
  column_core.proofs.cells.Common.{is_some},
  frame_store.{specs.Objects.{blocks_on}, proofs.FormLaws.{lie_but, lie_twice}},
  frame_set.{specs.Places.{columns_taken}, proofs.{CostLaws.{live_beside}, PutLaws.{another, kept_there, table_there, replaced}}},
}
use Rattle.frame_set.proofs.sharing.replace_by_columns.Goals as goal

pub replace-requires-clause-live : goal.replace-requires-clause-live
replace-requires-clause-live c =
    ap is_some
    (kept_there _ _ _ _ _ c.in_ok-made.ensures.ok
    (grind (arith, another)))
    ∙ c.requires.live

pub replace-requires-clause-by : goal.replace-requires-clause-by
replace-requires-clause-by c =
    ap is_some (table_there _ _ _ _ c.in_ok-made.ensures.ok)

pub returns-clause-ok : goal.returns-clause-ok
returns-clause-ok c =
    replaced (tables c.args.store.now) (tables c.take_columns.new.store) (tables c.replace.new.self) c.args.on.0 c.in_ok-made.made.0 (columns_taken (table_at (tables c.args.store.now) c.args.from.0) c.args.places.now) c.requires.live c.in_ok-made.ensures.fresh c.in_ok-made.ensures.ok c.replace.ensures.ok

pub returns-clause-blocks : goal.returns-clause-blocks
returns-clause-blocks c =
    let old = c.args.store.now in
    let mid = c.take_columns.new.store in
    let new = c.replace.new.self in
    let made = c.in_ok-made.ensures in
    lie_twice (Some c.args.on.0) (tables old) (tables mid) (tables new) (blocks_on old) (blocks_on mid) (blocks_on new)
    (λ id was is. live_beside (tables old) (tables mid) c.in_ok-made.made.0 (columns_taken (table_at (tables old) c.args.from.0) c.args.places.now) made.ok id was)
    (lie_but (Some c.args.on.0) (tables old) (tables mid) (blocks_on old) (blocks_on mid) made.blocks) c.replace.ensures.blocks
