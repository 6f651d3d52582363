use Rattle.{
  frame_parts.proofs.Common.{ℕ, Some, arith, subst, ◌∙◌, ap, charged, tables, table_at},
  column_core.proofs.cells.Common.{is_some},
  frame_store.{specs.Objects.{Raises, blocks_on}, proofs.FormLaws.{lie_but, lie_twice}},
  frame_set.{specs.Changes.{FitsCells}, proofs.{CostLaws.{live_beside, named_is}, PutLaws.{another, kept_there, table_there, replaced}}},
}
use Rattle.frame_set.proofs.changes.carry_change.Goals as goal

pub replace-requires-clause-live : goal.replace-requires-clause-live
replace-requires-clause-live c =
    ap is_some
    (kept_there _ _ _ _ _ c.in_ok-grown-in-Table.ensures.ok
    (grind (arith, another)))
    ∙ c.requires.live

pub replace-requires-clause-by : goal.replace-requires-clause-by
replace-requires-clause-by c =
    ap is_some (table_there _ _ _ _ c.in_ok-grown-in-Table.ensures.ok)

pub returns-in_ok-grown-in-Table-clause-ok : goal.returns-in_ok-grown-in-Table-clause-ok
returns-in_ok-grown-in-Table-clause-ok c =
    grind (arith, replaced (tables c.args.store.now) (tables c.insert.new.self) (tables c.replace.new.self) c.args.on.0 c.in_ok-grown-in-Table.grown.0 c.in-Table.table c.requires.live c.in_ok-grown-in-Table.ensures.fresh c.in_ok-grown-in-Table.ensures.ok c.replace.ensures.ok, c.in-Table.is)

pub returns-in-Cells-clause-held : goal.returns-in-Cells-clause-held
returns-in-Cells-clause-held c =
    let old = c.args.store.now in
    let t = table_at (tables old) c.args.on.0 in
    let fits : FitsCells t c.in-Cells.rows c.in-Cells.columns c.in-Cells.values = rw c.in-Cells.is at c.requires.change in
    rw c.in-Cells.is
    (subst (λ (n : ℕ). Raises (charged n c.set_cells.result) old c.set_cells.new.self) (named_is t c.in-Cells.columns c.requires.whole fits.columns_below) c.set_cells.ensures.held)

pub returns-in_ok-grown-in-Table-clause-blocks : goal.returns-in_ok-grown-in-Table-clause-blocks
returns-in_ok-grown-in-Table-clause-blocks c =
    let old = c.args.store.now in
    let mid = c.insert.new.self in
    let new = c.replace.new.self in
    let added = c.in_ok-grown-in-Table.ensures in
    lie_twice (Some c.args.on.0) (tables old) (tables mid) (tables new) (blocks_on old) (blocks_on mid) (blocks_on new)
    (λ id was is. live_beside (tables old) (tables mid) c.in_ok-grown-in-Table.grown.0 c.in-Table.table added.ok id was)
    (lie_but (Some c.args.on.0) (tables old) (tables mid) (blocks_on old) (blocks_on mid) added.blocks) c.replace.ensures.blocks
