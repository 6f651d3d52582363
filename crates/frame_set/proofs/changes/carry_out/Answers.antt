use Rattle.{
  frame_parts.proofs.Common.{IsSome, Some, NumberedTable, ap, arith, subst, Tables, tables, table_at},
  column_core.proofs.cells.Common.{is_some},
  frame_store.{specs.Objects.{blocks_on}, proofs.FormLaws.{lie_but, lie_twice}},
  frame_set.{specs.Changes.{changed, ended}, proofs.{CostLaws.{live_before}, MoveLaws.{ended_beside, others_kept}, PutLaws.{table_there}, SoleLaws.{leaves_beside}}},
}
use Rattle.frame_set.proofs.changes.carry_out.Goals as goal

pub end-requires : goal.end-requires
end-requires c =
    others_kept _ _ _ _ _ c.requires.ends c.in_ok-carry_change-in-Change.ensures.ok

pub returns-in_ok-carry_change-in-Change-clause-ok : goal.returns-in_ok-carry_change-in-Change-clause-ok
returns-in_ok-carry_change-in-Change-clause-ok c =
    let old = tables c.args.store.now in
    grind (arith, ended_beside old (tables c.carry_change.new.store) (tables c.end.new.store) c.args.on (changed (table_at old c.args.on.0) c.in-Change.change) c.args.ends c.requires.ends c.in_ok-carry_change-in-Change.ensures.ok c.end.ensures.ok, c.in-Change.is)

pub returns-in_ok-carry_change-in-Change-clause-blocks : goal.returns-in_ok-carry_change-in-Change-clause-blocks
returns-in_ok-carry_change-in-Change-clause-blocks c =
    let old = c.args.store.now in
    let mid = c.carry_change.new.store in
    let new = c.end.new.store in
    lie_twice (Some c.args.on.0) (tables old) (tables mid) (tables new) (blocks_on old) (blocks_on mid) (blocks_on new)
    (λ id was is. live_before c.args.ends (tables mid) id (subst (λ (live : Tables). IsSome (live id)) c.end.ensures.ok is))
    c.in_ok-carry_change-in-Change.ensures.blocks
    (lie_but (Some c.args.on.0) (tables mid) (tables new) (blocks_on mid) (blocks_on new) c.end.ensures.blocks)

pub returns-in_ok-carry_change-in-Change-clause-sole : goal.returns-in_ok-carry_change-in-Change-clause-sole
returns-in_ok-carry_change-in-Change-clause-sole c =
    let old = tables c.args.store.now in
    let mid = c.carry_change.new.store in
    let new = c.end.new.store in
    let done = c.in_ok-carry_change-in-Change.ensures in
    let t : NumberedTable = changed (table_at old c.args.on.0) c.in-Change.change in
    let put = ended_beside old (tables mid) (tables new) c.args.on t c.args.ends c.requires.ends done.ok c.end.ensures.ok in
    rw c.in-Change.is
    (leaves_beside c.args.store.now mid new c.args.on c.in-Change.change c.end.ensures.blocks
    (ap is_some (table_there old (tables mid) c.args.on.0 t done.ok))
    (ap is_some (table_there (ended c.args.ends old) (tables new) c.args.on.0 t put)) done.sole)
