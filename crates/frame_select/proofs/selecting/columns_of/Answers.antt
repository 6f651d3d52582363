use Rattle.{
  frame_parts.{proofs.Common.{arith, ◌≡◌, ◌<◌, ℕ, Bool, List, Result, ap, subst, length, All, FaultValue, Entry, NumberedTable, table_value, limited, IsWhole, tables, table_at, world, FormsFor}, specs.form.Select.{columns_frame}},
  meaning_charge.specs.select.Select.{cut},
  frame_select.{specs.Plans.{cut_by, rows_in, share_cells, unless_shared, TakesAll}, proofs.CutLaws.{read_is, without_none, all_rows_cut}},
}
use Rattle.frame_select.proofs.selecting.columns_of.Goals as goal

pub returns : goal.returns
returns c =
    let dict = c.args.dict.now in
    let t = table_at (tables c.args.store.now) c.args.on.0 in
    let plan = c.whole_columns-plan.result in
    let at = read_is _ _ c.read.ensures.table in
    let all : TakesAll t plan.rows = subst (λ (n : NumberedTable). TakesAll n plan.rows) at c.whole_columns-plan.ensures.rows in
    let below : All (λ place. place < length t.columns) plan.columns = subst (λ (l : List ℕ). All (λ place. place < length t.columns) l) (search) c.requires.columns in
    let seen : cut_by plan (table_value dict t) ≡ columns_frame (table_value dict t) c.args.columns =
    grind (arith, without_none (cut (table_value dict t) (rows_in plan.rows) plan.columns), all_rows_cut dict t (rows_in plan.rows) plan.columns (subst IsWhole at c.read.ensures.whole) below all.rows) in
    let old = world c.args.store.now dict in
    let new = world c.take_frame.new.store dict in
    subst (λ (shared : Bool). FormsFor (unless_shared shared) c.take_frame.result (limited (columns_frame (table_value dict t) c.args.columns)) old new) all.shared
    (subst (λ (meant : Result Entry FaultValue). FormsFor (unless_shared (share_cells plan.rows)) c.take_frame.result meant old new) (ap limited seen) c.take_frame.ensures)
