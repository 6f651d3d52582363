use Rattle.{meaning_json.{proofs.cells.Common.{◌≡◌, ◌∷◌, ◌++◌, [], List, ap, sym, ◌∙◌, map, datum, arith, Cell, CellValue}, specs.JsonRead.{is_of, cell_kind, cell_found}}, csv_frames.proofs.SettledLaws.{after, first_of, longer_twice, settled_more, seen_more}, json_frames.{specs.Views.{values_seen, cells_in}, proofs.ThereLaws.{cell_there, cells_front, first_held, rest_held, none_left}}}
use Rattle.json_frames.proofs.columns.column_there.Goals as goal

pub push-requires : goal.push-requires
push-requires c =
    let l = c.loop-rest in
    let x = c.row-item.result in
    let f = c.args.field in
    let front = first_of l.rest.now x c.row-item.is c.in-len1-up.len_at_least in
    λ texts.
    c.in_ok-cell.ensures.held l.column.kind texts ∙ ap (λ o. is_of l.column.kind (cell_kind (cell_found o))) c.find.ensures ∙ ap (λ k. is_of k (cell_kind (cell_there f x))) l.invariant.kind
    ∙ first_held c.args.kind f l.rest.now x front l.invariant.held

pub loop-rest-preserved : goal.loop-rest-preserved
loop-rest-preserved c =
    let l = c.loop-rest in
    let x = c.row-item.result in
    let f = c.args.field in
    let new = c.cell_of.new.dict in
    let cell : Cell = c.in_ok-cell.cell in
    let front = first_of l.rest.now x c.row-item.is c.in-len1-up.len_at_least in
    let longer = c.in_ok-cell.ensures.longer in
    let pushed : c.push.new.self.cells ≡ l.column.cells ++ cell ∷ [] = ap (λ k. k.cells) c.in_ok-push.ensures.ok in
    let others : List CellValue = cells_in f (values_seen (after l.rest.now)) in
    let all : List CellValue = cells_in f (values_seen c.args.rows.now) in
    record {
      longer = longer_twice _ _ _ l.invariant.longer longer;
      settled = settled_more datum l.dict new l.column.cells c.push.new.self.cells cell longer l.invariant.settled pushed c.in_ok-cell.ensures.settled;
      kind = ap (λ k. k.kind) c.in_ok-push.ensures.ok ∙ l.invariant.kind;
      cells = seen_more datum l.dict new l.column.cells c.push.new.self.cells cell longer l.invariant.settled pushed (cell_there f x) others all (c.in_ok-cell.ensures.value ∙ ap cell_found c.find.ensures)
          (ap (λ r. map (datum l.dict) l.column.cells ++ r) (sym (cells_front f l.rest.now x front)) ∙ l.invariant.cells);
      held = rest_held c.args.kind f l.rest.now x front l.invariant.held;
    }

pub returns : goal.returns
returns c =
    let l = c.loop-rest in
    let all : cells_in c.args.field (values_seen c.args.rows.now) ≡ map (datum l.dict) l.column.cells = none_left c.args.field l.rest.now _ (map (datum l.dict) l.column.cells) (omega (arith, c.in_default.len_below)) (sym l.invariant.cells) in
    record {
      longer = l.invariant.longer;
      settled = λ more. λ i. record { kind = l.column.kind; cells = l.invariant.settled more i };
      column = λ i. record { kind = l.invariant.kind i; cells = sym all i };
    }
