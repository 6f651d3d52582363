use Rattle.{meaning_json.{proofs.cells.Common.{◌≡◌, ◌∷◌, ◌++◌, [], ap, ◌∙◌, arith}, specs.JsonRead.{cell_kind, cell_found}}, csv_frames.proofs.SettledLaws.{first_of}, json_frames.{specs.{Views.{values_seen, cells_in}}, proofs.ThereLaws.{cell_there, cells_moved, known_there, uniform_there, two_there, none_left, one_there, kind_there_is}}}
use Rattle.json_frames.proofs.columns.kind_there.Goals as goal

pub loop-rest-preserved : goal.loop-rest-preserved
loop-rest-preserved c =
    let l = c.loop-rest in
    let done = l.invariant.0 in
    let x = c.row-item.result in
    let f = c.args.field in
    let front = first_of l.rest.now x c.row-item.is c.in-len1-up.len_at_least in
    let kind : c.kind_found-kind.result ≡ cell_kind (cell_there f x) = c.kind_found-kind.ensures ∙ ap (λ o. cell_kind (cell_found o)) c.find.ensures in (
      done ++ cell_there f x ∷ [],
      cells_moved f l.rest.now x front _ done l.invariant.1,
      known_there f c.args.rows.now l.rest.now x done l.known c.kind_found-kind.result front l.invariant.1 l.invariant.2 kind _ c.first_kind-known.ensures,
      uniform_there f c.args.rows.now l.rest.now x done l.known c.kind_found-kind.result front l.invariant.1 l.invariant.2 kind l.invariant.3 _ c.differ.ensures c.if-differ.false,
    )

pub returns-then-differ : goal.returns-then-differ
returns-then-differ c =
    let l = c.loop-rest in
    let x = c.row-item.result in
    let f = c.args.field in
    let front = first_of l.rest.now x c.row-item.is c.in-len1-up.len_at_least in
    let kind : c.kind_found-kind.result ≡ cell_kind (cell_there f x) = c.kind_found-kind.ensures ∙ ap (λ o. cell_kind (cell_found o)) c.find.ensures in
    two_there f c.args.rows.now l.rest.now x l.invariant.0 l.known c.kind_found-kind.result front l.invariant.1 l.invariant.2 kind _ c.differ.ensures c.if-differ.true

pub returns : goal.returns
returns c =
    let l = c.loop-rest in
    let all : cells_in c.args.field (values_seen c.args.rows.now) ≡ l.invariant.0 = none_left c.args.field l.rest.now _ l.invariant.0 (omega (arith, c.in_default.len_below)) l.invariant.1 in
    (one_there _ l.invariant.0 all l.invariant.3, kind_there_is _ l.invariant.0 l.known c.kind_or_whole.result all l.invariant.2 c.kind_or_whole.ensures)
