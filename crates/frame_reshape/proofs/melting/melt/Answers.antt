use Rattle.{frame_parts.proofs.Common.{arith, rules, ◌∙◌, ◌≡◌, ap, sym, map, length, true, refl, err_from_is_err_and, table_column, within_limits}, column_core.proofs.cells.Common.{◌*◌}, frame_select.proofs.TakeLaws.{one_more_single}, frame_reshape.{specs.Checks.{kinds_at, are_one}, proofs.{MeltCells.{below_made, below_refused}, MeltTable.{labels_refused, kinds_refused, beyond_so, made_is, parts_fit, columns_made, rows_few, below_few}}}}
use Rattle.frame_reshape.proofs.melting.melt.Goals as goal

pub returns-in_err-kind-clause-answer : goal.returns-in_err-kind-clause-answer
returns-in_err-kind-clause-answer c =
    let p = err_from_is_err_and c.from_residual.result c.from_residual.ensures.1 in
    rw (p.1, p.2) (labels_refused _ c.args.on.now c.args.m.now _ _ refl (c.in_err-kind.ensures.answer c.args.dict.now))

pub returns-then-not-are_of_one_kind-clause-answer : goal.returns-then-not-are_of_one_kind-clause-answer
returns-then-not-are_of_one_kind-clause-answer c = kinds_refused _ c.args.on.now c.args.m.now _ (c.in_ok-kind.ensures.answer c.args.dict.now) (search rules)

pub returns-in_default-clause-answer : goal.returns-in_default-clause-answer
returns-in_default-clause-answer c =
    let columns : c.len-2.result ≡ length c.as_slice.result.now = grind arith in
    beyond_so _ _ c.args.on.now c.args.m.now c.requires.known c.requires.shape c.requires.columns _ (c.in_ok-kind.ensures.answer c.args.dict.now) (search rules) c.in_ok-labels.ensures.longer _ _ c.in_ok-labels.ensures.given c.in_ok-labels.ensures.labels c.as_slice.ensures.value
    ((λ i. within_limits (sym c.rows.ensures i * sym c.len.ensures i) (sym columns i)) ∙ c.in_default.ensures)

pub returns-in-Err-clause-answer : goal.returns-in-Err-clause-answer
returns-in-Err-clause-answer c =
    let t = c.args.on.now in
    let m = c.args.m.now in
    let columns : c.len-2.result ≡ length c.as_slice.result.now = grind arith in
    let counted : c.in-Some.count ≡ length t.labels * length m.values = c.in-Some.ensures.0 ∙ (λ i. c.rows.ensures i * c.len.ensures i) in
    let within : within_limits c.in-Some.count (length c.as_slice.result.now) ≡ true = (λ i. within_limits c.in-Some.count (sym columns i)) ∙ c.in-Some.ensures.1 in
    let one : are_one (kinds_at t m.values) ≡ true = search rules in
    let few = below_few t m c.requires.known.whole c.requires.columns (rows_few (length t.labels) (length m.values) (length c.as_slice.result.now) c.in-Some.count counted within) in
    let are = ap (map table_column) c.deref.ensures.value ∙ c.in_ok-columns_at.ensures.columns in
    rw (c.refusal_of.ensures ∙ below_refused t m.values _ are one few _ c.in-Err.ensures) tt

pub new-requires-clause-single : goal.new-requires-clause-single
new-requires-clause-single c =
    one_more_single _ _ _ _ c.into_block-2.ensures c.in_ok-push-2.ensures.ok (one_more_single _ _ _ _ c.into_block.ensures c.in_ok-push.ensures.ok c.in_ok-blocks.ensures.single)

pub new-requires-clause-whole : goal.new-requires-clause-whole
new-requires-clause-whole c =
    let t = c.args.on.now in
    let m = c.args.m.now in
    let columns : c.len-2.result ≡ length c.as_slice.result.now = grind arith in
    let counted : c.in-Some.count ≡ length t.labels * length m.values = c.in-Some.ensures.0 ∙ (λ i. c.rows.ensures i * c.len.ensures i) in
    let within : within_limits c.in-Some.count (length c.as_slice.result.now) ≡ true = (λ i. within_limits c.in-Some.count (sym columns i)) ∙ c.in-Some.ensures.1 in
    let one : are_one (kinds_at t m.values) ≡ true = search rules in
    let few = below_few t m c.requires.known.whole c.requires.columns (rows_few (length t.labels) (length m.values) (length c.as_slice.result.now) c.in-Some.count counted within) in
    let are = ap (map table_column) c.deref.ensures.value ∙ c.in_ok-columns_at.ensures.columns in
    parts_fit c.args.dict.now _ t m c.requires.known c.requires.shape c.requires.columns c.in_ok-kind.kind (c.in_ok-kind.ensures.answer c.args.dict.now) one c.in_ok-labels.ensures.longer _ _ c.in_ok-labels.ensures.given c.in_ok-labels.ensures.labels c.as_slice.ensures.value
    c.in-Some.count counted within _ c.in_ok-axis.ensures _ c.in_ok-headings.ensures _
    (columns_made t m c.in_ok-kind.kind _ _ _ _ _ _ _ c.in_ok-blocks.ensures.columns c.in_ok-label_column.ensures c.into_block.ensures c.in_ok-push.ensures.ok (below_made t m.values _ are one few _ c.in-Ok.ensures) c.into_block-2.ensures c.in_ok-push-2.ensures.ok)

pub returns-clause-answer : goal.returns-clause-answer
returns-clause-answer c =
    let t = c.args.on.now in
    let m = c.args.m.now in
    let columns : c.len-2.result ≡ length c.as_slice.result.now = grind arith in
    let counted : c.in-Some.count ≡ length t.labels * length m.values = c.in-Some.ensures.0 ∙ (λ i. c.rows.ensures i * c.len.ensures i) in
    let within : within_limits c.in-Some.count (length c.as_slice.result.now) ≡ true = (λ i. within_limits c.in-Some.count (sym columns i)) ∙ c.in-Some.ensures.1 in
    let one : are_one (kinds_at t m.values) ≡ true = search rules in
    let few = below_few t m c.requires.known.whole c.requires.columns (rows_few (length t.labels) (length m.values) (length c.as_slice.result.now) c.in-Some.count counted within) in
    let are = ap (map table_column) c.deref.ensures.value ∙ c.in_ok-columns_at.ensures.columns in
    made_is c.args.dict.now _ t m c.requires.known c.requires.shape c.requires.columns c.in_ok-kind.kind (c.in_ok-kind.ensures.answer c.args.dict.now) one c.in_ok-labels.ensures.longer _ _ c.in_ok-labels.ensures.given c.in_ok-labels.ensures.labels c.as_slice.ensures.value
    c.in-Some.count counted within _ c.in_ok-axis.ensures _ c.in_ok-headings.ensures _
    (columns_made t m c.in_ok-kind.kind _ _ _ _ _ _ _ c.in_ok-blocks.ensures.columns c.in_ok-label_column.ensures c.into_block.ensures c.in_ok-push.ensures.ok (below_made t m.values _ are one few _ c.in-Ok.ensures) c.into_block-2.ensures c.in_ok-push-2.ensures.ok) _ c.new.ensures
