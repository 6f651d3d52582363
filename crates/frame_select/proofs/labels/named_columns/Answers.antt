use Rattle.{
  frame_parts.proofs.Common.{◌≡◌, arith, ◌∙◌, ◌<◌, ap, length, sym, All-push, table_value},
  frame_parts.specs.form.Select.{first_column},
  column_core.proofs.cells.Common.{option_copied},
  frame_select.proofs.{HeadingLaws.{listed_settled, looked_up, looked_inside, labels_seen, place_refused, from_label, one_more}, NamedLaws.{several_seen, several_more, several_given, several_all}},
}
use Rattle.frame_select.proofs.labels.named_columns.Goals as goal

pub returns-in_default-clause-answer : goal.returns-in_default-clause-answer
returns-in_default-clause-answer c =
    let settled = listed_settled _ _ _ _ _ c.at.ensures c.from-label.ensures.1 c.requires.cells in
    let none = looked_up _ _ c.args.on.now _ _ c.len.ensures.distinct c.requires.settled settled c.in_ok-headings.ensures.first c.in_default.ensures.value in
    rw c.missing.ensures (
      search (place_refused, c.from-label.ensures.1),
      search,
    )

pub loop-k-preserved : goal.loop-k-preserved
loop-k-preserved c =
    let t = c.args.on.now in
    let settled = listed_settled _ _ _ _ _ c.at.ensures c.from-label.ensures.1 c.requires.cells in
    let is = ap option_copied (sym c.in-Some.is) ∙ c.get.ensures.value in
    let here = looked_up _ _ t _ _ c.len.ensures.distinct c.requires.settled settled c.in_ok-headings.ensures.first is in
    let texts = c.args.dict.now in
    let labels = labels_seen texts c.args.cells.now in
    let label = from_label texts c.args.cells.now c.loop-k.k _ _ c.at.ensures (c.from-label.ensures.1 _) in
    record {
      places = one_more (first_column (table_value texts t)) labels c.loop-k.k _ _ _ _ _ label here c.in_ok-push.ensures.ok c.loop-k.invariant.places;
      repeated = several_more _ _ _ _ _ c.first_several-repeated.ensures (table_value texts t) labels c.loop-k.k _ label (c.contains.ensures ∙ several_seen _ t _ _ c.len.ensures.distinct c.requires.settled settled c.in_ok-headings.ensures.repeated) c.loop-k.invariant.repeated;
      given = several_given _ _ _ _ _ c.first_several-repeated.ensures c.loop-k.invariant.given settled;
      inside = rw c.in_ok-push.ensures.ok (All-push (λ place. place < length t.columns) c.loop-k.places _ c.loop-k.invariant.inside (looked_inside _ t _ _ c.requires.whole c.in_ok-headings.ensures.first is));
    }

pub returns-clause-repeated : goal.returns-clause-repeated
returns-clause-repeated c =
    let end : c.loop-k.k ≡ length c.args.cells.now = grind arith in
    several_all c.args.dict.now (table_value c.args.dict.now c.args.on.now) _ c.args.cells.now c.loop-k.k _ end c.loop-k.invariant.repeated
