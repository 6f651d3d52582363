use Rattle.{
  meaning_pick.{proofs.cells.Common.{arith, ◌∙◌, ap, Some, position_from}, specs.Rows.{are_some}},
  index_core.{specs.Labels.{same_number}, proofs.LinkLaws.{rest_from, HasLabel, rows_left, label_there, rows_from_first, read_next, fewer_left, pushed_row, are_some_from}},
}
use Rattle.index_core.proofs.found.Links.push_rows.Goals as goal

pub loop-rest-init : goal.loop-rest-init
loop-rest-init c =
    let is = c.copied-first.ensures ∙ c.get.ensures.value ∙ c.self.invariant.first c.args.label ∙ ap (position_from (same_number c.args.label) 0) c.self.view_is in
    record {
      walked = search rows_from_first;
      has = label_there _ _ 0 _ is;
    }

pub loop-rest-smaller : goal.loop-rest-smaller
loop-rest-smaller c =
    let labels = c.args.self.now in
    let links = rw c.self.view_is at c.self.invariant.next in
    let has : HasLabel labels c.args.label (Some c.in-Some.row) = grind arith in
    let next = read_next _ _ _ _ _ links has c.index-rest.ensures in
    grind (arith, rows_left, fewer_left)

pub loop-rest-preserved : goal.loop-rest-preserved
loop-rest-preserved c =
    let labels = c.args.self.now in
    let links = rw c.self.view_is at c.self.invariant.next in
    let has : HasLabel labels c.args.label (Some c.in-Some.row) = grind arith in
    let next = read_next _ _ _ _ _ links has c.index-rest.ensures in
    record {
      walked = pushed_row _ _ _ _ _ _ _ next c.in_ok-push.ensures.ok
          (grind (arith, rest_from));
      has = search label_there;
    }

pub returns-clause-some : goal.returns-clause-some
returns-clause-some c =
    let is = c.copied-first.ensures ∙ c.get.ensures.value ∙ c.self.invariant.first _ ∙ ap (position_from (same_number c.args.label) 0) c.self.view_is in
    c.is_some.ensures ∙ are_some_from (same_number c.args.label) c.args.self.now _ ∙ ap are_some (search rows_from_first)
