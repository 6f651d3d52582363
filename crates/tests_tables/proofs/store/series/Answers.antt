use Rattle.{
  column_core.proofs.cells.Common.{◌≡◌, ◌∙◌, ◌++◌, [], ◌∷◌, None, Some, map, ap, subst, IfOk, Series},
  frame_store.{specs.{tables.Table.{NumberedTable}, Parts.{HeadingList, table_with, block_column}, Objects.{tables, with_object}}, proofs.ObjectLaws.{added_is_live}},
}
use Rattle.tests_tables.proofs.store.series.Goals as goal

pub returns-clause-live : goal.returns-clause-live
returns-clause-live c = added_is_live c.add.result (tables c.args.store.now) (tables c.add.new.self) _ c.add.ensures.ok

pub returns-clause-added : goal.returns-clause-added
returns-clause-added c =
    subst (λ (t : NumberedTable). IfOk c.add.result (λ id. tables c.add.new.self ≡ with_object (tables c.args.store.now) id.0 (Some t)))
    (λ j. table_with Series (c.in_ok-axis.ensures j) ((c.in_ok-push.ensures.ok ∙ ap (λ (h : HeadingList). record h { labels = h.labels ++ None ∷ [] }) c.new-headings.ensures) j) (map block_column ((c.in_ok-push-2.ensures.ok ∙ ap (λ l. l ++ c.args.block ∷ []) c.new-blocks.ensures) j))) c.add.ensures.ok
