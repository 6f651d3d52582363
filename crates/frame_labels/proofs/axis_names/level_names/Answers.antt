use Rattle.{
  frame_parts.proofs.Common.{arith, ◌≡◌, [], ◌∷◌, rules},
  frame_signatures.proofs.{ScalarLaws.{scalars_are}, ToldLaws.{some_same}},
  column_core.proofs.CellRows.{map-map},
  frame_labels.proofs.{LevelNameLaws.{single_name}, axis_names.level_names.Goals.{in-Some+in_ok-push_names-in-Some, in-None+in_ok-push-in-None}},
}
use Rattle.frame_labels.proofs.axis_names.level_names.Goals as goal

pub returns : goal.returns
returns c = λ live texts.
    elim c.match-list_or_none.branch [
      | in-Some+in_ok-push_names-in-Some w ↦ grind (arith, scalars_are, map-map, some_same)
      | in-None+in_ok-push-in-None w ↦
          let one : c.match-list_or_none.names.items ≡ w.name_of.result ∷ [] = search rules in
          single_name _ _ _ _ (w.in-None.ensures.value live texts)
          (cc (w.name_of.ensures texts, w.scalar_or_none.ensures live texts)) one
    ]
