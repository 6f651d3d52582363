use Rattle.{
  meaning_json.proofs.cells.Common.{ap, ◌∙◌},
  json_frames.{specs.Labels.{texts_seen}, proofs.LabelLaws.{place_within, refused, label_given, written}},
}
use Rattle.json_frames.proofs.writing.records_text.Goals as goal

pub heading_of-requires : goal.heading_of-requires
heading_of-requires g c =
    place_within c.new-source.result c.args.dict.now (g.G.Grid.table c.args.grid.now) c.as_slice.result.now c.in_ok-place.field-0 c.new-source.ensures (ap texts_seen c.as_slice.ensures.value ∙ c.in_ok-keys.ensures)
    c.in_ok-place.ensures.place c.in-Some.place c.in-Some.is c.in_ok-place.ensures.within

pub returns-in-Some-clause-answer : goal.returns-in-Some-clause-answer
returns-in-Some-clause-answer g c =
    refused c.new-source.result c.args.dict.now (g.G.Grid.table c.args.grid.now) c.as_slice.result.now c.in_ok-place.field-0 c.new-source.ensures (ap texts_seen c.as_slice.ensures.value ∙ c.in_ok-keys.ensures)
    c.in_ok-place.ensures.place c.in-Some.place c.in-Some.is c.in_ok-place.ensures.within c.heading_of.result c.of-label.result (c.heading_of.ensures c.args.dict.now) c.of-label.ensures

pub returns-in-Some-clause-named : goal.returns-in-Some-clause-named
returns-in-Some-clause-named g c =
    label_given (g.G.Grid.table c.args.grid.now) c.in-Some.place c.heading_of.result
    (place_within c.new-source.result c.args.dict.now (g.G.Grid.table c.args.grid.now) c.as_slice.result.now c.in_ok-place.field-0 c.new-source.ensures (ap texts_seen c.as_slice.ensures.value ∙ c.in_ok-keys.ensures)
    c.in_ok-place.ensures.place c.in-Some.place c.in-Some.is c.in_ok-place.ensures.within)
    c.heading_of.ensures c.args.dict.now c.of-label.result c.of-label.ensures

pub returns-clause-answer : goal.returns-clause-answer
returns-clause-answer g c =
    written c.new-source.result c.args.dict.now (g.G.Grid.table c.args.grid.now) c.as_slice.result.now c.in_ok-place.field-0 c.new-source.ensures (ap texts_seen c.as_slice.ensures.value ∙ c.in_ok-keys.ensures)
    c.in_ok-place.ensures.place c.in_ok-text_of_records-in-None.field-0 c.in-None.is c.in_ok-text_of_records-in-None.ensures
