use Rattle.{index_core.proofs.cells.Common.{◌≡◌, ◌∙◌, ap, sym}, index_core.specs.Ranges.{range_labels}, multi_index.{specs.{Kept.{kept_labels}}, proofs.KnownLaws.{place_tells}}}
use Rattle.multi_index.proofs.labels.LevelLabels.code.Goals as goal

pub returns-in-Below : goal.returns-in-Below
returns-in-Below c =
    let seen : range_labels c.in-Below.field-0 ≡ c.args.self.now = ap kept_labels (sym c.in-Below.is) ∙ c.self.view_is in
    rw (sym seen) (c.number_code.ensures c.in-Below.field-0 (rw (sym seen) at c.requires))

pub returns-in-Listed : goal.returns-in-Listed
returns-in-Listed c =
    let seen : c.in-Listed.labels.keys ≡ c.args.self.now = ap kept_labels (sym c.in-Listed.is) ∙ c.self.view_is in
    rw (sym seen) (place_tells c.in-Listed.labels.keys c.args.label _ c.get_index_of.ensures.index (rw (sym seen) at c.requires))
