use Rattle.{index_core.{proofs.{cells.Common.{◌≡◌, ◌∙◌, ap, sym, refl, arith, range_with_len, All-map}, RangeLaws.{length-range_labels}, DifferLaws.{range_differs}}, specs.Ranges.{number_label, range_labels}}, multi_index.{specs.{Kept.{kept_labels}, Levels.{IsPresent, seen_labels}}, proofs.{DistinctLaws.{differ_if_distinct}, SeenLaws.{seen_present, seen_differ}}}}
use Rattle.multi_index.proofs.labels.LevelLabels.len.Goals as goal

pub returns-in-Below-clause-count : goal.returns-in-Below-clause-count
returns-in-Below-clause-count = grind (arith, length-range_labels)

pub returns-in-Below-clause-known : goal.returns-in-Below-clause-known
returns-in-Below-clause-known c =
    let n = c.in-Below.n in
    let seen : range_labels n ≡ c.args.self.now = ap kept_labels (sym c.in-Below.is) ∙ c.self.view_is in
    rw (sym seen) (record { present = All-map IsPresent number_label (range_with_len 0 n) (λ k d lt. refl); differ = range_differs n })

pub returns-in-Listed-clause-known : goal.returns-in-Listed-clause-known
returns-in-Listed-clause-known c =
    let seen : c.in-Listed.labels.keys ≡ c.args.self.now = ap kept_labels (sym c.in-Listed.is) ∙ c.self.view_is in
    rw (sym seen) (record { present = rw c.in-Listed.is at c.self.invariant; differ = differ_if_distinct c.in-Listed.labels.keys c.len.ensures.unique })

pub returns-in-Seen-clause-known : goal.returns-in-Seen-clause-known
returns-in-Seen-clause-known c =
    let rows = c.in-Seen.rows.value in
    let seen : seen_labels rows ≡ c.args.self.now = ap kept_labels (sym c.in-Seen.is) ∙ c.self.view_is in
    rw (sym seen) (record { present = seen_present rows; differ = seen_differ rows })
