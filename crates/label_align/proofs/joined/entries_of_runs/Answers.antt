use Rattle.{
  meaning_align.{proofs.cells.Common.{drop-drop, sum_by_more, ◌≡◌, ◌∙◌, ◌<◌, List, ℕ, take, drop, length, ap, arith, slice_index_or}, specs.Joins.{lists_of}},
  label_align.{specs.{declared.runs.Run.{Run}, Runs.{no_run, entries_in, rows_in, total}}, proofs.OuterJoinLaws.{lists_more, run_more}},
}
use Rattle.label_align.proofs.joined.entries_of_runs.Goals as goal

pub loop-run-preserved : goal.loop-run-preserved
loop-run-preserved c =
    let count = c.args.count in
    let runs : List Run = c.args.runs.now in
    let rows : List ℕ = c.args.rows.now in
    let k = c.loop-run.run-index in
    let lt : k < length runs = omega arith in
    let run : Run = slice_index_or runs k no_run in
    let more = sum_by_more rows_in runs k no_run lt in
    let here : drop c.loop-run.from rows ≡ drop (total (take k runs)) rows = grind arith in
    record {
      made = lists_more c.loop-run.out c.push_key.new.out _ (entries_in count run (drop (total (take k runs)) rows)) c.loop-run.invariant.made
          (grind (arith, drop-drop))
          ∙ ap lists_of (grind (arith, run_more));
      from = omega arith;
    }
