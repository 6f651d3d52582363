use Rattle.frame_labels.proofs.ReindexLaws.{under_table}
use Rattle.frame_labels.proofs.under.under_axis.Goals as goal

pub returns-clause-table : goal.returns-clause-table
returns-clause-table c =
    cc (c.shape.ensures, under_table c.args.on.now c.args.axis c.in_ok-headings.headings c.in_ok-columns.columns c.columns.result c.in_ok-headings.ensures c.in_ok-columns.ensures c.columns.ensures)
