-- Laws that the goals of functions want, by the name of the first that does.
use Rattle.{
  column_core.proofs.cells.Common.{length-map},
  meaning_csv.proofs.DifferentLaws.{labels_differ},
  csv_frames.proofs.{SkippedLaws.{number_within, next_number_of, next_old}, ColumnLaws.{columns_settled, columns_right}, LargeLaws.{wide, count_labels}, FilledLaws.{count_tuples, count_columns, tuples_differ, filled}, ReadLaws.{refused, file_read, answered}},
}

pub ruleset labels_of = (length-map, labels_differ)

pub ruleset next_label = (number_within, next_number_of, next_old)

pub ruleset columns_read = (columns_settled, columns_right)

pub ruleset columns_under = (wide, length-map, count_labels)

pub ruleset labelled_columns = (count_tuples, length-map, count_columns, tuples_differ, filled)

pub ruleset read_csv = (refused, file_read, answered)
