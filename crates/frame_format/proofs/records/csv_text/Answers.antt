use Rattle.{
  meaning_format.{proofs.cells.Common.{◌∙◌, ap, arith, ◌≡◌, length, IfOk-weaker, na_cell}, specs.{tables.Table.{row_of}, CsvWrite.{row_fields, record_text, csv_text_of}}},
  frame_format.proofs.RecordLaws.{nothing_written, header_written, row_written, rows_written},
}
use Rattle.frame_format.proofs.records.csv_text.Goals as goal

pub loop-row-init : goal.loop-row-init
loop-row-init g c =
    header_written _ _ _ _ (search nothing_written) c.in_ok-write_record.ensures c.in_ok-fill_header.ensures.fields

pub loop-row-preserved : goal.loop-row-preserved
loop-row-preserved g c =
    row_written _ _ _ (λ row. row_fields c.args.index (row_of na_cell c.new-source.result row)) _ _ c.loop-row.invariant c.in_ok-write_record-2.ensures c.in_ok-fill_row.ensures.fields

pub returns : goal.returns
returns g c =
    let t = c.new-source.result in
    let all : c.loop-row.row ≡ length t.labels = omega (arith, c.loop-row-test.false, c.loop-row.auto.row-end, c.rows-row-end.ensures) in
    IfOk-weaker c.words_of.result _ _ (λ words h. h _ c.loop-row.invariant ∙ (cc (rows_written t (λ r. record_text (row_fields c.args.index r)))) ∙ ap (csv_text_of c.args.index) c.new-source.ensures) c.words_of.ensures
