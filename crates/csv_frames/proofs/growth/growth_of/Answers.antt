use Rattle.{
  column_core.proofs.cells.Common.{[], ◌∷◌, ◌++◌, sym, arith},
  csv.specs.Records.{fields_of},
  csv_frames.proofs.{RecordLaws.{one_left, no_header, under_header}, SettledLaws.{longer_self, longer_twice}, GrowthLaws.{more_read, still_short}},
}
use Rattle.csv_frames.proofs.growth.growth_of.Goals as goal

pub returns-then-not-branch-clause-grown : goal.returns-then-not-branch-clause-grown
returns-then-not-branch-clause-grown c =
    rw (no_header c.reader_of-reader.result c.next_record.new.reader c.in_ok-next_record.field-0 _ c.in_ok-next_record.ensures c.args.bytes.now c.reader_of-reader.ensures.records c.if-not-branch.true) (c.in_ok-growth.ensures _)

pub reading-init : goal.reading-init
reading-init c =
    let next = c.in_ok-next_record.ensures in
    let under = under_header c.reader_of-reader.result _ _ _ next c.args.bytes.now c.reader_of-reader.ensures.records c.if-not-branch.false in
    record {
      longer = longer_self _;
      reads = grind arith;
      before = ([], sym under, cc, c.in_ok-growth.ensures _);
    }

pub reading-preserved : goal.reading-preserved
reading-preserved c =
    let row = fields_of _ in
    let one = one_left c.reading.reader _ _ row c.in_ok-next_record-2.ensures c.if-not-branch-2.false in
    record {
      longer = search longer_twice;
      reads = one.1;
      before = (c.reading.invariant.before.0 ++ row ∷ [], search more_read, grind (arith, still_short), grind arith);
    }
