use Rattle.{
  frame_parts.proofs.Common.{columns_given, columns_part},
  frame_ops.proofs.HeadingLaws.{whole_named, named_makes},
}
use Rattle.frame_ops.proofs.tables.table_met.Goals as goal

pub infix_columns-requires-clause-given : goal.infix_columns-requires-clause-given
infix_columns-requires-clause-given c = columns_given _ _ (columns_part _ _ c.requires.known.given)

pub table_under-requires-clause-whole : goal.table_under-requires-clause-whole
table_under-requires-clause-whole c =
    rw c.in_ok-headings.ensures (whole_named _ _ _ _ c.requires.known.whole c.requires.naming c.in_ok-blocks.ensures.columns)

pub returns-clause-makes : goal.returns-clause-makes
returns-clause-makes c =
    named_makes _ _ _ _ _ _ _ c.infix_columns.ensures.longer c.requires.known.given c.requires.name c.in_ok-headings.ensures c.in_ok-table_under.ensures _ c.in_ok-blocks.ensures.made c.in_ok-blocks.ensures.columns
