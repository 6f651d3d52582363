use Rattle.{
  frame_parts.proofs.Common.{◌∙◌, sym, refl, arith},
  frame_concat.proofs.BelowLaws.{none_of_parts, beyond_of_parts, many_rows, levels_of_parts, table_is, table_whole},
}
use Rattle.frame_concat.proofs.below.table_below.Goals as goal

pub returns-then-not-all_kinds_meet : goal.returns-then-not-all_kinds_meet
returns-then-not-all_kinds_meet c = (
  none_of_parts _ c.len.ensures.distinct _ c.args.asked.now _ c.requires.given _ c.requires.some c.requires.known c.requires.fit _ c.requires.each c.requires.columns
      (sym c.all_kinds_meet.ensures ∙ c.if-not-all_kinds_meet.true),
  λ more. refl,
)

pub returns-in_default : goal.returns-in_default
returns-in_default c = (
  beyond_of_parts _ c.len.ensures.distinct _ c.args.asked.now _ c.requires.given _ c.requires.some c.requires.known c.requires.fit _ c.requires.each c.requires.columns
      (sym c.all_kinds_meet.ensures ∙ c.if-not-all_kinds_meet.false) (many_rows _ _ c.in_default.ensures),
  λ more. refl,
)

pub returns-then-levels_for-gt4 : goal.returns-then-levels_for-gt4
returns-then-levels_for-gt4 c = (
  levels_of_parts _ c.len.ensures.distinct _ c.args.asked.now _ c.requires.given _ c.requires.some c.requires.known c.requires.fit _ c.requires.each c.requires.columns
      (sym c.all_kinds_meet.ensures ∙ c.if-not-all_kinds_meet.false) _ c.index-parts-0.is (grind arith),
  λ more. refl,
)

pub returns-then-not-within_limits : goal.returns-then-not-within_limits
returns-then-not-within_limits c = (
  beyond_of_parts _ c.len.ensures.distinct _ c.args.asked.now _ c.requires.given _ c.requires.some c.requires.known c.requires.fit _ c.requires.each c.requires.columns
      (sym c.all_kinds_meet.ensures ∙ c.if-not-all_kinds_meet.false) (grind arith),
  λ more. refl,
)

pub new-requires-clause-whole : goal.new-requires-clause-whole
new-requires-clause-whole c =
    rw c.in_ok-headings.ensures (table_whole _ _ _ _ _ _ _ _ c.requires.known c.in_ok-blocks.ensures.columns c.requires.shape c.requires.headings c.requires.each c.name_of_all-columns_name.ensures.name
    (c.in_ok-axis.ensures.count ∙ c.in-Some.ensures.0))

pub returns : goal.returns
returns c =
    table_is _ c.len.ensures.distinct _ c.args.asked.now _ c.requires.given _ c.requires.some c.requires.known c.requires.fit _ c.requires.each c.requires.columns
    (sym c.all_kinds_meet.ensures ∙ c.if-not-all_kinds_meet.false) _ c.index-parts-0.is _ _ _ _ (cc c.in-Some.ensures.0) (grind arith) (grind arith) c.name_of_all-columns_name.ensures.name c.name_of_all-columns_name.ensures.given
    c.in_ok-axis.ensures.axis c.in_ok-axis.ensures.given c.in_ok-blocks.ensures.columns (rw c.in_ok-headings.ensures at c.new.ensures)
