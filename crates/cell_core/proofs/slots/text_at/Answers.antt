use Rattle.{
  std.{proofs.{Common.{◌<◌, ◌≤◌, ◌+◌, [], length, sym, subst, arith}, lemmas.List.{length-map}, Math.ListN.{get_or-eq_default}}, specs.Str.{IsCharBoundary}},
  cell_core.{specs.Slots.{starts_of, texts_of}, proofs.{PieceLaws.{piece_at, start_is_boundary, end_is_boundary, starts_rise}, SlotLaws.{count_seen}}},
}
use Rattle.cell_core.proofs.slots.text_at.Goals as goal

pub returns-then-slots-place : goal.returns-then-slots-place
returns-then-slots-place c =
    let past : length (texts_of c.args.bytes.now c.args.slots.now) ≤ c.args.place = omega (arith, count_seen c.args.bytes.now c.args.slots.now, c.if-slots-place.true) in
    sym (get_or-eq_default (texts_of c.args.bytes.now c.args.slots.now) [] past)

pub range-requires-clause-start_le_end : goal.range-requires-clause-start_le_end
range-requires-clause-start_le_end c =
    let inside : c.args.place < length (starts_of c.args.slots.now) = omega (arith, length-map c.args.slots.now (λ s. s.start), c.if-slots-place.false) in
    omega (arith, c.start_of-start.ensures, c.start_of-end.ensures, starts_rise (starts_of c.args.slots.now) c.args.bytes.now c.args.place c.requires inside)

pub range-requires-clause-start_boundary : goal.range-requires-clause-start_boundary
range-requires-clause-start_boundary c =
    let inside : c.args.place < length (starts_of c.args.slots.now) = omega (arith, length-map c.args.slots.now (λ s. s.start), c.if-slots-place.false) in
    λ _. subst (IsCharBoundary c.args.bytes.now) (sym c.start_of-start.ensures) (start_is_boundary (starts_of c.args.slots.now) c.args.bytes.now c.requires c.args.place inside)

pub range-requires-clause-end_boundary : goal.range-requires-clause-end_boundary
range-requires-clause-end_boundary c = subst (IsCharBoundary c.args.bytes.now) (sym c.start_of-end.ensures) (end_is_boundary (starts_of c.args.slots.now) c.args.bytes.now c.requires (c.args.place + 1))

pub returns : goal.returns
returns c =
    let inside : c.args.place < length (starts_of c.args.slots.now) = omega (arith, length-map c.args.slots.now (λ s. s.start), c.if-slots-place.false) in
    cc (c.range.ensures.value, c.start_of-start.ensures, c.start_of-end.ensures, piece_at (starts_of c.args.slots.now) c.args.bytes.now c.args.place inside)
