use Rattle.{std.{proofs.{Common.{◌≡◌, ◌≤◌, ◌+◌, ◌%◌, ◌^◌, ◌∙◌, length, false, nat_eq, position, None, sym, ap, subst, arith}, lemmas.List.{length-map}}, specs.Str.{bytes_eq}}, cell_core.{specs.{Keys.{key_at, key_place, IsFree}, Slots.{keys_of, texts_of}}, proofs.{KeyLaws.{full, others_more}, SlotLaws.{at_key, no_key, free_at}}}}
use Rattle.cell_core.proofs.slots.find.Goals as goal

pub returns-in_default-clause-free : goal.returns-in_default-clause-free
returns-in_default-clause-free c =
    let key : (c.hash_of-hash.result + c.loop-attempt.attempt) % 2 ^ 64 ≡ key_at c.args.text.now c.loop-attempt.attempt = ap (λ h. (h + c.loop-attempt.attempt) % 2 ^ 64) c.hash_of-hash.ensures in
    let none : None ≡ position (λ s. nat_eq ((c.hash_of-hash.result + c.loop-attempt.attempt) % 2 ^ 64) s.key) c.args.slots.now.keys = cc (c.in_default.is, c.in_default.ensures.index, c.get_index_of.ensures.index) in
    let unused : length (keys_of c.args.slots.now.keys) ≤ key_place (keys_of c.args.slots.now.keys) (key_at c.args.text.now c.loop-attempt.attempt) = subst (λ k. length (keys_of c.args.slots.now.keys) ≤ key_place (keys_of c.args.slots.now.keys) k) key (no_key c.args.slots.now.keys ((c.hash_of-hash.result + c.loop-attempt.attempt) % 2 ^ 64) none) in
    subst (IsFree (texts_of c.args.bytes.now c.args.slots.now.keys) (keys_of c.args.slots.now.keys) c.args.text.now) (sym key)
    (free_at (texts_of c.args.bytes.now c.args.slots.now.keys) (keys_of c.args.slots.now.keys) c.args.text.now c.loop-attempt.attempt c.requires.keyed c.loop-attempt.invariant unused)

pub loop-attempt-preserved : goal.loop-attempt-preserved
loop-attempt-preserved c =
    let key : (c.hash_of-hash.result + c.loop-attempt.attempt) % 2 ^ 64 ≡ key_at c.args.text.now c.loop-attempt.attempt = ap (λ h. (h + c.loop-attempt.attempt) % 2 ^ 64) c.hash_of-hash.ensures in
    let at = at_key c.args.slots.now.keys ((c.hash_of-hash.result + c.loop-attempt.attempt) % 2 ^ 64) c.in-Some.place c.in-Some.ensures.index in
    let size = length-map c.args.slots.now.keys (λ s. s.key) in
    let differs : bytes_eq c.text_at.result.now c.args.text.now ≡ false = cc (c.if-eq.false, c.eq.ensures) in
    others_more (texts_of c.args.bytes.now c.args.slots.now.keys) (keys_of c.args.slots.now.keys) c.args.text.now c.text_at.result.now c.loop-attempt.attempt c.in-Some.place c.loop-attempt.invariant
    (ap (key_place (keys_of c.args.slots.now.keys)) (sym key) ∙ at.0) (omega (arith, at.1)) (cc (c.text_at.ensures, c.as_slice.ensures.keys)) differs

pub unreachable-requires : goal.unreachable-requires
unreachable-requires c =
    let all = full (texts_of c.args.bytes.now c.args.slots.now.keys) (keys_of c.args.slots.now.keys) c.args.text.now c.loop-attempt.attempt (omega (arith, c.loop-attempt.auto.attempt-end, c.len.ensures.small)) c.loop-attempt.invariant in
    let size = length-map c.args.slots.now.keys (λ s. s.key) in
    omega (arith, c.loop-attempt-test.false, c.len.ensures.len)
