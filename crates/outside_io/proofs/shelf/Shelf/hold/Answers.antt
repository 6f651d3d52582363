use Rattle.{
  meaning_cells.proofs.Common.{length-append, arith, ◌≡◌, None, rules, on_ok_weaker, position},
  outside_io.{proofs.{Held.{reading_bytes-push}, Shelving.{replaced_kept, replaced_shelved, pushed_shelved}}, specs.Shelf.{is_under}},
}
use Rattle.outside_io.proofs.shelf.Shelf.hold.Goals as goal

pub invariant_of-self : goal.invariant_of-self
invariant_of-self c =
    replaced_kept _ _ _ _ c.in-Some.place _ c.in_ok-bytes.bytes _ c.replace_bytes-replaced.ensures.new c.keep_reading.ensures c.replace_bytes-replaced.ensures.old c.self.invariant

pub invariant_of-self-in-None : goal.invariant_of-self-in-None
invariant_of-self-in-None = grind (arith, reading_bytes-push, length-append)

pub returns-in-Some-clause-ok : goal.returns-in-Some-clause-ok
returns-in-Some-clause-ok = grind (arith, replaced_shelved)

pub returns-in-None-clause-ok : goal.returns-in-None-clause-ok
returns-in-None-clause-ok c =
    let none : position (is_under c.args.path.now) c.self.inside.files.items ≡ None = grind arith in
    let same : c.in_ok-bytes.bytes.items ≡ c.args.bytes.now = search rules in
    on_ok_weaker c.push_file.result (pushed_shelved _ _ _ _ c.args.path.now c.in_ok-bytes.bytes c.args.self.now _ none same c.self.invariant.0 c.self.view_is) c.push_file.ensures.ok
