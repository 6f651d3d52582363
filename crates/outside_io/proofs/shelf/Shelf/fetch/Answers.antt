use Rattle.{
  meaning_cells.proofs.Common.{arith, ◌≡◌, ◌∙◌, None, ap, sym, refl, position, get},
  outside_io.{specs.Shelf.{is_under}, proofs.Under.{get-first, get-none}},
}
use Rattle.outside_io.proofs.shelf.Shelf.fetch.Goals as goal

pub returns-in-Some-clause-held : goal.returns-in-Some-clause-held
returns-in-Some-clause-held = grind (arith, get-first)

pub returns-in-None-clause-absent : goal.returns-in-None-clause-absent
returns-in-None-clause-absent c =
    let path = c.args.path.now in
    let files = c.self.inside.files.items in
    let none : position (is_under path) files ≡ None = grind arith in
    λ _. (ap (λ v. get v.contents path) (sym c.self.view_is) ∙ get-none path files none, refl)
