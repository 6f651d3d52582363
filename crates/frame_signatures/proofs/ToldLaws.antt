-- What is read of settled arguments is settled.
use Rattle.{
  frame_store.{proofs.{cells.Common.{arith, ◌≡◌, ℕ, List, ◌++◌, Option, Some, Cell, Label, Text, datum, IsGiven, cell_label}, Settling.{cell_given}}, specs.{tables.{Settled.{IsSettled}, Table.{heading_value}, Value.{Given, scalar_in}}, Objects.{Tables}, Arguments.{arguments_of}}},
  std.specs.Option.{option_map},
  frame_signatures.specs.{Bound.{Tells}, declared.bound.Bound.{Bound}},
}

pub told_settled : {A : Type 0} (b : Bound) (place : ℕ) (read : Given → Option A) (told : Tables → List Text → Option A) (live : Tables) (texts : List Text)
    → Tells b place read told → IsSettled (arguments_of live) texts b.args.now → (more : List Text) → told live (texts ++ more) ≡ told live texts
told_settled = grind arith

pub some_same : {A : Type 0} (a b : A) → Some a ≡ Some b → a ≡ b
some_same a b e = cc

pub scalar_given : (b : Bound) (place : ℕ) (c : Cell) (live : Tables) (texts : List Text) → Tells b place scalar_in (λ _ ts. Some (datum ts c)) → IsSettled (arguments_of live) texts b.args.now → IsGiven texts c
scalar_given b place c live texts tells settled =
    cell_given texts c (λ more. some_same _ _ (told_settled b place scalar_in (λ _ ts. Some (datum ts c)) live texts tells settled more))

pub name_given : (b : Bound) (place : ℕ) (o : Option Cell) (name : Option Label) (live : Tables) (texts : List Text) → Tells b place scalar_in (λ _ ts. option_map (datum ts) o)
    → ((ts : List Text) → heading_value ts name ≡ option_map cell_label (option_map (datum ts) o)) → IsSettled (arguments_of live) texts b.args.now → IsSettled heading_value texts name
name_given b place o name live texts tells named settled = λ more.
    cc (named (texts ++ more), named texts, told_settled b place scalar_in (λ _ ts. option_map (datum ts) o) live texts tells settled more)
