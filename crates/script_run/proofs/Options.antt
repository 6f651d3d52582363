-- What follows for values that may be there.
use Rattle.script_session.proofs.cells.Common.{arith, ◌≡◌, refl, sym, ◌&&◌, ◌||◌, Bool, true, false, Option, Some, IfNone, IfSome}
use Rattle.std.proofs.Common.{not, true≢false}

pub some-weaker : {T : Type 0} (o : Option T) (P Q : T → Type 0) → IfSome o P → ((x : T) → P x → Q x) → IfSome o Q
some-weaker o P Q = grind arith

pub some-always : {T : Type 0} (o : Option T) (Q : T → Type 0) → ((x : T) → Q x) → IfSome o Q
some-always o Q = grind arith

pub none-always : {T : Type 0} (o : Option T) (P : Type 0) → P → IfNone o P
none-always o P = grind arith

-- what follows for the value that is there
pub some-told : {T : Type 0} (o : Option T) (Q : T → Type 0) → ((x : T) → o ≡ Some x → Q x) → IfSome o Q
some-told o Q = grind arith

both : {T : Type 0} (o : Option T) (P P' Q : T → Type 0) → IfSome o P → IfSome o P' → ((x : T) → P x → P' x → Q x) → IfSome o Q
both o P P' Q = grind arith

-- what follows from what is said of one Option, and of one that is equal
pub some-both : {T : Type 0} (o o' : Option T) (P P' Q : T → Type 0) → o' ≡ o → IfSome o P → IfSome o' P' → ((x : T) → P x → P' x → Q x) → IfSome o Q
some-both o _ P P' Q = grind (arith, both)

-- what follows from both, from one of them, and from none
pub both_so : (a b : Bool) → a && not b ≡ true → (a ≡ true) × (b ≡ false)
both_so true false is = (refl, refl)
both_so true true is = absurd (true≢false (sym is))
both_so false b is = absurd (true≢false (sym is))

pub only_so : (a b : Bool) → a && not b ≡ false → a ≡ true → b ≡ true
only_so true true is so = refl
only_so true false is so = absurd (true≢false is)
only_so false b is so = absurd (true≢false (sym so))

pub one_so : (a b : Bool) (P : Type 0) → (a ≡ true → P) → (b ≡ true → P) → a || b ≡ true → P
one_so true b P first second is = first refl
one_so false true P first second is = second refl
one_so false false P first second is = absurd (true≢false (sym is))
