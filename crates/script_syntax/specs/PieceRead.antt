-- What one piece of a text is, and what it adds to a script.
use Rattle.std.specs.Prelude.{◌≡◌, ℕ, ◌-◌, ◌<◌, List, [], ◌∷◌, ◌++◌, Result, Ok, Err}
use Rattle.std.specs.Str.{IsUtf8}
use Rattle.script_tokens.specs.language.Tree as tree
use Rattle.script_tokens.specs.language.Script.{IsBlank, IsStatement, ArePieces, IsFirstWrong, most_statements}
use Rattle.script_tree.specs.View.{action_of}
use Rattle.script_syntax.specs.declared.pieces.PieceRead.{PieceRead}
use Rattle.script_syntax.specs.declared.pieces.PieceRead.TheVariants.{Blank, Statement, Wrong}
use Rattle.script_syntax.specs.declared.pieces.ParseFault.{ParseFault}
use Rattle.script_syntax.specs.declared.pieces.ParseFault.TheVariants.{SyntaxAt, TooLarge, NoMemory}

-- the piece is this statement and no other, and isn't blank
abbrev pub IsOneStatement : tree.Action → List ℕ → Type 0
IsOneStatement action piece = IsUtf8 piece × IsStatement action piece × ((other : tree.Action) → IsStatement other piece → other ≡ action) × (IsBlank piece → ⊥)

abbrev pub IsPieceRead : List ℕ → PieceRead → Type 0
IsPieceRead piece Blank = IsUtf8 piece × IsBlank piece × ((action : tree.Action) → IsStatement action piece → ⊥)
IsPieceRead piece (Statement action) = IsOneStatement (action_of action) piece
IsPieceRead piece Wrong = IsUtf8 piece → (IsBlank piece → ⊥) × ((action : tree.Action) → IsStatement action piece → ⊥)

-- the statements after a piece on this line, and how many may still come; or the line, where the piece isn't right
abbrev pub IsSettled : ℕ → ℕ → PieceRead → List tree.Statement → List tree.Statement → Result ℕ ParseFault → Type 0
IsSettled left line Blank old new (Ok more) = (more ≡ left) × (new ≡ old)
IsSettled left line (Statement action) old new (Ok more) = (0 < left) × (more ≡ left - 1) × (new ≡ old ++ record { line = line; action = action_of action } ∷ [])
IsSettled left line Wrong old new (Ok more) = ⊥
IsSettled left line Blank old new (Err (SyntaxAt at)) = ⊥
IsSettled left line (Statement action) old new (Err (SyntaxAt at)) = (left ≡ 0) × (at ≡ line)
IsSettled left line Wrong old new (Err (SyntaxAt at)) = at ≡ line
IsSettled left line read old new (Err TooLarge) = ⊥
IsSettled left line read old new (Err NoMemory) = Unit {0}

-- Of these pieces some were read, with these statements: what is left is to the statements that are left as all is to all, and the first wrong piece is one of what is left.
pub record Reads (made : List tree.Statement) (left line : ℕ) (rest : List (List ℕ)) (all : List (List ℕ)) : Type 0 where
  pub there : (more : List tree.Statement) → ArePieces left line rest more → ArePieces most_statements 1 all (made ++ more)
  pub back : (ss : List tree.Statement) → ArePieces most_statements 1 all ss → (more : List tree.Statement) × (ss ≡ made ++ more) × ArePieces left line rest more
  pub wrong : (at : ℕ) → IsFirstWrong left line rest at → IsFirstWrong most_statements 1 all at
  pub wrong_back : (at : ℕ) → IsFirstWrong most_statements 1 all at → IsFirstWrong left line rest at
