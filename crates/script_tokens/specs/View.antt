-- What the code's values stand for.
use Rattle.std.specs.Prelude.{List, map}
use Rattle.meaning_language.specs.Tree as tree
use Rattle.meaning_language.specs.Token as spec
use Rattle.meaning_language.specs.Pieces as pieces
use Rattle.script_tokens.specs.declared.token.Binary.{Binary}
use Rattle.script_tokens.specs.declared.token.Binary.TheVariants as binary
use Rattle.script_tokens.specs.declared.token.Mark.{Mark}
use Rattle.script_tokens.specs.declared.token.Mark.TheVariants as mark
use Rattle.script_tokens.specs.declared.token.Token.{Token}
use Rattle.script_tokens.specs.declared.token.Token.TheVariants as token
use Rattle.script_tokens.specs.declared.piece.Mode.{Mode}
use Rattle.script_tokens.specs.declared.piece.Mode.TheVariants as mode

abbrev pub binary_of : Binary → tree.Binary
binary_of binary.Add = tree.add
binary_of binary.Sub = tree.sub
binary_of binary.Mul = tree.mul
binary_of binary.FloorDiv = tree.floor_div
binary_of binary.Mod = tree.mod_
binary_of binary.Eq = tree.eq
binary_of binary.Ne = tree.ne
binary_of binary.Lt = tree.lt
binary_of binary.Le = tree.le
binary_of binary.Gt = tree.gt
binary_of binary.Ge = tree.ge
binary_of binary.And = tree.and
binary_of binary.Or = tree.or
binary_of binary.Xor = tree.xor

abbrev pub mark_of : Mark → spec.Mark
mark_of mark.Equals = spec.equals
mark_of mark.Dot = spec.dot
mark_of mark.Comma = spec.comma
mark_of mark.Colon = spec.colon
mark_of mark.Tilde = spec.tilde
mark_of mark.OpenParen = spec.open_paren
mark_of mark.CloseParen = spec.close_paren
mark_of mark.OpenBracket = spec.open_bracket
mark_of mark.CloseBracket = spec.close_bracket
mark_of mark.OpenBrace = spec.open_brace
mark_of mark.CloseBrace = spec.close_brace

abbrev pub token_of : Token → spec.Token
token_of (token.Word w) = spec.word w.now
token_of (token.Int n) = spec.int n
token_of (token.Text w) = spec.text w
token_of (token.Op o) = spec.op (binary_of o)
token_of (token.Mark m) = spec.mark (mark_of m)

abbrev pub tokens_of : List Token → List spec.Token
tokens_of ts = map token_of ts

abbrev pub mode_of : Mode → pieces.Mode
mode_of mode.Plain = pieces.plain
mode_of mode.Comment = pieces.comment
mode_of (mode.Quoted q) = pieces.quoted q
mode_of (mode.Escaped q) = pieces.escaped q
