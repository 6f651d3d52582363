-- A statement is read exactly where it is in the grammar and no deeper than the limit.
use Rattle.{
  script_tokens.{proofs.cells.Common.{◌≡◌, List, [], ◌∷◌, Some, None, refl, arith, inl, inr, codes, Text}, specs.language.{Token.{Token, word, mark, equals, close_bracket}, Tree.{Expr, Step, Arg, after, Action, bind, put, drop_column, print}, Grammar.{SpellsEnd, SpellsAction, IsShallow, most_depth}}},
  script_syntax.{specs.Reading.{and_then, or_else, pick, after_mark, after_word, word_at, name_at, target_at, is_reserved, ended, imported, deleted, printed, bound_to, set, assigned, action_read}, proofs.{Tools.{Sound}, Takes.{mark_takes, word_takes, name_takes, target_takes, split_takes, end_takes, no_operator}, Sound.{expr_sound, argument_sound}, Gives.{split_reads, end_reads}, Starts.{expr_starts, Ends, nil_ends, mark_ends, put_no_target}, Complete.{expr_is_read, arg_is_read}}},
}

-- ---- what is read

abbrev IsRead : List Token → Action → Type 0
IsRead ts f = SpellsAction f ts × IsShallow f

import_sound : Sound imported (λ ts. IsRead (word (codes "import") ∷ ts))
unfolding imported ended and_then
import_sound = grind (arith, word_takes)

deleted_sound : Sound deleted (λ ts. IsRead (word (codes "del") ∷ ts))
unfolding deleted ended and_then or_else
deleted_sound = grind (arith, name_takes, mark_takes, expr_sound)

printed_sound : Sound printed (λ ts. IsRead (word (codes "print") ∷ ts))
unfolding printed and_then
printed_sound = grind (arith, mark_takes, expr_sound, end_takes)

assigned_sound : Sound assigned IsRead
unfolding assigned bound_to set ended and_then or_else pick
assigned_sound = grind (arith, target_takes, mark_takes, expr_sound, split_takes, argument_sound)

pub form_sound : Sound action_read IsRead
unfolding action_read or_else
form_sound = grind (arith, word_takes, import_sound, deleted_sound, printed_sound, assigned_sound)

-- ---- what is in the grammar

-- the tokens begin with none of the words that begin a statement
record NoKeyword (ts : List Token) : Type 0 where
  no_import : after_word (codes "import") ts ≡ None
  no_del : after_word (codes "del") ts ≡ None
  no_print : after_word (codes "print") ts ≡ None

read_assigned : (ts : List Token) → NoKeyword ts → action_read ts ≡ assigned ts
unfolding action_read or_else
read_assigned = grind arith

put_complete : (x : Expr) (p : Step) (a : Arg) (ts : List Token) → SpellsAction (put x p a) ts → IsShallow (put x p a) → action_read ts ≡ Some (put x p a)
unfolding assigned set or_else and_then ended pick after_word after_mark
put_complete x p a ts (vs, m, t, s, u) (d, c) =
    let ends : Ends 6 (mark equals ∷ vs) = grind (arith, mark_ends, no_operator) in
    rw (
      read_assigned ts (grind (arith, expr_starts)),
      put_no_target x p ts (mark equals ∷ vs) s,
      m,
      (expr_is_read (after x p)).whole most_depth 6 ts (mark equals ∷ vs) (omega arith) s ends d,
      split_reads x p t,
      arg_is_read a most_depth vs [] u nil_ends c,
    ) refl

end_ends : (end : Text) (ts : List Token) → SpellsEnd end ts → Ends 0 ts
end_ends end ts (inl (s, e)) = rw s (mark_ends _ [] refl)
end_ends end ts (inr s) = rw s (mark_ends _ _ refl)

pub form_complete : (f : Action) (ts : List Token) → SpellsAction f ts → IsShallow f → action_read ts ≡ Some f
unfolding action_read imported deleted printed assigned bound_to set or_else and_then ended pick after_word after_mark name_at word_at is_reserved target_at
form_complete (bind n x) ts (vs, e, h, s) d =
    let r = (expr_is_read x).whole most_depth 0 vs [] (omega arith) s nil_ends d in
    grind (arith, r)
form_complete (put x p a) ts s d = put_complete x p a ts s d
form_complete (drop_column n x) ts (vs, e, h, s) d =
    let r = (expr_is_read x).whole most_depth 0 vs (mark close_bracket ∷ []) (omega arith) s (mark_ends _ [] refl) d in
    grind (arith, r)
form_complete (print x end) ts (vs, ws, e, s, t) d =
    let r = (expr_is_read x).whole most_depth 0 vs ws (omega arith) s (end_ends end ws t) d in
    grind (arith, r, end_reads ws end t)
form_complete _ ts s d = grind arith
