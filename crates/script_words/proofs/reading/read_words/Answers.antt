use Rattle.std.proofs.Common.{◌∙◌, ap₂, List, ℕ, Option, map, string_bytes}
use Rattle.clap.specs.Words.{app_of, found_of, one_text}
use Rattle.meaning_words.specs.Words.{Flag, Flags, has_flag, keep_going, stats}
use Rattle.meaning_words.specs.Words as meaning
use Rattle.script_words.specs.CommandLine.{flag_name}
use Rattle.script_words.proofs.Parsed.{IsFlag, are_texts, faulted, helped, parsed}
use Rattle.script_words.proofs.reading.read_words.Goals as goal

-- what is so of both flags
both : (P : Flag → Type 0) → P stats → P keep_going → (f : Flag) → P f
both P first second stats = first
both P first second keep_going = second

pub returns-in-Ok : goal.returns-in-Ok
returns-in-Ok c =
    let flags : Flags = record { stats = c.get_flag.result; keep_going = c.get_flag-in-Ok.result } in
    ap₂ (λ (d : Option (List ℕ)) (p : List (List ℕ)). meaning.read (record { flags = flags; demo = d; plain = p })) c.get_str.ensures c.in_ok-plain_words-in-Ok.ensures
    ∙ parsed (app_of c.in_ok-command.field-0) (map string_bytes c.args.words.now) c.in-Ok.matches flags c.in_ok-command.ensures (are_texts c.args.words.now)
    c.in-Ok.ensures.matches c.in-Ok.ensures.kinds
    (both (λ f. IsFlag (one_text (found_of c.in-Ok.matches) (flag_name f)) (has_flag f flags)) (c.get_flag.ensures.value, c.get_flag.ensures.other) (c.get_flag-in-Ok.ensures.value, c.get_flag-in-Ok.ensures.other))

pub returns-in-DisplayHelp : goal.returns-in-DisplayHelp
returns-in-DisplayHelp c =
    helped (app_of c.in_ok-command.field-0) (map string_bytes c.args.words.now) c.in-Err.error c.in_ok-command.ensures (are_texts c.args.words.now)
    c.in-Err.ensures.kinds c.in-DisplayHelp.ensures

pub returns : goal.returns
returns c =
    faulted (app_of c.in_ok-command.field-0) (map string_bytes c.args.words.now) c.in-Err.error c.in_ok-command.ensures (are_texts c.args.words.now)
    c.in-Err.ensures.kinds (λ e. c.in_default.not-DisplayHelp (c.kind.ensures ∙ e)) (λ e. c.in_default.not-OutOfMemory (c.kind.ensures ∙ e))
