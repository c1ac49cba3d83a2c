-- Options that stand as two words each.
use Rattle.sedona_words.specs.Command.{RunAsked}
use Rattle.std.proofs.Common.{◌≡◌, Bool, true, false, List, [], ◌∷◌, ◌++◌, Option, Some, None, refl, sym, ap, ap₂, ◌∙◌}
use Rattle.std.specs.Prelude.{◌==◌, if◌then◌else◌, is_some, fold, nat_lt}
use Rattle.std.specs.Str.{bytes_eq}
use Rattle.std.specs.Option.{option_and_then, option_map_or}
use Rattle.clap.specs.Lexer.{long_of, short_of}
use Rattle.clap.specs.Walk.{Held, Row, Rule, Step, Text, Waiting, Walk, after_step, long_or_other, next, option_word, pending_count, plain_word, short_or_plain, subcommand_or_other, trailing, arg_by_id, finished, idle, is_empty, most_values, nothing_held, option, settled, walk_from, walked}
use Rattle.clap.specs.Simple.{Shape, built, entered}
use Rattle.clap.specs.Kinds.{Kinds, or_else}
use Rattle.clap.specs.Faults.{bundle_fault, check_fault, defaults_fault, entered_fault, flag_word_fault, settle_fault, step_fault, turn_fault, walk_fault, word_fault}
use Rattle.sedona_words.specs.Run.{run_command, run_in, run_of}
use Rattle.sedona_words.specs.Values.{is_plain}
use Rattle.std.proofs.lemmas.Bool.{not-true as no_hyphen}

abbrev pub shape : Shape
shape = (built run_command).top

abbrev pub rules : List Rule
rules = shape.rules

-- between two options, with what was found of those before the last, and the last with its value
abbrev pub between : List Row → Option (Text × List Text) → Walk
between rows pending = record {
  held = record { rows = rows; pending = pending; skip = 0 };
  waiting = idle;
  position = 1;
  is_trailing = false;
  stopped = None;
}

-- behind the name of an option
abbrev waits_for : List Row → Text → Walk
waits_for rows name = record {
  held = record { rows = rows; pending = Some (name, []); skip = 0 };
  waiting = option name;
  position = 1;
  is_trailing = false;
  stopped = None;
}

-- such a value is no flag
no_dashes : (value : Text) → is_plain value ≡ true → bytes_eq value (45 ∷ 45 ∷ []) ≡ false
no_dashes [] plain = refl
no_dashes (x ∷ xs) plain = rw (no_hyphen (x == 45) plain) refl

no_long : (value : Text) → is_plain value ≡ true → long_of value ≡ None
no_long [] plain = refl
no_long (x ∷ xs) plain = rw (no_hyphen (x == 45) plain) refl

no_short : (value : Text) → is_plain value ≡ true → short_of value ≡ None
no_short [] plain = refl
no_short (x ∷ xs) plain = rw (no_hyphen (x == 45) plain) refl

-- so it is a value
value_met : (c : List Rule) (waiting : Waiting) (h : Held) (value : Text) → is_plain value ≡ true
    → subcommand_or_other c None waiting 1 value h ≡ plain_word c waiting value h
value_met c waiting h value plain =
    ap (λ (b : Bool). if b then (h, trailing 1) else long_or_other c waiting value (long_of value) h) (no_dashes value plain)
    ∙ ap (λ (l : Option (Text × Option Text)). long_or_other c waiting value l h) (no_long value plain)
    ∙ ap (λ (s : Option Text). short_or_plain c waiting value s h) (no_short value plain)

counted : (a : Rule) (name value : Text) → bytes_eq name a.id ≡ true → most_values a ≡ 1
    → (if nat_lt (pending_count a (Some (name, value ∷ []))) (most_values a) then option name else idle) ≡ idle
counted a name value same one = rw (same, one) refl

value_walked : (c : List Rule) (a : Rule) (rows : List Row) (name value : Text) → is_plain value ≡ true → arg_by_id c name ≡ Some a
    → bytes_eq name a.id ≡ true → most_values a ≡ 1 → walked c [] (waits_for rows name) value ≡ between rows (Some (name, value ∷ []))
unfolding walked
value_walked c a rows name value plain known same one =
    ap (λ (m : Held × Step). after_step c value (waits_for rows name) m.0 m.1) (value_met c (option name) (waits_for rows name).held value plain)
    ∙ ap (λ (o : Option Rule). after_step c value (waits_for rows name) (option_word o name value (waits_for rows name).held).0 (next (option_word o name value (waits_for rows name).held).1)) known
    ∙ ap (λ (w : Waiting). record (between rows (Some (name, value ∷ []))) { waiting = w }) (counted a name value same one)

value_passes : (s : Shape) (rows : List Row) (name value : Text) → is_plain value ≡ true → turn_fault s [] (waits_for rows name) value ≡ []
value_passes s rows name value plain =
    let h = (waits_for rows name).held in
    ap (λ (m : Held × Step). or_else (word_fault s [] false (option name) value h) (step_fault s 1 m.0 m.1)) (value_met s.rules (option name) h value plain)
    ∙ ap (λ (b : Bool). or_else (if b then [] else flag_word_fault s.rules s.args_override_self (long_of value) value h) []) (no_dashes value plain)
    ∙ ap (λ (l : Option (Text × Option Text)). or_else (flag_word_fault s.rules s.args_override_self l value h) []) (no_long value plain)
    ∙ ap (λ (o : Option Text). or_else (option_map_or (λ flags. bundle_fault s.rules s.args_override_self flags h) o []) []) (no_short value plain)

-- ---- what a walk makes of words, and what it goes on with

pub record Reads (words : List Text) (from to : Walk) : Type 0 where
  pub walks : (rest : List Text) → fold (walked rules []) from (words ++ rest) ≡ fold (walked rules []) to rest
  pub passes : (rest : List Text) → walk_fault shape [] from (words ++ rest) ≡ walk_fault shape [] to rest

fault_then : (w : Walk) (word : Text) (rest : List Text) → turn_fault shape [] w word ≡ [] → walk_fault shape [] w (word ∷ rest) ≡ walk_fault shape [] (walked rules [] w word) rest
unfolding walk_fault
fault_then w word rest none = ap (λ (k : Kinds). or_else k (walk_fault shape [] (walked rules [] w word) rest)) none

-- an option and its value
pub pair_reads : (a : Rule) (rows after : List Row) (pending : Option (Text × List Text)) (word name value : Text) → is_plain value ≡ true
    → walked rules [] (between rows pending) word ≡ waits_for after name → turn_fault shape [] (between rows pending) word ≡ []
    → arg_by_id rules name ≡ Some a → bytes_eq name a.id ≡ true → most_values a ≡ 1
    → Reads (word ∷ value ∷ []) (between rows pending) (between after (Some (name, value ∷ [])))
pair_reads a rows after pending word name value plain named passed known same one =
    let taken = value_walked rules a after name value plain known same one in
    record {
      walks = λ rest. ap (λ (w : Walk). fold (walked rules []) (walked rules [] w value) rest) named ∙ ap (λ (w : Walk). fold (walked rules []) w rest) taken;
      passes = λ rest. fault_then (between rows pending) word (value ∷ rest) passed
          ∙ ap (λ (w : Walk). walk_fault shape [] w (value ∷ rest)) named
          ∙ fault_then (waits_for after name) value rest (value_passes shape after name value plain)
          ∙ ap (λ (w : Walk). walk_fault shape [] w rest) taken;
    }

-- an option, its value, and what goes on behind them
pub then_read : (word value : Text) (words : List Text) (from middle to : Walk) → Reads (word ∷ value ∷ []) from middle → Reads words middle to
    → Reads (word ∷ value ∷ words) from to
then_read word value words from middle to one others = record {
  walks = λ rest. one.walks (words ++ rest) ∙ others.walks rest;
  passes = λ rest. one.passes (words ++ rest) ∙ others.passes rest;
}

-- ---- what words ask for, by the walk over them and its faults

abbrev pub given_by : Walk → Kinds → Option RunAsked
given_by to faults = option_and_then run_in
    (if is_empty (or_else faults (or_else (entered_fault (built run_command) to.stopped) (or_else (settle_fault rules false to.held)
    (or_else (defaults_fault (settled rules to.held).rows rules) (check_fault shape (finished rules to.held) (is_some (entered (built run_command) to.stopped)))))))
    then Some (finished rules to.held) else None)

pub given : (words : List Text) (to : Walk) → Reads words (walk_from nothing_held) to → words ++ [] ≡ words → run_of words ≡ given_by to []
unfolding walk_fault
given words to read same =
    let walked_to : fold (walked rules []) (walk_from nothing_held) words ≡ to = ap (λ (w : List Text). fold (walked rules []) (walk_from nothing_held) w) (sym same) ∙ read.walks [] in
    let passed : walk_fault shape [] (walk_from nothing_held) words ≡ [] = ap (λ (w : List Text). walk_fault shape [] (walk_from nothing_held) w) (sym same) ∙ read.passes [] in
    ap₂ given_by walked_to passed
