-- What is as long as a part may be fits a message.
use Rattle.std.proofs.Common.{ℕ, ◌≤◌, Bool, true, false, eqb, cond, List, length, arith}
use Rattle.sed_typed.specs.declared.schema.Schema.{Schema}
use Rattle.sed_value.specs.declared.limits.TheConstants.{LONGEST_MESSAGE, LONGEST_PART}
use Rattle.sox_msg.specs.Answered.{answered_text, part}
use Rattle.sox_msg.specs.Reply.{event_bytes}
use Rattle.app_parts.specs.Longest.{longest_part, longest_values}
use Rattle.app_parts.specs.declared.values.Values.TheVariants.{Config, Runtime}
use Rattle.app_parts.proofs.Lengths.{most_400}

pub short : (schema : Schema) (letter : ℕ) → longest_part schema letter ≤ LONGEST_PART
short schema letter =
    one_of (eqb letter 116) (eqb letter 99) (eqb letter 114) (eqb letter 108) (eqb letter 102)
    (longest_values Config schema.classes) (longest_values Runtime schema.classes)
    (most_400 Config schema.classes) (most_400 Runtime schema.classes)
  where
    one_of : (t c r l f : Bool) (config runtime : ℕ) → config ≤ 400 → runtime ≤ 400
        → cond t LONGEST_PART (cond c config (cond r runtime (cond l 362 (cond f 1 0)))) ≤ LONGEST_PART
    one_of true c r l f config runtime few_config few_runtime = omega arith
    one_of false true r l f config runtime few_config few_runtime = omega (arith, few_config)
    one_of false false true l f config runtime few_config few_runtime = omega (arith, few_runtime)
    one_of false false false true f config runtime few_config few_runtime = omega arith
    one_of false false false false true config runtime few_config few_runtime = omega arith
    one_of false false false false false config runtime few_config few_runtime = omega arith

pub reply_fits : (schema : Schema) (number id letter : ℕ) (bytes : List ℕ) → length bytes ≤ longest_part schema letter
    → length (answered_text number (part id letter bytes)) ≤ LONGEST_MESSAGE
reply_fits schema number id letter bytes few = let most = short schema letter in omega (arith, few, most)

pub event_fits : (schema : Schema) (id letter : ℕ) (bytes : List ℕ) → length bytes ≤ longest_part schema letter
    → length (event_bytes id letter bytes) ≤ LONGEST_MESSAGE
event_fits schema id letter bytes few = let most = short schema letter in omega (arith, few, most)
