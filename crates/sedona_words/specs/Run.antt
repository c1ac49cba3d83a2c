-- What the words behind `run` ask for.
use Rattle.std.specs.Prelude.{true, List, [], ◌∷◌, Option, Some, None, if◌then◌else◌, codes}
use Rattle.clap.specs.Walk.{Row, Rule, Text, first_of, is_empty}
use Rattle.clap.specs.Simple.{App, matches_of, new_rule, new_shape}
use Rattle.clap.specs.Faults.{fault_of}
use Rattle.sedona_words.specs.Command.{◌>>=◌, NodeAsked, RunAsked, kits_named, node_named, run_named}

-- ---- the command, as clap sees it

-- `--NAME VALUE`, which has to be there; VALUE is any text
abbrev pub needed_option : Text → Rule
needed_option name = record (new_rule name) { long = Some name; required = true }

-- `--NAME VALUE`, which may be left out, and is this value then
abbrev pub option_or : Text → Text → Rule
option_or name value = record (new_rule name) { long = Some name; defaults = value ∷ [] }

-- a command all of whose words stand behind its name, and which has no option that isn't named here
abbrev pub bare_command : App
bare_command = record {
  top = record (new_shape (codes "run")) { no_binary_name = true; disable_help_flag = true };
  subs = [];
}

-- the options of `run`, with the values of those that may be left out
abbrev pub run_options : List Rule
run_options = needed_option (codes "kits")
    ∷ needed_option (codes "store")
    ∷ needed_option (codes "users")
    ∷ needed_option (codes "secret")
    ∷ needed_option (codes "port")
    ∷ needed_option (codes "cycles")
    ∷ option_or (codes "period") (codes "100")
    ∷ option_or (codes "turns") (codes "10000")
    ∷ option_or (codes "data") (codes "4194304")
    ∷ []

abbrev pub run_command : App
run_command = record bare_command { top = record bare_command.top { rules = run_options } }

-- the matches that clap's simple command gives on these words: none where it finds a fault in them
abbrev pub run_matches : List Text → Option (List Row)
run_matches words =
    if is_empty (fault_of run_command words) then Some (matches_of run_command words) else None

-- ---- what the matches ask for, each value within its bounds

-- the node, by the values of its options
abbrev pub node_in : List Row → Option NodeAsked
node_in rows = do
  kits ← first_of (codes "kits") rows
  store ← first_of (codes "store") rows
  users ← first_of (codes "users") rows
  secret ← first_of (codes "secret") rows
  turns ← first_of (codes "turns") rows
  limit ← first_of (codes "data") rows
  node_named (kits_named kits) store users secret turns limit

abbrev pub run_in : List Row → Option RunAsked
run_in rows = do
  port ← first_of (codes "port") rows
  cycles ← first_of (codes "cycles") rows
  period ← first_of (codes "period") rows
  run_named (node_in rows) port cycles period

-- what the words behind `run` ask for, none where they are outside
abbrev pub run_of : List Text → Option RunAsked
run_of words = do
  rows ← run_matches words
  run_in rows
