-- The command that words ask for.
use Rattle.std.specs.Prelude.{ℕ, Bool, false, if◌then◌else◌, List, [], ◌∷◌, Option, None, codes}
use Rattle.std.specs.Option.{option_map}
use Rattle.std.specs.Str.{bytes_eq}
use Rattle.sedona_words.specs.Run.{run_of}
use Rattle.sedona_words.specs.Command.{Command, Run, command_of}

-- whether the first word is the name of the command whose words clap reads
abbrev pub is_run : List (List ℕ) → Bool
is_run [] = false
is_run (name ∷ words) = bytes_eq name (codes "run")

-- Behind the name `run`, what these words ask for as clap reads them; else the command that the words are by the table.
abbrev pub command_asked : List (List ℕ) → Option Command
command_asked [] = None
command_asked (name ∷ words) =
    if bytes_eq name (codes "run") then option_map (λ asked. Run asked) (run_of words) else command_of (name ∷ words)
