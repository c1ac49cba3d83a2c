-- Words that name each option once, and what their values ask for.
use Rattle.std.specs.Prelude.{◌==◌, Bool, true, not, List, [], ◌∷◌, ◌++◌, Option, codes}
use Rattle.clap.specs.Walk.{Text}
use Rattle.sedona_words.specs.Command.{RunAsked, kits_named, node_named, run_named}

-- the options that have to be there, in the order of the table, each in one word
abbrev pub needed_words : Text → Text → Text → Text → Text → Text → List Text
needed_words kits store users secret port cycles = (codes "--kits=" ++ kits)
    ∷ (codes "--store=" ++ store)
    ∷ (codes "--users=" ++ users)
    ∷ (codes "--secret=" ++ secret)
    ∷ (codes "--port=" ++ port)
    ∷ (codes "--cycles=" ++ cycles)
    ∷ []

-- the others, in the order of the table, each in one word
abbrev pub other_words : Text → Text → Text → List Text
other_words period turns limit = (codes "--period=" ++ period)
    ∷ (codes "--turns=" ++ turns)
    ∷ (codes "--data=" ++ limit)
    ∷ []

-- what values ask for, none where one is out of its bounds
abbrev pub asked_by : Text → Text → Text → Text → Text → Text → Text → Text → Text → Option RunAsked
asked_by kits store users secret port cycles period turns limit =
    run_named (node_named (kits_named kits) store users secret turns limit) port cycles period

-- a value that may stand in a word of its own: it does not begin with a hyphen (byte 45)
abbrev pub is_plain : Text → Bool
is_plain [] = true
is_plain (byte ∷ bytes) = not (byte == 45)

-- the options that have to be there, in the order of the table, as two words each
abbrev pub needed_pairs : Text → Text → Text → Text → Text → Text → List Text
needed_pairs kits store users secret port cycles = codes "--kits" ∷ kits
    ∷ codes "--store" ∷ store
    ∷ codes "--users" ∷ users
    ∷ codes "--secret" ∷ secret
    ∷ codes "--port" ∷ port
    ∷ codes "--cycles" ∷ cycles
    ∷ []

-- the others, in the order of the table, as two words each
abbrev pub other_pairs : Text → Text → Text → List Text
other_pairs period turns limit =
    codes "--period" ∷ period ∷ codes "--turns" ∷ turns ∷ codes "--data" ∷ limit ∷ []
