-- Words behind `run`, and what they ask for.
use Rattle.std.specs.Prelude.{List, [], ◌∷◌, codes}
use Rattle.clap.specs.Walk.{Text}
use Rattle.sedona_words.specs.Command.{NodeAsked, OfKits, RunAsked}

-- `--kits math.toml,plant.toml --store s --users u --secret f --cycles 0`, without a port
abbrev pub no_port : List Text
no_port = codes "--kits" ∷ codes "math.toml,plant.toml"
    ∷ codes "--store" ∷ codes "s"
    ∷ codes "--users" ∷ codes "u"
    ∷ codes "--secret" ∷ codes "f"
    ∷ codes "--cycles" ∷ codes "0"
    ∷ []

-- the same in the order of the table
abbrev pub in_order : List Text
in_order = codes "--kits" ∷ codes "math.toml,plant.toml"
    ∷ codes "--store" ∷ codes "s"
    ∷ codes "--users" ∷ codes "u"
    ∷ codes "--secret" ∷ codes "f"
    ∷ codes "--port" ∷ codes "1876"
    ∷ codes "--cycles" ∷ codes "0"
    ∷ []

-- the port first, in one word with its name
abbrev pub port_first : List Text
port_first = codes "--port=1876" ∷ no_port

-- the options that may be left out, in another order than in the table
abbrev pub others : List Text
others = codes "--data" ∷ codes "8" ∷ codes "--turns=20" ∷ codes "--period" ∷ codes "60000" ∷ []

abbrev pub node : NodeAsked
node = record {
  code = OfKits (codes "math.toml" ∷ codes "plant.toml" ∷ []);
  store = codes "s";
  users = codes "u";
  secret = codes "f";
  turns = 10000;
  limit = 4194304;
}

abbrev pub plain : RunAsked
plain = record { node = node; port = 1876; cycles = 0; period = 100 }

abbrev pub slow : RunAsked
slow = record plain { node = record node { turns = 20; limit = 8 }; period = 60000 }
