-- What words that were read ask for.
use Rattle.std.specs.Prelude.{◌≤◌, ℕ, IsTrue, List, length}
use Rattle.sedona_words.specs.declared.command.Asked.{Asked}
use Rattle.sedona_words.specs.declared.command.Asked.TheVariants as asked
use Rattle.sedona_words.specs.declared.node_words.CodeWords.{CodeWords}
use Rattle.sedona_words.specs.declared.node_words.CodeWords.TheVariants as code
use Rattle.sedona_words.specs.declared.node_words.NodeWords.{NodeWords}
use Rattle.sedona_words.specs.declared.node_words.RunWords.{RunWords}
use Rattle.sedona_words.specs.declared.gen_words.GenWords.{GenWords}
use Rattle.replay_log.specs.Bounds.{IsAllowed}
use Rattle.sedona_words.specs.Command.{CodeAsked, Command, Cycles, Check, Compile, Gen, New, NodeAsked, OfImage, OfKits}
use Rattle.sedona_words.specs.Command.{RecordAsked, Replay, Run, RunAsked, Show, are_manifests, is_file_name}
use Rattle.sedona_words.specs.Command.{names_within, texts}

abbrev pub asked_code : CodeWords → CodeAsked
asked_code (code.Kits kits) = OfKits (names_within kits.now)
asked_code (code.Image image) = OfImage image.now

abbrev pub asked_node : NodeWords → NodeAsked
asked_node words = record {
  code = asked_code words.code;
  store = words.store.now;
  users = words.users.now;
  secret = words.secret.now;
  turns = words.turns;
  limit = words.limit;
}

abbrev pub asked_run : RunWords → RunAsked
asked_run words = record {
  node = asked_node words.node;
  port = words.port;
  cycles = words.cycles;
  period = words.period;
}

abbrev pub asked_record : GenWords → RecordAsked
asked_record words = record {
  numbers = words.numbers;
  kits = names_within words.kits.now;
  users = words.users.now;
  user = words.user.now;
  secret = words.secret.now;
  out = words.out.now;
}

abbrev pub asked_command : Asked → Command
asked_command (asked.Cycles file count) = Cycles file.now count
asked_command (asked.Check names) = Check (texts names.now)
asked_command (asked.Compile out names) = Compile out.now (texts names.now)
asked_command (asked.New kits store slot) = New (names_within kits.now) store.now slot
asked_command (asked.Show kits store limit) = Show (names_within kits.now) store.now limit
asked_command (asked.Replay node record_name) = Replay (asked_node node) record_name.now
asked_command (asked.Run words) = Run (asked_run words)
asked_command (asked.Gen words) = Gen (asked_record words)

-- What is asked of a store is within its bounds: the kits, the name, and a number of bytes.
pub record IsMeantStore (word name : List ℕ) (bytes : ℕ) : Type 0 where
  pub kits : IsTrue (are_manifests (names_within word))
  pub store : IsTrue (is_file_name name)
  pub some : 1 ≤ bytes
  pub most : bytes ≤ 4194304

-- So is what is asked of a code: the kits, or the name of the image's file.
abbrev pub IsMeantCode : CodeWords → Type 0
IsMeantCode (code.Kits kits) = IsTrue (are_manifests (names_within kits.now))
IsMeantCode (code.Image image) = IsTrue (is_file_name image.now)

-- So is what is asked of a node: its code, the names of its files, the turns, and a number of bytes.
pub record IsMeantNode (words : NodeWords) : Type 0 where
  pub code : IsMeantCode words.code
  pub store : IsTrue (is_file_name words.store.now)
  pub users : IsTrue (is_file_name words.users.now)
  pub secret : IsTrue (is_file_name words.secret.now)
  pub some : 1 ≤ words.turns
  pub most : words.turns ≤ 1000000
  pub room : 1 ≤ words.limit
  pub bound : words.limit ≤ 4194304

-- So is what is asked of a run: the node, a port, a number of cycles, and milliseconds.
pub record IsMeantRun (words : RunWords) : Type 0 where
  pub node : IsMeantNode words.node
  pub port : 1 ≤ words.port
  pub most : words.port ≤ 65535
  pub cycles : words.cycles ≤ 1000000
  pub period : 1 ≤ words.period
  pub longest : words.period ≤ 60000

-- So is what is asked of a record: its numbers, its kits, and the names of its files.
pub record IsMeantRecord (words : GenWords) : Type 0 where
  pub numbers : IsAllowed words.numbers
  pub kits : IsTrue (are_manifests (names_within words.kits.now))
  pub users : IsTrue (is_file_name words.users.now)
  pub secret : IsTrue (is_file_name words.secret.now)
  pub out : IsTrue (is_file_name words.out.now)

-- within the bounds of the table of words
abbrev pub IsMeant : Asked → Type 0
IsMeant (asked.Cycles file count) = count ≤ 1000000
IsMeant (asked.Check names) = length names.now ≤ 15
IsMeant (asked.Compile out names) = IsTrue (is_file_name out.now) × (length names.now ≤ 15)
IsMeant (asked.New kits store slot) = IsMeantStore kits.now store.now slot
IsMeant (asked.Show kits store limit) = IsMeantStore kits.now store.now limit
IsMeant (asked.Replay node record_name) = IsMeantNode node × IsTrue (is_file_name record_name.now)
IsMeant (asked.Run words) = IsMeantRun words
IsMeant (asked.Gen words) = IsMeantRecord words
