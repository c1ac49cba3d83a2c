-- What the words of a command line ask for.
use Rattle.std.specs.Prelude.{ℕ, Bool, ◌==◌, ◌&&◌, ◌||◌, not, nat_le, if◌then◌else◌, List, [], ◌∷◌, length, map}
use Rattle.std.specs.Prelude.{slice_index, Option, Some, None, codes, String, string_bytes}
use Rattle.std.specs.List.{list_all, slice_split}
use Rattle.std.specs.Option.{option_and_then, option_map, option_map_or}
use Rattle.std.specs.Str.{bytes_eq}
use Rattle.std.specs.declared.alloc.Global.{Global}
use Rattle.sed_value.specs.Decimal.{number_of}
use Rattle.replay_log.specs.declared.asked.GenAsked.{GenAsked}
use Rattle.replay_log.specs.declared.bounds.TheConstants.{GREATEST_SEED, MOST_ADDED_COMPONENTS}
use Rattle.replay_log.specs.declared.bounds.TheConstants.{MOST_ADDED_LINKS, MOST_TICKS}

infixl 10 ◌>>=◌
abbrev pub ◌>>=◌ : {A B : Type 0} → Option A → (A → Option B) → Option B
o >>= f = option_and_then f o

-- What the code of a node is from: kits, by the names of their manifests, or an image, by the name of its file.
pub data CodeAsked : Type 0 where
  OfKits : List (List ℕ) → CodeAsked
  OfImage : List ℕ → CodeAsked

-- What a command asks that runs a node: what its code is from, the names of the store, of the users file and of the
-- secret file, the turns of each root call, and the most bytes of data.
pub record NodeAsked : Type 0 where
  pub code : CodeAsked
  pub store : List ℕ
  pub users : List ℕ
  pub secret : List ℕ
  pub turns : ℕ
  pub limit : ℕ

-- What `run` and `boot` ask: a node, the port of its link, the number of cycles, and the period of one in milliseconds.
pub record RunAsked : Type 0 where
  pub node : NodeAsked
  pub port : ℕ
  pub cycles : ℕ
  pub period : ℕ

-- What `gen` asks: the numbers of the record, the names of the kits' manifests and of the users file, the name of a
-- user, and the names of the secret file and of the output file.
pub record RecordAsked : Type 0 where
  pub numbers : GenAsked
  pub kits : List (List ℕ)
  pub users : List ℕ
  pub user : List ℕ
  pub secret : List ℕ
  pub out : List ℕ

-- A command of the table of words: `cycles` of a source, so many times; `check` of kits, by their manifests; `compile`
-- of kits into the file of this name; `new` over kits, in the file of this name, with slots of so many bytes; `show`
-- over kits, of the file of this name, with so many bytes of data; `replay` of a record, by its name, on a node; `run`
-- or `boot` of a node over a link, with the code of kits or of an image; `gen` of a record.
pub data Command : Type 0 where
  Cycles : List ℕ → ℕ → Command
  Check : List (List ℕ) → Command
  Compile : List ℕ → List (List ℕ) → Command
  New : List (List ℕ) → List ℕ → ℕ → Command
  Show : List (List ℕ) → List ℕ → ℕ → Command
  Replay : NodeAsked → List ℕ → Command
  Run : RunAsked → Command
  Gen : RecordAsked → Command

-- the store that a command names
abbrev pub store_of : Command → Option (List ℕ)
store_of (Cycles file count) = None
store_of (Check names) = None
store_of (Compile out names) = None
store_of (New names store slot) = Some store
store_of (Show names store data_limit) = Some store
store_of (Replay asked file) = Some asked.store
store_of (Run asked) = Some asked.node.store
store_of (Gen asked) = None

-- the output file that a command names
abbrev pub output_of : Command → Option (List ℕ)
output_of (Cycles file count) = None
output_of (Check names) = None
output_of (Compile out names) = Some out
output_of (New names store slot) = None
output_of (Show names store data_limit) = None
output_of (Replay asked file) = None
output_of (Run asked) = None
output_of (Gen asked) = Some asked.out

-- the port that a command names
abbrev pub port_of : Command → Option ℕ
port_of (Cycles file count) = None
port_of (Check names) = None
port_of (Compile out names) = None
port_of (New names store slot) = None
port_of (Show names store data_limit) = None
port_of (Replay asked file) = None
port_of (Run asked) = Some asked.port
port_of (Gen asked) = None

abbrev pub texts : List (String Global) → List (List ℕ)
texts words = map (λ word. string_bytes word) words

-- a name of a file has 1 to 4,096 bytes
abbrev pub is_file_name : List ℕ → Bool
is_file_name name = nat_le 1 (length name) && nat_le (length name) 4096

-- a number is a decimal within its limit, and begins with 0 only where it is 0 (byte 48)
abbrev pub number_within : ℕ → List ℕ → Option ℕ
number_within most digits =
    if (length digits == 1) || not (slice_index digits 0 == 48) then number_of most digits else None

-- a number of cycles is at most 1,000,000
abbrev pub cycle_count : List ℕ → Option ℕ
cycle_count digits = number_within 1000000 digits

-- a slot has 1 to 4,194,304 bytes
abbrev pub slot_size : List ℕ → Option ℕ
slot_size digits = do
  n ← number_within 4194304 digits
  if n == 0 then None else Some n

-- cycles of a file
abbrev pub cycles_named : List ℕ → List ℕ → Option Command
cycles_named file digits = if is_file_name file then option_map (λ n. Cycles file n) (cycle_count digits) else None

-- `FILE N`
abbrev pub cycles_of : List (List ℕ) → Option Command
cycles_of [] = None
cycles_of (file ∷ []) = None
cycles_of (file ∷ count ∷ []) = cycles_named file count
cycles_of (file ∷ count ∷ more ∷ words) = None

-- 1 to 15 names of manifests
abbrev pub are_manifests : List (List ℕ) → Bool
are_manifests names = nat_le 1 (length names) && nat_le (length names) 15 && list_all is_file_name names

abbrev pub check_of : List (List ℕ) → Option Command
check_of names = if are_manifests names then Some (Check names) else None

-- the names in a word, with commas (byte 44) between them
abbrev pub names_within : List ℕ → List (List ℕ)
names_within word = slice_split (λ b. b == 44) word

-- the value of an option that words begin with, and the words behind it
abbrev pub option_first : List ℕ → List (List ℕ) → Option (List ℕ × List (List ℕ))
option_first name [] = None
option_first name (word ∷ []) = None
option_first name (word ∷ value ∷ words) = if bytes_eq word name then Some (value, words) else None

-- the value of an option that words may begin with, or this one where they do not, and the words behind it
abbrev pub option_or : List ℕ → List ℕ → List (List ℕ) → List ℕ × List (List ℕ)
option_or name value words = option_map_or (λ first. first) (option_first name words) (value, words)

-- a store by its name, with slots of so many bytes, over kits
abbrev pub new_named : List ℕ → List ℕ → List ℕ → Option Command
new_named kits store slot =
    if are_manifests (names_within kits) && is_file_name store
    then option_map (λ n. New (names_within kits) store n) (slot_size slot) else None

-- an image by the name of its file, of kits
abbrev pub compile_named : List ℕ → List (List ℕ) → Option Command
compile_named out names = if is_file_name out && are_manifests names then Some (Compile out names) else None

-- `--out IMAGE KIT..`
abbrev pub compile_of : List (List ℕ) → Option Command
compile_of words = do
  out ← option_first (codes "--out") words
  compile_named out.0 out.1

-- no word more
abbrev pub ended : {A : Type 0} → List (List ℕ) → Option A → Option A
ended [] value = value
ended (word ∷ words) value = None

-- `--kits K --store S --slot BYTES`
abbrev pub new_of : List (List ℕ) → Option Command
new_of words = do
  kits ← option_first (codes "--kits") words
  store ← option_first (codes "--store") kits.1
  slot ← option_first (codes "--slot") store.1
  ended slot.1 (new_named kits.0 store.0 slot.0)

-- an application has 1 to 4,194,304 bytes of data, as a slot has
abbrev pub data_limit : List ℕ → Option ℕ
data_limit digits = slot_size digits

-- a store by its name, over kits, with so many bytes of data
abbrev pub show_named : List ℕ → List ℕ → List ℕ → Option Command
show_named kits store limit =
    if are_manifests (names_within kits) && is_file_name store
    then option_map (λ n. Show (names_within kits) store n) (data_limit limit) else None

-- `--kits K --store S [--data BYTES]`; the most bytes where none are named
abbrev pub show_of : List (List ℕ) → Option Command
show_of words = do
  kits ← option_first (codes "--kits") words
  store ← option_first (codes "--store") kits.1
  ended (option_or (codes "--data") (codes "4194304") store.1).1
      (show_named kits.0 store.0 (option_or (codes "--data") (codes "4194304") store.1).0)

-- a root call has 1 to 1,000,000 turns
abbrev pub turn_count : List ℕ → Option ℕ
turn_count digits = do
  n ← number_within 1000000 digits
  if n == 0 then None else Some n

-- the code of kits, by the names of their manifests in one word
abbrev pub kits_named : List ℕ → Option CodeAsked
kits_named kits = if are_manifests (names_within kits) then Some (OfKits (names_within kits)) else None

-- that of an image, by the name of its file
abbrev pub image_named : List ℕ → Option CodeAsked
image_named image = if is_file_name image then Some (OfImage image) else None

-- a node by its code and the names of its files, with turns and bytes of data in digits
abbrev pub node_named : Option CodeAsked → List ℕ → List ℕ → List ℕ → List ℕ → List ℕ → Option NodeAsked
node_named code store users secret turns limit =
    if is_file_name store && is_file_name users && is_file_name secret
    then (do
      c ← code
      t ← turn_count turns
      l ← data_limit limit
      Some (record {
        code = c;
        store = store;
        users = users;
        secret = secret;
        turns = t;
        limit = l;
      }))
    else None

abbrev pub replay_named : Option NodeAsked → List ℕ → Option Command
replay_named asked record_name =
    if is_file_name record_name then option_map (λ a. Replay a record_name) asked else None

-- the value of `--turns`, which may be left out, and the words behind it
abbrev pub turns_first : List (List ℕ) → List ℕ × List (List ℕ)
turns_first words = option_or (codes "--turns") (codes "10000") words

-- that of `--data`
abbrev pub data_first : List (List ℕ) → List ℕ × List (List ℕ)
data_first words = option_or (codes "--data") (codes "4194304") words

-- `--kits K --store S --users U --secret F --record R [--turns B] [--data BYTES]`
abbrev pub replay_of : List (List ℕ) → Option Command
replay_of words = do
  kits ← option_first (codes "--kits") words
  store ← option_first (codes "--store") kits.1
  users ← option_first (codes "--users") store.1
  secret ← option_first (codes "--secret") users.1
  file ← option_first (codes "--record") secret.1
  ended (data_first (turns_first file.1).1).1
      (replay_named
      (node_named (kits_named kits.0) store.0 users.0 secret.0 (turns_first file.1).0
      (data_first (turns_first file.1).1).0)
      file.0)

-- a port is 1 to 65,535
abbrev pub port_number : List ℕ → Option ℕ
port_number digits = do
  n ← number_within 65535 digits
  if n == 0 then None else Some n

-- a period is 1 to 60,000 ms
abbrev pub period_length : List ℕ → Option ℕ
period_length digits = do
  n ← number_within 60000 digits
  if n == 0 then None else Some n

-- a node that is run, with its port, its cycles and its period in digits
abbrev pub run_named : Option NodeAsked → List ℕ → List ℕ → List ℕ → Option RunAsked
run_named asked port cycles period = do
  node ← asked
  p ← port_number port
  n ← cycle_count cycles
  ms ← period_length period
  Some (record { node = node; port = p; cycles = n; period = ms })

-- the value of `--period`, which may be left out, and the words behind it
abbrev pub period_first : List (List ℕ) → List ℕ × List (List ℕ)
period_first words = option_or (codes "--period") (codes "100") words

-- `[--period MS] [--turns B] [--data BYTES]`, of a node whose other words were read
abbrev pub boot_behind : List ℕ → List ℕ → List ℕ → List ℕ → List ℕ → List ℕ → List (List ℕ) → Option RunAsked
boot_behind image store users secret port cycles words =
    ended (data_first (turns_first (period_first words).1).1).1
    (run_named
    (node_named (image_named image) store users secret (turns_first (period_first words).1).0
    (data_first (turns_first (period_first words).1).1).0)
    port cycles (period_first words).0)

-- `--image I --store S --users U --secret F --port P --cycles N [--period MS] [--turns B] [--data BYTES]`
abbrev pub boot_of : List (List ℕ) → Option RunAsked
boot_of words = do
  image ← option_first (codes "--image") words
  store ← option_first (codes "--store") image.1
  users ← option_first (codes "--users") store.1
  secret ← option_first (codes "--secret") users.1
  port ← option_first (codes "--port") secret.1
  cycles ← option_first (codes "--cycles") port.1
  boot_behind image.0 store.0 users.0 secret.0 port.0 cycles.0 cycles.1

-- a record is of 1 to 4,000 components
abbrev pub component_count : List ℕ → Option ℕ
component_count digits = do
  n ← number_within MOST_ADDED_COMPONENTS digits
  if n == 0 then None else Some n

-- the numbers of a record: a seed of at most 2,147,483,647, components, at most 8,192 links and at most 100,000 ticks
abbrev pub gen_numbers : List ℕ → List ℕ → List ℕ → List ℕ → Option GenAsked
gen_numbers seed components links ticks = do
  s ← number_within GREATEST_SEED seed
  c ← component_count components
  l ← number_within MOST_ADDED_LINKS links
  t ← number_within MOST_TICKS ticks
  Some (record { seed = s; components = c; links = l; ticks = t })

-- a record of these numbers, by the names of its files
abbrev pub gen_named : Option GenAsked → List ℕ → List ℕ → List ℕ → List ℕ → List ℕ → Option RecordAsked
gen_named numbers kits users user secret out =
    if are_manifests (names_within kits) && is_file_name users && is_file_name secret && is_file_name out
    then option_map (λ n. record {
      numbers = n;
      kits = names_within kits;
      users = users;
      user = user;
      secret = secret;
      out = out;
    }) numbers
    else None

-- `--kits K --users U --user NAME --secret F --out R`
abbrev pub gen_behind : Option GenAsked → List (List ℕ) → Option RecordAsked
gen_behind numbers words = do
  kits ← option_first (codes "--kits") words
  users ← option_first (codes "--users") kits.1
  user ← option_first (codes "--user") users.1
  secret ← option_first (codes "--secret") user.1
  out ← option_first (codes "--out") secret.1
  ended out.1 (gen_named numbers kits.0 users.0 user.0 secret.0 out.0)

-- the first word, and the words behind it
abbrev pub word_first : List (List ℕ) → Option (List ℕ × List (List ℕ))
word_first [] = None
word_first (word ∷ words) = Some (word, words)

-- `SEED C L N` and the options
abbrev pub gen_of : List (List ℕ) → Option RecordAsked
gen_of words = do
  seed ← word_first words
  components ← word_first seed.1
  links ← word_first components.1
  ticks ← word_first links.1
  gen_behind (gen_numbers seed.0 components.0 links.0 ticks.0) ticks.1

-- the command that the words are, none where they are outside the table
abbrev pub command_of : List (List ℕ) → Option Command
command_of [] = None
command_of (name ∷ words) =
    if bytes_eq name (codes "cycles") then cycles_of words
    else if bytes_eq name (codes "check") then check_of words
    else if bytes_eq name (codes "compile") then compile_of words
    else if bytes_eq name (codes "new") then new_of words
    else if bytes_eq name (codes "show") then show_of words
    else if bytes_eq name (codes "replay") then replay_of words
    else if bytes_eq name (codes "boot") then option_map (λ asked. Run asked) (boot_of words)
    else if bytes_eq name (codes "gen") then option_map (λ asked. Gen asked) (gen_of words)
    else None
