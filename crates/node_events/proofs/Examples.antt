-- Computed from the definitions: the App (0) with a Folder `f` (1) and a Note `n` (2), one session in place 0.
use Rattle.std.proofs.Common.{◌≡◌, ℕ, pos, List, [], ◌∷◌, true, false, length, map as map_list, refl, ap}
use Rattle.std.specs.Prelude.{replicate, codes, Some, None}
use Rattle.std.specs.FinMap as map
use Rattle.std.specs.List.{flat_map, fold}
use Rattle.sed_outside.specs.declared.addr.Addr.{Addr}
use Rattle.sed_value.specs.declared.refusal.Refusal.TheVariants.{SaveDevice, StoreFull}
use Rattle.sed_engine.specs.Code.{Meaning}
use Rattle.comp_tree.specs.Application.{Application, ById, Component}
use Rattle.comp_tree.specs.Parts.{Kept}
use Rattle.app_file.specs.Text.{app_text}
use Rattle.dasp_msg.specs.declared.kind.MsgKind.TheVariants.{Datagram}
use Rattle.dasp_msg.specs.Posted.{new_message}
use Rattle.dasp_session.specs.Letters.{bare, datagram, keep_alive}
use Rattle.dasp_session.specs.Session.{Session, State}
use Rattle.sub_table.specs.declared.part.Part.TheVariants.{Tree, Config, Runtime, Links}
use Rattle.sub_table.specs.Table.{Subscriptions, nothing_subscribed, with_event, with_subscribed}
use Rattle.sox_msg.specs.Answered.{refused}
use Rattle.sox_msg.specs.Command.{subscribe}
use Rattle.sox_serve.proofs.Building.{application, code, found, three}
use Rattle.node_events.specs.Delivering.{delivered}
use Rattle.node_events.specs.Events.{Telling, is_due, parts_at, parts_of, told_if_due}
use Rattle.node_events.specs.Heard.{Heard, asks}
use Rattle.node_events.specs.Mishap.{disk_failed, nothing_wrong}
use Rattle.node_events.specs.Node.{Node, Setup, of_the_live}
use Rattle.node_events.specs.Saving.{answer_to_save, save_of, saved}
use Rattle.node_events.specs.Ticking.{kept_up, timed}

-- ---- a node

abbrev client : Addr
client = record { ip = 10 ∷ 0 ∷ 0 ∷ 7 ∷ []; port = 4660 }

abbrev session : Session
session = record {
  id = 0;
  address = client;
  remote_id = 0x1234;
  nonce = [];
  user = Some (codes "ann");
  heard = pos 0;
  taken = [];
  owed = false;
  posted = [];
}

abbrev sessions : State
sessions = record { users = []; secret = []; made = 1; moment = pos 0; sessions = Some session ∷ replicate 15 None }

abbrev node : ById → Subscriptions → Node
node all subs = record { application = application all []; sessions = sessions; subscriptions = subs }

abbrev setup : Setup
setup = record { turns = 10; slot = 100 }

-- ---- a subscribe, before any tick, and its event at the next

-- `s`: part `c` of component 2
abbrev asking : Heard
asking = record {
  message = record (bare 0 Datagram) { sequence = 0; payload = 0x73 ∷ 1 ∷ 0 ∷ 2 ∷ 2 ∷ [] };
  wish = asks (subscribe 2 2);
}

subscribe_is_answered : (all : ById) → map.entries all ≡ three
    → (delivered code setup (node all nothing_subscribed) client (Some asking) nothing_wrong).sent
    ≡ record { to = client; message = datagram 0x1234 (0 ∷ []) 0 (0x53 ∷ 1 ∷ []) } ∷ []
unfolding code
subscribe_is_answered all is = rw (found all three is 2) refl

subscribe_is_kept : (all : ById) → map.entries all ≡ three
    → (delivered code setup (node all nothing_subscribed) client (Some asking) nothing_wrong).node.subscriptions 0 2 Config ≡ Some None
unfolding code
subscribe_is_kept all is = rw (found all three is 2) refl

abbrev with_config : Subscriptions
with_config = with_subscribed 0 2 2 nothing_subscribed

abbrev config_event : List ℕ
config_event = 0x65 ∷ 0xff ∷ 0 ∷ 2 ∷ 0x63 ∷ 0 ∷ 0 ∷ 0 ∷ 0 ∷ 0 ∷ 2 ∷ 0x61 ∷ 0x62 ∷ []

event_comes : (all : ById) → map.entries all ≡ three
    → (told_if_due code 0 (record { node = node all with_config; sent = [] }) (record { id = 2; part = Config })).sent
    ≡ record { to = client; message = datagram 0x1234 [] 0 config_event } ∷ []
unfolding code
event_comes all is = rw (found all three is 2) refl

-- and once only
event_came : (all : ById) → map.entries all ≡ three
    → is_due code (application all []) (with_event 0 2 Config (0 ∷ 0 ∷ 0 ∷ 0 ∷ 0 ∷ 2 ∷ 0x61 ∷ 0x62 ∷ []) with_config) 0 2 Config ≡ false
unfolding code
event_came all is = rw (found all three is 2) refl

-- with its bytes as the last event's
event_is_kept : (all : ById) → map.entries all ≡ three
    → (told_if_due code 0 (record { node = node all with_config; sent = [] }) (record { id = 2; part = Config })).node.subscriptions 0 2 Config
    ≡ Some (Some (0 ∷ 0 ∷ 0 ∷ 0 ∷ 0 ∷ 2 ∷ 0x61 ∷ 0x62 ∷ []))
unfolding code
event_is_kept all is = rw (found all three is 2) refl

-- ---- a place at a tick, where an acknowledgement of message 0 is owed

abbrev owing : State
owing = record sessions { sessions = Some (record session { taken = 0 ∷ []; owed = true }) ∷ replicate 15 None }

abbrev owing_node : ById → Subscriptions → Node
owing_node all subs = record { application = application all []; sessions = owing; subscriptions = subs }

-- timeouts and resends, one part, and then what is still owed
abbrev at_part : ById → Subscriptions → Telling
at_part all subs = kept_up 0 (told_if_due code 0 (timed 0 (record { node = owing_node all subs; sent = [] })) (record { id = 2; part = Config }))

-- it goes out with an event
event_acknowledges : (all : ById) → map.entries all ≡ three
    → (at_part all with_config).sent ≡ record { to = client; message = datagram 0x1234 (0 ∷ []) 0 config_event } ∷ []
unfolding code
event_acknowledges all is = rw (found all three is 2) refl

-- and where none is due, in a keepAlive
keep_alive_acknowledges : (all : ById) → map.entries all ≡ three
    → (at_part all nothing_subscribed).sent ≡ record { to = client; message = keep_alive 0x1234 (0 ∷ []) } ∷ []
unfolding code
keep_alive_acknowledges all is = rw (found all three is 2) refl

-- ---- the parts of an application with two components

all_parts : (all : ById) (one other : Component) → map.entries all ≡ (1, one) ∷ (3, other) ∷ []
    → parts_of (application all [])
    ≡ record { id = 1; part = Tree } ∷ record { id = 1; part = Config } ∷ record { id = 1; part = Runtime } ∷ record { id = 1; part = Links }
    ∷ record { id = 3; part = Tree } ∷ record { id = 3; part = Config } ∷ record { id = 3; part = Runtime } ∷ record { id = 3; part = Links }
    ∷ []
all_parts all one other is = ap (λ (entries : List (ℕ × Component)). flat_map parts_at (map_list (λ (e : ℕ × Component). e.0) entries)) is

-- ---- a session that has room for one more message, and two parts that are due

abbrev crowded : State
crowded = record sessions { sessions = Some (record session { posted = replicate 30 (new_message [] (pos 0)) }) ∷ replicate 15 None }

abbrev crowded_node : ById → Node
crowded_node all = record { application = application all []; sessions = crowded; subscriptions = with_subscribed 0 2 10 nothing_subscribed }

abbrev after_two : ById → Telling
after_two all =
    fold (told_if_due code 0) (record { node = crowded_node all; sent = [] }) (record { id = 2; part = Config } ∷ record { id = 2; part = Links } ∷ [])

first_goes_out : (all : ById) → map.entries all ≡ three
    → (after_two all).sent ≡ record { to = client; message = datagram 0x1234 [] 30 config_event } ∷ []
unfolding code
first_goes_out all is = rw (found all three is 2) refl

second_waits : (all : ById) → map.entries all ≡ three → (after_two all).node.subscriptions 0 2 Links ≡ Some None
unfolding code
second_waits all is = rw (found all three is 2) refl

-- ---- a component that is deleted, and its id taken

gone_is_not_subscribed : (gone : ById) → map.get gone 2 ≡ None → of_the_live gone with_config 0 2 Config ≡ None
gone_is_not_subscribed gone is = rw is refl

taken_has_no_event : (gone all : ById) → map.get gone 2 ≡ None → map.entries all ≡ three
    → is_due code (application all []) (of_the_live gone with_config) 0 2 Config ≡ false
unfolding code
taken_has_no_event gone all is three_are = rw (is, found all three three_are 2) refl

-- ---- saves, of a text of 74 bytes

module _ (m : Meaning) (a : Application) (long : length (app_text m (Kept m a)) ≡ 74) where
  just_fits : answer_to_save (save_of m 74 a nothing_wrong) ≡ saved
  just_fits = rw long refl

  one_byte_too_small : answer_to_save (save_of m 73 a nothing_wrong) ≡ refused StoreFull
  one_byte_too_small = rw long refl

  disk_fails : answer_to_save (save_of m 74 a disk_failed) ≡ refused SaveDevice
  disk_fails = rw long refl

  too_small_comes_first : answer_to_save (save_of m 73 a disk_failed) ≡ refused StoreFull
  too_small_comes_first = rw long refl
