-- What bytes say gives bytes.
use Rattle.std.proofs.Common.{◌≡◌, ◌∙◌, ℕ, true, List, [], ◌∷◌, ◌++◌, sym, ap}
use Rattle.std.specs.Prelude.{nat_lt, Option, Some, None}
use Rattle.std.proofs.lemmas.Bool.{and_parts}
use Rattle.sed_value.specs.Value.{are_bytes}
use Rattle.dasp_msg.specs.Message.{IsMessage}
use Rattle.dasp_msg.specs.Shown.{Message}
use Rattle.sox_msg.specs.Command.{Asked, add, read_part, delete, invoke, link, unlink, rename, reorder, read_slot}
use Rattle.sox_msg.specs.Command.{subscribe, unsubscribe, version, write, clear, body_of, letter_of, number_in, str, u2}
use Rattle.sox_serve.specs.Answer.{command_of}
use Rattle.app_file.specs.Bytes.{GivesBytes}
use Rattle.node_events.specs.Giving.{HeardGivesBytes, WishGivesBytes}
use Rattle.node_events.specs.Heard.{Heard, IsHeard, IsWish, Wish, asks, is_refused}

pub behind_one : (x : ℕ) (xs : List ℕ) → are_bytes (x ∷ xs) ≡ true → are_bytes xs ≡ true
behind_one x xs all = (and_parts (nat_lt x 256) (are_bytes xs) all).1

pub behind_all : (xs ys : List ℕ) → are_bytes (xs ++ ys) ≡ true → are_bytes ys ≡ true
behind_all [] ys all = all
behind_all (x ∷ xs) ys all = behind_all xs ys (behind_one x (xs ++ ys) all)

pub of_body : (command : Asked) → are_bytes (body_of command) ≡ true → GivesBytes (command_of command)
of_body (add parent kit kind name config) all =
    behind_all (str name) config
    (behind_one kind (str name ++ config)
    (behind_one kit (kind ∷ (str name ++ config)) (behind_all (u2 parent) (kit ∷ kind ∷ (str name ++ config)) all)))
of_body (read_part id part) all = tt {0}
of_body (delete id) all = tt {0}
of_body (invoke id slot argument) all = tt {0}
of_body (link source from_slot target to_slot) all = tt {0}
of_body (unlink source from_slot target to_slot) all = tt {0}
of_body (rename id name) all = tt {0}
of_body (reorder id children) all = tt {0}
of_body (read_slot id slot) all = tt {0}
of_body (subscribe id mask) all = tt {0}
of_body (unsubscribe id mask) all = tt {0}
of_body version all = tt {0}
of_body (write id slot value) all = behind_one slot value (behind_all (u2 id) (slot ∷ value) all)
of_body (clear id) all = tt {0}

of_payload : (payload : List ℕ) (wish : Wish) → are_bytes payload ≡ true → IsWish payload wish → WishGivesBytes wish
of_payload payload (is_refused refusal) all is = tt {0}
of_payload payload (asks command) all is =
    of_body command (behind_one (number_in payload) (body_of command)
    (behind_one (letter_of command) (number_in payload ∷ body_of command) (ap are_bytes (sym is.text) ∙ all)))

-- a message's payload stands behind its fields
payload_bytes : (bytes : List ℕ) (message : Message) → are_bytes bytes ≡ true → IsMessage bytes message
    → are_bytes message.payload ≡ true
payload_bytes bytes message all is =
    ap (λ (m : Message). are_bytes m.payload) is.shown
    ∙ behind_all is.spelled.body is.payload
    (behind_all is.spelled.head (is.spelled.body ++ is.payload) (ap are_bytes (sym is.spelled.whole) ∙ all))

pub heard_gives : (bytes : List ℕ) (heard : Option Heard) → are_bytes bytes ≡ true → IsHeard bytes heard
    → HeardGivesBytes heard
heard_gives bytes None all is = tt {0}
heard_gives bytes (Some heard) all is =
    of_payload heard.message.payload heard.wish (payload_bytes bytes heard.message all is.0) is.1
