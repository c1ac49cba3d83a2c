-- A reply is that of the command's answer.
use Rattle.std.proofs.Common.{◌≡◌, ◌≢◌, ℕ, Bool, true, false, List, refl, sym, ◌∙◌, ap, subst}
use Rattle.std.specs.Prelude.{ℤ, Option, Some, None, Result, Ok, Err, if◌then◌else◌}
use Rattle.sed_outside.specs.declared.addr.Addr.{Addr}
use Rattle.sed_value.specs.declared.refusal.Refusal.{Refusal}
use Rattle.sed_value.specs.declared.refusal.Refusal.TheVariants.{OutOfMemory}
use Rattle.sed_engine.specs.Code.{Meaning}
use Rattle.comp_tree.specs.Application.{Application}
use Rattle.comp_tree.specs.Edit.{Edit, Edited}
use Rattle.dasp_msg.specs.Shown.{Message}
use Rattle.dasp_session.specs.Letters.{Letter}
use Rattle.dasp_session.specs.Receive.{Handing, none, ended_at, payload_at, received}
use Rattle.sox_msg.specs.Answered.{Answered, refused}
use Rattle.sox_msg.specs.Command.{Asked}
use Rattle.sox_serve.specs.Answer.{Answer, answer, answer_by, answered_by, asks_for_save, command_of, refused_by}
use Rattle.node_events.specs.Delivering.{delivered, handed}
use Rattle.node_events.specs.Heard.{asks, is_refused}
use Rattle.node_events.specs.Mishap.{Mishap}
use Rattle.node_events.specs.Node.{Node, Setup}
use Rattle.node_events.specs.Serving.{done_by, lacks_memory, served}
use Rattle.node_events.proofs.Taking.{Takes, received_fine}
use Rattle.node_events.proofs.Truths.{no_true}

some_eq : (x y : Answered) → ◌≡◌ {A = Option Answered} (Some x) (Some y) → x ≡ y
some_eq x y is = cc

no_some : (x : Answered) → ◌≡◌ {A = Option Answered} None (Some x) → ⊥
no_some x is = cc

module _ (m : Meaning) (s : Setup) (asked : Asked) where
  -- the answer at a moment
  abbrev at_moment : Application → ℤ → Answer
  at_moment a moment = answer m a asked s.turns moment

  record IsAnswered (a : Application) (moment : ℤ) (reply : Answered) (after : Application) : Type 0 where
    reply_is : (at_moment a moment).reply ≡ Some reply
    application_is : after ≡ (at_moment a moment).application

  has_reply : (a : Application) (e : Result Edited Refusal) → asks_for_save asked ≡ false → (answer_by a asked e).reply ≡ None → ⊥
  has_reply a (Ok edited) plain is = never (asks_for_save asked) plain is
    where
      never : (b : Bool) → b ≡ false → (if b then None else Some (answered_by asked edited.reply)) ≡ None → ⊥
      never true plain is = no_true (sym plain)
      never false plain is = no_some (answered_by asked edited.reply) (sym is)
  has_reply a (Err number) plain is = no_some _ (sym is)

  module _ (n : Node) (place : ℕ) (mishap : Mishap) (reply : Answered) (plain : asks_for_save asked ≡ false) (other : reply ≢ refused OutOfMemory) where
    abbrev given_if : Bool → Answer
    given_if b = if b then refused_by n.application OutOfMemory else at_moment n.application n.sessions.moment

    by_reply : (o : Option Answered) → (at_moment n.application n.sessions.moment).reply ≡ o
        → (done_by m s n place mishap (at_moment n.application n.sessions.moment) o).reply ≡ reply
        → IsAnswered n.application n.sessions.moment reply (done_by m s n place mishap (at_moment n.application n.sessions.moment) o).application
    by_reply None none_is is = absurd (has_reply n.application (Edit m n.application (command_of asked) s.turns n.sessions.moment) plain none_is)
    by_reply (Some r) some_is is = record { reply_is = some_is ∙ ap Some is; application_is = refl }

    by_lack : (b : Bool) → (done_by m s n place mishap (given_if b) (given_if b).reply).reply ≡ reply
        → IsAnswered n.application n.sessions.moment reply (done_by m s n place mishap (given_if b) (given_if b).reply).application
    by_lack true is = absurd (other (sym is))
    by_lack false is = by_reply (at_moment n.application n.sessions.moment).reply refl is

    served_answered : (served m s n place (asks asked) mishap).reply ≡ reply
        → IsAnswered n.application n.sessions.moment reply (served m s n place (asks asked) mishap).application
    served_answered is = by_lack (lacks_memory m s n asked mishap) is

module _ (m : Meaning) (s : Setup) where
  module _ (before n : Node) (from : Addr) (message : Message) (mishap : Mishap) (sent : List Letter) (reply : Answered) where
    handed_answered : (asked : Asked) (handing : Handing) → n.application ≡ before.application → Takes before.sessions from message n.sessions sent handing
        → asks_for_save asked ≡ false → reply ≢ refused OutOfMemory → (handed m s (asks asked) mishap n sent handing).reply ≡ Some reply
        → IsAnswered m s asked before.application before.sessions.moment reply (handed m s (asks asked) mishap n sent handing).node.application
    handed_answered asked none same takes plain other is = absurd (no_some reply is)
    handed_answered asked (ended_at place) same takes plain other is = absurd (no_some reply is)
    handed_answered asked (payload_at place payload) same takes plain other is =
        let after : Application = (served m s n place (asks asked) mishap).application in
        subst (λ (moment : ℤ). IsAnswered m s asked before.application moment reply after) takes.moment
        (subst (λ (a : Application). IsAnswered m s asked a n.sessions.moment reply after) same
        (served_answered m s asked n place mishap reply plain other (some_eq _ _ is)))

    handed_refused : (refusal : Refusal) (handing : Handing) → (handed m s (is_refused refusal) mishap n sent handing).reply ≡ Some reply → reply ≡ refused refusal
    handed_refused refusal none is = absurd (no_some reply is)
    handed_refused refusal (ended_at place) is = absurd (no_some reply is)
    handed_refused refusal (payload_at place payload) is = sym (some_eq _ _ is)

  pub delivery_answered : (n : Node) (from : Addr) (message : Message) (asked : Asked) (mishap : Mishap) (reply : Answered)
      → asks_for_save asked ≡ false → reply ≢ refused OutOfMemory
      → (delivered m s n from (Some (record { message = message; wish = asks asked })) mishap).reply ≡ Some reply
      → ((answer m n.application asked s.turns n.sessions.moment).reply ≡ Some reply)
      × ((delivered m s n from (Some (record { message = message; wish = asks asked })) mishap).node.application
      ≡ (answer m n.application asked s.turns n.sessions.moment).application)
  delivery_answered n from message asked mishap reply plain other is =
      let outcome = received n.sessions from (Some message) in
      let so = handed_answered n (record n { sessions = outcome.state }) from message mishap outcome.letters reply asked outcome.handing refl
      (received_fine n.sessions from message message.kind) plain other is in
      (so.reply_is, so.application_is)

  pub delivery_refused : (n : Node) (from : Addr) (message : Message) (refusal : Refusal) (mishap : Mishap) (reply : Answered)
      → (delivered m s n from (Some (record { message = message; wish = is_refused refusal })) mishap).reply ≡ Some reply → reply ≡ refused refusal
  delivery_refused n from message refusal mishap reply is =
      let outcome = received n.sessions from (Some message) in
      handed_refused n (record n { sessions = outcome.state }) from message mishap outcome.letters reply refusal outcome.handing is
