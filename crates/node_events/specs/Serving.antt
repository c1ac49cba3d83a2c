-- What a payload that was taken in a session comes to.
use Rattle.std.specs.Prelude.{ℕ, ◌&&◌, Bool, is_ok, if◌then◌else◌, Option, Some, None}
use Rattle.sed_value.specs.declared.refusal.Refusal.TheVariants.{OutOfMemory}
use Rattle.sed_engine.specs.Code.{Meaning}
use Rattle.comp_tree.specs.Application.{Application}
use Rattle.comp_tree.specs.Edit.{Edit}
use Rattle.sub_table.specs.Table.{Subscriptions, with_subscribed, without_subscribed}
use Rattle.sox_msg.specs.Answered.{Answered, refused}
use Rattle.sox_msg.specs.Command.{Asked}
use Rattle.sox_serve.specs.Answer.{Answer, answer, command_of, may_want_memory, refused_by}
use Rattle.sox_serve.specs.declared.served.Served.{Served}
use Rattle.sox_serve.specs.declared.served.Served.TheVariants.{Replied, SaveAsked, Subscribe, Unsubscribe, Deleted}
use Rattle.node_events.specs.Heard.{Wish, asks, is_refused}
use Rattle.node_events.specs.Mishap.{Mishap, is_no_memory}
use Rattle.node_events.specs.Node.{Node, Setup, of_the_live}
use Rattle.node_events.specs.Saving.{Save, answer_to_save, save_of}

-- the application and the subscriptions after it, the reply, and the save that it began, if it did
pub record Serving : Type 0 where
  pub application : Application
  pub subscriptions : Subscriptions
  pub reply : Answered
  pub save : Option Save

-- nothing changes
abbrev pub replies : Node → Answered → Serving
replies n reply = record { application = n.application; subscriptions = n.subscriptions; reply = reply; save = None }

-- ---- a command

-- why the session of a place may not ask a command; today each may ask every one
abbrev pub denied : Setup → Node → ℕ → Asked → Option Answered
denied s n place asked = None

-- memory is wanted where a command would else be done
abbrev pub lacks_memory : Meaning → Setup → Node → Asked → Mishap → Bool
lacks_memory m s n asked mishap =
    is_no_memory mishap
    && (may_want_memory asked && is_ok (Edit m n.application (command_of asked) s.turns n.sessions.moment))

abbrev pub given : Meaning → Setup → Node → Asked → Mishap → Answer
given m s n asked mishap =
    if lacks_memory m s n asked mishap then refused_by n.application OutOfMemory
    else answer m n.application asked s.turns n.sessions.moment

-- the subscriptions of a node once a command from a place has left an application
abbrev pub subscribed_after : Served → ℕ → Application → Subscriptions → Subscriptions
subscribed_after Replied place a subs = subs
subscribed_after SaveAsked place a subs = subs
subscribed_after (Subscribe id mask) place a subs = with_subscribed place id.0 mask subs
subscribed_after (Unsubscribe id mask) place a subs = without_subscribed place id.0 mask subs
subscribed_after Deleted place a subs = of_the_live a.components.by_id subs

-- a save changes nothing else, begun or not
abbrev pub by_save : Node → Option Save → Serving
by_save n save =
    record { application = n.application; subscriptions = n.subscriptions; reply = answer_to_save save; save = save }

-- a save has its own reply, and every other command that of its answer
abbrev pub done_by : Meaning → Setup → Node → ℕ → Mishap → Answer → Option Answered → Serving
done_by m s n place mishap answer (Some reply) = record {
  application = answer.application;
  subscriptions = subscribed_after answer.served place answer.application n.subscriptions;
  reply = reply;
  save = None;
}
done_by m s n place mishap answer None = by_save n (save_of m s.slot n.application mishap)

abbrev pub commanded : Meaning → Setup → Node → ℕ → Asked → Mishap → Serving
commanded m s n place asked mishap =
    let answer : Answer = given m s n asked mishap in done_by m s n place mishap answer answer.reply

abbrev pub unless_denied : Node → Option Answered → Serving → Serving
unless_denied n None serving = serving
unless_denied n (Some denial) serving = replies n denial

-- ---- any payload

abbrev pub served : Meaning → Setup → Node → ℕ → Wish → Mishap → Serving
served m s n place (is_refused refusal) mishap = replies n (refused refusal)
served m s n place (asks command) mishap =
    unless_denied n (denied s n place command) (commanded m s n place command mishap)
