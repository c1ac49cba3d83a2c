-- Replies within a run.
use Rattle.std.proofs.Common.{◌≡◌, ℕ, true, false, List, [], ◌∷◌, ◌++◌, Some, ap, subst, ◌∙◌}
use Rattle.sed_outside.specs.Cause.{Rose}
use Rattle.sed_outside.specs.declared.addr.Addr.{Addr}
use Rattle.sed_value.specs.declared.refusal.Refusal.TheVariants.{OutOfMemory}
use Rattle.replay_log.specs.Entry.{Entry, datagram, tick}
use Rattle.sed_engine.specs.Code.{Meaning}
use Rattle.sox_msg.specs.Answered.{Answered, refused}
use Rattle.node_events.specs.Delivering.{delivered}
use Rattle.node_events.specs.Handling.{AreHandledAs, Handled, IsHandledAs}
use Rattle.node_events.specs.Heard.{Heard, IsWish}
use Rattle.node_events.specs.Mishap.{MayHappen, Mishap, no_memory}
use Rattle.node_events.specs.Node.{Node, Setup}
use Rattle.node_events.specs.Replying.{IsReplied}
use Rattle.node_events.specs.Running.{Event, Reached, comes, followed_by, run}
use Rattle.sed_node.specs.Running.{ComesTo}
use Rattle.sedona_cli.specs.Outside.{Ran}
use Rattle.sedona_laws.specs.Replies.{NoReplyIs26, node_after}

-- an event of those that handled entries came to was handled as one of them
pub record WasHandled (event : Event) : Type 0 where
  pub handled : Handled
  pub is : IsHandledAs true handled event

one_handled : (all : List Handled) (events before later : List Event) (event : Event) → AreHandledAs true all events → events ≡ before ++ event ∷ later → WasHandled event
one_handled [] [] before later event are parted = absurd (none before parted)
  where
    none : (before : List Event) → [] ≡ before ++ event ∷ later → ⊥
    none [] same = cc
    none (first ∷ rest) same = cc
one_handled [] (e ∷ events) before later event are parted = absurd are
one_handled (h ∷ all) [] before later event are parted = absurd are
one_handled (h ∷ all) (e ∷ events) [] later event are parted =
    record { handled = h; is = subst (λ (x : Event). IsHandledAs true h x) (first e event events later parted) are.0 }
  where
    first : (a b : Event) (xs ys : List Event) → a ∷ xs ≡ b ∷ ys → a ≡ b
    first a b xs ys same = cc
one_handled (h ∷ all) (e ∷ events) (b ∷ before) later event are parted = one_handled all events before later event are.1 (rest e b events (before ++ event ∷ later) parted)
  where
    rest : (a b : Event) (xs ys : List Event) → a ∷ xs ≡ b ∷ ys → xs ≡ ys
    rest a b xs ys same = cc

-- a message is heard as its payload asks
heard_so : (entry : Entry) (from : Addr) (heard : Heard) (mishap : Mishap) (before now : ℕ) → IsHandledAs true (record { entry = entry; before = before; now = now }) (comes from (Some heard) mishap) → IsWish heard.message.payload heard.wish
heard_so (datagram sender bytes) from heard mishap before now is = is.0.1.1
heard_so (tick ticks) from heard mishap before now is = absurd is.0

-- no memory is wanted where the code is fixed
not_wanted : (Risen : Type 0) (mishap : Mishap) → MayHappen true Risen mishap → mishap ≡ no_memory → ⊥
not_wanted Risen mishap may is = wrong (subst (λ (x : Mishap). MayHappen true Risen x) is may)
  where
    wrong : true ≡ false → ⊥
    wrong same = cc

-- what the laws of the node's events say
pub record Told : Type 0 where
  pub sent : (m : Meaning) (s : Setup) (n : Node) (from : Addr) (heard : Heard) (mishap : Mishap) (reply : Answered) → (delivered m s n from (Some heard) mishap).reply ≡ Some reply
      → IsReplied n from heard.message reply (delivered m s n from (Some heard) mishap)
  pub memory : (m : Meaning) (s : Setup) (n : Node) (from : Addr) (heard : Heard) (mishap : Mishap) → IsWish heard.message.payload heard.wish
      → (delivered m s n from (Some heard) mishap).reply ≡ Some (refused OutOfMemory) → mishap ≡ no_memory
  pub follow : (m : Meaning) (s : Setup) (n : Node) (first later : List Event) → run m s n (first ++ later) ≡ followed_by (run m s n first) (run m s (run m s n first).node later)

pub none_is_26 : Told → (ran : Ran) (faults faults_now : ℕ) → ComesTo true ran.entries faults faults_now ran.events → NoReplyIs26 ran
none_is_26 told ran faults faults_now came = λ before later from heard mishap reply parted replies.
    let was = one_handled came.handled ran.events before later (comes from (Some heard) mishap) came.events_are parted in
    record {
      replied = told.sent ran.code ran.setup (node_after ran before) from heard mishap reply replies;
      sent =
          ap (λ (events : List Event). (run ran.code ran.setup ran.start events).sent) parted
          ∙ ap (λ (r : Reached). r.sent) (told.follow ran.code ran.setup ran.start before (comes from (Some heard) mishap ∷ later));
      not_26 = λ same.
          not_wanted (Rose was.handled.before was.handled.now) mishap was.is.1
          (told.memory ran.code ran.setup (node_after ran before) from heard mishap (heard_so was.handled.entry from heard mishap was.handled.before was.handled.now was.is)
          (replies ∙ ap Some same));
    }
