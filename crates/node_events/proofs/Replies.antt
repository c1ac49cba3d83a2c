-- What replies say of a node.
use Rattle.std.proofs.Common.{◌≡◌, ◌≢◌, ℕ, Bool, true, false, List, refl, sym, ◌∙◌, ap}
use Rattle.std.specs.Prelude.{ℤ, Option, Some, None, if◌then◌else◌}
use Rattle.sed_outside.specs.declared.addr.Addr.{Addr}
use Rattle.sed_value.specs.declared.refusal.Refusal.{Refusal}
use Rattle.sed_value.specs.declared.refusal.Refusal.TheVariants.{OutOfMemory, SaveDevice}
use Rattle.sed_engine.specs.Code.{Meaning}
use Rattle.comp_tree.specs.Application.{Application}
use Rattle.dasp_session.specs.Letters.{Letter}
use Rattle.dasp_session.specs.Receive.{Handing, none, ended_at, payload_at, received}
use Rattle.sox_msg.specs.Answered.{Answered, done, refused}
use Rattle.sox_msg.specs.Command.{Asked}
use Rattle.sox_serve.specs.Answer.{Answer, answer, refused_by}
use Rattle.node_events.specs.Delivering.{Delivery, delivered, handed}
use Rattle.node_events.specs.Heard.{Heard, Wish, asks, is_refused}
use Rattle.node_events.specs.Mishap.{Mishap}
use Rattle.node_events.specs.Node.{Node, Setup}
use Rattle.node_events.specs.Saving.{Save, answer_to_save, save_of}
use Rattle.node_events.specs.Serving.{Serving, done_by, given, lacks_memory, served, subscribed_after}
use Rattle.std.proofs.lemmas.Option.{same_Some as some_eq}

no_some : {A : Type 0} (x : A) → ◌≡◌ {A = Option A} None (Some x) → ⊥
no_some x is = cc

-- ---- what a refused command leaves

-- the application and the subscriptions stay
record Leaves (n : Node) (serving : Serving) : Type 0 where
  application : serving.application ≡ n.application
  subscriptions : serving.subscriptions ≡ n.subscriptions

-- a refused command leaves its answer as it stands when nothing is done
abbrev pub RefusedLaw : Type 0
RefusedLaw = (m : Meaning) (a : Application) (asked : Asked) (turns : ℕ) (moment : ℤ) (refusal : Refusal)
    → (answer m a asked turns moment).reply ≡ Some (refused refusal) → answer m a asked turns moment ≡ refused_by a refusal

module _ (law : RefusedLaw) (m : Meaning) (s : Setup) where
  given_refused : (n : Node) (asked : Asked) (mishap : Mishap) (refusal : Refusal)
      → (given m s n asked mishap).reply ≡ Some (refused refusal)
      → (r : Refusal) × (given m s n asked mishap ≡ refused_by n.application r)
  given_refused n asked mishap refusal = by_test (lacks_memory m s n asked mishap)
    where
      by_test : (b : Bool)
          → (if b then refused_by n.application OutOfMemory else answer m n.application asked s.turns n.sessions.moment).reply ≡ Some (refused refusal)
          → (r : Refusal) × ((if b then refused_by n.application OutOfMemory else answer m n.application asked s.turns n.sessions.moment) ≡ refused_by n.application r)
      by_test true is = (OutOfMemory, refl)
      by_test false is = (refusal, law m n.application asked s.turns n.sessions.moment refusal is)

  done_leaves : (n : Node) (place : ℕ) (mishap : Mishap) (x : Answer) (reply : Option Answered) (refusal : Refusal)
      → (reply ≡ Some (refused refusal) → (r : Refusal) × (x ≡ refused_by n.application r))
      → (done_by m s n place mishap x reply).reply ≡ refused refusal → Leaves n (done_by m s n place mishap x reply)
  done_leaves n place mishap x (Some reply) refusal why is =
      let so = why (ap Some is) in
      record {
        application = ap (λ (x : Answer). x.application) so.1;
        subscriptions = ap (λ (x : Answer). subscribed_after x.served place x.application n.subscriptions) so.1;
      }
  done_leaves n place mishap x None refusal why is = record { application = refl; subscriptions = refl }

  serving_leaves : (n : Node) (place : ℕ) (wish : Wish) (mishap : Mishap) (refusal : Refusal)
      → (served m s n place wish mishap).reply ≡ refused refusal → Leaves n (served m s n place wish mishap)
  serving_leaves n place (is_refused r) mishap refusal is = record { application = refl; subscriptions = refl }
  serving_leaves n place (asks asked) mishap refusal is =
      done_leaves n place mishap (given m s n asked mishap) (given m s n asked mishap).reply refusal (given_refused n asked mishap refusal) is

  -- of a delivery
  pub record Stays (n : Node) (d : Delivery) : Type 0 where
    pub application : d.node.application ≡ n.application
    pub subscriptions : d.node.subscriptions ≡ n.subscriptions

  handed_stays : (n : Node) (wish : Wish) (mishap : Mishap) (sent : List Letter) (handing : Handing) (refusal : Refusal)
      → (handed m s wish mishap n sent handing).reply ≡ Some (refused refusal) → Stays n (handed m s wish mishap n sent handing)
  handed_stays n wish mishap sent none refusal is = absurd (no_some (refused refusal) is)
  handed_stays n wish mishap sent (ended_at place) refusal is = absurd (no_some (refused refusal) is)
  handed_stays n wish mishap sent (payload_at place payload) refusal is =
      let left = serving_leaves n place wish mishap refusal (some_eq _ _ is) in
      record { application = left.application; subscriptions = left.subscriptions }

  pub refused_stays : (n : Node) (from : Addr) (heard : Heard) (mishap : Mishap) (refusal : Refusal)
      → (delivered m s n from (Some heard) mishap).reply ≡ Some (refused refusal)
      → Stays n (delivered m s n from (Some heard) mishap)
  refused_stays n from heard mishap refusal is =
      let outcome = received n.sessions from (Some heard.message) in
      let left = handed_stays (record n { sessions = outcome.state }) heard.wish mishap outcome.letters outcome.handing refusal is in
      record { application = left.application; subscriptions = left.subscriptions }

-- ---- saves

module _ (m : Meaning) (s : Setup) where
  -- a save that began: its reply, and what it is
  record Begins (n : Node) (mishap : Mishap) (serving : Serving) (save : Save) : Type 0 where
    reply : serving.reply ≡ answer_to_save (Some save)
    is : save_of m s.slot n.application mishap ≡ Some save

  done_begins : (n : Node) (place : ℕ) (mishap : Mishap) (x : Answer) (reply : Option Answered) (save : Save)
      → (done_by m s n place mishap x reply).save ≡ Some save → Begins n mishap (done_by m s n place mishap x reply) save
  done_begins n place mishap x (Some reply) save is = absurd (no_some save is)
  done_begins n place mishap x None save is = record { reply = ap answer_to_save is; is = is }

  serving_begins : (n : Node) (place : ℕ) (wish : Wish) (mishap : Mishap) (save : Save)
      → (served m s n place wish mishap).save ≡ Some save → Begins n mishap (served m s n place wish mishap) save
  serving_begins n place (is_refused r) mishap save is = absurd (no_some save is)
  serving_begins n place (asks asked) mishap save is = done_begins n place mishap (given m s n asked mishap) (given m s n asked mishap).reply save is

  -- of a delivery
  pub record Saves (n : Node) (mishap : Mishap) (d : Delivery) (save : Save) : Type 0 where
    pub reply : d.reply ≡ Some (answer_to_save (Some save))
    pub is : save_of m s.slot n.application mishap ≡ Some save

  handed_saves : (n : Node) (wish : Wish) (mishap : Mishap) (sent : List Letter) (handing : Handing) (save : Save)
      → (handed m s wish mishap n sent handing).save ≡ Some save → Saves n mishap (handed m s wish mishap n sent handing) save
  handed_saves n wish mishap sent none save is = absurd (no_some save is)
  handed_saves n wish mishap sent (ended_at place) save is = absurd (no_some save is)
  handed_saves n wish mishap sent (payload_at place payload) save is =
      let began = serving_begins n place wish mishap save is in record { reply = ap Some began.reply; is = began.is }

  pub delivery_saves : (n : Node) (from : Addr) (heard : Heard) (mishap : Mishap) (save : Save)
      → (delivered m s n from (Some heard) mishap).save ≡ Some save → Saves n mishap (delivered m s n from (Some heard) mishap) save
  delivery_saves n from heard mishap save is =
      let outcome = received n.sessions from (Some heard.message) in
      let began = handed_saves (record n { sessions = outcome.state }) heard.wish mishap outcome.letters outcome.handing save is in
      record { reply = began.reply; is = began.is }

-- a refusal other than 24 is of no save
acknowledged_or_not : (b : Bool) (refusal : Refusal) → (if b then done 73 else refused SaveDevice) ≡ refused refusal → refusal ≡ SaveDevice
acknowledged_or_not true refusal is = absurd (no refusal is)
  where
    no : (refusal : Refusal) → ◌≡◌ {A = Answered} (done 73) (refused refusal) → ⊥
    no refusal is = cc
acknowledged_or_not false refusal is = let same : refusal ≡ SaveDevice = cc in same

none_or_some : {A : Type 0} (o : Option A) → ((x : A) → o ≡ Some x → ⊥) → o ≡ None
none_or_some None never = refl
none_or_some (Some x) never = absurd (never x refl)

pub no_save : (m : Meaning) (s : Setup) (n : Node) (from : Addr) (heard : Heard) (mishap : Mishap) (refusal : Refusal)
    → (delivered m s n from (Some heard) mishap).reply ≡ Some (refused refusal) → refusal ≢ SaveDevice
    → (delivered m s n from (Some heard) mishap).save ≡ None
no_save m s n from heard mishap refusal is other =
    none_or_some (delivered m s n from (Some heard) mishap).save (λ save began.
    other (acknowledged_or_not save.acknowledged refusal (some_eq _ _ (sym (delivery_saves m s n from heard mishap save began).reply ∙ is))))
