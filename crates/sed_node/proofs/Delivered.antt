-- A datagram: what the sessions hand on, and what is then delivered.
use Rattle.std.proofs.Common.{◌≡◌, ◌∙◌, ◌≤◌, ℕ, List, [], ◌∷◌, drop, length, refl, sym, ap, subst, arith}
use Rattle.std.specs.Prelude.{IsTrue, Option, Some, None}
use mathlib.Core.Path.{fun_ext}
use Rattle.sed_outside.specs.declared.addr.Addr.{Addr}
use Rattle.sed_outside.specs.Cause.{Rose}
use Rattle.disk_model.specs.Disk.{Meaning as DiskMeaning}
use Rattle.sed_engine.specs.declared.engine.Engine.{Ghosts}
use Rattle.sed_engine.specs.Code.{Meaning}
use Rattle.link_prop.specs.Linked.{application_of}
use Rattle.sub_table.specs.declared.part.Part.{Part}
use Rattle.sub_table.specs.Table.{without_place}
use Rattle.sox_events.specs.Due.{subscriptions}
use Rattle.dasp_msg.specs.Shown.{Message}
use Rattle.dasp_session.specs.Letters.{Letter}
use Rattle.dasp_session.specs.Outbox.{Datagram, Sends}
use Rattle.dasp_session.specs.Receive.{Handing, Outcome, ended_at, none, payload_at, received}
use Rattle.dasp_session.specs.Standing.{Hands, IsRead, Leaves}
use Rattle.dasp_session.specs.declared.handed.Handed.{Handed}
use Rattle.dasp_session.specs.declared.handed.Handed.TheVariants.{Nothing, Ended, Payload}
use Rattle.node_events.specs.Delivering.{Delivery, delivered, handed, leaves, replied}
use Rattle.node_events.specs.Heard.{Heard, IsHeard, Wish}
use Rattle.node_events.specs.Mishap.{MayHappen, Mishap, is_no_memory}
use Rattle.node_events.specs.Node.{KeepsWindows, Node, OnlyOfTheOpen, Setup, without_session}
use Rattle.node_events.specs.Running.{Event, comes, run}
use Rattle.node_events.specs.Serving.{served}
use Rattle.sed_node.specs.Doing.{Delivers, Does, delivery_of, is_heard_to_add}
use Rattle.sed_node.specs.OnDisk.{OnDisk}
use Rattle.sed_node.specs.Standing.{Holds, IsKept, SameSetup, StandsFor, code_of, is_fixed, setup_of}
use Rattle.sed_node.specs.declared.kept.Kept.{Kept}
use Rattle.sed_node.proofs.Sending.{at_most, sends_more}

which : Handed → ℕ
which Nothing = 0
which (Ended place) = 1
which (Payload place at) = 2

place_of : Handed → ℕ
place_of Nothing = 0
place_of (Ended place) = place
place_of (Payload place at) = place

at_of : Handed → ℕ
at_of Nothing = 0
at_of (Ended place) = 0
at_of (Payload place at) = at

-- the message of what was heard
abbrev pub IsHeardAs : Option Heard → Option Message → Type 0
IsHeardAs None read = read ≡ None
IsHeardAs (Some heard) read = read ≡ Some heard.message

-- ---- what is handed on, and what is delivered

module _ (bytes : List ℕ) (m : Meaning) (s : Setup) (wish : Wish) (mishap : Mishap) (n : Node) (sent : List Letter)
  where
    pub handed_nothing : (handing : Handing) → Hands bytes handing Nothing → handed m s wish mishap n sent handing
        ≡ leaves n sent
    unfolding which
    handed_nothing none hands = refl
    handed_nothing (ended_at place) hands = absurd (let no : 0 ≡ 1 = ap which hands in omega (arith, no))
    handed_nothing (payload_at place payload) hands = absurd (let no : 0 ≡ 2 = ap which hands.1 in omega (arith, no))

    pub handed_ended : (handing : Handing) (place : ℕ) → Hands bytes handing (Ended place)
        → handed m s wish mishap n sent handing ≡ leaves (without_session place n) sent
    unfolding which place_of
    handed_ended none place hands = absurd (let no : 1 ≡ 0 = ap which hands in omega (arith, no))
    handed_ended (ended_at k) place hands = ap (λ (k : ℕ). leaves (without_session k n) sent) (sym (ap place_of hands))
    handed_ended (payload_at k payload) place hands = absurd (let no : 1 ≡ 2 = ap which hands.1 in omega (arith, no))

    pub handed_payload : (handing : Handing) (place at : ℕ) → Hands bytes handing (Payload place at)
        → handed m s wish mishap n sent handing ≡ replied place (drop at bytes) n sent (served m s n place wish mishap)
    unfolding which place_of at_of
    handed_payload none place at hands = absurd (let no : 2 ≡ 0 = ap which hands in omega (arith, no))
    handed_payload (ended_at k) place at hands = absurd (let no : 2 ≡ 1 = ap which hands in omega (arith, no))
    handed_payload (payload_at k payload) place at hands =
        ap (λ (bytes : List ℕ). replied k bytes n sent (served m s n k wish mishap))
        (sym hands.3 ∙ ap (λ (i : ℕ). drop i bytes) (sym (ap at_of hands.1)))
        ∙ ap (λ (p : ℕ). replied p (drop at bytes) n sent (served m s n p wish mishap)) (sym (ap place_of hands.1))

pub not_ended : (place : ℕ) → Ended place ≡ Nothing → ⊥
unfolding which
not_ended place is = let no : 1 ≡ 0 = ap which is in omega (arith, no)

pub not_payload : (place at : ℕ) → Payload place at ≡ Nothing → ⊥
unfolding which
not_payload place at is = let no : 2 ≡ 0 = ap which is in omega (arith, no)

-- ---- what goes on to hold of the node

module _ (only : (m : Meaning) (s : Setup) (n : Node) (events : List Event) → OnlyOfTheOpen n
    → OnlyOfTheOpen (run m s n events).node)
    (windows : (m : Meaning) (s : Setup) (n : Node) (events : List Event) → KeepsWindows n.sessions
    → KeepsWindows (run m s n events).node.sessions)
    {E : Type 0} (g : Ghosts E) (old new : Kept E) (n : Node) (from : Addr) (heard : Option Heard) (mishap : Mishap)
  where
    pub stands_by : StandsFor g old n → Holds g new (delivery_of g old n from heard mishap).node → IsKept g new
        → StandsFor g new (delivery_of g old n from heard mishap).node
    stands_by stands holds kept = record {
      holds = holds;
      is_kept = kept;
      only_open = only (code_of g old) (setup_of old) n (comes from heard mishap ∷ []) stands.only_open;
      windows = windows (code_of g old) (setup_of old) n (comes from heard mishap ∷ []) stands.windows;
    }

-- nothing was heard, or something was
pub by_heard : (P : Option Heard → Type 0) → P None → ((h : Heard) → P (Some h)) → (heard : Option Heard) → P heard
by_heard P unheard is_heard None = unheard
by_heard P unheard is_heard (Some h) = is_heard h

-- ---- the three arms

-- a delivery was done: its node is held, its messages were sent into an empty outbox, and its save was begun
pub record Lands {E D : Type 0} (g : Ghosts E) (meaning : D → DiskMeaning) (m : Meaning) (slot : ℕ) (new : Kept E)
    (d : Delivery) (sent : List Datagram)
    (before after : D) : Type 0 where
  pub holds : Holds g new d.node
  pub sends : Sends d.sent [] sent
  pub disk : OnDisk meaning m slot d.save before after

-- what was read is what was heard
pub is_read : (bytes : List ℕ) (heard : Option Heard) → IsHeard bytes heard → (read : Option Message)
    → IsHeardAs heard read → IsRead bytes read
is_read bytes None is read same = subst (IsRead bytes) (sym same) is
is_read bytes (Some heard) is read same = subst (IsRead bytes) (sym same) is.0

module _ {E D : Type 0} (g : Ghosts E) (meaning : D → DiskMeaning) (old new : Kept E) (n : Node) (from : Addr)
    (mishap : Mishap) (bytes : List ℕ)
    (out sent : List Datagram) (empty : out ≡ []) (holds : Holds g old n) where
  emptied : (letters : List Letter) → Sends letters out sent → Sends letters [] sent
  emptied letters sends = subst (λ (start : List Datagram). Sends letters start sent) empty sends

  module _ (application : application_of g new.app ≡ application_of g old.app) (disk : D) where
    -- nothing is handed on
    pub lands_nothing : (heard : Option Heard) → subscriptions new.subs ≡ subscriptions old.subs
        → ((read : Option Message) → IsHeardAs heard read
        → Leaves (received n.sessions from read) new.sessions out sent)
        → ((read : Option Message) → IsHeardAs heard read → Hands bytes (received n.sessions from read).handing Nothing)
        → Lands g meaning (code_of g old) old.saver new (delivery_of g old n from heard mishap) sent disk disk
    lands_nothing None subscribed left hands =
        let outcome = left None refl in
        record {
          holds = record {
            application = application ∙ holds.application;
            sessions = outcome.state;
            subscribed =
                subscribed ∙ holds.subscribed;
          };
          sends = emptied [] outcome.sent;
          disk = refl;
        }
    lands_nothing (Some heard) subscribed left hands =
        let outcome = left (Some heard.message) refl in
        let after : Outcome = received n.sessions from (Some heard.message) in
        subst (λ (d : Delivery). Lands g meaning (code_of g old) old.saver new d sent disk disk)
        (sym (handed_nothing bytes (code_of g old) (setup_of old) heard.wish mishap
        (record n { sessions = after.state }) after.letters after.handing (hands (Some heard.message) refl)))
        (record {
          holds = record {
            application = application ∙ holds.application;
            sessions = outcome.state;
            subscribed =
                subscribed ∙ holds.subscribed;
          };
          sends = emptied after.letters outcome.sent;
          disk = refl;
        })

    -- a session has ended
    pub lands_ended : (place : ℕ) (heard : Option Heard)
        → ((p i : ℕ) (part : Part) → subscriptions new.subs p i part
        ≡ without_place place (subscriptions old.subs) p i part)
        → ((read : Option Message) → IsHeardAs heard read
        → Leaves (received n.sessions from read) new.sessions out sent)
        → ((read : Option Message) → IsHeardAs heard read
        → Hands bytes (received n.sessions from read).handing (Ended place))
        → Lands g meaning (code_of g old) old.saver new (delivery_of g old n from heard mishap) sent disk disk
    lands_ended place None subscribed left hands = absurd (not_ended place (hands None refl))
    lands_ended place (Some heard) subscribed left hands =
        let outcome = left (Some heard.message) refl in
        let after : Outcome = received n.sessions from (Some heard.message) in
        subst (λ (d : Delivery). Lands g meaning (code_of g old) old.saver new d sent disk disk)
        (sym (handed_ended bytes (code_of g old) (setup_of old) heard.wish mishap (record n { sessions = after.state })
        after.letters after.handing place (hands (Some heard.message) refl)))
        (record {
          holds = record {
            application = application ∙ holds.application;
            sessions = outcome.state;
            subscribed = fun_ext (λ p. fun_ext (λ i. fun_ext (λ part. subscribed p i part)))
                ∙ ap (without_place place) holds.subscribed;
          };
          sends = emptied after.letters outcome.sent;
          disk = refl;
        })

  -- a payload was answered
  pub lands_payload : (place at : ℕ) (heard : Heard) (middle : List Datagram) (before after : D)
      → Sends (received n.sessions from (Some heard.message)).letters out middle
      → Hands bytes (received n.sessions from (Some heard.message)).handing (Payload place at)
      → Does g meaning (code_of g old) old.saver new
      (record n { sessions = (received n.sessions from (Some heard.message)).state }) place (drop at bytes)
      (served (code_of g old) (setup_of old)
      (record n { sessions = (received n.sessions from (Some heard.message)).state }) place heard.wish mishap)
      middle sent before after
      → Lands g meaning (code_of g old) old.saver new (delivery_of g old n from (Some heard) mishap) sent before after
  lands_payload place at heard middle before after left hands does =
      let outcome : Outcome = received n.sessions from (Some heard.message) in
      subst (λ (d : Delivery). Lands g meaning (code_of g old) old.saver new d sent before after)
      (sym (handed_payload bytes (code_of g old) (setup_of old) heard.wish mishap
      (record n { sessions = outcome.state }) outcome.letters outcome.handing place at hands))
      (record {
        holds = does.holds;
        sends = emptied _ (sends_more outcome.letters _ out middle sent left does.sends);
        disk = does.disk;
      })

-- what was done is what is defined
module _ (only : (m : Meaning) (s : Setup) (n : Node) (events : List Event) → OnlyOfTheOpen n
    → OnlyOfTheOpen (run m s n events).node)
    (windows : (m : Meaning) (s : Setup) (n : Node) (events : List Event) → KeepsWindows n.sessions
    → KeepsWindows (run m s n events).node.sessions)
    (one : (m : Meaning) (s : Setup) (n : Node) (from : Addr) (heard : Option Heard) (mishap : Mishap)
    → KeepsWindows n.sessions → length (delivered m s n from heard mishap).sent ≤ 1)
    {E D : Type 0} (g : Ghosts E) (meaning : D → DiskMeaning) (old new : Kept E) (n : Node) (from : Addr)
    (heard : Option Heard) (mishap : Mishap) (sent : List Datagram) (before after : D) where
  pub delivers_by : StandsFor g old n → IsKept g new → SameSetup g old new
      → MayHappen (is_fixed g old) (Rose (meaning before).faults (meaning after).faults) mishap
      → (IsTrue (is_no_memory mishap) → IsTrue (is_heard_to_add heard))
      → Lands g meaning (code_of g old) old.saver new (delivery_of g old n from heard mishap) sent before after
      → Delivers g meaning old new n from heard sent before after
  delivers_by stands kept same may lacking lands = record {
    mishap = mishap;
    may = may;
    adds_alone = lacking;
    stands = stands_by only windows g old new n from heard mishap stands lands.holds kept;
    same = same;
    sends = lands.sends;
    few = at_most 1 _ sent lands.sends (one (code_of g old) (setup_of old) n from heard mishap stands.windows);
    disk = lands.disk;
  }
