-- What running over a link and a clock does: the run over the events that they give, and each sent datagram offered
-- behind the poll or the tick that it answers.
use Rattle.std.specs.Prelude.{◌≡◌, ◌≤◌, ℕ, zero, suc, ℤ, Bool, map, List, [], ◌∷◌, ◌++◌, length, All, Option, IfSome, ⊤}
use Rattle.std.specs.List.{flat_map}
use Rattle.std.specs.Option.{option_map}
use Rattle.disk_model.specs.Disk.{Meaning as DiskMeaning}
use Rattle.sed_engine.specs.declared.engine.Engine.{Ghosts}
use Rattle.sed_engine.specs.Code.{Meaning}
use Rattle.sed_outside.specs.declared.offer.Offer.{Offer}
use Rattle.sed_outside.specs.declared.polling.Polling.{Polling}
use Rattle.sed_outside.specs.declared.sleep.Sleep.{Sleep}
use Rattle.sed_outside.specs.Clock.{Moments, later_moments, next_moment}
use Rattle.sed_outside.specs.Rounds.{LiveCycle, heard_in, tick_moments, most_polls, polls_at, sleeps_in, unheard}
use Rattle.sed_outside.specs.Told.{AddsWhereTold, Told}
use Rattle.replay_log.specs.Entry.{Entry}
use Rattle.dasp_session.specs.Letters.{Letter}
use Rattle.dasp_session.specs.Outbox.{AreTexts, Datagram}
use Rattle.node_events.specs.LiveEvents.{entries_in}
use Rattle.node_events.specs.Node.{Node, Setup}
use Rattle.node_events.specs.Running.{Event, run, sent_by}
use Rattle.sed_node.specs.Running.{IsEnd, Runs}
use Rattle.sed_node.specs.declared.kept.Kept.{Kept}
use Rattle.sed_node.specs.declared.running.RunEnd.{RunEnd}

-- ---- what is heard

-- at most as many datagrams as a cycle has polls
abbrev pub HasFew : LiveCycle → Type 0
HasFew cycle = length cycle.datagrams ≤ most_polls

-- Whatever is told, these are so many cycles, in each at most 16 datagrams and then a tick, and the entries are theirs.
-- Where the link tells its polls, the datagrams are those that they give; and where the clock tells its moments, the
-- ticks have these.
pub record AreRounds (polls : Option (List Polling)) (moments : Option Moments) (cycles : ℕ) (rounds : List LiveCycle)
    (entries : List Entry) : Type 0 where
  pub as_many : length rounds ≡ cycles
  pub few : All HasFew rounds
  pub heard_are : IfSome polls (λ to_come. map (λ (cycle : LiveCycle). cycle.datagrams) rounds
      ≡ heard_in cycles to_come)
  pub moments_are : IfSome moments (λ to_come. map (λ (cycle : LiveCycle). cycle.moment) rounds
      ≡ tick_moments cycles to_come)
  pub entries_are : entries ≡ flat_map entries_in rounds

-- ---- what is offered

-- the datagrams of each event are the texts of what it sent
abbrev pub AreTextsByEvent : List (List Letter) → List (List Datagram) → Type 0
AreTextsByEvent [] [] = ⊤
AreTextsByEvent [] (sent ∷ sents) = ⊥
AreTextsByEvent (letters ∷ more) [] = ⊥
AreTextsByEvent (letters ∷ more) (sent ∷ sents) = AreTexts letters sent × AreTextsByEvent more sents

-- all of them, in their order
abbrev pub all_sent : List (List Datagram) → List Datagram
all_sent sents = flat_map (λ (sent : List Datagram). sent) sents

-- as the link is offered it, when so many polls have been made
abbrev pub offered_at : ℕ → Datagram → Offer
offered_at polled sent = record { datagram = record { peer = sent.to; bytes = sent.bytes }; polled = polled }

-- the datagrams of each event, each when as many polls have been made as had been when its event was come to
abbrev pub offers : List ℕ → List (List Datagram) → List Offer
offers [] sents = []
offers (polled ∷ later) [] = []
offers (polled ∷ later) (sent ∷ sents) = map (offered_at polled) sent ++ offers later sents

-- So many cycles were done. Each datagram that was sent was offered, in their order: what an event sent before the next
-- poll.
pub record Lives {E D : Type 0} (g : Ghosts E) (meaning : D → DiskMeaning) (fixed : Bool) (m : Meaning) (s : Setup)
    (new : Kept E) (n : Node) (polls : Option (List Polling)) (moments : Option Moments) (cycles : ℕ) (ended : RunEnd)
    (polled : ℕ) (offered offered_now : Option (Told Offer)) (before after : D) : Type 0 where
  pub entries : List Entry
  pub rounds : List LiveCycle
  pub rounds_are : AreRounds polls moments cycles rounds entries
  pub events : List Event
  pub sents : List (List Datagram)
  pub texts : AreTextsByEvent (sent_by m s n events) sents
  pub runs : Runs g meaning fixed m s new n entries events (all_sent sents) before after
  pub offered_are : AddsWhereTold offered offered_now (offers (polls_at polled rounds) sents)
  pub ends : IsEnd ended (run m s n events)

-- ---- when it sleeps

-- Behind each cycle, and before the next moment is asked, it slept until as many periods were over as cycles were done,
-- from the moment of the first tick on. The clock had given so many moments before that.
pub record Sleeps (moments : Option Moments) (given cycles period : ℕ) (asked asked_now : Option (Told Sleep)) : Type 0
  where
    pub first : ℤ
    pub first_is : 1 ≤ cycles → IfSome moments (λ to_come. first ≡ next_moment to_come)
    pub asked_are : AddsWhereTold asked asked_now (sleeps_in first period given cycles)

-- ---- what is still to come

-- the polls that are still to come behind so many cycles
unfoldable pub polls_behind : ℕ → List Polling → List Polling
polls_behind zero polls = polls
polls_behind (suc n) polls = polls_behind n (unheard most_polls polls)

-- and the moments
unfoldable pub moments_behind : ℕ → Moments → Moments
moments_behind zero moments = moments
moments_behind (suc n) moments = moments_behind n (later_moments moments)

-- What was to come of the link and the clock behind so many cycles is to come now, where it is told.
pub record IsLeft (cycles : ℕ) (polls polls_now : Option (List Polling)) (moments moments_now : Option Moments) : Type 0
  where
    pub polls_are : polls_now ≡ option_map (polls_behind cycles) polls
    pub moments_are : moments_now ≡ option_map (moments_behind cycles) moments
