-- A visit of a place: that what is told there is what was done.
use Rattle.std.proofs.Common.{◌≡◌, ◌∙◌, ℕ, Bool, true, false, List, [], ◌++◌, refl, sym, ap, subst}
use Rattle.std.specs.Prelude.{is_some, not, Option, Some, None}
use mathlib.Core.Path.{fun_ext}
use Rattle.sed_engine.specs.declared.engine.Engine.{Ghosts}
use Rattle.sed_engine.specs.Code.{Meaning}
use Rattle.link_prop.specs.Linked.{application_of}
use Rattle.sub_table.specs.declared.part.Part.{Part}
use Rattle.sub_table.specs.Table.{without_place}
use Rattle.sox_events.specs.Due.{subscriptions}
use Rattle.dasp_session.specs.Looking.{session_at}
use Rattle.dasp_session.specs.Outbox.{Datagram}
use Rattle.dasp_session.specs.Receive.{keep_of, tick_of}
use Rattle.dasp_session.specs.Session.{Session}
use Rattle.dasp_session.specs.Standing.{Leaves, is_ended}
use Rattle.node_events.specs.Events.{Telling}
use Rattle.node_events.specs.Ticking.{at_place, kept_up, timed}
use Rattle.sed_node.specs.Doing.{IsTold}
use Rattle.sed_node.specs.declared.kept.Kept.{Kept}
use Rattle.sed_node.proofs.Sending.{sends_more, sends_none}
use Rattle.sed_node.proofs.Visiting.{ended_told, goes_on, nobody_told}

pub nobody_in : (o : Option Session) → false ≡ is_some o → o ≡ None
nobody_in None none = refl
nobody_in (Some session) none = absurd (let no : false ≡ true = none in cc)

-- a session has ended where it is told so, and goes on where not
pub ended_by : (r x : Bool) → r ≡ not x → r ≡ false → x ≡ true
ended_by r true is told = refl
ended_by r false is told = absurd (let no : true ≡ false = sym is ∙ told in cc)

pub goes_by : (r x : Bool) → r ≡ not x → r ≡ true → x ≡ false
goes_by r true is told = absurd (let no : false ≡ true = sym is ∙ told in cc)
goes_by r false is told = refl

module _ {E : Type 0} (g : Ghosts E) (m : Meaning) (place : ℕ) (t : Telling) where
  -- nobody lives there
  pub visit_nobody : (kept : Kept E) (sent : List Datagram) → IsTold g kept t sent → session_at t.node.sessions place
      ≡ None
      → IsTold g kept (at_place m t place) sent
  visit_nobody kept sent is nobody =
      subst (λ (x : Telling). IsTold g kept x sent) (sym (nobody_told m place t nobody)) (record {
        holds = is.holds;
        sends = sends_none (t.sent ++ []) [] sent (sends_none t.sent [] sent is.sends);
      })

  module _ (old new : Kept E) (sent sent_now : List Datagram) (is : IsTold g old t sent)
      (application : application_of g new.app ≡ application_of g old.app)
      (left : Leaves (tick_of t.node.sessions place) new.sessions sent sent_now) where
    -- the session has ended
    pub visit_ended : is_ended (tick_of t.node.sessions place).handing ≡ true
        → ((p i : ℕ) (part : Part) → subscriptions new.subs p i part
        ≡ without_place place (subscriptions old.subs) p i part)
        → IsTold g new (at_place m t place) sent_now
    visit_ended ended dropped =
        subst (λ (x : Telling). IsTold g new x sent_now) (sym (ended_told m place t ended)) (record {
          holds = record {
            application = application ∙ is.holds.application;
            sessions = left.state;
            subscribed = fun_ext (λ p. fun_ext (λ i. fun_ext (λ part. dropped p i part)))
                ∙ ap (without_place place) is.holds.subscribed;
          };
          sends = sends_none (t.sent ++ (tick_of t.node.sessions place).letters) [] sent_now
              (sends_more t.sent (tick_of t.node.sessions place).letters [] sent sent_now is.sends left.sent);
        })

    -- it goes on
    pub visit_timed : is_ended (tick_of t.node.sessions place).handing ≡ false → subscriptions new.subs
        ≡ subscriptions old.subs
        → IsTold g new (timed place t) sent_now
    visit_timed goes subscribed =
        subst (λ (x : Telling). IsTold g new x sent_now) (sym (goes_on m place t goes)) (record {
          holds = record {
            application = application ∙ is.holds.application;
            sessions = left.state;
            subscribed = subscribed ∙ is.holds.subscribed;
          };
          sends = sends_more t.sent (tick_of t.node.sessions place).letters [] sent sent_now is.sends left.sent;
        })

  -- a keepAlive where it is owed
  pub visit_kept : (old new : Kept E) (sent sent_now : List Datagram) → IsTold g old t sent
      → application_of g new.app ≡ application_of g old.app → subscriptions new.subs ≡ subscriptions old.subs
      → Leaves (keep_of t.node.sessions place) new.sessions sent sent_now
      → IsTold g new (kept_up place t) sent_now
  visit_kept old new sent sent_now is application subscribed left = record {
    holds = record {
      application = application ∙ is.holds.application;
      sessions = left.state;
      subscribed = subscribed ∙ is.holds.subscribed;
    };
    sends = sends_more t.sent (keep_of t.node.sessions place).letters [] sent sent_now is.sends left.sent;
  }
