-- A payload that was taken: what it is served as, and that this is done.
use Rattle.std.proofs.Common.{◌≡◌, ◌∙◌, ℕ, ℤ, Bool, true, false, inl, inr, List, refl}
use Rattle.std.proofs.Common.{sym, ap, subst}
use Rattle.std.specs.Prelude.{◌&&◌, IsTrue, is_ok, is_some, if◌then◌else◌, Option, Some, None, Result, Ok, Err}
use Rattle.sed_value.specs.declared.refusal.Refusal.{Refusal}
use Rattle.sed_value.specs.declared.refusal.Refusal.TheVariants.{OutOfMemory}
use Rattle.sed_outside.specs.Cause.{Rose}
use Rattle.sed_engine.specs.declared.engine.Engine.{Ghosts}
use Rattle.sed_engine.specs.Code.{Meaning}
use Rattle.comp_tree.specs.Application.{Application}
use Rattle.comp_tree.specs.Edit.{Edit, Edited}
use Rattle.comp_tree.specs.Whole.{Whole}
use Rattle.link_prop.specs.Linked.{Linked, application_of}
use Rattle.sox_msg.specs.Answered.{Answered, answered_text, refused}
use Rattle.sox_msg.specs.Command.{Asked, number_in}
use Rattle.sox_serve.specs.Answer.{Answer, WantsMemory, answer, answer_by, command_of, may_want_memory, refused_by}
use Rattle.sox_serve.specs.Replies.{reply_bytes}
use Rattle.sox_serve.specs.declared.served.Served.{Served}
use Rattle.sox_serve.specs.declared.served.Served.TheVariants.{SaveAsked}
use Rattle.sox_serve.specs.Serves.{is_add, Serves}
use Rattle.sox_events.specs.Due.{subscriptions}
use Rattle.disk_model.specs.Disk.{Meaning as DiskMeaning}
use Rattle.app_save.specs.declared.refusal.SaveRefusal.{SaveRefusal}
use Rattle.dasp_session.specs.Outbox.{Datagram}
use Rattle.dasp_session.specs.Receive.{post_of}
use Rattle.dasp_session.specs.Session.{State}
use Rattle.dasp_session.specs.Standing.{Leaves, StandsFor as SessionsStandFor}
use Rattle.node_events.specs.Heard.{asks, is_refused}
use Rattle.node_events.specs.Mishap.{MayHappen, Mishap, is_no_memory, no_memory, nothing_wrong}
use Rattle.node_events.specs.Node.{Node, Setup}
use Rattle.node_events.specs.Saving.{answer_to_save, save_of}
use Rattle.node_events.specs.Serving.{Serving, by_save, done_by, given, served, subscribed_after}
use Rattle.sed_node.specs.Doing.{Answers, Does}
use Rattle.sed_node.specs.OnDisk.{OnDisk}
use Rattle.sed_node.specs.Saving.{begun, mishap_in, reply_to}
use Rattle.sed_node.specs.Standing.{Holds, code_of, is_fixed, setup_of}
use Rattle.sed_node.specs.declared.kept.Kept.{Kept}
use Rattle.sed_node.proofs.Saved.{reply_is, wants_none}

-- ---- the node that is held

-- the node of what is kept and of a list of sessions
abbrev pub node_of : {E : Type 0} → Ghosts E → Kept E → State → Node
node_of g kept state = record {
  application = application_of g kept.app;
  sessions = state;
  subscriptions =
      subscriptions kept.subs;
}

-- what is so of each list of sessions that the windows stand for is so of each node that is held
pub by_held : {E : Type 0} (g : Ghosts E) (kept : Kept E) (P : Node → Type 0)
    → ((state : State) → SessionsStandFor kept.sessions state → P (node_of g kept state)) → (n : Node) → Holds g kept n
    → P n
by_held g kept P is n held = subst P same (is n.sessions held.sessions)
  where
    same : node_of g kept n.sessions ≡ n
    same = λ i. record { application = held.application i; sessions = n.sessions; subscriptions = held.subscribed i }

none_not : {A : Type 0} (o : Option A) (x : A) → o ≡ Some x → o ≡ None → ⊥
none_not o x is none = let no : false ≡ true = ap is_some (sym none ∙ is) in cc

-- ---- a command

module _ (m : Meaning) (s : Setup) (n : Node) (place : ℕ) (asked : Asked) where
  abbrev replying : Answer → Answered → Serving
  replying x reply = record {
    application = x.application;
    subscriptions = subscribed_after x.served place x.application n.subscriptions;
    reply = reply;
    save = None;
  }

  -- a command that has a reply
  pub commanded_is : (mishap : Mishap) (x : Answer) (reply : Answered) → given m s n asked mishap ≡ x → x.reply
      ≡ Some reply
      → served m s n place (asks asked) mishap
      ≡ replying x reply
  commanded_is mishap x reply is replies =
      ap (λ (y : Answer). done_by m s n place mishap y y.reply) is
      ∙ ap (λ (o : Option Answered). done_by m s n place mishap x o) replies

  -- want of memory
  pub given_lacking : (x : Answer) → WantsMemory m n.application asked s.turns n.sessions.moment x
      → given m s n asked no_memory ≡ x
  given_lacking x wants =
      ap (λ (b : Bool). if b then refused_by n.application OutOfMemory else answer m n.application asked s.turns
      n.sessions.moment) both ∙ sym wants.given_is
    where
      both : (may_want_memory asked && is_ok (Edit m n.application (command_of asked) s.turns n.sessions.moment)) ≡ true
      both = ap (λ (b : Bool). b && is_ok (Edit m n.application (command_of asked) s.turns n.sessions.moment)) wants.may
          ∙ wants.allowed

-- what an edit leaves is whole
module _ (m : Meaning) (a : Application) (asked : Asked) (turns : ℕ) (moment : ℤ)
    (keeps : (e : Edited) → Edit m a (command_of asked) turns moment ≡ Ok e → Whole m e.application) (whole : Whole m a)
  where
    pub answer_whole : Whole m (answer m a asked turns moment).application
    answer_whole = by_edit (Edit m a (command_of asked) turns moment) refl
      where
        by_edit : (r : Result Edited Refusal) → Edit m a (command_of asked) turns moment ≡ r
            → Whole m (answer_by a asked r).application
        by_edit (Ok e) is = keeps e is
        by_edit (Err number) is = whole

module _ {E : Type 0} (g : Ghosts E) (old new : Linked E) (asked : Asked) (number turns : ℕ) (moment : ℤ)
    (served_as : Served) (bytes : List ℕ)
    (serves : Serves g old new asked number turns moment served_as bytes) where
  pub served_whole : ((e : Edited) → Edit (g.meaning old.tree.engine) (application_of g old) (command_of asked) turns
      moment ≡ Ok e → Whole (g.meaning old.tree.engine) e.application)
      → Whole (g.meaning old.tree.engine) (application_of g old)
      → Whole (g.meaning old.tree.engine) (application_of g new)
  served_whole keeps whole = subst (Whole (g.meaning old.tree.engine)) (sym serves.gives.application) (elim serves.is [
    | inl is ↦ subst (λ (x : Answer). Whole (g.meaning old.tree.engine) x.application) (sym is)
        (answer_whole (g.meaning old.tree.engine) (application_of g old) asked turns moment keeps whole)
    | inr lacks ↦ subst (λ (x : Answer). Whole (g.meaning old.tree.engine) x.application) (sym lacks.wants.given_is)
        whole
  ])

-- ---- that it is done

-- a command that is no save, with what the calls of its parts leave
module _ {E D : Type 0} (g : Ghosts E) (meaning : D → DiskMeaning) (old new : Kept E) (place number : ℕ) (asked : Asked)
    (served_as : Served) (bytes : List ℕ)
    (sent sent_now : List Datagram) (disk : D) where
  pub command_done : (state : State)
      → ((answer (code_of g old) (application_of g old.app) asked old.turns state.moment).reply ≡ None
      → (answer (code_of g old) (application_of g old.app) asked old.turns state.moment).served ≡ SaveAsked)
      → Serves g old.app new.app asked number old.turns state.moment served_as bytes
      → (served_as ≡ SaveAsked → ⊥)
      → subscriptions new.subs ≡ subscribed_after served_as place (application_of g new.app) (subscriptions old.subs)
      → Leaves (post_of state place bytes) new.sessions sent sent_now
      → (payload : List ℕ) → number_in payload ≡ number
      → Answers g meaning old new (node_of g old state) place payload (asks asked) sent sent_now disk disk
  command_done state only serves no_save subscribed posted payload numbered = elim serves.is [
    | inl is ↦ by_answer nothing_wrong (tt {0}) (λ so. absurd (let no : false ≡ true = so in cc)) (sym is)
        (λ none. ap (λ (x : Answer). x.served) is ∙ only (sym (ap (λ (x : Answer). x.reply) is) ∙ none))
    | inr lacks ↦ by_answer no_memory lacks.not_fixed (λ so. lacks.add)
        (given_lacking (code_of g old) (setup_of old) (node_of g old state) place asked serves.given lacks.wants)
        (λ none. absurd (none_not serves.given.reply _ (ap (λ (x : Answer). x.reply) lacks.wants.given_is) none))
  ]
    where
      by_reply : (mishap : Mishap) (o : Option Answered) → serves.given.reply ≡ o
          → given (code_of g old) (setup_of old) (node_of g old state) asked mishap ≡ serves.given
          → (o ≡ None → serves.given.served ≡ SaveAsked)
          → Does g meaning (code_of g old) old.saver new (node_of g old state) place payload
          (served (code_of g old) (setup_of old) (node_of g old state) place (asks asked) mishap) sent sent_now disk
          disk
      by_reply mishap None replies is none = absurd (no_save (serves.gives.served ∙ none refl))
      by_reply mishap (Some reply) replies is none =
          let text : bytes ≡ answered_text (number_in payload) reply =
          serves.gives.reply ∙ ap (λ (o : Option Answered). reply_bytes number o) replies
          ∙ ap (λ (k : ℕ). answered_text k reply) (sym numbered) in
          let leaves : Leaves (post_of state place (answered_text (number_in payload) reply)) new.sessions sent
          sent_now =
          subst (λ (text : List ℕ). Leaves (post_of state place text) new.sessions sent sent_now) text posted in
          subst (λ (serving : Serving). Does g meaning (code_of g old) old.saver new (node_of g old state) place payload
          serving sent sent_now disk disk)
          (sym (commanded_is (code_of g old) (setup_of old) (node_of g old state) place asked mishap serves.given reply
          is replies)) (record {
            holds = record {
              application = serves.gives.application;
              sessions = leaves.state;
              subscribed = subscribed
                  ∙ ap (λ (x : Served). subscribed_after x place (application_of g new.app) (subscriptions old.subs))
                  serves.gives.served
                  ∙ ap (λ (a : Application). subscribed_after serves.given.served place a (subscriptions old.subs))
                  serves.gives.application;
            };
            sends = leaves.sent;
            disk = refl;
          })

      by_answer : (mishap : Mishap) → MayHappen (is_fixed g old) (Rose (meaning disk).faults (meaning disk).faults)
          mishap
          → (IsTrue (is_no_memory mishap) → IsTrue (is_add asked))
          → given (code_of g old) (setup_of old) (node_of g old state) asked mishap ≡ serves.given
          → (serves.given.reply ≡ None → serves.given.served ≡ SaveAsked)
          → Answers g meaning old new (node_of g old state) place payload (asks asked) sent sent_now disk disk
      by_answer mishap may lacking is none =
          record {
            mishap = mishap;
            may = may;
            adds_alone = lacking;
            does =
                by_reply mishap serves.given.reply refl is none;
          }

-- ---- a save

module _ {E D T : Type 0} (g : Ghosts E) (meaning : D → DiskMeaning) (old new : Kept E) (place number : ℕ)
    (asked : Asked)
    (sent sent_now : List Datagram) (before after : D) where
  pub save_done : (state : State) (r : Result T SaveRefusal)
      → ((mishap : Mishap) → served (code_of g old) (setup_of old) (node_of g old state) place (asks asked) mishap
      ≡ by_save (node_of g old state) (save_of (code_of g old) old.saver (application_of g old.app) mishap))
      → application_of g new.app ≡ application_of g old.app
      → subscriptions new.subs ≡ subscriptions old.subs
      → save_of (code_of g old) old.saver (application_of g old.app) (mishap_in r)
      ≡ begun (code_of g old) (application_of g old.app) r
      → MayHappen (is_fixed g old) (Rose (meaning before).faults (meaning after).faults) (mishap_in r)
      → OnDisk meaning (code_of g old) old.saver (begun (code_of g old) (application_of g old.app) r) before after
      → Leaves (post_of state place (answered_text number (reply_to r))) new.sessions sent sent_now
      → (payload : List ℕ) → number_in payload ≡ number
      → Answers g meaning old new (node_of g old state) place payload (asks asked) sent sent_now before after
  save_done state r is application subscribed begins may disk posted payload numbered =
      let same = is (mishap_in r) ∙ ap (by_save (node_of g old state)) begins in
      let text : answered_text number (reply_to r)
      ≡ answered_text (number_in payload) (answer_to_save (begun (code_of g old) (application_of g old.app) r)) =
      ap (λ (k : ℕ). answered_text k (reply_to r)) (sym numbered)
      ∙ ap (answered_text (number_in payload)) (sym (reply_is (code_of g old) (application_of g old.app) r)) in
      let leaves = subst (λ (text : List ℕ). Leaves (post_of state place text) new.sessions sent sent_now) text
      posted in
      record {
        mishap = mishap_in r;
        may = may;
        adds_alone = wants_none _ r;
        does = subst (λ (serving : Serving). Does g meaning (code_of g old) old.saver new (node_of g old state) place
            payload serving sent sent_now before after)
            (sym same) (record {
              holds = record { application = application; sessions = leaves.state; subscribed = subscribed };
              sends = leaves.sent;
              disk = disk;
            });
      }

-- ---- a payload that is refused before any command is looked at

module _ {E D : Type 0} (g : Ghosts E) (meaning : D → DiskMeaning) (old new : Kept E) (place : ℕ)
    (sent sent_now : List Datagram) (disk : D) where
  pub refused_done : (state : State) (refusal : Refusal)
      → application_of g new.app ≡ application_of g old.app
      → subscriptions new.subs ≡ subscriptions old.subs
      → (payload : List ℕ)
      → Leaves (post_of state place (answered_text (number_in payload) (refused refusal))) new.sessions sent sent_now
      → Answers g meaning old new (node_of g old state) place payload (is_refused refusal) sent sent_now disk disk
  refused_done state refusal application subscribed payload posted = record {
    mishap = nothing_wrong;
    may = tt {0};
    adds_alone = λ so. so;
    does = record {
      holds = record { application = application; sessions = posted.state; subscribed = subscribed };
      sends = posted.sent;
      disk = refl;
    };
  }
