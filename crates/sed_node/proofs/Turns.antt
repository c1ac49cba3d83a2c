-- The turns in which events are told at a place.
use Rattle.std.proofs.Common.{◌≡◌, ◌∙◌, ◌≤◌, ◌+◌, ◌*◌, ℕ, Bool, true, false, List, [], ◌∷◌, length}
use Rattle.std.proofs.Common.{refl, sym, ap, subst}
use Rattle.std.specs.Prelude.{◌&&◌, Option, Some, None}
use Rattle.std.specs.List.{AllByRecursion, fold}
use Rattle.std.specs.Option.{option_map_or}
use mathlib.Core.Path.{fun_ext}
use Rattle.sed_engine.specs.declared.engine.Engine.{Ghosts}
use Rattle.sed_engine.specs.Code.{Meaning}
use Rattle.link_prop.specs.Linked.{Linked, application_of}
use Rattle.comp_tree.specs.Application.{Application, is_live}
use Rattle.sub_table.specs.declared.part.Part.{Part}
use Rattle.sub_table.specs.Table.{Subscriptions, with_event}
use Rattle.sox_events.specs.Due as over
use Rattle.sox_events.specs.Due.{letter_of, before_it, differs, subscriptions}
use Rattle.dasp_session.specs.Outbox.{Datagram}
use Rattle.dasp_session.specs.Receive.{post_of}
use Rattle.dasp_session.specs.Session.{State}
use Rattle.dasp_session.specs.Standing.{Leaves, StandsFor as SessionsStandFor, is_live as lives_in, waiting}
use Rattle.sox_msg.specs.Reply.{event_bytes}
use Rattle.node_events.specs.Events.{PartAt, Telling, bytes_of, differs_from, has_room_at, is_due}
use Rattle.node_events.specs.Events.{parts_of, told, told_all, told_if_due}
use Rattle.node_events.specs.Node.{Node, OnlyOfTheOpen, is_open}
use Rattle.sed_node.specs.Doing.{IsTold}
use Rattle.sed_node.specs.Standing.{Holds, IsKept, SameSetup, code_of}
use Rattle.sed_node.specs.declared.kept.Kept.{Kept}
use Rattle.sed_node.proofs.Parts.{Split, split_of}
use Rattle.sed_node.proofs.Sending.{sends_more}
use Rattle.sed_node.proofs.Telling.{full_told, none_told, told_anew, told_is}
pub use Rattle.sed_value.proofs.Truths.{and_right as second_true}

-- what was told so far, of all that is told at a place from a node on: to go on from it comes to the same
pub record Reached {E : Type 0} (g : Ghosts E) (m : Meaning) (place : ℕ) (kept : Kept E) (sent : List Datagram)
    (start : Telling) : Type 0 where
  pub now : Telling
  pub is_told : IsTold g kept now sent
  pub only : OnlyOfTheOpen now.node
  pub anew : fold (told_if_due m place) now (parts_of now.node.application) ≡ told_all m place start

-- between two turns
pub record Turn {E : Type 0} (g : Ghosts E) (m : Meaning) (place : ℕ) (old kept : Kept E)
    (before sent : List Datagram) : Type 0 where
  pub is_kept : IsKept g kept
  pub same : SameSetup g old kept
  pub live : lives_in kept.sessions place ≡ true
  pub most : waiting kept.sessions place ≤ 31
  pub room : length sent ≤ 32 * place + waiting kept.sessions place
  pub told : (start : Telling) → IsTold g old start before → OnlyOfTheOpen start.node
      → Reached g m place kept sent start

-- the first turn
pub first_reached : {E : Type 0} (g : Ghosts E) (m : Meaning) (place : ℕ) (kept : Kept E) (sent : List Datagram)
    (start : Telling)
    → IsTold g kept start sent → OnlyOfTheOpen start.node → Reached g m place kept sent start
first_reached g m place kept sent start is only = record { now = start; is_told = is; only = only; anew = refl }

-- ---- an event is told

-- what holds of parts of an application over an engine
module _ {E : Type 0} (g : Ghosts E)
    (bytes_are : (a : Linked E) (id : ℕ) (part : Part) → over.bytes_of g a id part
    ≡ bytes_of (g.meaning a.tree.engine) (application_of g a) id part)
    (due_is : (a : Linked E) (subs : Subscriptions) (place id : ℕ) (part : Part)
    → differs g a subs place id part ≡ is_due (g.meaning a.tree.engine) (application_of g a) subs place id part) where
  -- what differs is due at the node that is held
  due_at : (kept : Kept E) (n : Node) (place id : ℕ) (part : Part) → Holds g kept n
      → is_due (code_of g kept) n.application n.subscriptions place id part
      ≡ differs g kept.app (subscriptions kept.subs) place id part
  due_at kept n place id part holds =
      ap (λ (a : Application). is_due (code_of g kept) a n.subscriptions place id part) (sym holds.application)
      ∙ ap (λ (subs : Subscriptions). is_due (code_of g kept) (application_of g kept.app) subs place id part)
      (sym holds.subscribed)
      ∙ sym (due_is kept.app (subscriptions kept.subs) place id part)

  module _ (old new : Kept E) (place id : ℕ) (part : Part) (sent sent_now : List Datagram) (text : List ℕ) where
    -- the node after the event of a part that is due
    pub event_told : (t : Telling) → IsTold g old t sent
        → application_of g new.app ≡ application_of g old.app
        → ((p i : ℕ) (other : Part) → subscriptions new.subs p i other
        ≡ with_event place id part (over.bytes_of g old.app id part) (subscriptions old.subs) p i other)
        → text ≡ event_bytes id (letter_of part) (over.bytes_of g old.app id part)
        → ((state : State) → SessionsStandFor old.sessions state
        → Leaves (post_of state place text) new.sessions sent sent_now)
        → IsTold g new (told place id part (bytes_of (code_of g old) t.node.application id part) t) sent_now
    event_told t is stays posted text_is leaves =
        let bytes : over.bytes_of g old.app id part ≡ bytes_of (code_of g old) t.node.application id part =
        bytes_are old.app id part ∙ ap (λ (a : Application). bytes_of (code_of g old) a id part) is.holds.application in
        let post : Leaves (post_of t.node.sessions place
        (event_bytes id (letter_of part) (bytes_of (code_of g old) t.node.application id part))) new.sessions sent sent_now =
        subst (λ (text : List ℕ). Leaves (post_of t.node.sessions place text) new.sessions sent sent_now)
        (text_is ∙ ap (event_bytes id (letter_of part)) bytes)
        (leaves t.node.sessions is.holds.sessions) in
        record {
          holds = record {
            application = stays ∙ is.holds.application;
            sessions = post.state;
            subscribed = fun_ext (λ p. fun_ext (λ i. fun_ext (λ other. posted p i other)))
                ∙ ap (λ (bytes : List ℕ). with_event place id part bytes (subscriptions old.subs)) bytes
                ∙ ap (with_event place id part (bytes_of (code_of g old) t.node.application id part))
                is.holds.subscribed;
          };
          sends = sends_more t.sent _ [] sent sent_now is.sends post.sent;
        }

  module _ (m : Meaning) (old : Kept E) (code : code_of g old ≡ m) (place : ℕ) (sent : List Datagram) (start : Telling)
      (r : Reached g m place old sent start) where
    -- what none of the parts before it is
    none_before : (id : ℕ) (part : Part) (parts : List PartAt)
        → ((i : ℕ) (other : Part) → before_it id part i other ≡ true
        → differs g old.app (subscriptions old.subs) place i other ≡ false)
        → AllByRecursion (λ (q : PartAt). before_it id part q.id q.part ≡ true) parts
        → AllByRecursion (λ (q : PartAt). is_due m r.now.node.application r.now.node.subscriptions place q.id q.part
        ≡ false) parts
    none_before id part [] none before = tt
    none_before id part (q ∷ parts) none before = (
      ap (λ (x : Meaning). is_due x r.now.node.application r.now.node.subscriptions place q.id q.part) (sym code)
          ∙ due_at old r.now.node place q.id q.part r.is_told.holds ∙ none q.id q.part before.0,
      none_before id part parts none before.1,
    )

    -- an event is told where there is room, and it comes to the same to begin anew
    pub next_reached : (new : Kept E) (id : ℕ) (part : Part) (sent_now : List Datagram)
        → has_room_at r.now.node.sessions place ≡ true
        → is_live (application_of g old.app).components.by_id id ≡ true
        → differs g old.app (subscriptions old.subs) place id part ≡ true
        → ((i : ℕ) (other : Part) → before_it id part i other ≡ true
        → differs g old.app (subscriptions old.subs) place i other ≡ false)
        → IsTold g new (told place id part (bytes_of m r.now.node.application id part) r.now) sent_now
        → ((t : Telling) (p : PartAt) → OnlyOfTheOpen t.node → OnlyOfTheOpen (told_if_due m place t p).node)
        → Reached g m place new sent_now start
    next_reached new id part sent_now room live due none is stays_open =
        let p : PartAt = record { id = id; part = part } in
        let is_due_now : is_due m r.now.node.application r.now.node.subscriptions place id part ≡ true =
        ap (λ (x : Meaning). is_due x r.now.node.application r.now.node.subscriptions place id part) (sym code)
        ∙ due_at old r.now.node place id part r.is_told.holds ∙ due in
        let split : Split (parts_of r.now.node.application) id part =
        split_of r.now.node.application id part
        (ap (λ (a : Application). is_live a.components.by_id id) (sym r.is_told.holds.application) ∙ live) in
        record {
          now = told place id part (bytes_of m r.now.node.application id part) r.now;
          is_told = is;
          only = subst (λ (t : Telling). OnlyOfTheOpen t.node) (told_is m place r.now p room is_due_now)
              (stays_open r.now p r.only);
          anew = told_anew m place r.now id part (parts_of r.now.node.application) split room is_due_now
              (none_before id part split.first none split.before) ∙ r.anew;
        }

    -- ---- the last turn

    none_at_all : (parts : List PartAt)
        → ((i : ℕ) (other : Part) → differs g old.app (subscriptions old.subs) place i other ≡ false)
        → AllByRecursion (λ (q : PartAt). is_due m r.now.node.application r.now.node.subscriptions place q.id q.part
        ≡ false) parts
    none_at_all [] none = tt
    none_at_all (q ∷ parts) none = (
      ap (λ (x : Meaning). is_due x r.now.node.application r.now.node.subscriptions place q.id q.part) (sym code)
          ∙ due_at old r.now.node place q.id q.part r.is_told.holds ∙ none q.id q.part,
      none_at_all parts none,
    )

    -- nothing is due any more
    pub all_told_by_none : ((i : ℕ) (other : Part) → differs g old.app (subscriptions old.subs) place i other ≡ false)
        → r.now ≡ told_all m place start
    all_told_by_none none =
        sym (none_told m place r.now (parts_of r.now.node.application)
        (none_at_all (parts_of r.now.node.application) none)) ∙ r.anew

    -- there is no room, or nobody is authenticated and so nothing is subscribed
    pub all_told_by_room : (is_open r.now.node.sessions place && has_room_at r.now.node.sessions place) ≡ false → r.now
        ≡ told_all m place start
    all_told_by_room closed = by_open (is_open r.now.node.sessions place) refl closed
      where
        and_false : (b : Bool) → (b && false) ≡ false
        and_false true = refl
        and_false false = refl

        not_subscribed : (q : PartAt) → r.now.node.subscriptions place q.id q.part ≡ None
            → is_due m r.now.node.application r.now.node.subscriptions place q.id q.part ≡ false
        not_subscribed q shut =
            ap (λ (o : Option (Option (List ℕ))). is_live r.now.node.application.components.by_id q.id
            && option_map_or (differs_from (bytes_of m r.now.node.application q.id q.part)) o false) shut
            ∙ and_false (is_live r.now.node.application.components.by_id q.id)

        nothing_due : is_open r.now.node.sessions place ≡ false → (parts : List PartAt)
            → AllByRecursion (λ (q : PartAt). is_due m r.now.node.application r.now.node.subscriptions place q.id q.part
            ≡ false) parts
        nothing_due shut [] = tt
        nothing_due shut (q ∷ parts) = (not_subscribed q (r.only place q.id q.part shut), nothing_due shut parts)

        by_open : (b : Bool) → is_open r.now.node.sessions place ≡ b → (b && has_room_at r.now.node.sessions place)
            ≡ false → r.now ≡ told_all m place start
        by_open true is closed = sym (full_told m place r.now (parts_of r.now.node.application) closed) ∙ r.anew
        by_open false is closed =
            sym (none_told m place r.now (parts_of r.now.node.application)
            (nothing_due is (parts_of r.now.node.application))) ∙ r.anew

-- what differs is of a live component
pub lives_of : {E : Type 0} (g : Ghosts E) (a : Linked E) (subs : Subscriptions) (place id : ℕ) (part : Part)
    → differs g a subs place id part ≡ true
    → is_live (application_of g a).components.by_id id ≡ true
lives_of g a subs place id part is = by_kept (subs place id part) is
  where
    by_lives : (l b : Bool) → (l && b) ≡ true → l ≡ true
    by_lives true b is = refl
    by_lives false b is = is

    by_kept : (o : Option (Option (List ℕ))) → option_map_or (over.differs_from g a id part) o false ≡ true
        → over.lives g a id ≡ true
    by_kept None is = absurd (let no : false ≡ true = is in cc)
    by_kept (Some last) is = by_lives (over.lives g a id) _ is
