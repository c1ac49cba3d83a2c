-- A step of one session is a step of all.
use Rattle.std.proofs.Common.{◌≡◌, ℕ, zero, suc, ◌%◌, ◌<◌, ◌≤◌, Bool, true, false, not, eqb, List, [], ◌∷◌, length, drop, set, get_or, refl, sym, ◌∙◌, ap, subst, inl, inr, arith, zero-add, ℤ}
use Rattle.std.specs.Prelude.{Option, Some, None, is_some, slice_get, ◌&&◌, nat_lt}
use Rattle.std.specs.Option.{option_map_or}
use Rattle.std.proofs.lemmas.Bool.{cases_Bool, cond_both, cond-true, cond-false, both_ways, and_parts, ltb-true, eq-eqb}
use Rattle.sed_outside.specs.declared.addr.Addr.{Addr}
use Rattle.dasp_session.specs.declared.user.User.{User}
use Rattle.dasp_msg.specs.declared.receiver.Taken.{Taken}
use Rattle.dasp_msg.specs.declared.receiver.Taken.TheVariants.{New, Repeat, Outside}
use Rattle.dasp_msg.specs.Posted.{has_room}
use Rattle.dasp_msg.specs.TakenIndexes.{taken_as}
use Rattle.dasp_msg.specs.declared.kind.MsgKind.{MsgKind}
use Rattle.dasp_msg.specs.declared.kind.MsgKind.TheVariants.{Hello, Challenge, Authenticate, Welcome, KeepAlive, Datagram, Close}
use Rattle.dasp_msg.specs.Message.{IsMessage, IsMalformed}
use Rattle.dasp_msg.specs.Shown.{Message}
use Rattle.dasp_session.specs.declared.place.Place.{Place}
use Rattle.dasp_session.specs.declared.sessions.Sessions.{Sessions}
use Rattle.dasp_session.specs.Closing.{not_known, timed_out}
use Rattle.dasp_session.specs.declared.handed.Effect.{Effect as Told}
use Rattle.dasp_session.specs.declared.handed.Effect.TheVariants.{Nothing as NothingHere, Ended as EndedHere, Payload as PayloadHere}
use Rattle.dasp_session.specs.declared.handed.Handed.{Handed}
use Rattle.dasp_session.specs.declared.handed.Handed.TheVariants.{Ended as EndedAt, Payload as PayloadAt}
use Rattle.dasp_session.specs.Doing.{Does, IsEffect, handed_as}
use Rattle.dasp_session.specs.Hearing.{Effect, nothing, ended, delivers, Step, silent, ends, is_proof, is_authenticated, authenticated, taken_in, delivered, answered, hears, in_session}
use Rattle.dasp_session.specs.Keeping.{Like, Holds, IsOf, AllHold}
use Rattle.dasp_session.specs.Letters.{close}
use Rattle.dasp_session.specs.Looking.{Found, found_from, free_from, is_waiting_for, session_at}
use Rattle.dasp_session.specs.Outbox.{Datagram as Text}
use Rattle.dasp_session.specs.Receive.{Outcome, Handing, none, ended_at, payload_at, steps, at_place, handed_at, made_at, challenged, is_sha_1, hello, received_as, told}
use Rattle.dasp_session.specs.Session.{Session, State}
use Rattle.dasp_session.specs.Standing.{StandsFor, Leaves, IsRead, Hands, IsHanded, is_ended}
use Rattle.dasp_session.specs.Ticking.{is_over, ticked, sent_all, kept_up}
use Rattle.dasp_session.proofs.PlaceLemmas.{holds_at, set_at}

-- IDS

-- a session that goes on has its id
abbrev pub KeepsId : Session → Option Session → Type 0
KeepsId session None = Unit {0}
KeepsId session (Some now) = now.id ≡ session.id

is_of : (at : ℕ) (session : Session) (now : Option Session) → KeepsId session now → session.id % 16 ≡ at → IsOf at now
is_of at session None keeps is = tt
is_of at session (Some now) keeps is = ap (λ (n : ℕ). n % 16) keeps ∙ is

keeps-authenticated : (users : List User) (message : Message) (session : Session) → KeepsId session (authenticated users message session).session
keeps-authenticated users message session =
    let P : Step → Type 0 = λ step. KeepsId session step.session in
    cond_both (is_proof users session.nonce message.username message.digest) _ _ P
    (λ e. refl)
    (λ e. cond_both (is_authenticated session) (silent session) (ends (close session.remote_id (Some not_known) ∷ [])) P (λ f. refl) (λ f. tt))

keeps-taken : (taken : Taken) (message : Message) (session : Session) → KeepsId session (taken_in taken message session).session
keeps-taken New message session = refl
keeps-taken Repeat message session = refl
keeps-taken Outside message session = refl

keeps-delivered : (message : Message) (session : Session) → KeepsId session (delivered message session).session
keeps-delivered message session =
    let P : Step → Type 0 = λ step. KeepsId session step.session in
    cond_both (is_authenticated session && has_room session.posted) (taken_in (taken_as session.taken message.sequence) message session) (silent session) P
    (λ e. keeps-taken (taken_as session.taken message.sequence) message session) (λ e. refl)

keeps-answered : (kind : MsgKind) (users : List User) (message : Message) (session : Session) → KeepsId session (answered kind users message session).session
keeps-answered Hello users message session = refl
keeps-answered Challenge users message session = refl
keeps-answered Authenticate users message session = keeps-authenticated users message session
keeps-answered Welcome users message session = refl
keeps-answered KeepAlive users message session = refl
keeps-answered Datagram users message session = keeps-delivered message session
keeps-answered Close users message session = tt

pub keeps-in_session : (users : List User) (moment : ℤ) (message : Message) (session : Session) → KeepsId session (in_session users moment message session).session
keeps-in_session users moment message session = keeps-answered message.kind users message (hears moment message session)

pub keeps-ticked : (moment : ℤ) (session : Session) → KeepsId session (ticked moment session).session
keeps-ticked moment session =
    cond_both (is_over moment session) (ends (close session.remote_id (Some timed_out) ∷ [])) (sent_all moment session) (λ step. KeepsId session step.session) (λ e. tt) (λ e. refl)

pub keeps-kept_up : (session : Session) → KeepsId session (kept_up session).session
keeps-kept_up session = cond_both session.owed _ (silent session) (λ step. KeepsId session step.session) (λ e. refl) (λ e. refl)

-- ONE PLACE

-- what a place holds that is live
pub record Lives (place : Place) (slot : Option Session) : Type 0 where
  pub session : Session
  pub there : slot ≡ Some session
  pub like : Like place session

pub lives : (place : Place) (slot : Option Session) → Holds place slot → place.live ≡ true → Lives place slot
lives place None holds live = absurd (both_ways place.live holds live)
lives place (Some session) holds live = record { session = session; there = refl; like = holds.1 }

-- what changes of all sessions, and what does not
pub record Changes (old new : Sessions) (k : ℕ) (place : Place) : Type 0 where
  pub users : new.users ≡ old.users
  pub secret : new.secret ≡ old.secret
  pub made : new.made ≡ old.made
  pub moment : new.moment ≡ old.moment
  pub places : new.places.items ≡ set old.places.items k place

pub stands_set : (old new : Sessions) (state : State) (k : ℕ) (place : Place) (slot : Option Session) → StandsFor old state → Changes old new k place
    → Holds place slot → IsOf k slot → StandsFor new (record state { sessions = set state.sessions k slot })
stands_set old new state k place slot stands changes holds is = record {
  users = changes.users ∙ stands.users;
  secret = changes.secret ∙ stands.secret;
  made = changes.made ∙ stands.made;
  moment = changes.moment ∙ stands.moment;
  places =
      subst (λ (places : List Place). AllHold 0 places (set state.sessions k slot)) (sym changes.places)
      (set_at 0 old.places.items state.sessions stands.places k place slot holds (subst (λ (n : ℕ). IsOf n slot) (sym (zero-add k)) is));
}

-- the step of the session that lives in a place
pub steps_at : (old new : Sessions) (state : State) (k : ℕ) (place was : Place) (session : Session) (step : Step) (before after : List Text) → StandsFor old state → Changes old new k place
    → k < length old.places.items → session_at state k ≡ Some session → Does session step place before after → KeepsId session step.session
    → Leaves (steps state (record { place = k; session = session }) step) new before after
steps_at old new state k place was session step before after stands changes within there does keeps =
    let is : IsOf k (Some session) =
    subst (λ (slot : Option Session). IsOf k slot) there
    (subst (λ (n : ℕ). IsOf n (session_at state k)) (zero-add k) (holds_at 0 old.places.items state.sessions stands.places k was within).1) in
    record {
      state = stands_set old new state k place step.session stands changes does.holds (is_of k session step.session keeps is);
      sent = does.sent;
    }

pub leaves_at : (old new : Sessions) (state : State) (k : ℕ) (was place : Place) (step_of : Session → Step) (before after : List Text) → StandsFor old state → Changes old new k place
    → k < length old.places.items → was ≡ get_or old.places.items k was → was.live ≡ true
    → ((session : Session) → Like was session → Does session (step_of session) place before after)
    → ((session : Session) → KeepsId session (step_of session).session)
    → Leaves (at_place state k step_of (session_at state k)) new before after
leaves_at old new state k was place step_of before after stands changes within at live does keeps =
    let holds : Holds was (session_at state k) =
    subst (λ (p : Place). Holds p (session_at state k)) (sym at) (holds_at 0 old.places.items state.sessions stands.places k was within).0 in
    let it : Lives was (session_at state k) = lives was (session_at state k) holds live in
    subst (λ (slot : Option Session). Leaves (at_place state k step_of slot) new before after) (sym it.there)
    (steps_at old new state k place was it.session (step_of it.session) before after stands changes within it.there (does it.session it.like) (keeps it.session))

-- WHAT MAY BE ASKED

-- a place of which a test holds is there
pub record Kept (test : Place → Bool) (places : List Place) (k : ℕ) : Type 0 where
  pub within : k < length places
  pub holds : (d : Place) → test (get_or places k d) ≡ true

pub kept_at : (test : Place → Bool) (places : List Place) (k : ℕ) → option_map_or test (slice_get places k) false ≡ true → Kept test places k
kept_at test [] k is = absurd (cc)
kept_at test (place ∷ places) zero is = record { within = omega arith; holds = λ d. is }
kept_at test (place ∷ places) (suc k) is =
    let rest : Kept test places k = kept_at test places k is in
    record { within = (let w : k < length places = rest.within in omega arith); holds = rest.holds }

-- what is told of a place that is there
pub of_place : {T : Type 0} (told : Place → T) (other : T) (places : List Place) (k : ℕ) (d : Place) → k < length places
    → option_map_or told (slice_get places k) other ≡ told (get_or places k d)
of_place told other [] k d within = absurd (omega arith)
of_place told other (place ∷ places) zero d within = refl
of_place told other (place ∷ places) (suc k) d within = of_place told other places k d (omega arith)

-- and of one that was changed
pub of_set : {T : Type 0} (told : Place → T) (other : T) (places : List Place) (k : ℕ) (place : Place) → k < length places
    → option_map_or told (slice_get (set places k place) k) other ≡ told place
of_set told other [] k place within = absurd (omega arith)
of_set told other (first ∷ places) zero place within = refl
of_set told other (first ∷ places) (suc k) place within = of_set told other places k place (omega arith)

-- how many messages wait in it
abbrev pub messages_of : Place → ℕ
messages_of place = length place.sender.messages

-- what is asked of a place that is there
pub asked_at : (test : Place → Bool) (places : List Place) (k : ℕ) (d : Place) → k < length places → option_map_or test (slice_get places k) false ≡ test (get_or places k d)
asked_at test places k d within = of_place test false places k d within

-- and of one that was changed
pub asked_set : (test : Place → Bool) (places : List Place) (k : ℕ) (place : Place) → k < length places → option_map_or test (slice_get (set places k place) k) false ≡ test place
asked_set test places k place within = of_set test false places k place within

-- the end of a tick
pub ended-ticked : (k : ℕ) (moment : ℤ) (session : Session) → is_ended (handed_at k (ticked moment session).effect) ≡ is_over moment session
ended-ticked k moment session =
    elim (cases_Bool (is_over moment session)) [
      | inl over ↦
          ap (λ (step : Step). is_ended (handed_at k step.effect)) (cond-true (is_over moment session) (ends (close session.remote_id (Some timed_out) ∷ [])) (sent_all moment session) over)
          ∙ sym over
      | inr on ↦
          ap (λ (step : Step). is_ended (handed_at k step.effect)) (cond-false (is_over moment session) (ends (close session.remote_id (Some timed_out) ∷ [])) (sent_all moment session) on)
          ∙ sym on
    ]

-- what may be posted in
pub record MayPost (place : Place) : Type 0 where
  pub live : place.live ≡ true
  pub user : is_some place.user ≡ true
  pub room : length place.sender.messages < 31

pub may-parts : (place : Place) → (place.live && is_some place.user && nat_lt (length place.sender.messages) 31) ≡ true → MayPost place
may-parts place may =
    let both = and_parts (place.live && is_some place.user) (nat_lt (length place.sender.messages) 31) may in
    let front = and_parts place.live (is_some place.user) both.0 in
    record { live = front.0; user = front.1; room = ltb-true (length place.sender.messages) 31 both.1 }

-- the element that a call was handed
pub at_handed : (test : Place → Bool) (places : List Place) (k : ℕ) (handed : Place) → Kept test places k → handed ≡ get_or places k handed → test handed ≡ true
at_handed test places k handed kept is = ap test is ∙ kept.holds handed

-- WHAT IS HANDED ON

pub handed-effect : (k at : ℕ) (payload : List ℕ) (effect : Effect) (told : Told) → IsEffect payload effect told → IsHanded at payload (handed_at k effect) (handed_as told k at)
handed-effect k at payload nothing told is = ap (λ (t : Told). handed_as t k at) is
handed-effect k at payload ended told is = ap (λ (t : Told). handed_as t k at) is
handed-effect k at payload (delivers bytes) told is = (ap (λ (t : Told). handed_as t k at) is.0, is.1)

-- a payload is of the place that was asked, and begins at the byte that was said
pub record ToldAt (told : Told) (k at other begins : ℕ) : Type 0 where
  pub payload : told ≡ PayloadHere
  pub place : k ≡ other
  pub start : at ≡ begins

pub told_at : (told : Told) (k at other begins : ℕ) → handed_as told k at ≡ PayloadAt other begins → ToldAt told k at other begins
told_at NothingHere k at other begins is = absurd (cc)
told_at EndedHere k at other begins is = absurd (cc)
told_at PayloadHere k at other begins is = record { payload = refl; place = cc; start = cc }

-- so is an end
pub ended_in : (told : Told) (k at other : ℕ) → handed_as told k at ≡ EndedAt other → k ≡ other
ended_in NothingHere k at other is = absurd (cc)
ended_in EndedHere k at other is = cc
ended_in PayloadHere k at other is = absurd (cc)

-- a kind that is no hello's
pub other-kind : (kind : MsgKind) (state : State) (from : Addr) (message : Message) → (kind ≡ Hello → ⊥) → received_as kind state from message ≡ told state from message
other-kind Hello state from message other = absurd (other refl)
other-kind Challenge state from message other = refl
other-kind Authenticate state from message other = refl
other-kind Welcome state from message other = refl
other-kind KeepAlive state from message other = refl
other-kind Datagram state from message other = refl
other-kind Close state from message other = refl

-- a hello hands nothing on
made-hands : (state : State) (from : Addr) (remote_id : ℕ) (place : Option ℕ) → (made_at state from remote_id place).handing ≡ none
made-hands state from remote_id None = refl
made-hands state from remote_id (Some place) = refl

challenged-hands : (state : State) (from : Addr) (remote_id : ℕ) (found : Option Found) → (challenged state from remote_id found).handing ≡ none
challenged-hands state from remote_id (Some found) = refl
challenged-hands state from remote_id None =
    cond_both (eqb state.made 4294967295) _ _ (λ (outcome : Outcome). outcome.handing ≡ none) (λ e. refl)
    (λ e. made-hands state from remote_id (free_from 0 state.sessions))

pub hello-hands : (state : State) (from : Addr) (version remote_id : Option ℕ) (algorithm : Option (List ℕ)) → (hello state from version remote_id algorithm).handing ≡ none
hello-hands state from None remote_id algorithm = refl
hello-hands state from (Some version) None algorithm = refl
hello-hands state from (Some version) (Some remote_id) algorithm =
    let P : Outcome → Type 0 = λ outcome. outcome.handing ≡ none in
    cond_both (not (eqb version 0x0100)) _ _ P (λ e. refl)
    (λ e. cond_both (not (is_sha_1 algorithm)) _ _ P (λ f. refl)
    (λ f. challenged-hands state from remote_id (found_from (is_waiting_for from remote_id) 0 state.sessions)))

-- WHAT BYTES ARE READ AS

pub read_some : (bytes : List ℕ) (message : Message) (read : Option Message) → IsMessage bytes message → ((other : Message) → IsMessage bytes other → message ≡ other) → IsRead bytes read → read ≡ Some message
read_some bytes message None is one bad = absurd (bad message is)
read_some bytes message (Some other) is one read = ap Some (sym (one other read))

pub read_none : (bytes : List ℕ) (read : Option Message) → IsMalformed bytes → IsRead bytes read → read ≡ None
read_none bytes None bad read = refl
read_none bytes (Some message) bad is = absurd (bad message is)

-- a payload that begins at a byte
pub hands-at : (bytes payload : List ℕ) (at : ℕ) (handing : Handing) (handed : Handed) → at ≤ length bytes → drop at bytes ≡ payload → IsHanded at payload handing handed → Hands bytes handing handed
hands-at bytes payload at none handed within behind is = is
hands-at bytes payload at (ended_at place) handed within behind is = is
hands-at bytes payload at (payload_at place bytes') handed within behind is = (at, is.0, within, behind ∙ is.1)

-- OUTCOMES THAT ARE EQUAL

pub leaves-eq : (one other : Outcome) (new : Sessions) (before after : List Text) → other ≡ one → Leaves one new before after → Leaves other new before after
leaves-eq one other new before after same leaves = subst (λ (outcome : Outcome). Leaves outcome new before after) (sym same) leaves

-- a hello that passes its first two tests
pub hello_goes_on : (state : State) (from : Addr) (said named : Option ℕ) (version remote_id : ℕ) (algorithm : Option (List ℕ)) → said ≡ Some version → named ≡ Some remote_id → version ≡ 256 → is_sha_1 algorithm ≡ true
    → hello state from said named algorithm ≡ challenged state from remote_id (found_from (is_waiting_for from remote_id) 0 state.sessions)
hello_goes_on state from said named version remote_id algorithm is_said is_named right sha =
    ap (λ (v : Option ℕ). hello state from v named algorithm) is_said
    ∙ ap (λ (r : Option ℕ). hello state from (Some version) r algorithm) is_named
    ∙ cond-false (not (eqb version 0x0100)) _ _ (ap not (eq-eqb version 0x0100 right))
    ∙ cond-false (not (is_sha_1 algorithm)) _ _ (ap not sha)
