-- What a change of a place is for the session that it stands for.
use Rattle.std.proofs.Common.{◌≡◌, ℕ, Bool, true, false, List, [], ◌∷◌, sym, ◌∙◌, ap, subst, ℤ}
use Rattle.std.specs.Prelude.{Option, Some, is_some, ◌&&◌}
use Rattle.std.proofs.lemmas.Bool.{cond-true, cond-false, and_from}
use Rattle.dasp_session.specs.declared.user.User.{User}
use Rattle.dasp_msg.specs.declared.outgoing.Message.{Message as Posted}
use Rattle.dasp_msg.specs.declared.receiver.Taken.{Taken}
use Rattle.dasp_msg.specs.Posted.{has_room, after_acks}
use Rattle.dasp_msg.specs.Receiving.{GapBits, ReceivesLike}
use Rattle.dasp_msg.specs.Outgoing.{Window, SendsLike}
use Rattle.dasp_msg.specs.TakenIndexes.{taken_as}
use Rattle.dasp_msg.specs.declared.kind.MsgKind.{MsgKind}
use Rattle.dasp_msg.specs.Shown.{Message}
use Rattle.dasp_session.specs.declared.handed.Effect.{Effect as Told}
use Rattle.dasp_session.specs.declared.place.Place.{Place}
use Rattle.dasp_session.specs.Closing.{not_known, timed_out}
use Rattle.dasp_session.specs.Doing.{Does, IsEffect}
use Rattle.dasp_session.specs.Hearing.{Step, nothing, silent, ends, hears, is_proof, is_authenticated, refused, authenticated, taken_in, delivered, answered, in_session}
use Rattle.dasp_session.specs.Keeping.{seen, Like}
use Rattle.dasp_msg.specs.Acks.{ack_of}
use Rattle.dasp_msg.specs.declared.kind.MsgKind.TheVariants.{KeepAlive, Datagram}
use Rattle.dasp_session.specs.Letters.{welcome, close, datagram, keep_alive, addressed, bare, with_acks, carrying, more_of}
use Rattle.dasp_session.specs.Outbox.{Datagram as Text, Sends}
use Rattle.dasp_session.specs.Session.{Session}
use Rattle.dasp_session.specs.Ticking.{is_over, ticked, sent_all, kept_up}
use Rattle.dasp_session.proofs.OutboxLemmas.{Sends-none}

-- what holds of the session that a place stands for, holds of one that is alike
pub by_seen : (P : Session → Type 0) (place : Place) (session : Session) → Like place session → P (seen place session.taken session.posted) → P session
by_seen P place session like here = subst P (sym like.same) here

pub like-hears : (place : Place) (moment : ℤ) (message : Message) (sender : Window) (session : Session) → Like place session
    → ((posted : List Posted) → SendsLike place.sender posted → SendsLike sender (after_acks posted message.ack message.ack_more))
    → Like (record place { heard = moment; sender = sender }) (hears moment message session)
like-hears place moment message sender session like acks =
    let posted : List Posted = after_acks session.posted message.ack message.ack_more in
    record {
      same = ap (λ (s : Session). record s { heard = moment; posted = posted }) like.same;
      windows = record { receives = like.windows.receives; sends = acks session.posted like.windows.sends };
    }

pub like-user : (place : Place) (user : Option (List ℕ)) (session : Session) → Like place session → Like (record place { user = user }) (record session { user = user })
like-user place user session like = record {
  same = ap (λ (s : Session). record s { user = user }) like.same;
  windows = record { receives = like.windows.receives; sends = like.windows.sends };
}

pub like-owed : (place : Place) (owed : Bool) (session : Session) → Like place session → Like (record place { owed = owed }) (record session { owed = owed })
like-owed place owed session like = record {
  same = ap (λ (s : Session). record s { owed = owed }) like.same;
  windows = record { receives = like.windows.receives; sends = like.windows.sends };
}

pub like-taken : (place : Place) (receiver : GapBits) (taken : List ℕ) (session : Session) → Like place session → ReceivesLike receiver taken
    → Like (record place { receiver = receiver }) (record session { taken = taken })
like-taken place receiver taken session like receives = record {
  same = ap (λ (s : Session). record s { taken = taken }) like.same;
  windows = record { receives = receives; sends = like.windows.sends };
}

pub like-posted : (place : Place) (sender : Window) (posted : List Posted) (session : Session) → Like place session → SendsLike sender posted
    → Like (record place { sender = sender; owed = false }) (record session { posted = posted; owed = false })
like-posted place sender posted session like sends = record {
  same = ap (λ (s : Session). record s { posted = posted; owed = false }) like.same;
  windows = record { receives = like.windows.receives; sends = sends };
}

-- A SESSION GOES ON WITH NO ANSWER

pub does-silent : (session now : Session) (place : Place) (out : List Text) → place.live ≡ true → Like place now → Does session (silent now) place out out
does-silent session now place out live like = record { holds = (live, like); sent = Sends-none out }

-- one letter to its address
pub sends-here : (place : Place) (session : Session) (of_place : ℕ → Message) (old new : List Text) → Like place session
    → Sends (record { to = place.address; message = of_place place.remote_id } ∷ []) old new → Sends (addressed session.address (of_place session.remote_id ∷ [])) old new
sends-here place session of_place old new like sends =
    by_seen (λ s. Sends (addressed s.address (of_place s.remote_id ∷ [])) old new) place session like sends

-- AUTHENTICATE

proof-same : (users : List User) (place : Place) (session : Session) (name digest : Option (List ℕ)) → Like place session → is_proof users session.nonce name digest ≡ is_proof users place.nonce name digest
proof-same users place session name digest like = ap (λ (s : Session). is_proof users s.nonce name digest) like.same

pub authenticated-right : (users : List User) (message : Message) (place : Place) (session : Session) → Like place session → is_proof users place.nonce message.username message.digest ≡ true
    → authenticated users message session ≡ record { session = Some (record session { user = message.username }); says = welcome session.remote_id ∷ []; effect = nothing }
authenticated-right users message place session like right =
    cond-true (is_proof users session.nonce message.username message.digest) _ (refused session) (proof-same users place session message.username message.digest like ∙ right)

pub authenticated-wrong : (users : List User) (message : Message) (place : Place) (session : Session) → Like place session → is_proof users place.nonce message.username message.digest ≡ false
    → authenticated users message session ≡ refused session
authenticated-wrong users message place session like wrong =
    cond-false (is_proof users session.nonce message.username message.digest) _ (refused session) (proof-same users place session message.username message.digest like ∙ wrong)

pub user-same : (place : Place) (session : Session) → Like place session → is_authenticated session ≡ is_some place.user
user-same place session like = ap is_authenticated like.same

pub refused-on : (place : Place) (session : Session) → Like place session → is_some place.user ≡ true → refused session ≡ silent session
refused-on place session like some = cond-true (is_authenticated session) (silent session) (ends (close session.remote_id (Some not_known) ∷ [])) (user-same place session like ∙ some)

pub refused-ends : (place : Place) (session : Session) → Like place session → is_some place.user ≡ false → refused session ≡ ends (close session.remote_id (Some not_known) ∷ [])
refused-ends place session like none = cond-false (is_authenticated session) (silent session) (ends (close session.remote_id (Some not_known) ∷ [])) (user-same place session like ∙ none)

-- A DATAGRAM MESSAGE

pub delivered-not : (message : Message) (session : Session) → (is_authenticated session && has_room session.posted) ≡ false → delivered message session ≡ silent session
delivered-not message session closed = cond-false (is_authenticated session && has_room session.posted) (taken_in (taken_as session.taken message.sequence) message session) (silent session) closed

pub delivered-as : (message : Message) (session : Session) (taken : Taken) → is_authenticated session ≡ true → has_room session.posted ≡ true → taken_as session.taken message.sequence ≡ taken
    → delivered message session ≡ taken_in taken message session
delivered-as message session taken known room is =
    cond-true (is_authenticated session && has_room session.posted) (taken_in (taken_as session.taken message.sequence) message session) (silent session) (and_from _ _ known room)
    ∙ ap (λ (t : Taken). taken_in t message session) is

-- A MESSAGE OF A KIND

pub does-kind : (users : List User) (moment : ℤ) (message : Message) (session : Session) (kind : MsgKind) (place : Place) (before after : List Text) → message.kind ≡ kind
    → Does (hears moment message session) (answered kind users message (hears moment message session)) place before after
    → Does session (in_session users moment message session) place before after
does-kind users moment message session kind place before after is does =
    subst (λ (k : MsgKind). Does session (answered k users message (hears moment message session)) place before after) (sym is)
    (record { holds = does.holds; sent = does.sent })

pub effect-kind : (users : List User) (moment : ℤ) (message : Message) (session : Session) (kind : MsgKind) (payload : List ℕ) (told : Told) → message.kind ≡ kind
    → IsEffect payload (answered kind users message (hears moment message session)).effect told
    → IsEffect payload (in_session users moment message session).effect told
effect-kind users moment message session kind payload told is effect =
    subst (λ (k : MsgKind). IsEffect payload (answered k users message (hears moment message session)).effect told) (sym is) effect

-- A TICK

pub ticked-over : (moment : ℤ) (session : Session) → is_over moment session ≡ true → ticked moment session ≡ ends (close session.remote_id (Some timed_out) ∷ [])
ticked-over moment session over = cond-true (is_over moment session) (ends (close session.remote_id (Some timed_out) ∷ [])) (sent_all moment session) over

pub ticked-on : (moment : ℤ) (session : Session) → is_over moment session ≡ false → ticked moment session ≡ sent_all moment session
ticked-on moment session on = cond-false (is_over moment session) (ends (close session.remote_id (Some timed_out) ∷ [])) (sent_all moment session) on

-- a session ends by a close
pub does-close : (place now : Place) (session : Session) (step : Step) (code : ℕ) (old new : List Text) → Like place session → now.live ≡ false
    → step ≡ ends (close session.remote_id (Some code) ∷ []) → Sends (record { to = place.address; message = close place.remote_id (Some code) } ∷ []) old new → Does session step now old new
does-close place now session step code old new like gone is sends =
    subst (λ (s : Step). Does session s now old new) (sym is)
    (record { holds = gone; sent = sends-here place session (λ remote_id. close remote_id (Some code)) old new like sends })

-- A DATAGRAM MESSAGE THAT IS SENT

some_eq : {A : Type 0} {a b : A} → Some a ≡ Some b → a ≡ b
some_eq e = cc

pub resend-sends : (place : Place) (session : Session) (ack : ℕ) (more : Option (List ℕ)) (number : ℕ) (given bytes : List ℕ) (message : Message) (old new : List Text) → Like place session
    → ack ≡ ack_of session.taken → more ≡ more_of session.taken → Some given ≡ Some bytes → message ≡ carrying number given (with_acks ack more (bare place.remote_id Datagram))
    → Sends (record { to = place.address; message = message } ∷ []) old new → Sends (addressed session.address (datagram session.remote_id session.taken number bytes ∷ [])) old new
resend-sends place session ack more number given bytes message old new like acked said same is sends =
    let e : message ≡ datagram place.remote_id session.taken number bytes =
    is ∙ ap (λ (b : List ℕ). carrying number b (with_acks ack more (bare place.remote_id Datagram))) (some_eq same)
    ∙ ap (λ (a : ℕ). carrying number bytes (with_acks a more (bare place.remote_id Datagram))) acked
    ∙ ap (λ (m : Option (List ℕ)). carrying number bytes (with_acks (ack_of session.taken) m (bare place.remote_id Datagram))) said in
    sends-here place session (λ remote_id. datagram remote_id session.taken number bytes) old new like
    (subst (λ (m : Message). Sends (record { to = place.address; message = m } ∷ []) old new) e sends)

pub keep-sends : (place : Place) (session : Session) (ack : ℕ) (more : Option (List ℕ)) (message : Message) (old new : List Text) → Like place session
    → ack ≡ ack_of session.taken → more ≡ more_of session.taken → message ≡ with_acks ack more (bare place.remote_id KeepAlive)
    → Sends (record { to = place.address; message = message } ∷ []) old new → Sends (addressed session.address (keep_alive session.remote_id session.taken ∷ [])) old new
keep-sends place session ack more message old new like acked said is sends =
    let e : message ≡ keep_alive place.remote_id session.taken =
    is ∙ ap (λ (a : ℕ). with_acks a more (bare place.remote_id KeepAlive)) acked
    ∙ ap (λ (m : Option (List ℕ)). with_acks (ack_of session.taken) m (bare place.remote_id KeepAlive)) said in
    sends-here place session (λ remote_id. keep_alive remote_id session.taken) old new like
    (subst (λ (m : Message). Sends (record { to = place.address; message = m } ∷ []) old new) e sends)

pub kept-on : (place : Place) (session : Session) → Like place session → place.owed ≡ true
    → kept_up session ≡ record { session = Some (record session { owed = false }); says = keep_alive session.remote_id session.taken ∷ []; effect = nothing }
kept-on place session like owed = cond-true session.owed _ (silent session) (ap (λ (s : Session). s.owed) like.same ∙ owed)

pub kept-off : (place : Place) (session : Session) → Like place session → place.owed ≡ false → kept_up session ≡ silent session
kept-off place session like owed = cond-false session.owed _ (silent session) (ap (λ (s : Session). s.owed) like.same ∙ owed)

-- STEPS THAT ARE EQUAL

pub does-eq : (session : Session) (one other : Step) (place : Place) (before after : List Text) → other ≡ one → Does session one place before after → Does session other place before after
does-eq session one other place before after same does = subst (λ (step : Step). Does session step place before after) (sym same) does
