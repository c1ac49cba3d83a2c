-- The messages that are due are sent again one after the other.
use Rattle.std.proofs.Common.{◌≡◌, true, false, List, [], ◌++◌, refl, sym, ◌∙◌, ap, subst, append_assoc, ℤ}
use Rattle.std.specs.List.{list_any}
use Rattle.std.proofs.lemmas.List.{append-nil, map-append}
use Rattle.sed_outside.specs.declared.addr.Addr.{Addr}
use Rattle.dasp_msg.specs.Posted.{is_spent}
use Rattle.dasp_msg.specs.Shown.{Message}
use Rattle.dasp_session.specs.declared.place.Place.{Place}
use Rattle.dasp_session.specs.Doing.{Does, Goes, Resends, resends_of}
use Rattle.dasp_session.specs.Keeping.{Like}
use Rattle.dasp_session.specs.Letters.{Letter, addressed}
use Rattle.dasp_session.specs.Outbox.{Datagram, Sends}
use Rattle.dasp_session.specs.Session.{Session}
use Rattle.dasp_session.specs.Ticking.{resent, sent_all}
use Rattle.dasp_session.proofs.OutboxLemmas.{Sends-none, Sends-append}

pub goes-none : (moment : ℤ) (session : Session) (place : Place) (out : List Datagram) → Like place session
    → list_any (is_spent moment) session.posted ≡ false → Goes moment session place out out
goes-none moment session place out like none = record {
  now = session;
  sent = [];
  like = like;
  put = Sends-none out;
  address = refl;
  messages = refl;
  becomes = refl;
  not_spent = none;
}

pub goes-more : (moment : ℤ) (session : Session) (first second : Place) (old between new : List Datagram) (goes : Goes moment session first old between)
    → Goes moment goes.now second between new → Goes moment session second old new
goes-more moment session first second old between new goes more =
    let before : List Letter = addressed session.address goes.sent in
    let there : Sends (addressed session.address more.sent) between new =
    subst (λ (to : Addr). Sends (addressed to more.sent) between new) goes.address more.put in
    let both : addressed session.address (goes.sent ++ more.sent) ≡ before ++ addressed session.address more.sent =
    map-append (λ (message : Message). record { to = session.address; message = message }) goes.sent more.sent in
    record {
      now = more.now;
      sent = goes.sent ++ more.sent;
      like = more.like;
      put =
          subst (λ (letters : List Letter). Sends letters old new) (sym both)
          (Sends-append before (addressed session.address more.sent) old between new goes.put there);
      address = more.address ∙ goes.address;
      messages =
          goes.messages ∙ ap (λ (xs : List Message). goes.sent ++ xs) more.messages
          ∙ sym (append_assoc goes.sent more.sent (resends_of moment more.now));
      becomes = goes.becomes ∙ more.becomes;
      not_spent = more.not_spent;
    }

pub goes-done : (moment : ℤ) (session : Session) (first second : Place) (old between new : List Datagram) (goes : Goes moment session first old between)
    → Resends moment goes.now false second between new → second.live ≡ true → Does session (sent_all moment session) second old new
goes-done moment session first second old between new goes done live =
    let becomes : goes.now ≡ resent moment session = sym (goes.becomes ∙ done.3) in
    let says : goes.sent ≡ resends_of moment session =
    sym (goes.messages ∙ ap (λ (xs : List Message). goes.sent ++ xs) done.2 ∙ append-nil goes.sent) in
    record {
      holds = (live, subst (λ (s : Session). Like second s) becomes done.0);
      sent =
          subst (λ (out : List Datagram). Sends (addressed session.address (resends_of moment session)) old out) done.1
          (subst (λ (sent : List Message). Sends (addressed session.address sent) old between) says goes.put);
    }
