use Rattle.std.proofs.Common.{◌≡◌, ℤ, Bool, true, false, not, [], ◌∷◌, refl, sym, ◌∙◌, ap, subst, to_z-of_z}
use Rattle.std.specs.List.{list_any}
use Rattle.std.proofs.lemmas.Bool.{or_parts}
use Rattle.dasp_msg.specs.Posted.{is_spent}
use Rattle.dasp_msg.specs.Shown.{Message}
use Rattle.dasp_session.specs.Doing.{Does}
use Rattle.dasp_session.specs.Outbox.{Sends}
use Rattle.dasp_session.specs.Session.{Session}
use Rattle.dasp_session.specs.Ticking.{is_silent, is_over, sent_all}
use Rattle.dasp_session.proofs.KeepLemmas.{does-eq, ticked-over, ticked-on, does-close}
use Rattle.dasp_session.proofs.ticking.tick.Goals as goal

over_now : (moment given : ℤ) (session : Session) (answer told : Bool) → given ≡ moment → answer ≡ is_over given session → answer ≡ told → is_over moment session ≡ told
over_now moment given session answer told same is gives = subst (λ (t : ℤ). is_over t session ≡ told) same (sym is ∙ gives)

pub returns-then-is_over-clause-does : goal.returns-then-is_over-clause-does
returns-then-is_over-clause-does c = λ session like.
    does-close c.args.place.now _ session _ 0xe5 c.args.out.now c.send.new.self like refl
    (ticked-over c.args.moment session (over_now _ _ session _ true (to_z-of_z c.ranges.moment) (c.is_over.ensures.over session like) c.if-is_over.true))
    (subst (λ (m : Message). Sends (record { to = c.args.place.now.address; message = m } ∷ []) c.args.out.now c.send.new.self) c.close.ensures.says c.send.ensures.sends)

pub returns-then-is_over-clause-answer : goal.returns-then-is_over-clause-answer
returns-then-is_over-clause-answer c = λ session like.
    ap not (sym (over_now c.args.moment _ session _ true (to_z-of_z c.ranges.moment) (c.is_over.ensures.over session like) c.if-is_over.true))

pub returns-clause-answer : goal.returns-clause-answer
returns-clause-answer c = λ session like.
    ap not (sym (over_now c.args.moment _ session _ false (to_z-of_z c.ranges.moment) (c.is_over.ensures.over session like) c.if-is_over.false))

pub returns-clause-does : goal.returns-clause-does
returns-clause-does c = λ session like.
    let on = over_now c.args.moment _ session _ false (to_z-of_z c.ranges.moment) (c.is_over.ensures.over session like) c.if-is_over.false in
    let none = (or_parts (is_silent c.args.moment session) (list_any (is_spent c.args.moment) session.posted) on).1 in
    does-eq session _ _ c.send_all_due.new.place c.args.out.now c.send_all_due.new.out (ticked-on c.args.moment session on)
    (subst (λ (t : ℤ). list_any (is_spent t) session.posted ≡ false → Does session (sent_all t session) c.send_all_due.new.place c.args.out.now c.send_all_due.new.out)
    (to_z-of_z c.ranges.moment) (c.send_all_due.ensures.does session like) none)
