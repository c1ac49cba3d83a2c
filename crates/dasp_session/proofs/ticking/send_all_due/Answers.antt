use Rattle.std.proofs.Common.{◌≡◌, ◌+◌, Bool, false, ℤ, length, refl, sym, ◌∙◌, ap, subst, arith, to_z, of_z, w64, to_z-of_z}
use Rattle.std.specs.Prelude.{if◌then◌else◌}
use Rattle.std.proofs.lemmas.List.Sums.{count_by-le-length}
use Rattle.std.specs.List.{list_any}
use Rattle.dasp_msg.specs.declared.outgoing.Message.{Message as Posted}
use Rattle.dasp_msg.specs.Posted.{is_spent}
use Rattle.dasp_session.specs.Doing.{Does, Resends}
use Rattle.dasp_session.specs.Ticking.{sent_all}
use Rattle.dasp_session.proofs.GoesLemmas.{goes-none, goes-more, goes-done}
use Rattle.dasp_session.proofs.ticking.send_all_due.Goals as goal

pub due-init : goal.due-init
due-init c = (
  λ session like none. goes-none _ session c.args.place.now c.args.out.now like none,
  c.requires.live,
  refl,
  omega (arith, count_by-le-length {X = Posted}),
  refl,
)

pub due-preserved : goal.due-preserved
due-preserved c =
    let out = c.send_due.ensures.out ∙ ap (λ (b : Bool). length c.due.out + (if b then 1 else 0)) c.due-test.true in
    let fewer = c.send_due.ensures.fewer c.due-test.true in (
      λ session like none.
          let goes = c.due.invariant.0 session like none in
          let sent = c.send_due.ensures.resends goes.now goes.like goes.not_spent in
          goes-more _ session c.due.place c.send_due.new.place c.args.out.now c.due.out c.send_due.new.out goes
          (subst (λ (b : Bool). Resends (to_z w64 (of_z w64 c.args.moment)) goes.now b c.send_due.new.place c.due.out c.send_due.new.out) c.due-test.true sent),
      c.send_due.ensures.live ∙ c.due.invariant.1,
      c.send_due.ensures.user ∙ c.due.invariant.2,
      omega (arith, c.due.invariant.3, out, fewer),
      c.send_due.ensures.as_many ∙ c.due.invariant.4,
    )

pub returns : goal.returns
returns c =
    let out = c.send_due.ensures.out ∙ ap (λ (b : Bool). length c.due.out + (if b then 1 else 0)) c.due-test.false in
    record {
      does = λ session like none.
          let before = subst (λ (t : ℤ). list_any (is_spent t) session.posted ≡ false) (sym (to_z-of_z c.ranges.moment)) none in
          let goes = c.due.invariant.0 session like before in
          let done = c.send_due.ensures.resends goes.now goes.like goes.not_spent in
          subst (λ (t : ℤ). Does session (sent_all t session) c.send_due.new.place c.args.out.now c.send_due.new.out) (to_z-of_z c.ranges.moment)
          (goes-done _ session c.due.place c.send_due.new.place c.args.out.now c.due.out c.send_due.new.out goes
          (subst (λ (b : Bool). Resends (to_z w64 (of_z w64 c.args.moment)) goes.now b c.send_due.new.place c.due.out c.send_due.new.out) c.due-test.false done)
          (c.send_due.ensures.live ∙ c.due.invariant.1));
      live = c.send_due.ensures.live ∙ c.due.invariant.1;
      user = c.send_due.ensures.user ∙ c.due.invariant.2;
      as_many = c.send_due.ensures.as_many ∙ c.due.invariant.4;
      few = omega (arith, c.due.invariant.3, out);
    }
