use Rattle.std.proofs.Common.{◌≡◌, ◌<◌, ◌+◌, ℕ, List, [], length, refl, sym, ◌∙◌, ap, subst, arith}
use Rattle.dasp_session.specs.Outbox.{Datagram, Sends}
use Rattle.sed_engine.specs.Code.{Meaning}
use Rattle.node_events.specs.Events.{Telling}
use Rattle.node_events.specs.Ticking.{at_place}
use Rattle.sed_node.specs.Doing.{IsTold}
use Rattle.sed_node.specs.Standing.{code_of}
use Rattle.sed_node.proofs.Places.{WasAt, visited, visited_next}
use Rattle.sed_node.proofs.Sending.{nothing_sent}
use Rattle.sed_node.proofs.kept.Kept.visit_all.Goals as goal

pub loop-place-init : goal.loop-place-init
loop-place-init g c = record {
  is_kept = c.requires.is_kept;
  same = record { code = refl; setup = refl; fixed = refl };
  few = omega arith;
  room = (let none = ap length c.requires.empty in omega (arith, none));
  told = λ n holds only. record {
    is_told = record {
      holds = holds;
      sends = subst (λ (out : List Datagram). Sends [] [] out) (sym c.requires.empty) (nothing_sent []);
    };
    only = only;
  };
}

pub loop-place-preserved : goal.loop-place-preserved
loop-place-preserved g c =
    let before = c.loop-place.invariant in
    let m = code_of g.E.Engine c.args.self.now in
    let k = c.loop-place.place in
    let within = c.loop-place-test.true in
    record {
      is_kept = c.visit.ensures.is_kept;
      same = record {
        code = c.visit.ensures.same.code ∙ before.same.code;
        setup = c.visit.ensures.same.setup ∙ before.same.setup;
        fixed = c.visit.ensures.same.fixed ∙ before.same.fixed;
      };
      few = (let within = c.loop-place-test.true in omega (arith, within));
      room = (let room = c.visit.ensures.room in omega (arith, room));
      told = λ n holds only.
          let was = before.told n holds only in
          let told = c.visit.ensures.told (visited m n k) was.is_told was.only in
          let few : k < 16 = omega (arith, within) in
          let step : visited m n (k + 1) ≡ at_place m (visited m n k) k = visited_next m n k few in
          subst (λ (t : Telling). WasAt g.E.Engine c.visit.new.self t c.visit.new.out) (sym step) (record {
            is_told = subst (λ (x : Meaning). IsTold g.E.Engine c.visit.new.self (at_place x (visited m n k) k)
                c.visit.new.out) before.same.code told;
            only = c.only_open_sessions_have_subscribed.ensures.place m (visited m n k) k was.only;
          });
    }

pub returns-clause-same : goal.returns-clause-same
returns-clause-same g c = c.loop-place.invariant.same

pub returns-clause-is_kept : goal.returns-clause-is_kept
returns-clause-is_kept g c = c.loop-place.invariant.is_kept

pub returns-clause-told : goal.returns-clause-told
returns-clause-told g c = λ n holds only.
    let out = c.loop-place-test.false in
    let few = c.loop-place.invariant.few in
    let all : c.loop-place.place ≡ 16 = omega (arith, out, few) in
    (subst (λ (k : ℕ). WasAt g.E.Engine c.loop-place.self (visited (code_of g.E.Engine c.args.self.now) n k)
    c.loop-place.out) all (c.loop-place.invariant.told n holds only)).is_told
