-- Loops: each round that goes on takes a turn.
use Rattle.std.proofs.Common.{◌≡◌, ℕ, ◌+◌, ◌-◌, ◌<◌, ◌≤◌, zero, suc, List, [], Some, Result, Ok, Err, refl, arith}
use Rattle.sed_typed.specs.declared.kind.Kind.{Kind}
use Rattle.sed_typed.specs.declared.program.Program.{Program}
use Rattle.sed_engine.specs.Statements.{Flow, Next, Break, Continue, Return, Round, Again, Over as Ended, Answer, after_body, after_round, loop, rounds}
use Rattle.sed_engine.specs.State.{State, End, gives, after, then_do}
use Rattle.sed_engine.specs.Steps.{take_turn, turn_of, turn_taken}
use Rattle.sed_engine.specs.Stops.{Stop, Traps, Untyped}
use Rattle.sed_engine.specs.Values.{Val}
use Rattle.sed_engine.proofs.Ready.{Holds, turn_holds}
use Rattle.scode_ops.specs.declared.op.Op.TheVariants as op
use Rattle.scode_image.specs.declared.image.Image.{Image}
use Rattle.scode_code.specs.Fields.{Setting}
use Rattle.scode_code.specs.Machine.{Point, Onward, moves}
use Rattle.scode_code.specs.Steps.{instruction_at}
use Rattle.scode_emit.specs.Site.{Layout}
use Rattle.scode_sim.proofs.Apart.{state}
use Rattle.scode_sim.proofs.CallSims.{Returned}
use Rattle.scode_sim.proofs.Comes.{Comes, here}
use Rattle.scode_sim.proofs.Context.{Known, Body, running, machine, runs}
use Rattle.scode_sim.proofs.Follows.{Ends, frame, Stands, by_op_to, Sim, Goes, from_stands, then_sim, extend}
use Rattle.scode_sim.proofs.Frames.{Running, Agree}

turn_there : (k : ℕ) → turn_of k ≡ Ok tt → 0 < k
turn_there zero e = let never : ⊥ = cc in absurd never
turn_there (suc k) e = omega arith

module _ (program : Program) (layout : Layout) (image : Image) (class : ℕ) (known : Known program layout image class) (b : Body) (result : Kind) where
  abbrev w : Setting
  w = machine image class

  abbrev x : Running
  x = running b

  abbrev G : State → Type 0
  G s = runs program class b s

  -- where the machine stands after a statement
  abbrev pub Landed : ℕ → ℕ → ℕ → ℕ → Flow → State → Point → Type 0
  Landed n next out on Next s q = Stands x n next [] s q
  Landed n next out on Break s q = Stands x n out [] s q
  Landed n next out on Continue s q = Stands x n on [] s q
  Landed n next out on (Return v) s q = Returned n result x.below v s q

  more_stands : {place : ℕ} {s : State} {q : Point} (m n : ℕ) → m ≤ n → Stands x m place [] s q → Stands x n place [] s q
  more_stands m n le r = record { locals = r.locals; agree = r.agree; turns = let t = r.turns in omega (arith, t, le); is = r.is }

  more_returned : {v : Val} {s : State} {q : Point} (m n : ℕ) → m ≤ n → Returned m result x.below v s q → Returned n result x.below v s q
  more_returned m n le r = record { void = r.void; turns = let t = r.turns in omega (arith, t, le); is = r.is }

  more_landed : (m n next out on : ℕ) → m ≤ n → (flow : Flow) (s : State) (q : Point) → Landed m next out on flow s q → Landed n next out on flow s q
  more_landed m n next out on le Next s q l = more_stands m n le l
  more_landed m n next out on le Break s q l = more_stands m n le l
  more_landed m n next out on le Continue s q l = more_stands m n le l
  more_landed m n next out on le (Return v) s q l = more_returned m n le l

  -- after a round: where the next begins, behind the loop, or in the frame below
  abbrev pub Within : ℕ → ℕ → ℕ → Round → State → Point → Type 0
  Within m start end Again s q = Stands x m start [] s q
  Within m start end Ended s q = Stands x m end [] s q
  Within m start end (Answer v) s q = Returned m result x.below v s q

  pub record Fewer (n start : ℕ) (s : State) (q : Point) : Type 0 where
    pub left : ℕ
    pub fewer : left < n
    pub stands : Stands x left start [] s q

  abbrev pub Rounded : ℕ → ℕ → ℕ → Round → State → Point → Type 0
  Rounded n start end Again s q = Fewer n start s q
  Rounded n start end Ended s q = Stands x n end [] s q
  Rounded n start end (Answer v) s q = Returned n result x.below v s q

  within_rounded : (m n start end : ℕ) → m < n → (r : Round) (s : State) (q : Point) → Within m start end r s q → Rounded n start end r s q
  within_rounded m n start end lt Again s q h = record { left = m; fewer = lt; stands = h }
  within_rounded m n start end lt Ended s q h = more_stands m n (omega (arith, lt)) h
  within_rounded m n start end lt (Answer v) s q h = more_returned m n (omega (arith, lt)) h

  -- a turn is taken, and the rest of the round has fewer
  turned : (n place start end : ℕ) (h : State → End Round) → ((m : ℕ) → Sim w G x m Round h (place + 1) [] (Within m start end)) →
      (s : State) (ms : List Val) → G (take_turn s).state → Agree x s.locals ms → s.shared.turns ≤ n → (r : Result (Unit {0}) Stop) → (r ≡ Ok tt → 0 < s.shared.turns) →
      (let s1 : State = state (turn_taken s.shared) s.locals in
      let f = after r s1 (λ _ s2. h s2) in
      let e = after r (state (turn_taken s.shared) ms) (λ _ s3. gives (Onward []) s3) in
      Comes w (moves (frame x place ms []) x.below (place + 1) e.result e.state) (Ends (Rounded n start end) f.result f.state))
  turned n place start end h sims s ms g a t (Ok u) some =
      let left : 0 < s.shared.turns = some refl in
      let lt : n - 1 < n = omega (arith, left, t) in
      (extend w G {Q = Within (n - 1) start end} {R = Rounded n start end} (sims (n - 1)) (λ r s1 q h. here (within_rounded (n - 1) n start end lt r s1 q h))).comes (state (turn_taken s.shared) s.locals) ms g a (omega (arith, left, t))
  turned n place start end h sims s ms g a t (Err (Traps trap)) some = here refl
  turned n place start end h sims s ms g a t (Err Untyped) some = here tt

  pub turn_sim : (n place start end : ℕ) (h : State → End Round) → instruction_at image x.method place ≡ Some op.Turn → ((m : ℕ) → Sim w G x m Round h (place + 1) [] (Within m start end)) →
      Sim w G x n Round (λ s. then_do (take_turn s) (λ _ s1. h s1)) place [] (Rounded n start end)
  turn_sim n place start end h has sims = record {
    comes = λ s ms g a t.
        by_op_to w x place (place + 1) op.Turn [] ms s.shared (then_do (take_turn (state s.shared ms)) (λ _ s1. gives (Onward []) s1)) _ has refl refl
        (turned n place start end h sims s ms ((turn_holds program known.typed class known.component b.frame).holds s g).0 a t (turn_of s.shared.turns) (turn_there s.shared.turns));
  }

  -- the body, and what is left of the round
  body_goes : (P : Flow → Type 0) (m step start end : ℕ) (rest : State → End Round) → Sim w G x m Round rest step [] (Within m start end) →
      Goes w G Flow Round P (Landed m step end step) (λ flow s. after_body flow rest s) (Within m start end)
  body_goes P m step start end rest sim = record { each = λ flow p s q g l. go flow s q g l }
    where
      go : (flow : Flow) (s : State) (q : Point) → G s → Landed m step end step flow s q → Comes w q (Ends (Within m start end) (after_body flow rest s).result (after_body flow rest s).state)
      go Next s q g l = from_stands w G sim s q g l
      go Continue s q g l = from_stands w G sim s q g l
      go Break s q g l = here l
      go (Return v) s q g l = here l

  pub body_sim : {P : Flow → Type 0} {body : State → End Flow} {place : ℕ} (m step start end : ℕ) (rest : State → End Round) → Sim w G x m Flow body place [] (Landed m step end step) → Holds G Flow P body → Sim w G x m Round rest step [] (Within m start end) →
      Sim w G x m Round (λ s. then_do (body s) (λ flow s2. after_body flow rest s2)) place [] (Within m start end)
  body_sim {P} m step start end rest body holds sim = then_sim w G body holds (body_goes P m step start end rest sim)

  -- rounds, as long as they go on
  loop_goes : (P : Round → Type 0) (n start end out on k : ℕ) (one : State → End Round) → n < suc k → ((left : ℕ) → left < k → Sim w G x left Flow (loop one k) start [] (Landed left end out on)) →
      Goes w G Round Flow P (Rounded n start end) (λ r s. after_round r (loop one k) s) (Landed n end out on)
  loop_goes P n start end out on k one lt again = record { each = λ r p s q g h. go r s q g h }
    where
      go : (r : Round) (s : State) (q : Point) → G s → Rounded n start end r s q → Comes w q (Ends (Landed n end out on) (after_round r (loop one k) s).result (after_round r (loop one k) s).state)
      go Again s q g h =
          let le = h.fewer in
          from_stands w G (extend w G {Q = Landed h.left end out on} {R = Landed n end out on} (again h.left (omega (arith, le, lt))) (λ flow s1 q1 l. here (more_landed h.left n end out on (omega (arith, le)) flow s1 q1 l))) s q g h.stands
      go Ended s q g h = here h
      go (Answer v) s q g h = here h

  loop_sim : {P : Round → Type 0} (start end out on : ℕ) (one : State → End Round) → ((n : ℕ) → Sim w G x n Round one start [] (Rounded n start end)) → Holds G Round P one →
      (k n : ℕ) → n < k → Sim w G x n Flow (loop one k) start [] (Landed n end out on)
  unfolding loop
  loop_sim start end out on one sims holds zero n lt = absurd (omega (arith, lt))
  loop_sim {P} start end out on one sims holds (suc k) n lt = then_sim w G (sims n) holds (loop_goes P n start end out on k one lt (λ left less. loop_sim start end out on one sims holds k left less))

  pub rounds_sim : {P : Round → Type 0} (n start end out on : ℕ) (one : State → End Round) → ((n : ℕ) → Sim w G x n Round one start [] (Rounded n start end)) → Holds G Round P one →
      Sim w G x n Flow (rounds one) start [] (Landed n end out on)
  rounds_sim n start end out on one sims holds = record {
    comes = λ s ms g a t.
        let le : s.shared.turns ≤ s.shared.turns = omega arith in
        (extend w G {Q = Landed s.shared.turns end out on} {R = Landed n end out on} (loop_sim start end out on one sims holds (suc s.shared.turns) s.shared.turns (omega arith)) (λ flow s1 q1 l. here (more_landed s.shared.turns n end out on t flow s1 q1 l))).comes s ms g a le;
  }
