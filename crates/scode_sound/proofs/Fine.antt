-- What holds of each machine that a verified image reaches: instructions that stay in the method, and those that
-- leave it.
use Rattle.std.proofs.Common.{◌≡◌, ◌<◌, ◌+◌, ◌*◌, ◌==◌, ◌||◌, not, nat_lt, ℕ, zero, suc, Bool, true, false, if◌then◌else◌, List, [], ◌∷◌, ◌++◌, length, Option, Some, Result, Ok, Err, refl, sym, ap, subst, ◌∙◌, arith, inl, inr, ◌⊎◌}
use Rattle.std.specs.Prelude.{IfSome, slice_get, slice_set}
use Rattle.std.specs.Option.{option_map_or}
use Rattle.std.proofs.lemmas.Bool.{cases_lt, ltb-true}
use Rattle.sed_engine.specs.declared.trap.Trap.{Trap}
use Rattle.sed_engine.specs.declared.trap.Trap.TheVariants.{TurnsSpent}
use Rattle.sed_engine.specs.State.{Shared, State, gives, answers, after as after_step, then_do}
use Rattle.sed_engine.specs.Steps.{turn_taken}
use Rattle.sed_engine.specs.Stops.{Stop, Traps, Untyped, there as is_there, map_ok}
use Rattle.sed_engine.specs.Values.{Val, Nothing}
use Rattle.sed_engine.proofs.Ranges.{Sound}
use Rattle.scode_ops.specs.declared.op.Op.{Op}
use Rattle.scode_ops.specs.declared.op.Op.TheVariants as op
use Rattle.scode_ops.specs.Codes.{IsOp}
use Rattle.scode_ops.specs.Decoding.{op_at, size_of}
use Rattle.scode_image.specs.declared.image.ImageKind.{ImageKind}
use Rattle.scode_image.specs.declared.image.ImageMethod.{ImageMethod}
use Rattle.scode_code.specs.CodeRules.{after, after_stack, is_start, is_turn, jumps_to, locals_after, with_kind}
use Rattle.scode_code.specs.Effect.{no_push}
use Rattle.scode_code.specs.Fields.{Setting}
use Rattle.scode_code.specs.Kinds.{Shape, goes_to}
use Rattle.scode_code.specs.Machine.{Frame, Machine, At as AtWork, Over, Move, Onward, Goto, Enter, Leave, moves, pushed, returned}
use Rattle.scode_code.specs.Steps.{effect}
use Rattle.scode_code.specs.Verified.{IsFine, IsVerifiedBy, Leads, MayJump, Shapes}
use Rattle.scode_code.specs.declared.needs.Need.TheVariants.{Anything}
use Rattle.scode_code.specs.Wants.{needs, result_cells, wants_of}
use Rattle.scode_whole.proofs.Truths.{no_truth, same_value}
use Rattle.scode_sound.specs.Potential.{left_at, left_of, longest, weigh}
use Rattle.scode_sound.specs.Cells.{Concrete, Fit, HasKind}
use Rattle.scode_sound.specs.Fine.{AllWait, FineAt, Fitting, result_of}
use Rattle.scode_sound.proofs.Left.{at_back, at_later, at_some, next_start, paid, size_some}
use Rattle.scode_sound.proofs.Rules.{Tables, stands_at}
use Rattle.scode_sound.proofs.Cells.{all_goes, goes as cell_goes, fit_length, fit_set}
use Rattle.scode_sound.proofs.Keeping.{Now, turn_fitting}
use Rattle.scode_sound.proofs.Stacks.{Lands, Takes, pushed_fits}
use Rattle.scode_sound.proofs.Straight.{is_straight, straight}
use Rattle.scode_sound.proofs.Points.{Better, code_is, code_there, goes_parts, left_most, positive, reached_at, result_is}
use Rattle.scode_sound.proofs.Booleans.{first_false, not_not, second_false}

straight_keeps : (shape : Shape) (i : Op) → is_straight i ≡ true → locals_after shape i ≡ shape.locals
straight_keeps shape (op.Store n) h = no_truth h
straight_keeps shape other h = refl

straight_no_turn : (i : Op) → is_straight i ≡ true → is_turn (Some i) ≡ false
straight_no_turn op.Turn h = no_truth h
straight_no_turn other h = refl

set_length : (ks : List ImageKind) (n : ℕ) (k : ImageKind) → length (with_kind ks n k) ≡ length ks
set_length [] n k = refl
set_length (l ∷ ks) zero k = refl
set_length (l ∷ ks) (suc n) k = ap suc (set_length ks n k)

-- what a method answers: no value where it has no result
abbrev HasResult : Setting → ImageKind → Val → Type 0
HasResult w k v = (((k.kind == 0) ≡ true) × (v ≡ Nothing)) ⊎ (((k.kind == 0) ≡ false) × HasKind w k v)

result_fits : (w : Setting) (k : ImageKind) (ks : List ImageKind) (v : Val) (stack : List Val) → HasResult w k v
    → Fit w ks stack → Fit w (result_cells k ++ ks) (pushed v stack)
result_fits w k ks v stack (inl h) f =
    subst (λ (b : Bool). Fit w ((if b then [] else k ∷ []) ++ ks) (pushed v stack)) (sym h.0)
    (subst (λ (x : Val). Fit w ks (pushed x stack)) (sym h.1) f)
result_fits w k ks v stack (inr h) f =
    subst (λ (b : Bool). Fit w ((if b then [] else k ∷ []) ++ ks) (pushed v stack)) (sym h.0)
    (pushed_fits w (λ s. Unit {0}) k ks v stack h.1 f)

module _ (w : Setting) (is : Tables w.image) (own : Concrete w.image w.class) (given : ℕ) (shapes : Shapes)
    (verified : IsVerifiedBy w.image shapes) where
  -- ---- one step of a fine machine

  module _ (machine : Machine) (now_fine : FineAt w given shapes machine) where
    abbrev pub method : ℕ
    method = machine.top.method

    abbrev pub place : ℕ
    place = machine.top.place

    abbrev pub locals : List Val
    locals = machine.top.locals

    abbrev pub stack : List Val
    stack = machine.top.stack

    abbrev pub below : List Frame
    below = machine.below

    abbrev pub sh : Shared
    sh = machine.shared

    abbrev pub m : ImageMethod
    m = now_fine.at.m

    abbrev pub shape : Shape
    shape = now_fine.shape

    abbrev pub known : slice_get w.image.methods method ≡ Some m
    known = now_fine.at.known

    abbrev pub start : is_start m.code place ≡ true
    start = now_fine.at.start

    abbrev pub many : length shape.locals ≡ length m.locals
    many = now_fine.at.many

    abbrev pub fit_locals : Fit w shape.locals locals
    fit_locals = now_fine.fit_locals

    abbrev pub fit_stack : Fit w shape.stack stack
    fit_stack = now_fine.fit_stack

    abbrev pub fitting : Fitting w given sh
    fitting = now_fine.fitting

    abbrev pub waits : AllWait w shapes (result_of w method) below
    waits = now_fine.waits

    abbrev pub frame : Frame
    frame = record { method = method; place = place; locals = locals; stack = stack }

    abbrev pub s0 : State
    s0 = record { shared = sh; locals = locals }

    abbrev pub now : ℕ
    now = sh.turns * longest w + left_of w method place + weigh w below

    -- what is known of the instruction
    pub record Here (i : Op) : Type 0 where
      pub instruction : op_at m.code place ≡ Some i
      pub fine : IsFine w.image shapes method m place shape i
      pub spelled : IsOp i
      pub cells : Takes w (needs w.image shape i) shape.stack stack

    pub left_is : (p : ℕ) → left_of w method p ≡ left_at m.code p
    left_is p = ap (λ (code : List ℕ). left_at code p) (code_is w method m known)

    some_left : 0 < now
    some_left =
        let one = at_some m.code place start in
        let e = left_is place in
        omega (arith, one, e)

    pub trapped : (t : Trap) (s : Shared) → Fitting w given s
        → Better w given shapes now (Over (record { result = Err (Traps t); shared = s }))
    trapped t s g = record { fine = record { typed = tt; fitting = g }; less = some_left }

    arrive : (to : ℕ) (s : Shape) (ls st : List Val) (t : Shared) → Leads w.image shapes method to s
        → is_start m.code to ≡ true → length s.locals ≡ length m.locals → Fit w s.locals ls → Fit w s.stack st
        → Fitting w given t
        → FineAt w given shapes (record {
          top = record { method = method; place = to; locals = ls; stack = st };
          below = below;
          shared = t;
        })
    arrive to s ls st t l start_to count fl fs g =
        let p = goes_parts w s l.reached l.goes in
        record {
          shape = l.reached;
          at = reached_at w given shapes method to m s known start_to count l;
          fit_locals = all_goes w is s.locals l.reached.locals ls p.0 fl;
          fit_stack = all_goes w is s.stack l.reached.stack st p.1 fs;
          fitting = g;
          waits = waits;
        }

    -- in the same method, with the same turns
    arrives : (to : ℕ) (s : Shape) (ls st : List Val) (t : Shared) → Leads w.image shapes method to s
        → is_start m.code to ≡ true → length s.locals ≡ length m.locals → Fit w s.locals ls → Fit w s.stack st
        → Fitting w given t → t.turns ≡ sh.turns → left_at m.code to < left_at m.code place
        → Better w given shapes now (AtWork (record {
          top = record { method = method; place = to; locals = ls; stack = st };
          below = below;
          shared = t;
        }))
    arrives to s ls st t l start_to count fl fs g same less = record {
      fine = arrive to s ls st t l start_to count fl fs g;
      less = let a = left_is to in
          let b = left_is place in
          let product : t.turns * longest w ≡ sh.turns * longest w = ap (λ (n : ℕ). n * longest w) same in
          omega (arith, a, b, product, less);
    }

    pub next_start_is : (i : Op) → op_at m.code place ≡ Some i → (s : Shape)
        → Leads w.image shapes method (place + size_of i) s → is_start m.code (place + size_of i) ≡ true
    next_start_is i ip s l =
        let j = code_there w given shapes verified method (place + size_of i) m s known l in
        next_start m.code place i j.0 start ip j.1

    pub next_less : (i : Op) → op_at m.code place ≡ Some i → is_turn (Some i) ≡ false
        → is_start m.code (place + size_of i) ≡ true → left_at m.code (place + size_of i) < left_at m.code place
    next_less i ip no_turn start_next =
        let size = size_some i in
        at_later m.code place (place + size_of i) start start_next (omega (arith, size)) (ap is_turn ip ∙ no_turn)

    jump_less : (i : Op) (to : ℕ) → op_at m.code place ≡ Some i → is_turn (Some i) ≡ false
        → is_start m.code to ≡ true → MayJump m place to → left_at m.code to < left_at m.code place
    jump_less i to ip no_turn start_to (inl less) =
        at_later m.code place to start start_to less (ap is_turn ip ∙ no_turn)
    jump_less i to ip no_turn start_to (inr e) = elim (cases_lt to place) [
      | inl less ↦ at_back m.code place to start start_to less e (ap is_turn ip ∙ no_turn)
      | inr high ↦ elim (cases_lt place to) [
        | inl less ↦ at_later m.code place to start start_to less (ap is_turn ip ∙ no_turn)
        | inr low ↦
            let same : to ≡ place = omega (arith, high, low) in
            let turn : is_turn (Some i) ≡ true =
            ap is_turn (sym ip ∙ ap (op_at m.code) (sym same) ∙ e) in
            no_truth (sym no_turn ∙ turn)
      ]
    ]

    -- ---- instructions that stay in the method

    module _ (i : Op) (h : Here i) (str : is_straight i ≡ true) where
      jump_parts : (to : ℕ) → jumps_to i ≡ Some to
          → (is_start m.code to ≡ true) × MayJump m place to × Leads w.image shapes method to (after w.image shape i)
      jump_parts to e =
          let one : not (is_start m.code to) ≡ false =
          sym (ap (λ (o : Option ℕ). option_map_or (λ t. not (is_start m.code t)) o false) e) ∙ h.fine.start in (
            not_not (is_start m.code to) one,
            subst (λ (o : Option ℕ). IfSome o (λ t. MayJump m place t)) e h.fine.may_jump,
            subst (λ (o : Option ℕ). IfSome o (λ t. Leads w.image shapes method t (after w.image shape i))) e
                h.fine.jumps,
          )

      kept : (s : State) → s.locals ≡ locals → Fit w (locals_after shape i) s.locals
      kept s same =
          subst (λ (ks : List ImageKind). Fit w ks s.locals) (sym (straight_keeps shape i str))
          (subst (λ (vs : List Val). Fit w shape.locals vs) (sym same) fit_locals)

      count : length (locals_after shape i) ≡ length m.locals
      count = ap (λ (ks : List ImageKind). length ks) (straight_keeps shape i str) ∙ many

      landed : (r : Result Move Stop) (s : State) → Now w given sh.turns locals s
          → Sound (Lands w i (after_stack w.image (wants_of w.image shape.locals i) shape.stack)) r
          → Better w given shapes now (moves frame below (place + size_of i) r s)
      landed (Ok (Onward st)) s g p =
          let l = h.fine.goes_on p.0 in
          let start_next = next_start_is i h.instruction (after w.image shape i) l in
          arrives (place + size_of i) (after w.image shape i) s.locals st s.shared l start_next count
          (kept s g.locals_are) p.1 g.fitting g.turns_are
          (next_less i h.instruction (straight_no_turn i str) start_next)
      landed (Ok (Goto to st)) s g p =
          let j = jump_parts to p.0 in
          arrives to (after w.image shape i) s.locals st s.shared j.2 j.0 count (kept s g.locals_are) p.1 g.fitting
          g.turns_are (jump_less i to h.instruction (straight_no_turn i str) j.0 j.1)
      landed (Ok (Enter number ls st)) s g p = absurd p
      landed (Ok (Leave v)) s g p = absurd p
      landed (Err (Traps t)) s g p = trapped t s.shared g.fitting
      landed (Err Untyped) s g p = absurd p

      pub straight_better : Better w given shapes now
          (moves frame below (place + size_of i) (effect w i stack s0).result (effect w i stack s0).state)
      straight_better =
          let all = straight w is own given sh.turns locals m shape i stack str (record {
            spelled = h.spelled;
            numbers = h.fine.numbers;
            fields = h.fine.fields;
            cells = h.cells;
            many = many;
            fit_locals = fit_locals;
            fit_stack = fit_stack;
          }) in
          let first : Now w given sh.turns locals s0 =
          record { fitting = fitting; turns_are = refl; locals_are = refl } in
          let one = all.holds s0 first in
          landed (effect w i stack s0).result (effect w i stack s0).state one.0 one.1

    -- ---- a local

    pub stored : (n : ℕ) (ks : List ImageKind) (stack : List Val) → Here (op.Store n)
        → (e : shape.stack ≡ ks) → Takes w (Anything ∷ []) ks stack
        → Better w given shapes now (moves frame below (place + size_of (op.Store n))
        (effect w (op.Store n) stack s0).result
        (effect w (op.Store n) stack s0).state)
    stored n [] stack h e t = absurd t
    stored n (k ∷ ks) [] h e t = absurd t
    stored n (k ∷ ks) (v ∷ rest) h e t =
        let low : n < length m.locals =
        ltb-true n (length m.locals) (not_not (nat_lt n (length m.locals)) h.fine.numbers) in
        let as_many : length locals ≡ length shape.locals = fit_length w shape.locals locals fit_locals in
        let old = stands_at locals n (omega (arith, low, as_many, many)) in
        let has : HasKind w k v = subst (λ (x : ImageKind). HasKind w x v)
        (sym (same_value k t.0.kind t.0.is)) t.0.has in
        let l : Leads w.image shapes method (place + size_of (op.Store n))
        (record { locals = with_kind shape.locals n k; stack = ks }) =
        subst (λ (all : List ImageKind). Leads w.image shapes method (place + size_of (op.Store n))
        (after w.image (record { locals = shape.locals; stack = all }) (op.Store n))) e (h.fine.goes_on refl) in
        let start_next = next_start_is (op.Store n) h.instruction
        (record { locals = with_kind shape.locals n k; stack = ks }) l in
        subst (λ (o : Option Val).
        Better w given shapes now (moves frame below (place + size_of (op.Store n))
        (no_push rest (then_do (answers (map_ok (λ _. slice_set locals n v) (is_there o)) s0)
        (λ (all : List Val) (s1 : State). gives v (record { shared = s1.shared; locals = all })))).result
        (no_push rest (then_do (answers (map_ok (λ _. slice_set locals n v) (is_there o)) s0)
        (λ (all : List Val) (s1 : State). gives v (record { shared = s1.shared; locals = all })))).state)) (sym old.1)
        (arrives (place + size_of (op.Store n)) (record { locals = with_kind shape.locals n k; stack = ks })
        (slice_set locals n v) rest sh l start_next (set_length shape.locals n k ∙ many)
        (fit_set w shape.locals locals n k v fit_locals has) t.1 fitting refl
        (next_less (op.Store n) h.instruction refl start_next))

    -- ---- turns

    turn_less : (next : ℕ) → 0 < sh.turns → (turn_taken sh).turns * longest w + left_of w method next + weigh w below <
        now
    turn_less next some =
        let most = left_most w method next m known in
        let pays = paid sh.turns (longest w) (left_of w method next) some most in
        let one = at_some m.code place start in
        let e = left_is place in
        omega (arith, pays, one, e)

    pub turned : Here op.Turn → (b : Bool) → (sh.turns == 0) ≡ b
        → Better w given shapes now (moves frame below (place + size_of op.Turn)
        (after_step (if b then Err (Traps TurnsSpent) else Ok (tt {0}))
        (record { shared = turn_taken sh; locals = locals })
        (λ (u : Unit {0}) (s1 : State). gives (Onward stack) s1)).result
        (after_step (if b then Err (Traps TurnsSpent) else Ok (tt {0}))
        (record { shared = turn_taken sh; locals = locals })
        (λ (u : Unit {0}) (s1 : State). gives (Onward stack) s1)).state)
    turned h true e = trapped TurnsSpent (turn_taken sh) (turn_fitting w given sh fitting)
    turned h false e =
        let next : ℕ = place + size_of op.Turn in
        let l = h.fine.goes_on refl in
        let start_next = next_start_is op.Turn h.instruction (after w.image shape op.Turn) l in
        record {
          fine = arrive (place + size_of op.Turn) (after w.image shape op.Turn) locals stack
              (turn_taken sh) l start_next
              many fit_locals fit_stack (turn_fitting w given sh fitting);
          less = turn_less (place + size_of op.Turn) (positive sh.turns e);
        }

    -- ---- out of the method

    waits_own : AllWait w shapes m.result below
    waits_own = subst (λ (k : ImageKind). AllWait w shapes k below) (result_is w method m known) waits

    leaves : (v : Val) → HasResult w m.result v → (fs : List Frame) → AllWait w shapes m.result fs → fs ≡ below
        → Better w given shapes now (returned v fs sh)
    leaves v h [] ws same = record { fine = record { typed = tt; fitting = fitting }; less = some_left }
    leaves v h (g ∷ fs) ws same =
        let one = at_some m.code place start in
        let e = left_is place in
        let weight : weigh w (g ∷ fs) ≡ weigh w below = ap (weigh w) same in
        record {
          fine = record {
            shape = ws.0.shape;
            at = ws.0.at;
            fit_locals = ws.0.fit_locals;
            fit_stack = all_goes w is (result_cells m.result ++ ws.0.kinds) ws.0.shape.stack
                (pushed v g.stack) ws.0.leads
                (result_fits w m.result ws.0.kinds v g.stack h ws.0.fit_rest);
            fitting = fitting;
            waits = ws.1;
          };
          less = omega (arith, one, e, weight);
        }

    pub leaves_none : Here op.Return
        → Better w given shapes now (moves frame below (place + size_of op.Return) (effect w op.Return stack s0).result
        (effect w op.Return stack s0).state)
    leaves_none h =
        leaves Nothing (inl (not_not (m.result.kind == 0) h.fine.result, refl)) below waits_own refl

    pub leaves_value : (ks : List ImageKind) (stack : List Val) → Here op.ReturnValue → (e : shape.stack ≡ ks)
        → Takes w (Anything ∷ []) ks stack
        → Better w given shapes now (moves frame below (place + size_of op.ReturnValue)
        (effect w op.ReturnValue stack s0).result
        (effect w op.ReturnValue stack s0).state)
    leaves_value [] stack h e t = absurd t
    leaves_value (k ∷ ks) [] h e t = absurd t
    leaves_value (k ∷ ks) (v ∷ rest) h e t =
        let differs : ((m.result.kind == 0) || not (goes_to w.image k m.result)) ≡ false =
        sym (ap (λ (all : List ImageKind). (m.result.kind == 0)
        || not (option_map_or (λ (x : ImageKind). goes_to w.image x m.result) (slice_get all 0) true)) e)
        ∙ h.fine.result in
        let has : HasKind w k v = subst (λ (x : ImageKind). HasKind w x v)
        (sym (same_value k t.0.kind t.0.is)) t.0.has in
        leaves v
        (inr (
          first_false (m.result.kind == 0) (not (goes_to w.image k m.result)) differs,
          cell_goes w is k m.result v
              (not_not (goes_to w.image k m.result) (second_false (m.result.kind == 0)
              (not (goes_to w.image k m.result))
              differs)) has,
        )) below waits_own refl
