-- No state that a verified image reaches is stuck, and each step leaves less to do.
use Rattle.std.proofs.Common.{◌≡◌, ◌<◌, ◌+◌, ◌==◌, nat_lt, ℕ, suc, Bool, true, false, if◌then◌else◌, List, [], ◌∷◌, ◌++◌, length, map, drop, reverse, Option, Some, None, Result, Ok, Err, refl, sym, ap, subst, ◌∙◌, arith}
use Rattle.std.specs.Prelude.{IfSome, is_some, slice_get, slice_index, slice_index_or}
use Rattle.std.specs.Option.{option_and_then, option_map_or}
use Rattle.std.proofs.lemmas.Bool.{ltb-true}
use Rattle.std.proofs.lemmas.Option.{slice_get_within}
use Rattle.sed_engine.specs.declared.trap.Trap.{Trap}
use Rattle.sed_engine.specs.declared.trap.Trap.TheVariants.{NullReference, TurnsSpent, TooDeep}
use Rattle.sed_engine.specs.Root.{most_frames}
use Rattle.sed_engine.specs.State.{Shared, State, End, gives, answers, after as after_step, then_do}
use Rattle.sed_engine.specs.Steps.{turn_taken}
use Rattle.sed_engine.specs.Stops.{Stop, Traps, Untyped, there as is_there}
use Rattle.sed_engine.specs.Values.{Val, Nothing, Truth, Int, Long, Null, At, Literal, Spot, spot_of}
use Rattle.sed_engine.proofs.Below.{Below, below_of}
use Rattle.sed_engine.proofs.Ranges.{Sound}
use Rattle.scode_ops.specs.declared.op.Op.{Op}
use Rattle.scode_ops.specs.declared.op.Op.TheVariants as op
use Rattle.scode_ops.specs.Codes.{IsOp}
use Rattle.scode_ops.specs.Decoding.{op_at, size_of}
use Rattle.scode_ops.proofs.DecodingLemmas.{found-stands}
use Rattle.scode_image.specs.declared.image.Image.{Image}
use Rattle.scode_image.specs.declared.image.ImageClass.{ImageClass}
use Rattle.scode_image.specs.declared.image.ImageKind.{ImageKind}
use Rattle.scode_image.specs.declared.image.ImageMethod.{ImageMethod}
use Rattle.scode_code.specs.Calls.{argument_count, found_for, goes_into, locals_of, method_there, receiver_there, table_method}
use Rattle.scode_code.specs.CodeRules.{after, after_stack, all_meet, first_shape, is_abstract, is_end, is_start, is_turn, locals_after, stack_breaks}
use Rattle.scode_code.specs.Effect.{taken}
use Rattle.scode_code.specs.Fields.{Setting, class_of}
use Rattle.scode_code.specs.Kinds.{Shape, all_go, object}
use Rattle.scode_code.specs.Machine.{Frame, Machine, Point, At as AtWork, Over, Move, Enter, moves}
use Rattle.scode_code.specs.Steps.{act, code_of, effect, step}
use Rattle.scode_code.specs.Verified.{IsFine, IsVerifiedBy, Leads, Shapes, Stands}
use Rattle.scode_code.specs.declared.needs.Need.TheVariants.{Goes}
use Rattle.scode_code.specs.declared.needs.Effect.{Effect}
use Rattle.scode_code.specs.Wants.{argument_needs, arguments as method_effect, calls, cells_of, needs, needs_of, nothing as no_effect, result_cells, virtual_calls, wants_of}
use Rattle.scode_whole.proofs.Kits.{classes_most}
use Rattle.scode_whole.proofs.Truths.{no_truth, same_value, through}
use Rattle.scode_sound.specs.Cells.{Block, Concrete, Fit, HasKind, Object, Text, class_from}
use Rattle.scode_sound.specs.Fine.{Fitting}
use Rattle.scode_sound.proofs.Left.{first_start, paid}
use Rattle.scode_sound.proofs.Rules.{MethodRule, Tables, method_rule}
use Rattle.scode_sound.proofs.Cells.{an_object, all_goes, classes_of}
use Rattle.scode_sound.proofs.Members.{InTable, Received, has_code, received, method_there as table_there, table_below}
use Rattle.sed_engine.proofs.StrBytes.{byte_at}
use Rattle.scode_sound.proofs.Keeping.{turn_fitting}
use Rattle.scode_sound.proofs.Fine as machines
use Rattle.scode_sound.proofs.Points as points
use Rattle.scode_sound.proofs.Booleans.{not_none, not_not}
use Rattle.scode_sound.proofs.Stacks.{Takes, takes}
use Rattle.scode_sound.proofs.Objects.{class_is}
use Rattle.scode_sound.proofs.Arguments.{arguments, kinds_of, locals_fit, receiver_is}
use Rattle.scode_sound.specs.Fine.{AllWait, FineAt, result_of}
use Rattle.scode_sound.specs.Potential.{left_of, longest, potential}

module _ (w : Setting) (is : Tables w.image) (own : Concrete w.image w.class) (given : ℕ) (shapes : Shapes)
    (verified : IsVerifiedBy w.image shapes) (machine : Machine)
    (now_fine : FineAt w given shapes machine) where
  abbrev Better : ℕ → Point → Type 0
  Better n q = points.Better w given shapes n q

  abbrev Here : Op → Type 0
  Here i = machines.Here w is own given shapes verified machine now_fine i

  abbrev method : ℕ
  method = machine.top.method

  abbrev place : ℕ
  place = machine.top.place

  abbrev locals : List Val
  locals = machine.top.locals

  abbrev stack : List Val
  stack = machine.top.stack

  abbrev below : List Frame
  below = machine.below

  abbrev sh : Shared
  sh = machine.shared

  abbrev m : ImageMethod
  m = now_fine.at.m

  abbrev shape : Shape
  shape = now_fine.shape

  abbrev known : slice_get w.image.methods method ≡ Some m
  known = now_fine.at.known

  abbrev start : is_start m.code place ≡ true
  start = now_fine.at.start

  abbrev many : length shape.locals ≡ length m.locals
  many = now_fine.at.many

  abbrev fit_locals : Fit w shape.locals locals
  fit_locals = now_fine.fit_locals

  abbrev fit_stack : Fit w shape.stack stack
  fit_stack = now_fine.fit_stack

  abbrev fitting : Fitting w given sh
  fitting = now_fine.fitting

  abbrev waits : AllWait w shapes (result_of w method) below
  waits = now_fine.waits

  abbrev frame : Frame
  frame = machine.top

  abbrev s0 : State
  s0 = record { shared = sh; locals = locals }

  abbrev now : ℕ
  now = machines.now w is own given shapes verified machine now_fine

  trapped : (t : Trap) (s : Shared) → Fitting w given s → Better now
      (Over (record { result = Err (Traps t); shared = s }))
  trapped = machines.trapped w is own given shapes verified machine now_fine

  -- ---- into a method

  called : (i : Op) → Here i → is_end i ≡ false → is_turn (Some i) ≡ false → locals_after shape i ≡ shape.locals
      → (number : ℕ) (c : ImageMethod) (args rest : List Val) (kinds : List ImageKind)
      → slice_get w.image.methods number ≡ Some c → is_abstract c ≡ false → Fit w (kinds_of c.class c) args
      → after_stack w.image (wants_of w.image shape.locals i) shape.stack ≡ result_cells c.result ++ kinds → Fit w kinds rest
      → (b : Bool) → (sh.turns == 0) ≡ b
      → Better now (moves frame below (place + size_of i)
      (after_step (if b then Err (Traps TurnsSpent) else Ok (tt {0}))
      (record { shared = turn_taken sh; locals = locals })
      (λ (u : Unit {0}) (s1 : State). gives (Enter number (locals_of c args) rest) s1)).result
      (after_step (if b then Err (Traps TurnsSpent) else Ok (tt {0}))
      (record { shared = turn_taken sh; locals = locals })
      (λ (u : Unit {0}) (s1 : State). gives (Enter number (locals_of c args) rest) s1)).state)
  called i h on no_turn same number c args rest kinds e code fit_args leaves_it fit_rest true z =
      trapped TurnsSpent (turn_taken sh) (turn_fitting w given sh fitting)
  called i h on no_turn same number c args rest kinds e code fit_args leaves_it fit_rest false z =
      enter (nat_lt (suc (length below)) most_frames)
    where
      back : Leads w.image shapes method (place + size_of i) (after w.image shape i)
      back = h.fine.goes_on on

      start_next : is_start m.code (place + size_of i) ≡ true
      start_next = machines.next_start_is w is own given shapes verified machine now_fine i h.instruction
          (after w.image shape i) (h.fine.goes_on on)

      first : Leads w.image shapes number 0 (first_shape c)
      first =
          subst (λ (o : Option ImageMethod).
          IfSome o (λ (x : ImageMethod). is_abstract x ≡ false → Leads w.image shapes number 0 (first_shape x))) e
          (verified.starts number) code

      enter : (b : Bool)
          → Better now (if b then AtWork (record {
            top = record { method = number; place = 0; locals = locals_of c args; stack = [] };
            below = record { method = method; place = place + size_of i; locals = locals; stack = rest } ∷ below;
            shared = turn_taken sh;
          }) else Over (record { result = Err (Traps TooDeep); shared = turn_taken sh }))
      enter false = trapped TooDeep (turn_taken sh) (turn_fitting w given sh fitting)
      enter true =
          let some : 0 < sh.turns = points.positive sh.turns z in
          let j = points.code_there w given shapes verified number 0 c (first_shape c) e first in
          let p = points.goes_parts w (first_shape c) first.reached first.goes in
          let q = points.goes_parts w (after w.image shape i) back.reached back.goes in
          let count : length (locals_after shape i) ≡ length m.locals =
          ap (λ (ks : List ImageKind). length ks) same ∙ many in
          let own_locals : Fit w (locals_after shape i) locals =
          subst (λ (ks : List ImageKind). Fit w ks locals) (sym same) fit_locals in
          let most = points.left_most w number 0 c e in
          let pays = paid sh.turns (longest w) (left_of w number 0) some most in
          let on_less = machines.next_less w is own given shapes verified machine now_fine i h.instruction no_turn
          start_next in
          let here = machines.left_is w is own given shapes verified machine now_fine place in
          let there = machines.left_is w is own given shapes verified machine now_fine (place + size_of i) in
          record {
            fine = record {
              shape = first.reached;
              at = points.reached_at w given shapes number 0 c (first_shape c) e
                  (first_start c.code j.0 j.1) refl first;
              fit_locals = all_goes w is c.locals first.reached.locals (locals_of c args) p.0
                  (locals_fit w is c args (method_rule w.image is number c e) fit_args);
              fit_stack = all_goes w is [] first.reached.stack [] p.1 tt;
              fitting = turn_fitting w given sh fitting;
              waits = subst (λ (k : ImageKind). AllWait w shapes k (record {
                method = method;
                place = place + size_of i;
                locals = locals;
                stack = rest;
              } ∷ below)) (sym (points.result_is w number c e)) (
                record {
                  shape = back.reached;
                  at = points.reached_at w given shapes method (place + size_of i) m
                      (after w.image shape i) known start_next count back;
                  fit_locals = all_goes w is (locals_after shape i) back.reached.locals locals q.0 own_locals;
                  kinds = kinds;
                  leads = subst (λ (ks : List ImageKind). all_go w.image ks back.reached.stack ≡ true) leaves_it q.1;
                  fit_rest = fit_rest;
                },
                waits,
              );
            };
            less = omega (arith, pays, on_less, here, there);
          }

  -- where an end leads
  abbrev LeadsOn : ℕ → End Move → Type 0
  LeadsOn next e = Better now (moves frame below next e.result e.state)

  -- a turn, and into the method
  entered : (i : Op) → Here i → is_end i ≡ false → is_turn (Some i) ≡ false → locals_after shape i ≡ shape.locals
      → (number : ℕ) (c : ImageMethod) (args rest : List Val) (kinds : List ImageKind)
      → slice_get w.image.methods number ≡ Some c → is_abstract c ≡ false → Fit w (kinds_of c.class c) args
      → after_stack w.image (wants_of w.image shape.locals i) shape.stack ≡ result_cells c.result ++ kinds → Fit w kinds rest
      → LeadsOn (place + size_of i) (goes_into number c args rest s0)
  entered i h on no_turn same number c args rest kinds e code fit_args leaves_it fit_rest =
      called i h on no_turn same number c args rest kinds e code fit_args leaves_it fit_rest (sh.turns == 0) refl

  -- a method by its number, where its receiver is there
  met : (n : ℕ) → Here (op.Call n) → (c : ImageMethod) (args rest : List Val) (kinds : List ImageKind)
      → slice_get w.image.methods n ≡ Some c → is_abstract c ≡ false → Fit w (kinds_of c.class c) args
      → after_stack w.image (wants_of w.image shape.locals (op.Call n)) shape.stack ≡ result_cells c.result ++ kinds → Fit w kinds rest
      → (r : Result (Unit {0}) Stop) → Sound (λ _. Unit {0}) r
      → LeadsOn (place + size_of (op.Call n))
      (then_do (answers r s0) (λ (u : Unit {0}) (s3 : State). goes_into n c args rest s3))
  met n h c args rest kinds e code fit_args leaves_it fit_rest (Ok u) p =
      entered (op.Call n) h refl refl refl n c args rest kinds e code fit_args leaves_it fit_rest
  met n h c args rest kinds e code fit_args leaves_it fit_rest (Err (Traps t)) p = trapped t sh fitting
  met n h c args rest kinds e code fit_args leaves_it fit_rest (Err Untyped) p = absurd p

  call_it : (n : ℕ) → Here (op.Call n) → LeadsOn (place + size_of (op.Call n)) (effect w (op.Call n) stack s0)
  call_it n h = by_method (slice_get w.image.methods n) refl
    where
      by_method : (o : Option ImageMethod) → slice_get w.image.methods n ≡ o
          → LeadsOn (place + size_of (op.Call n)) (effect w (op.Call n) stack s0)
      by_method None e =
          no_truth (sym (sym (ap (λ (o : Option ImageMethod). option_map_or is_abstract o true) e) ∙ h.fine.numbers))
      by_method (Some c) e =
          let code : is_abstract c ≡ false =
          sym (ap (λ (o : Option ImageMethod). option_map_or is_abstract o true) e) ∙ h.fine.numbers in
          let cells : Takes w (map Goes (reverse (kinds_of c.class c))) shape.stack stack =
          subst (λ (o : Option ImageMethod). Takes w (option_map_or (argument_needs c.class) o []) shape.stack stack) e
          (subst (λ (o : Option ImageMethod). Takes w (needs_of w.image
          (option_map_or (λ (y : ImageMethod). method_effect n y.class) o no_effect).takes) shape.stack stack) e h.cells)
          in
          let t = arguments w is c.class c shape.stack stack cells in
          let leaves_it : after_stack w.image (wants_of w.image shape.locals (op.Call n)) shape.stack
          ≡ result_cells c.result ++ drop (length (map Goes (reverse (kinds_of c.class c)))) shape.stack =
          ap (λ (o : Option ImageMethod). after_stack w.image
          (option_map_or (λ (y : ImageMethod). method_effect n y.class) o no_effect) shape.stack) e
          ∙ ap (λ (o : Option ImageMethod). option_map_or (λ (y : ImageMethod). result_cells y.result) o []
          ++ drop (length (option_map_or (argument_needs c.class) o [])) shape.stack) e in
          let last : LeadsOn (place + size_of (op.Call n))
          (then_do (answers (receiver_there c t.args) s0)
          (λ (u : Unit {0}) (s3 : State). goes_into n c t.args t.rest s3)) =
          met n h c t.args t.rest (drop (length (map Goes (reverse (kinds_of c.class c)))) shape.stack)
          e code t.fit_args leaves_it t.fit_rest (receiver_there c t.args)
          (receiver_is w c.class c t.args t.fit_args) in
          let taken_is : LeadsOn (place + size_of (op.Call n))
          (then_do (answers (taken (argument_count c) stack []) s0)
          (λ (t : List Val × List Val) (s2 : State). then_do (answers (receiver_there c t.0) s2)
          (λ (u : Unit {0}) (s3 : State). goes_into n c t.0 t.1 s3))) =
          subst (λ (r : Result (List Val × List Val) Stop). LeadsOn (place + size_of (op.Call n))
          (then_do (answers r s0) (λ (t : List Val × List Val) (s2 : State). then_do (answers (receiver_there c t.0) s2)
          (λ (u : Unit {0}) (s3 : State). goes_into n c t.0 t.1 s3)))) (sym t.is) last in
          subst (λ (o : Option ImageMethod). LeadsOn (place + size_of (op.Call n))
          (then_do (answers (is_there o) s0) (λ (c : ImageMethod) (s1 : State).
          then_do (answers (taken (argument_count c) stack []) s1)
          (λ (t : List Val × List Val) (s2 : State). then_do (answers (receiver_there c t.0) s2)
          (λ (u : Unit {0}) (s3 : State). goes_into n c t.0 t.1 s3))))) (sym e) taken_is

  -- ---- into the method that stands in the table of the object's class

  module _ (class slot number : ℕ) (x : ImageMethod) (h : Here (op.VirtualCall class slot))
      (found : table_method w.image class slot ≡ Some number) (declared : slice_get w.image.methods number ≡ Some x)
      (rest : List Val) (kinds : List ImageKind) (fit_rest : Fit w kinds rest)
      (leaves_it : after_stack w.image (wants_of w.image shape.locals (op.VirtualCall class slot)) shape.stack
      ≡ result_cells x.result ++ kinds) where
    on_object : (spot : Spot) (vs : List Val) (at : ℕ) → class_from w spot.base spot.path ≡ Some at
        → Concrete w.image at → Below (classes_of w.image) class at → Fit w x.params vs
        → LeadsOn (place + size_of (op.VirtualCall class slot))
        (then_do (answers (found_for w spot slot) s0)
        (λ (n : ℕ) (s4 : State). then_do (answers (method_there w.image n) s4)
        (λ (y : ImageMethod) (s5 : State). goes_into n y (At spot ∷ vs) rest s5)))
    on_object spot vs at here concrete below_it fit =
        let f : InTable w.image at slot x =
        table_below w.image is class at slot number x below_it found declared in
        let r : Received w.image at f.method = received w.image is at slot f.number f.method f.found f.stands in
        let code : is_abstract f.method ≡ false =
        has_code w.image is at slot f.number f.method concrete f.found f.stands in
        let receiver : HasKind w (object f.method.class) (At spot) =
        an_object w is (object f.method.class) spot refl at here concrete r.above in
        let params : Fit w f.method.params vs =
        subst (λ (ks : List ImageKind). Fit w ks vs) (sym f.same.params) fit in
        let args : Fit w (kinds_of f.method.class f.method) (At spot ∷ vs) =
        subst (λ (b : Bool). Fit w ((if b then object f.method.class ∷ [] else []) ++ f.method.params) (At spot ∷ vs))
        (sym r.instance) (receiver, params) in
        let leaves_own : after_stack w.image (wants_of w.image shape.locals (op.VirtualCall class slot)) shape.stack
        ≡ result_cells f.method.result ++ kinds =
        leaves_it ∙ ap (λ (k : ImageKind). result_cells k ++ kinds) (sym f.same.result) in
        let last : LeadsOn (place + size_of (op.VirtualCall class slot))
        (goes_into f.number f.method (At spot ∷ vs) rest s0) =
        entered (op.VirtualCall class slot) h refl refl refl f.number f.method (At spot ∷ vs) rest kinds f.stands code
        args leaves_own fit_rest in
        let method_is : LeadsOn (place + size_of (op.VirtualCall class slot))
        (then_do (answers (method_there w.image f.number) s0)
        (λ (y : ImageMethod) (s5 : State). goes_into f.number y (At spot ∷ vs) rest s5)) =
        subst (λ (o : Option ImageMethod). LeadsOn (place + size_of (op.VirtualCall class slot))
        (then_do (answers (is_there o) s0)
        (λ (y : ImageMethod) (s5 : State). goes_into f.number y (At spot ∷ vs) rest s5))) (sym f.stands) last in
        let is_found : option_and_then (λ (c : ℕ). table_method w.image c slot) (class_of w spot) ≡ Some f.number =
        ap (λ (o : Option ℕ). option_and_then (λ (c : ℕ). table_method w.image c slot) o)
        (class_is w spot.base spot.path ∙ here) ∙ f.found in
        subst (λ (o : Option ℕ). LeadsOn (place + size_of (op.VirtualCall class slot))
        (then_do (answers (is_there o) s0)
        (λ (n : ℕ) (s4 : State). then_do (answers (method_there w.image n) s4)
        (λ (y : ImageMethod) (s5 : State). goes_into n y (At spot ∷ vs) rest s5)))) (sym is_found) method_is

    abbrev On_receiver : Val → List Val → Type 0
    On_receiver v vs =
        LeadsOn (place + size_of (op.VirtualCall class slot))
        (then_do (answers (spot_of v) s0)
        (λ (spot : Spot) (s3 : State). then_do (answers (found_for w spot slot) s3)
        (λ (n : ℕ) (s4 : State). then_do (answers (method_there w.image n) s4)
        (λ (y : ImageMethod) (s5 : State). goes_into n y (v ∷ vs) rest s5))))

    on_receiver : (v : Val) (vs : List Val) → HasKind w (object class) v → Fit w x.params vs → On_receiver v vs
    on_receiver Nothing vs f g = absurd f
    on_receiver (Truth t) vs f g = absurd (omega (arith, f.0))
    on_receiver (Int n) vs f g = absurd (omega (arith, f.0))
    on_receiver (Long n) vs f g = absurd (omega (arith, f.0))
    on_receiver (Literal n) vs f g = absurd (omega (arith, f.0))
    on_receiver Null vs f g = trapped NullReference sh fitting
    on_receiver (At spot) vs (Text e n y) g = absurd (omega (arith, e))
    on_receiver (At spot) vs (Block e c s) g =
        let t = through (λ (y : ImageClass). slice_get y.table slot) (slice_get w.image.classes class) number found in
        let inside = slice_get_within w.image.classes class t.0 t.1 in
        let few = classes_most w.image is.whole in
        absurd (omega (arith, c, inside, few))
    on_receiver (At spot) vs (Object e at y c b) g =
        on_object spot vs at y c (below_of (classes_of w.image) class at b) g

    on_args : (args : List Val) → Fit w (object class ∷ x.params) args
        → LeadsOn (place + size_of (op.VirtualCall class slot))
        (then_do (answers (spot_of (slice_index_or args 0 Nothing)) s0)
        (λ (spot : Spot) (s3 : State). then_do (answers (found_for w spot slot) s3)
        (λ (n : ℕ) (s4 : State). then_do (answers (method_there w.image n) s4)
        (λ (y : ImageMethod) (s5 : State). goes_into n y args rest s5))))
    on_args [] f = absurd f
    on_args (v ∷ vs) f = on_receiver v vs f.0 f.1

  virtual_it : (class slot : ℕ) → Here (op.VirtualCall class slot)
      → LeadsOn (place + size_of (op.VirtualCall class slot)) (effect w (op.VirtualCall class slot) stack s0)
  virtual_it class slot h =
      let n = not_none (table_method w.image class slot)
      (not_not (is_some (table_method w.image class slot)) h.fine.numbers) in
      let c = through (λ (y : ImageClass). slice_get y.table slot) (slice_get w.image.classes class) n.0 n.1 in
      let x = table_there w.image is class slot n.0 c.0 c.1 c.2 in
      let r : Received w.image class x.0 = received w.image is class slot n.0 x.0 n.1 x.1 in
      let declared : option_and_then (λ (k : ℕ). slice_get w.image.methods k) (table_method w.image class slot)
      ≡ Some x.0 =
      ap (λ (o : Option ℕ). option_and_then (λ (k : ℕ). slice_get w.image.methods k) o) n.1 ∙ x.1 in
      let effect_is : wants_of w.image shape.locals (op.VirtualCall class slot) ≡ method_effect n.0 class =
      ap (λ (o : Option ℕ). option_map_or (λ (k : ℕ). method_effect k class) o no_effect) n.1 in
      let cells : Takes w (map Goes (reverse (kinds_of class x.0))) shape.stack stack =
      subst (λ (o : Option ImageMethod). Takes w (option_map_or (argument_needs class) o []) shape.stack stack) x.1
      (subst (λ (e : Effect). Takes w (needs_of w.image e.takes) shape.stack stack) effect_is h.cells) in
      let t = arguments w is class x.0 shape.stack stack cells in
      let leaves_it : after_stack w.image (wants_of w.image shape.locals (op.VirtualCall class slot)) shape.stack
      ≡ result_cells x.0.result ++ drop (length (map Goes (reverse (kinds_of class x.0)))) shape.stack =
      ap (λ (e : Effect). after_stack w.image e shape.stack) effect_is
      ∙ ap (λ (o : Option ImageMethod). option_map_or (λ (y : ImageMethod). result_cells y.result) o []
      ++ drop (length (option_map_or (argument_needs class) o [])) shape.stack) x.1 in
      let args : Fit w (object class ∷ x.0.params) t.args =
      subst (λ (b : Bool). Fit w ((if b then object class ∷ [] else []) ++ x.0.params) t.args) r.instance t.fit_args in
      let last = on_args class slot n.0 x.0 h n.1 x.1 t.rest
      (drop (length (map Goes (reverse (kinds_of class x.0)))) shape.stack) t.fit_rest leaves_it t.args args in
      let taken_is : LeadsOn (place + size_of (op.VirtualCall class slot))
      (then_do (answers (taken (argument_count x.0) stack []) s0)
      (λ (t : List Val × List Val) (s2 : State). then_do (answers (spot_of (slice_index_or t.0 0 Nothing)) s2)
      (λ (spot : Spot) (s3 : State). then_do (answers (found_for w spot slot) s3)
      (λ (n : ℕ) (s4 : State). then_do (answers (method_there w.image n) s4)
      (λ (y : ImageMethod) (s5 : State). goes_into n y t.0 t.1 s5))))) =
      subst (λ (r : Result (List Val × List Val) Stop). LeadsOn (place + size_of (op.VirtualCall class slot))
      (then_do (answers r s0)
      (λ (t : List Val × List Val) (s2 : State). then_do (answers (spot_of (slice_index_or t.0 0 Nothing)) s2)
      (λ (spot : Spot) (s3 : State). then_do (answers (found_for w spot slot) s3)
      (λ (n : ℕ) (s4 : State). then_do (answers (method_there w.image n) s4)
      (λ (y : ImageMethod) (s5 : State). goes_into n y t.0 t.1 s5)))))) (sym t.is) last in
      subst (λ (o : Option ImageMethod). LeadsOn (place + size_of (op.VirtualCall class slot))
      (then_do (answers (is_there o) s0)
      (λ (d : ImageMethod) (s1 : State). then_do (answers (taken (argument_count d) stack []) s1)
      (λ (t : List Val × List Val) (s2 : State). then_do (answers (spot_of (slice_index_or t.0 0 Nothing)) s2)
      (λ (spot : Spot) (s3 : State). then_do (answers (found_for w spot slot) s3)
      (λ (n : ℕ) (s4 : State). then_do (answers (method_there w.image n) s4)
      (λ (y : ImageMethod) (s5 : State). goes_into n y t.0 t.1 s5))))))) (sym declared) taken_is

  -- ---- any instruction

  pub instruction_better : (i : Op) → Here i → LeadsOn (place + size_of i) (effect w i stack s0)
  instruction_better (op.Store n) h = machines.stored w is own given shapes verified machine now_fine n shape.stack
      stack h refl h.cells
  instruction_better op.Turn h = machines.turned w is own given shapes verified machine now_fine h (sh.turns == 0) refl
  instruction_better (op.Call n) h = call_it n h
  instruction_better (op.VirtualCall class slot) h = virtual_it class slot h
  instruction_better op.Return h = machines.leaves_none w is own given shapes verified machine now_fine h
  instruction_better op.ReturnValue h = machines.leaves_value w is own given shapes verified machine now_fine
      shape.stack stack h refl h.cells
  instruction_better other h = machines.straight_better w is own given shapes verified machine now_fine other h refl

-- ---- a step

enough_cells : (image : Image) (m : ImageMethod) (shape : Shape) (i : Op) → stack_breaks image m shape i ≡ false
    → nat_lt (length shape.stack) (length (needs image shape i)) ≡ false
enough_cells image m shape i h = grind (arith, h)

module _ (w : Setting) (is : Tables w.image) (own : Concrete w.image w.class) (given : ℕ) (shapes : Shapes)
    (verified : IsVerifiedBy w.image shapes) where
  pub step_better : (x : Machine) → FineAt w given shapes x
      → points.Better w given shapes (potential w (AtWork x))
      (step w (AtWork x))
  step_better x fine =
      let v : Stands w.image shapes x.top.method x.top.place fine.shape =
      verified.each x.top.method x.top.place fine.shape fine.at.stands in
      let same : v.m ≡ fine.at.m = same_value v.m fine.at.m (sym v.there ∙ fine.at.known) in
      let rules : MethodRule w.image v.m = method_rule w.image is x.top.method v.m v.there in
      let spelled : IsOp v.i =
      (found-stands v.m.code x.top.place v.i
      (λ k. ltb-true (slice_index v.m.code k) 256 (byte_at v.m.code k rules.bytes)) v.instruction).is in
      let enough = enough_cells w.image v.m fine.shape v.i v.fine.stack in
      let meet : all_meet w.image (needs w.image fine.shape v.i) fine.shape.stack ≡ true =
      not_not (all_meet w.image (needs w.image fine.shape v.i) fine.shape.stack) v.fine.kinds in
      let here : op_at (code_of w.image x.top.method) x.top.place ≡ Some v.i =
      ap (λ (code : List ℕ). op_at code x.top.place)
      (points.code_is w x.top.method v.m v.there) ∙ v.instruction in
      subst (λ (o : Option Op).
      points.Better w given shapes (potential w (AtWork x))
      (act w o x.top x.below x.shared)) (sym here)
      (instruction_better w is own given shapes verified x fine v.i (record {
        instruction = subst (λ (y : ImageMethod). op_at y.code x.top.place ≡ Some v.i) same v.instruction;
        fine = subst (λ (y : ImageMethod). IsFine w.image shapes x.top.method y x.top.place fine.shape v.i) same v.fine;
        spelled = spelled;
        cells = takes w (needs w.image fine.shape v.i) fine.shape.stack x.top.stack enough meet fine.fit_stack;
      }))
