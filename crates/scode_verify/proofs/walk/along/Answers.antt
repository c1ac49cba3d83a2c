use Rattle.std.proofs.Common.{◌≡◌, ℕ, suc, ◌+◌, ◌-◌, ◌<◌, List, length, ap, refl, sym, ◌∙◌, arith, Option, Some, None, Result, Ok}
use Rattle.std.specs.Option.{option_map}
use Rattle.sed_value.specs.declared.memory.Memory.{Memory}
use Rattle.scode_image.specs.declared.image.ImageEntry.{ImageEntry}
use Rattle.scode_ops.specs.declared.op.Op.{Op}
use Rattle.scode_ops.specs.Decoding.{op_at, size_of}
use Rattle.scode_code.specs.CodeRules.{entry_between, fault_from}
use Rattle.scode_code.specs.Kinds.{Shape}
use Rattle.scode_verify.specs.Words.{kinds_of, left_at}
use Rattle.scode_verify.proofs.Rounds.{all_gone, broken_there, goes_on, no_more, strayed_there}
use Rattle.scode_verify.proofs.Watching.{new_watched}
use Rattle.scode_verify.proofs.walk.along.Goals as goal

pub loop-init : goal.loop-init
loop-init c =
    let image = c.args.image.now in
    let m = c.args.places.now.method.now in
    let all : length c.as_slice-code.result.now + 1 - 0 ≡ suc (length m.code) =
    omega (arith, ap length c.as_slice-code.ensures) in
    record {
      rest =
          ap (λ (n : ℕ). fault_from n image m 0 (kinds_of c.in_ok-kinds.kinds)) all
          ∙ ap (λ (s : Option Shape). fault_from (suc (length m.code)) image m 0 s) c.in_ok-kinds.ensures.kinds;
      passed = λ from to behind. refl;
      watched = new_watched image m c.in_ok-kinds.kinds.locals.items c.in_ok-kinds.kinds.stack.items
          c.in_ok-kinds.kinds.changes c.in_ok-kinds.ensures.new;
    }

pub returns-in_default : goal.returns-in_default
returns-in_default c =
    let image = c.args.image.now in
    let m = c.args.places.now.method.now in
    let none : ◌≡◌ {A = Option Op} (op_at m.code c.loop.place) None =
    ap (λ (xs : List ℕ). op_at xs c.loop.place) (sym c.as_slice-code.ensures) ∙ sym c.op_at.ensures.found
    ∙ ap (λ (o : Option (Op × ℕ)). option_map (λ r. r.0) o) c.in_default.is in
    c.last_fault.ensures
    ∙ sym (no_more image m (length c.as_slice-code.result.now + 1) c.loop.counter c.loop.place (kinds_of c.loop.kinds)
    (omega arith) none)
    ∙ c.loop.invariant.rest

pub returns-in-Some-2 : goal.returns-in-Some-2
returns-in-Some-2 c =
    let image = c.args.image.now in
    let m = c.args.places.now.method.now in
    let some : op_at m.code c.loop.place ≡ Some c.in-Some.op =
    ap (λ (xs : List ℕ). op_at xs c.loop.place) (sym c.as_slice-code.ensures) ∙ sym c.op_at.ensures.found
    ∙ ap (λ (o : Option (Op × ℕ)). option_map (λ r. r.0) o) c.in-Some.is in
    let within : c.loop.place < length m.code = omega (arith, c.in-Some.ensures.within, ap length c.as_slice-code.ensures) in
    sym (broken_there image m (length c.as_slice-code.result.now + 1) c.loop.counter c.loop.place c.in-Some-2.rule
    (kinds_of c.loop.kinds) c.in-Some.op (omega arith) within some (sym c.in_ok-rule.ensures.rule ∙ c.in-Some-2.is))
    ∙ c.loop.invariant.rest

pub returns-in-Some-stray : goal.returns-in-Some-stray
returns-in-Some-stray c =
    let image = c.args.image.now in
    let m = c.args.places.now.method.now in
    let some : op_at m.code c.loop.place ≡ Some c.in-Some.op =
    ap (λ (xs : List ℕ). op_at xs c.loop.place) (sym c.as_slice-code.ensures) ∙ sym c.op_at.ensures.found
    ∙ ap (λ (o : Option (Op × ℕ)). option_map (λ r. r.0) o) c.in-Some.is in
    let within : c.loop.place < length m.code = omega (arith, c.in-Some.ensures.within, ap length c.as_slice-code.ensures) in
    let there : entry_between m.entries c.loop.place (c.loop.place + size_of c.in-Some.op) ≡ Some c.in-Some-stray.at =
    ap (λ (b : ℕ). entry_between m.entries c.loop.place b) (sym c.in-Some.ensures.behind)
    ∙ ap (λ (es : List ImageEntry). entry_between es c.loop.place c.in-Some.behind) (sym c.as_slice-entries.ensures)
    ∙ sym c.stray.ensures ∙ c.in-Some-stray.is in
    sym (strayed_there image m (length c.as_slice-code.result.now + 1) c.loop.counter c.loop.place c.in-Some-stray.at
    (kinds_of c.loop.kinds) c.in-Some.op (omega arith) within some (sym c.in_ok-rule.ensures.rule ∙ c.in_default-2.is) there)
    ∙ c.loop.invariant.rest

pub loop-preserved : goal.loop-preserved
loop-preserved c =
    let image = c.args.image.now in
    let m = c.args.places.now.method.now in
    let n = length c.as_slice-code.result.now + 1 in
    let some : op_at m.code c.loop.place ≡ Some c.in-Some.op =
    ap (λ (xs : List ℕ). op_at xs c.loop.place) (sym c.as_slice-code.ensures) ∙ sym c.op_at.ensures.found
    ∙ ap (λ (o : Option (Op × ℕ)). option_map (λ r. r.0) o) c.in-Some.is in
    let within : c.loop.place < length m.code = omega (arith, c.in-Some.ensures.within, ap length c.as_slice-code.ensures) in
    let none : ◌≡◌ {A = Option ℕ} (entry_between m.entries c.loop.place (c.loop.place + size_of c.in-Some.op)) None =
    ap (λ (b : ℕ). entry_between m.entries c.loop.place b) (sym c.in-Some.ensures.behind)
    ∙ ap (λ (es : List ImageEntry). entry_between es c.loop.place c.in-Some.behind) (sym c.as_slice-entries.ensures)
    ∙ sym c.stray.ensures ∙ c.in_default-stray.is in
    let fine = c.in_ok-rule.was ∙ ap (λ (o : Option ℕ). let r : Result (Option ℕ) Memory = Ok o in r) c.in_default-2.is in
    let left : kinds_of c.at_instruction.new.kinds ≡ left_at image m c.loop.place (kinds_of c.loop.kinds) c.in-Some.op =
    c.at_instruction.ensures.kinds fine in
    record {
      rest =
          ap (λ (s : Option Shape). fault_from (n - (c.loop.counter + 1)) image m c.in-Some.behind s) left
          ∙ ap (λ (b : ℕ). fault_from (n - (c.loop.counter + 1)) image m b
          (left_at image m c.loop.place (kinds_of c.loop.kinds) c.in-Some.op)) c.in-Some.ensures.behind
          ∙ sym (goes_on image m n c.loop.counter c.loop.place (kinds_of c.loop.kinds) c.in-Some.op (omega arith) within some
          (sym c.in_ok-rule.ensures.rule ∙ c.in_default-2.is) none)
          ∙ c.loop.invariant.rest;
      watched = c.at_instruction.ensures.watched fine;
      passed = λ from to behind. c.advance-passed.ensures.passed from to (omega (arith, behind, c.in-Some.ensures.behind));
    }

pub returns : goal.returns
returns c =
    sym (all_gone c.args.image.now c.args.places.now.method.now (length c.as_slice-code.result.now + 1) c.loop.counter
    c.loop.place (kinds_of c.loop.kinds) (omega arith))
    ∙ c.loop.invariant.rest
