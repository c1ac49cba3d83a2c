-- A verified image answers well whatever it may be asked.
use Rattle.std.proofs.Common.{◌≡◌, ◌≤◌, ◌+◌, ◌*◌, ◌∙◌, ℕ, suc, false, [], map, Option, Some, None, Result, Ok, Err, refl, sym, ap, subst, arith, lit≤}
use Rattle.std.specs.Prelude.{IfSome, slice_get}
use Rattle.std.proofs.Math.Nat.{suc-mul}
use Rattle.sed_engine.specs.declared.trap.Trap.{Trap}
use Rattle.sed_engine.specs.declared.trap.Trap.TheVariants.{ZeroDivisor, NullReference, OutOfRange, TurnsSpent, TooDeep}
use Rattle.sed_engine.specs.Asked.{MayAsk}
use Rattle.sed_engine.specs.Code.{Question}
use Rattle.sed_engine.specs.Expressions.{Called}
use Rattle.sed_engine.specs.Root.{argument_of, end_of}
use Rattle.sed_engine.specs.State.{Shared}
use Rattle.sed_engine.specs.Stops.{Stop, Traps, Untyped}
use Rattle.sed_engine.specs.Values.{Val}
use Rattle.sed_engine.specs.Whole.{AnswersWell, EndsWell}
use Rattle.sed_engine.proofs.Asking.{may_from}
use Rattle.scode_image.specs.declared.image.Image.{Image}
use Rattle.scode_image.specs.declared.image.ImageMethod.{ImageMethod}
use Rattle.scode_code.specs.Calls.{locals_of}
use Rattle.scode_code.specs.CodeRules.{first_shape, is_abstract}
use Rattle.scode_code.specs.Faults.{IsVerified}
use Rattle.scode_code.specs.Fields.{Setting}
use Rattle.scode_code.specs.Image.{code_of}
use Rattle.scode_code.specs.Machine.{Point}
use Rattle.scode_code.specs.Root.{begins, ended, most_steps, root_arguments, root_method, run_method, start_root}
use Rattle.scode_code.specs.Steps.{longest_of, steps}
use Rattle.scode_code.specs.Verified.{IsVerifiedBy, Leads, Shapes}
use Rattle.scode_whole.proofs.Truths.{same_value}
use Rattle.scode_whole.proofs.Whole.{first_rule}
use Rattle.scode_sound.specs.Cells.{Concrete, Fit}
use Rattle.scode_sound.specs.Fine.{Fine, FineOver, Fitting}
use Rattle.scode_sound.specs.Potential.{potential}
use Rattle.scode_sound.specs.Over.{IsOverWithin, IsTyped, setting_of, shared_of}
use Rattle.scode_sound.proofs.Left.{first_start}
use Rattle.scode_sound.proofs.Rules.{Tables, method_rule, tables}
use Rattle.scode_sound.proofs.Cells.{all_goes}
use Rattle.scode_sound.proofs.Arguments.{kinds_of, locals_fit}
use Rattle.scode_sound.proofs.Points.{code_there, goes_parts, left_most, reached_at}
use Rattle.scode_sound.proofs.Finishing.{Finished, finishes, over_within}
use Rattle.scode_sound.proofs.Roots.{Asks, Runs, Rests, IsComponentClass, asks, component_class}

-- ---- a root call begins as a fine machine, with at most so many steps left

module _ (w : Setting) (is : Tables w.image) (own : Concrete w.image w.class) (given : ℕ) (shapes : Shapes)
    (verified : IsVerifiedBy w.image shapes) (number : ℕ) (m : ImageMethod) (value : Val) (s : Shared)
    (e : slice_get w.image.methods number ≡ Some m) (code : is_abstract m ≡ false)
    (fits : Fit w (kinds_of m.class m) (root_arguments value)) (fitting : Fitting w given s) where
  begun_fine : Fine w given shapes (begins (Some m) number value s)
  begun_fine =
      let first : Leads w.image shapes number 0 (first_shape m) =
      subst (λ (o : Option ImageMethod).
      IfSome o (λ (x : ImageMethod). is_abstract x ≡ false → Leads w.image shapes number 0 (first_shape x))) e
      (verified.starts number) code in
      let j = code_there w given shapes verified number 0 m (first_shape m) e first in
      let p = goes_parts w (first_shape m) first.reached first.goes in
      record {
        shape = first.reached;
        at = reached_at w given shapes number 0 m (first_shape m) e (first_start m.code j.0 j.1) refl
            first;
        fit_locals = all_goes w is m.locals first.reached.locals (locals_of m (root_arguments value)) p.0
            (locals_fit w is m (root_arguments value) (method_rule w.image is number m e) fits);
        fit_stack = all_goes w is [] first.reached.stack [] p.1 tt;
        fitting = fitting;
        waits = tt;
      }

  begun_left : potential w (begins (Some m) number value s) ≤ most_steps w.image s.turns
  begun_left =
      let most = left_most w number 0 m e in
      let one : 1 + s.turns ≡ suc s.turns = omega arith in
      let product : (1 + s.turns) * longest_of (map (λ (x : ImageMethod). x.code) w.image.methods)
      ≡ suc s.turns * longest_of (map (λ (x : ImageMethod). x.code) w.image.methods) =
      ap (λ (n : ℕ). n * longest_of (map (λ (x : ImageMethod). x.code) w.image.methods)) one in
      let more = suc-mul s.turns (longest_of (map (λ (x : ImageMethod). x.code) w.image.methods)) in
      omega (arith, most, product, more)

  begins_is : begins (slice_get w.image.methods number) number value s ≡ begins (Some m) number value s
  begins_is = ap (λ (o : Option ImageMethod). begins o number value s) e

  run_over : IsOverWithin w (most_steps w.image s.turns) (begins (slice_get w.image.methods number) number value s)
  run_over =
      subst (λ (p : Point). IsOverWithin w (most_steps w.image s.turns) p) (sym begins_is)
      (over_within w is own given shapes verified (most_steps w.image s.turns)
      (begins (Some m) number value s) begun_fine
      begun_left)

  run_fine : FineOver w given (run_method w (Some number) value s)
  run_fine =
      let f : Finished w is own given shapes verified
      (steps w (most_steps w.image s.turns) (begins (Some m) number value s)) =
      finishes w is own given shapes verified (most_steps w.image s.turns) (begins (Some m) number value s) begun_fine
      begun_left in
      subst (λ (p : Point). FineOver w given (ended (steps w (most_steps w.image s.turns) p)))
      (sym begins_is)
      (subst (λ (p : Point). FineOver w given (ended p)) (sym f.over) f.fine)

-- ---- what is asked

fitting_of : (image : Image) (q : Question) → MayAsk (code_of image) q
    → Fitting (setting_of image q) q.turns (shared_of q)
fitting_of image q may =
    let asked = may_from (code_of image) q may in
    record { contents = asked.contents; statics = asked.statics; moment = asked.moment; turns = omega arith }

trap_number : (t : Trap) → EndsWell 0 (end_of (Err (Traps t)) 0)
trap_number ZeroDivisor = (lit≤ tt, lit≤ tt)
trap_number NullReference = (lit≤ tt, lit≤ tt)
trap_number OutOfRange = (lit≤ tt, lit≤ tt)
trap_number TurnsSpent = (lit≤ tt, lit≤ tt)
trap_number TooDeep = (lit≤ tt, lit≤ tt)

ends_well : (r : Result Val Stop) (given now : ℕ) → IsTyped r → now ≤ given → EndsWell given (end_of r now)
ends_well (Ok v) given now typed few = few
ends_well (Err (Traps t)) given now typed few = trap_number t
ends_well (Err Untyped) given now typed few = absurd typed

ok_eq : {A : Type 0} (a b : A) → ◌≡◌ {A = Result A Stop} (Ok a) (Ok b) → a ≡ b
ok_eq a b e = cc

ok_none : {P : Type 0} (n : ℕ) → ◌≡◌ {A = Result (Option ℕ) Stop} (Ok None) (Ok (Some n)) → P
ok_none n e = let never : ⊥ = cc in absurd never

-- the class of the component is one of which components are made, and what is asked can be run
record Known (image : Image) (is : Tables image) (q : Question) : Type 0 where
  component : IsComponentClass image q.class
  asked : Asks image q

known_of : (image : Image) (is : Tables image) (q : Question) → MayAsk (code_of image) q → Known image is q
known_of image is q may =
    let may_be = may_from (code_of image) q may in
    let own : IsComponentClass image q.class = component_class image q.class may_be.creatable in
    record { component = own; asked = asks image is q own q.which refl may_be.argument }

module _ (image : Image) (clean : IsVerified image) (shapes : Shapes) (verified : IsVerifiedBy image shapes)
    (q : Question) (may : MayAsk (code_of image) q) where
  abbrev w : Setting
  w = setting_of image q

  agreed : Tables image
  agreed = tables image (first_rule image clean)

  known : Known image agreed q
  known = known_of image agreed q may

  abbrev IsFineEnd : Called → Type 0
  IsFineEnd c = FineOver w q.turns c

  call_fine : IsFineEnd (start_root w (root_method image q.class q.which) (argument_of q.argument) (shared_of q))
  call_fine = by_asked known.asked
    where
      by_asked : Asks image q
          → FineOver (setting_of image q) q.turns
          (start_root (setting_of image q) (root_method image q.class q.which) (argument_of q.argument) (shared_of q))
      by_asked (Runs number m value method_is value_is e code fits) =
          subst (λ (r : Result (Option ℕ) Stop).
          IsFineEnd (start_root w r (argument_of q.argument) (shared_of q))) (sym method_is)
          (subst (λ (r : Result Val Stop). IsFineEnd (start_root w (Ok (Some number)) r (shared_of q))) (sym value_is)
          (run_fine w agreed known.component.known q.turns shapes verified number m value (shared_of q) e code fits
          (fitting_of image q may)))
      by_asked (Rests value method_is value_is) =
          subst (λ (r : Result (Option ℕ) Stop).
          IsFineEnd (start_root w r (argument_of q.argument) (shared_of q))) (sym method_is)
          (subst (λ (r : Result Val Stop). IsFineEnd (start_root w (Ok None) r (shared_of q))) (sym value_is)
          (record { typed = tt; fitting = fitting_of image q may }))

  -- ---- the laws

  pub answers_well : AnswersWell (code_of image) q
  answers_well = record {
    contents = call_fine.fitting.contents;
    statics = call_fine.fitting.statics;
    end = ends_well
        (start_root w (root_method image q.class q.which) (argument_of q.argument) (shared_of q)).result q.turns
        (start_root w (root_method image q.class q.which) (argument_of q.argument) (shared_of q)).shared.turns
        call_fine.typed call_fine.fitting.turns;
  }

  pub over_in_time : (number : ℕ) (value : Val) → root_method image q.class q.which ≡ Ok (Some number)
      → argument_of q.argument ≡ Ok value
      → IsOverWithin w (most_steps image q.turns)
      (begins (slice_get image.methods number) number value (shared_of q))
  over_in_time number value method_is value_is = by_asked known.asked
    where
      by_asked : Asks image q
          → IsOverWithin (setting_of image q) (most_steps image q.turns)
          (begins (slice_get image.methods number) number value (shared_of q))
      by_asked (Runs n m v n_is v_is e code fits) =
          let same_number : Some n ≡ Some number = ok_eq (Some n) (Some number) (sym n_is ∙ method_is) in
          let numbers : n ≡ number = same_value n number same_number in
          let values : v ≡ value = ok_eq v value (sym v_is ∙ value_is) in
          subst (λ (x : ℕ). IsOverWithin w (most_steps image q.turns)
          (begins (slice_get image.methods x) x value (shared_of q))) numbers
          (subst (λ (x : Val). IsOverWithin w (most_steps image q.turns)
          (begins (slice_get image.methods n) n x (shared_of q))) values
          (run_over w agreed known.component.known q.turns shapes verified n m v (shared_of q) e code fits
          (fitting_of image q may)))
      by_asked (Rests v n_is v_is) = ok_none number (sym n_is ∙ method_is)

  -- a fine point with no more steps left than the bound
  abbrev IsBegun : Point → Type 0
  IsBegun p = Fine w q.turns shapes p × (potential w p ≤ most_steps image q.turns)

  pub begins_fine : (number : ℕ) (value : Val) → root_method image q.class q.which ≡ Ok (Some number)
      → argument_of q.argument ≡ Ok value
      → Fine w q.turns shapes (begins (slice_get image.methods number) number value (shared_of q))
      × (potential w (begins (slice_get image.methods number) number value (shared_of q)) ≤ most_steps image q.turns)
  begins_fine number value method_is value_is = by_asked known.asked
    where
      by_asked : Asks image q
          → Fine (setting_of image q) q.turns shapes
          (begins (slice_get image.methods number) number value (shared_of q))
          × (potential (setting_of image q) (begins (slice_get image.methods number) number value (shared_of q))
          ≤ most_steps image q.turns)
      by_asked (Runs n m v n_is v_is e code fits) =
          let same_number : Some n ≡ Some number = ok_eq (Some n) (Some number) (sym n_is ∙ method_is) in
          let numbers : n ≡ number = same_value n number same_number in
          let values : v ≡ value = ok_eq v value (sym v_is ∙ value_is) in
          subst (λ (x : ℕ). IsBegun (begins (slice_get image.methods x) x value (shared_of q))) numbers
          (subst (λ (x : Val). IsBegun (begins (slice_get image.methods n) n x (shared_of q))) values
          (subst (λ (p : Point). IsBegun p)
          (sym (begins_is w agreed known.component.known q.turns shapes verified n m v (shared_of q) e code fits
          (fitting_of image q may))) (
            begun_fine w agreed known.component.known q.turns shapes verified n m v (shared_of q) e code fits
                (fitting_of image q may),
            begun_left w agreed known.component.known q.turns shapes verified n m v (shared_of q) e code fits
                (fitting_of image q may),
          )))
      by_asked (Rests v n_is v_is) = ok_none number (sym n_is ∙ method_is)
