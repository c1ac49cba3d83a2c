-- The least of all faults of an expression is what the judgement with the least fault finds.
use Rattle.std.proofs.Common.{◌≡◌, ℕ, suc, Bool, List, [], Option, Some, None, refl, sym, ap, ◌∙◌}
use Rattle.sed_units.specs.Tree.{Tree, Absent as NoTree, Part}
use Rattle.sed_units.specs.declared.label.Label.TheVariants as label
use Rattle.sed_units.specs.declared.operators.PrefixOp.{PrefixOp}
use Rattle.sed_units.specs.declared.operators.PrefixOp.TheVariants as prefix
use Rattle.sed_typed.specs.declared.kind.Kind.{Kind}
use Rattle.sed_typed.specs.declared.number.TypeNo.{TypeNo}
use Rattle.sed_typed.specs.declared.operators.Arithmetic.{Arithmetic}
use Rattle.sed_typed.specs.declared.operators.Arithmetic.TheVariants as arithmetic
use Rattle.sed_typed.specs.declared.operators.Gives.TheVariants.{Old, New}
use Rattle.sed_names.specs.declared.signature.Signature.{Signature}
use Rattle.sed_names.specs.Names.{Names}
use Rattle.sed_faults.specs.declared.fault.Fault.{Fault}
use Rattle.sed_terms.specs.declared.judged.Judged.{Judged}
use Rattle.sed_terms.specs.declared.judged.Judged.TheVariants.{Sound, Unknown}
use Rattle.sed_terms.specs.Faults.{all_faults, least_fault, broken, told}
use Rattle.sed_terms.specs.Term.{Term, Absent}
use Rattle.sed_body_rules.specs.Choices.{chosen}
use Rattle.sed_body_rules.specs.Operands.{cast, form_of, operated, element}
use Rattle.sed_body_rules.specs.Stores.{counted, arithmetic_of}
use Rattle.sed_bodies.specs.declared.context.Before.{Before}
use Rattle.sed_bodies.specs.declared.context.Before.TheVariants.{Value, Class, System}
use Rattle.sed_bodies.specs.declared.context.Body.{Body}
use Rattle.sed_bodies.specs.Calls.{row_length, kind_at, argument, with_argument, params_of, own_call, super_called, class_call, params_behind, called, system_call}
use Rattle.sed_bodies.specs.Expressions.{prefixed, counting, stored_by, super_method, first_by, judge, judge_args, judge_step, judge_class, judge_system, judge_first, judge_links}
use Rattle.sed_bodies.specs.Members.{member_of, before_link, spelled, spelled_head, named, class_member}
use Rattle.sed_bodies.specs.Places.{place_of, may_name}
use Rattle.sed_body_rules.specs.Scope.{Scope}
use Rattle.sed_bodies.proofs.CallsTold.{literal_told, receiver_told, class_told, member_told, named_told, argument_told, with_argument_told, own_call_told, super_called_told, class_call_told, called_told, params_told, system_told, spelled_told, head_told}
use Rattle.sed_bodies.proofs.OperandsTold.{negated_told, opposite_told, flipped_told, cast_told, operated_told, element_told, chosen_told, assigned_told, compound_told, counted_told}
use Rattle.sed_bodies.proofs.Told.{Both}

abbrev All : Type 0
All = Judged Term (List Fault)

abbrev One : Type 0
One = Judged Term (Option Fault)

prefixed_told : Both → (at : ℕ) (o : PrefixOp) (may : Bool) (right : ℕ) (x : All) →
    told (prefixed all_faults at o may right x) ≡ prefixed least_fault at o may right (told x)
prefixed_told both at prefix.Not may right x = negated_told right x
prefixed_told both at prefix.Minus may right x = opposite_told right x
prefixed_told both at prefix.BitNot may right x = flipped_told right x
prefixed_told both at prefix.Increment may right x = counted_told both arithmetic.Add New at may right x
prefixed_told both at prefix.Decrement may right x = counted_told both arithmetic.Subtract New at may right x

stored_told : Both → (n : Names) (o : Option Arithmetic) (at : ℕ) (may : Bool) (right : ℕ) (x y : All) →
    told (stored_by all_faults n o at may right x y) ≡ stored_by least_fault n o at may right (told x) (told y)
stored_told both n None at may right x y = assigned_told both n.below at may right x y
stored_told both n (Some a) at may right x y = compound_told both a at may right x y

-- a rule of two or three parts, at parts that are equal
two : {X : Type 0} (f : One → One → X) {x u y v : One} → x ≡ u → y ≡ v → f x y ≡ f u v
two f {x} {u} {y} {v} p q = ap (λ z. f z y) p ∙ ap (λ z. f u z) q

three : {X : Type 0} (f : One → One → One → X) {x u y v z w : One} → x ≡ u → y ≡ v → z ≡ w → f x y z ≡ f u v w
three f {x} {u} {y} {v} {z} {w} p q r = ap (λ a. f a y z) p ∙ ap (λ a. f u a z) q ∙ ap (λ a. f u v a) r

-- the first link of a chain, by what its head is
first_told : (f : Before) (x : All) (u : One) (y : TypeNo → All) (v : TypeNo → One) (z : All) (w : One) → told x ≡ u → ((class : TypeNo) → told (y class) ≡ v class) →
    told z ≡ w → told (first_by f x y z) ≡ first_by f u v w
first_told Value x u y v z w p q r = p
first_told (Class class) x u y v z w p q r = q class
first_told System x u y v z w p q r = r

mutual
  pub judge_told : Both → (n : Names) (b : Body) (s : Scope) (t : Tree) → told (judge all_faults n b s t) ≡ judge least_fault n b s t
  judge_told both n b s (Part (label.Literal l) x y) = literal_told n l
  judge_told both n b s (Part (label.This at) x y) = receiver_told b at
  judge_told both n b s (Part (label.Name id) x y) = spelled_told both id (named all_faults n b s id) (named least_fault n b s id) (named_told n b s id)
  judge_told both n b s (Part (label.Of kit id) x y) =
      let no : All = Unknown (all_faults.one (broken 12 kit.at)) in
      let is : One = Unknown (least_fault.one (broken 12 kit.at)) in
      spelled_told both kit (spelled all_faults id no) (spelled least_fault id is) (spelled_told both id no is refl)
  judge_told both n b s (Part (label.Paren at) x y) = judge_told both n b s x
  judge_told both n b s (Part (label.Prefix at o) x y) =
      prefixed_told both at o (may_name x) (place_of x) (judge all_faults n b s x) ∙ ap (prefixed least_fault at o (may_name x) (place_of x)) (judge_told both n b s x)
  judge_told both n b s (Part (label.Cast at p) x y) =
      cast_told both at p (place_of x) (judge all_faults n b s x) ∙ ap (cast least_fault at p (place_of x)) (judge_told both n b s x)
  judge_told both n b s (Part (label.Update at o) x y) =
      counted_told both (counting o) Old at (may_name x) (place_of x) (judge all_faults n b s x)
      ∙ ap (counted least_fault (counting o) Old at (may_name x) (place_of x)) (judge_told both n b s x)
  judge_told both n b s (Part (label.Conditional at) t (Part label.Both x y)) =
      chosen_told both (place_of t) (place_of x) (place_of y) (judge all_faults n b s t) (judge all_faults n b s x) (judge all_faults n b s y)
      ∙ three (chosen least_fault (place_of t) (place_of x) (place_of y)) (judge_told both n b s t) (judge_told both n b s x) (judge_told both n b s y)
  judge_told both n b s (Part (label.Assign at o) x y) =
      stored_told both n (arithmetic_of o) at (may_name x) (place_of y) (judge all_faults n b s x) (judge all_faults n b s y)
      ∙ two (stored_by least_fault n (arithmetic_of o) at (may_name x) (place_of y)) (judge_told both n b s x) (judge_told both n b s y)
  judge_told both n b s (Part (label.Call id) args y) =
      let o : Option Signature = n.method b.class.0 id.bytes in
      spelled_told both id (own_call all_faults b id.at (row_length args) o (judge_args all_faults n b s id.at (params_of o) 0 (Sound Absent) args)) _
      (own_call_told both b id.at (row_length args) o (judge_args all_faults n b s id.at (params_of o) 0 (Sound Absent) args)
      ∙ ap (own_call least_fault b id.at (row_length args) o) (args_told both n b s id.at (params_of o) 0 (Sound Absent) args))
  judge_told both n b s (Part (label.Super at id) args y) =
      let o : Option Signature = super_method n b id.bytes in
      spelled_told both id (super_called all_faults b at (row_length args) o (judge_args all_faults n b s at (params_of o) 0 (Sound Absent) args)) _
      (super_called_told both b at (row_length args) o (judge_args all_faults n b s at (params_of o) 0 (Sound Absent) args)
      ∙ ap (super_called least_fault b at (row_length args) o) (args_told both n b s at (params_of o) 0 (Sound Absent) args))
  judge_told both n b s (Part (label.Chain at) x (Part label.More link links)) =
      links_told both n b s at (judge_first all_faults n b s at x link) links
      ∙ ap (λ z. judge_links least_fault n b s at z links)
      (first_told (before_link n b s x link) (judge_step all_faults n b s at (judge all_faults n b s x) link) (judge_step least_fault n b s at (judge least_fault n b s x) link)
      (λ class. spelled_head all_faults x (judge_class all_faults n b s at class link)) (λ class. spelled_head least_fault x (judge_class least_fault n b s at class link))
      (judge_system all_faults n b s at link) (judge_system least_fault n b s at link)
      (step_told both n b s at (judge all_faults n b s x) link ∙ ap (λ z. judge_step least_fault n b s at z link) (judge_told both n b s x))
      (λ class. head_told both x (judge_class all_faults n b s at class link) (judge_class least_fault n b s at class link) (behind_class_told both n b s at class link)) (behind_system_told both n b s at link))
  judge_told both n b s (Part (label.Chain at) x NoTree) = judge_told both n b s x
  judge_told both n b s t = refl

  args_told : Both → (n : Names) (b : Body) (s : Scope) (at : ℕ) (params : List (Option Kind)) (i : ℕ) (xs : All) (args : Tree) →
      told (judge_args all_faults n b s at params i xs args) ≡ judge_args least_fault n b s at params i (told xs) args
  args_told both n b s at params i xs (Part label.More t rest) =
      args_told both n b s at params (suc i) (with_argument all_faults xs (argument all_faults n at (kind_at params i) (judge all_faults n b s t))) rest
      ∙ ap (λ z. judge_args least_fault n b s at params (suc i) z rest)
      (with_argument_told both xs (argument all_faults n at (kind_at params i) (judge all_faults n b s t))
      ∙ ap (with_argument least_fault (told xs))
      (argument_told both n at (kind_at params i) (judge all_faults n b s t) ∙ ap (argument least_fault n at (kind_at params i)) (judge_told both n b s t)))
  args_told both n b s at params i xs t = refl

  step_told : Both → (n : Names) (b : Body) (s : Scope) (at : ℕ) (x : All) (link : Tree) →
      told (judge_step all_faults n b s at x link) ≡ judge_step least_fault n b s at (told x) link
  step_told both n b s at x (Part (label.Member p id) y z) = spelled_told both id (member_of all_faults n id x) (member_of least_fault n id (told x)) (member_told n id x)
  step_told both n b s at x (Part (label.Method p id) args z) =
      let ps : List (Option Kind) = params_behind n id.bytes x in
      spelled_told both id (called all_faults n id.bytes at (row_length args) x (judge_args all_faults n b s at ps 0 (Sound Absent) args)) _
      (called_told both n id.bytes at (row_length args) x (judge_args all_faults n b s at ps 0 (Sound Absent) args)
      ∙ ap (called least_fault n id.bytes at (row_length args) (told x))
      (args_told both n b s at ps 0 (Sound Absent) args
      ∙ ap (λ qs. judge_args least_fault n b s at qs 0 (Sound Absent) args) (sym (params_told n id.bytes x))))
  step_told both n b s at x (Part (label.Index p) y z) =
      element_told both at (place_of y) x (judge all_faults n b s y) ∙ ap (element least_fault at (place_of y) (told x)) (judge_told both n b s y)
  step_told both n b s at x (Part (label.Operand p o) y z) =
      operated_told both (form_of o) at (place_of y) x (judge all_faults n b s y)
      ∙ ap (operated least_fault (form_of o) at (place_of y) (told x)) (judge_told both n b s y)
  step_told both n b s at x t = refl

  behind_class_told : Both → (n : Names) (b : Body) (s : Scope) (at : ℕ) (class : TypeNo) (link : Tree) →
      told (judge_class all_faults n b s at class link) ≡ judge_class least_fault n b s at class link
  behind_class_told both n b s at class (Part (label.Member p id) y z) =
      spelled_told both id (class_member all_faults id.at (n.member class.0 id.bytes)) (class_member least_fault id.at (n.member class.0 id.bytes)) (class_told id.at (n.member class.0 id.bytes))
  behind_class_told both n b s at class (Part (label.Method p id) args z) =
      let o : Option Signature = n.method class.0 id.bytes in
      spelled_told both id (class_call all_faults id.at at (row_length args) o (judge_args all_faults n b s at (params_of o) 0 (Sound Absent) args)) _
      (class_call_told both id.at at (row_length args) o (judge_args all_faults n b s at (params_of o) 0 (Sound Absent) args)
      ∙ ap (class_call least_fault id.at at (row_length args) o) (args_told both n b s at (params_of o) 0 (Sound Absent) args))
  behind_class_told both n b s at class t = refl

  behind_system_told : Both → (n : Names) (b : Body) (s : Scope) (at : ℕ) (link : Tree) →
      told (judge_system all_faults n b s at link) ≡ judge_system least_fault n b s at link
  behind_system_told both n b s at (Part (label.Member p id) y z) =
      let no : All = Unknown (all_faults.one (broken 12 id.at)) in
      let is : One = Unknown (least_fault.one (broken 12 id.at)) in
      spelled_told both id no is refl
  behind_system_told both n b s at (Part (label.Method p id) args z) =
      spelled_told both id (system_call all_faults id.bytes at (row_length args) (judge_args all_faults n b s at [] 0 (Sound Absent) args)) _
      (system_told both id.bytes at (row_length args) (judge_args all_faults n b s at [] 0 (Sound Absent) args)
      ∙ ap (system_call least_fault id.bytes at (row_length args)) (args_told both n b s at [] 0 (Sound Absent) args))
  behind_system_told both n b s at t = refl

  links_told : Both → (n : Names) (b : Body) (s : Scope) (at : ℕ) (x : All) (links : Tree) →
      told (judge_links all_faults n b s at x links) ≡ judge_links least_fault n b s at (told x) links
  links_told both n b s at x NoTree = refl
  links_told both n b s at x (Part l link links) =
      links_told both n b s at (judge_step all_faults n b s at x link) links ∙ ap (λ z. judge_links least_fault n b s at z links) (step_told both n b s at x link)
