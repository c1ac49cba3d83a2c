-- What an expression comes to nests at most as its source does, and has at most its levels.
use Rattle.std.proofs.Common.{◌≤◌, ℕ, suc, ◌+◌, max, Bool, List, [], Option, Some, None, refl, arith}
use Rattle.sed_units.specs.declared.label.Label.TheVariants as label
use Rattle.sed_units.specs.declared.operators.BinaryOp.{BinaryOp}
use Rattle.sed_units.specs.declared.operators.BinaryOp.TheVariants as op
use Rattle.sed_units.specs.declared.operators.PrefixOp.{PrefixOp}
use Rattle.sed_units.specs.declared.operators.PrefixOp.TheVariants as prefix
use Rattle.sed_units.specs.Tree.{Tree, Absent as NoTree, Part}
use Rattle.sed_typed.specs.declared.kind.Kind.{Kind}
use Rattle.sed_typed.specs.declared.number.TypeNo.{TypeNo}
use Rattle.sed_typed.specs.declared.operators.Arithmetic.{Arithmetic}
use Rattle.sed_typed.specs.declared.operators.Arithmetic.TheVariants as arithmetic
use Rattle.sed_typed.specs.declared.operators.Comparison.TheVariants as comparison
use Rattle.sed_typed.specs.declared.operators.Gives.TheVariants.{Old, New}
use Rattle.sed_names.specs.Names.{Names}
use Rattle.sed_body_rules.specs.Scope.{Scope}
use Rattle.sed_terms.specs.declared.judged.Judged.{Judged}
use Rattle.sed_terms.specs.declared.judged.Judged.TheVariants.{Sound}
use Rattle.sed_terms.specs.Faults.{Marks, IfSound}
use Rattle.sed_terms.specs.Term.{Term, Absent}
use Rattle.sed_body_rules.specs.Operands.{form_of}
use Rattle.sed_body_rules.specs.Stores.{arithmetic_of}
use Rattle.sed_bodies.specs.declared.context.Before.{Before}
use Rattle.sed_bodies.specs.declared.context.Before.TheVariants.{Value, Class, System}
use Rattle.sed_bodies.specs.declared.context.Body.{Body}
use Rattle.sed_bodies.specs.Calls.{row_length, kind_at, params_of, params_behind}
use Rattle.sed_bodies.specs.Members.{before_link, spelled_head}
use Rattle.sed_bodies.specs.Places.{place_of, may_name}
use Rattle.sed_bodies.specs.Expressions.{prefixed, counting, stored_by, super_method, first_by, judge, judge_args, judge_step, judge_class, judge_system, judge_links}
use Rattle.sed_body_laws.specs.Nesting.{nesting, each_within, most_of}
use Rattle.sed_body_laws.specs.Levels.{levels, highest}
use Rattle.sed_body_laws.proofs.Sounds.{weaker}
use Rattle.sed_body_laws.proofs.Terms.{Fits, Runs, Rows, fits_runs, runs_fit, fits_more, runs_more}
use Rattle.sed_body_laws.proofs.Operands.{negated_fits, opposite_fits, flipped_fits, cast_fits, IsForm, OfNumbers, OfShift, OfOrder, OfEquality, OfBoth, OfEither, operated_runs, element_runs, chosen_fits}
use Rattle.sed_body_laws.proofs.Stores.{assigned_fits, compound_fits, counted_fits}
use Rattle.sed_body_laws.proofs.Members.{literal_fits, named_fits, receiver_fits, class_member_runs, member_runs, with_argument_rows, own_call_fits, super_called_fits, class_call_runs, called_runs, system_runs, spelled_sound, spelled_head_sound}

-- each operator has its form
form_is : (o : BinaryOp) → IsForm (form_of o)
form_is op.Or = OfEither
form_is op.And = OfBoth
form_is op.Equal = OfEquality comparison.Equal _ _ (λ x y. refl) (λ x y. refl)
form_is op.NotEqual = OfEquality comparison.NotEqual _ _ (λ x y. refl) (λ x y. refl)
form_is op.Less = OfOrder comparison.Less
form_is op.LessOrEqual = OfOrder comparison.LessOrEqual
form_is op.Greater = OfOrder comparison.Greater
form_is op.GreaterOrEqual = OfOrder comparison.GreaterOrEqual
form_is op.BitOr = OfNumbers arithmetic.BitOr
form_is op.BitXor = OfNumbers arithmetic.BitXor
form_is op.BitAnd = OfNumbers arithmetic.BitAnd
form_is op.ShiftLeft = OfShift arithmetic.ShiftLeft
form_is op.ShiftRight = OfShift arithmetic.ShiftRight
form_is op.Add = OfNumbers arithmetic.Add
form_is op.Subtract = OfNumbers arithmetic.Subtract
form_is op.Multiply = OfNumbers arithmetic.Multiply
form_is op.Divide = OfNumbers arithmetic.Divide
form_is op.Remainder = OfNumbers arithmetic.Remainder

higher : {F : Type 0} (n m h k : ℕ) (x : Judged Term F) → n ≤ m → h ≤ k → IfSound x (Fits n h) → IfSound x (Fits m k)
higher n m h k x p q f = weaker (Fits n h) (Fits m k) x (λ t g. fits_more n m h k t p q g) f

further : {F : Type 0} (n m h k : ℕ) (x : Judged Term F) → n ≤ m → h ≤ k → IfSound x (Runs n h) → IfSound x (Runs m k)
further n m h k x p q f = weaker (Runs n h) (Runs m k) x (λ t g. runs_more n m h k t p q g) f

prefixed_fits : {F : Type 0} (m : Marks F) (at : ℕ) (o : PrefixOp) (may : Bool) (right n h : ℕ) (x : Judged Term F) →
    IfSound x (Fits n h) → IfSound (prefixed m at o may right x) (Fits (suc n) (3 + h))
prefixed_fits m at prefix.Not may right n h x f = negated_fits m n h right x f
prefixed_fits m at prefix.Minus may right n h x f = opposite_fits m n h right x f
prefixed_fits m at prefix.BitNot may right n h x f = flipped_fits m n h right x f
prefixed_fits m at prefix.Increment may right n h x f =
    higher (suc n) (suc n) (2 + h) (3 + h) _ (omega arith) (omega arith) (counted_fits m arithmetic.Add New
    (suc n) h at may right x (omega arith) (higher n (suc n) h h x (omega arith) (omega arith) f))
prefixed_fits m at prefix.Decrement may right n h x f =
    higher (suc n) (suc n) (2 + h) (3 + h) _ (omega arith) (omega arith) (counted_fits m arithmetic.Subtract New
    (suc n) h at may right x (omega arith) (higher n (suc n) h h x (omega arith) (omega arith) f))

stored_by_fits : {F : Type 0} (m : Marks F) (k : Names) (a : Option Arithmetic) (at : ℕ) (may : Bool)
    (right n h d g : ℕ) (x y : Judged Term F) → suc d ≤ n → IfSound x (Fits n h) → IfSound y (Fits d g)
    → IfSound (stored_by m k a at may right x y) (Fits n (suc (max h (suc g))))
stored_by_fits m k None at may right n h d g x y nests f j = assigned_fits m k.below n h g d at may right x y nests f j
stored_by_fits m k (Some a) at may right n h d g x y nests f j = compound_fits m a n h g d at may right x y nests f j

pub first_sound : {F : Type 0} (P : Term → Type 0) (f : Before) (x : Judged Term F) (y : TypeNo →
    Judged Term F) (z : Judged Term F) → IfSound x P → ((c : TypeNo) → IfSound (y c) P) → IfSound z P
    → IfSound (first_by f x y z) P
first_sound P Value x y z a b c = a
first_sound P (Class k) x y z a b c = b k
first_sound P System x y z a b c = c

mutual
  pub judged_fits : {F : Type 0} (m : Marks F) (n : Names) (b : Body) (s : Scope) (t : Tree) →
      IfSound (judge m n b s t) (Fits (nesting t) (levels t))
  judged_fits m n b s (Part (label.Literal l) x y) = literal_fits m n l 0 4 (omega arith)
  judged_fits m n b s (Part (label.This at) x y) = receiver_fits m b at 0
  judged_fits m n b s (Part (label.Name id) x y) = spelled_sound m (Fits 0 4) id _ (named_fits m n b s id 0)
  judged_fits m n b s (Part (label.Of kit id) x y) = spelled_sound m (Fits 0 4) kit _ (spelled_sound m
      (Fits 0 4) id _ tt)
  judged_fits m n b s (Part (label.Paren at) x y) =
      higher (nesting x) (suc (nesting x)) (levels x) (levels x) (judge m n b s x) (omega arith) (omega arith)
      (judged_fits m n b s x)
  judged_fits m n b s (Part (label.Prefix at o) x y) = prefixed_fits m at o (may_name x) (place_of x) (nesting x)
      (levels x) (judge m n b s x) (judged_fits m n b s x)
  judged_fits m n b s (Part (label.Cast at kind) x y) = cast_fits m (nesting x) (levels x) at kind (place_of x)
      (judge m n b s x) (judged_fits m n b s x)
  judged_fits m n b s (Part (label.Update at o) x y) =
      counted_fits m (counting o) Old (nesting x) (levels x) at (may_name x) (place_of x) (judge m n b s x)
      (omega arith) (judged_fits m n b s x)
  judged_fits m n b s (Part (label.Conditional at) t (Part label.Both x y)) =
      let d = max (nesting t) (suc (max (nesting x) (nesting y))) in
      let h = max (levels t) (max (levels x) (levels y)) in
      let k = max (nesting x) (nesting y) in
      chosen_fits m d h (place_of t) (place_of x) (place_of y) (judge m n b s t) (judge m n b s x) (judge m n b s y) k
      (omega arith)
      (higher (nesting t) d (levels t) h (judge m n b s t) (omega arith) (omega arith) (judged_fits m n b s t))
      (higher (nesting x) k (levels x) h (judge m n b s x) (omega arith) (omega arith) (judged_fits m n b s x))
      (higher (nesting y) k (levels y) h (judge m n b s y) (omega arith) (omega arith) (judged_fits m n b s y))
  judged_fits m n b s (Part (label.Assign at o) x y) =
      let d = max (nesting x) (suc (nesting y)) in
      stored_by_fits m n (arithmetic_of o) at (may_name x) (place_of y) d (levels x) (nesting y) (levels y)
      (judge m n b s x) (judge m n b s y) (omega arith)
      (higher (nesting x) d (levels x) (levels x) (judge m n b s x) (omega arith) (omega arith)
      (judged_fits m n b s x)) (judged_fits m n b s y)
  judged_fits m n b s (Part (label.Call id) args y) =
      spelled_sound m (Fits (each_within args) (4 + highest args)) id _
      (own_call_fits m b id.at (row_length args) (n.method b.class.0 id.bytes) (each_within args) (highest args)
      (judge_args m n b s id.at (params_of (n.method b.class.0 id.bytes)) 0 (Sound Absent) args)
      (judged_rows m n b s id.at (params_of (n.method b.class.0 id.bytes)) 0 (Sound Absent) args (each_within args)
      (highest args) (omega arith) (omega arith) tt))
  judged_fits m n b s (Part (label.Super at id) args y) =
      spelled_sound m (Fits (each_within args) (4 + highest args)) id _
      (super_called_fits m b at (row_length args) (super_method n b id.bytes) (each_within args) (highest args)
      (judge_args m n b s at (params_of (super_method n b id.bytes)) 0 (Sound Absent) args)
      (judged_rows m n b s at (params_of (super_method n b id.bytes)) 0 (Sound Absent) args (each_within args)
      (highest args) (omega arith) (omega arith) tt))
  judged_fits m n b s (Part (label.Chain at) x (Part label.More link links)) =
      let d = max (nesting x) (max (nesting link) (most_of links)) in
      let h = max (levels x) (max (levels link) (highest links)) in
      weaker (Runs d h) (Fits d (suc h)) _ (λ t r. runs_fit d h t r)
      (judged_links m n b s at _ links d h (omega arith) (omega arith)
      (first_sound (Runs d h) (before_link n b s x link) (judge_step m n b s at (judge m n b s x) link)
      (λ class. spelled_head m x (judge_class m n b s at class link)) (judge_system m n b s at link)
      (judged_step m n b s at (judge m n b s x) link d h (omega arith) (omega arith)
      (weaker (Fits (nesting x) (levels x)) (Runs d h) (judge m n b s x) (λ t f. runs_more (nesting x) d (levels x) h t
      (omega arith) (omega arith) (fits_runs (nesting x) (levels x) t f)) (judged_fits m n b s x)))
      (λ class. spelled_head_sound m (Runs d h) x _ (judged_class m n b s at class link d h (omega arith)
      (omega arith)))
      (judged_system m n b s at link d h (omega arith) (omega arith))))
  judged_fits m n b s (Part (label.Chain at) x NoTree) =
      higher (nesting x) (max (nesting x) 0) (levels x) (suc (max (levels x) 0)) (judge m n b s x) (omega arith)
      (omega arith) (judged_fits m n b s x)
  judged_fits m n b s t = tt

  judged_rows : {F : Type 0} (m : Marks F) (n : Names) (b : Body) (s : Scope) (at : ℕ) (params : List (Option Kind))
      (i : ℕ) (xs : Judged Term F) (t : Tree) (d h : ℕ) → each_within t ≤ d → highest t ≤ h
      → IfSound xs (Rows d h) → IfSound (judge_args m n b s at params i xs t) (Rows d h)
  judged_rows m n b s at params i xs (Part label.More t rest) d h p q r =
      judged_rows m n b s at params (suc i) _ rest d h (omega (arith, p)) (omega (arith, q))
      (with_argument_rows m n at (kind_at params i) d (nesting t) h xs (judge m n b s t) (omega (arith, p)) r
      (higher (nesting t) (nesting t) (levels t) h (judge m n b s t) (omega arith) (omega (arith, q))
      (judged_fits m n b s t)))
  judged_rows m n b s at params i xs t d h p q r = r

  judged_step : {F : Type 0} (m : Marks F) (n : Names) (b : Body) (s : Scope) (at : ℕ) (x : Judged Term F) (t : Tree)
      (d h : ℕ) → nesting t ≤ d → levels t ≤ h
      → IfSound x (Runs d h) → IfSound (judge_step m n b s at x t) (Runs d h)
  judged_step m n b s at x (Part (label.Member p id) y z) d h a c r = spelled_sound m (Runs d h) id _
      (member_runs m n id d h x r)
  judged_step m n b s at x (Part (label.Method p id) args z) d h a c r =
      spelled_sound m (Runs d h) id _ (called_runs m n id.bytes at (row_length args) d (highest args) h x _ c r
      (judged_rows m n b s at (params_behind n id.bytes x) 0 (Sound Absent) args d (highest args) a (omega arith) tt))
  judged_step m n b s at x (Part (label.Index p) y z) d h a c r =
      element_runs m d h (nesting y) (levels y) at (place_of y) x (judge m n b s y) a c r (judged_fits m n b s y)
  judged_step m n b s at x (Part (label.Operand p o) y z) d h a c r =
      operated_runs m (form_of o) (form_is o) d h at (place_of y) x (judge m n b s y) r (higher (nesting y) d
      (levels y) h (judge m n b s y) a c (judged_fits m n b s y))
  judged_step m n b s at x t d h a c r = r

  judged_class : {F : Type 0} (m : Marks F) (n : Names) (b : Body) (s : Scope) (at : ℕ) (class : TypeNo) (t : Tree)
      (d h : ℕ) → nesting t ≤ d → levels t ≤ h
      → IfSound (judge_class m n b s at class t) (Runs d h)
  judged_class m n b s at class (Part (label.Member p id) y z) d h a c = spelled_sound m (Runs d h) id _
      (class_member_runs m id.at (n.member class.0 id.bytes) d h (omega (arith, c)))
  judged_class m n b s at class (Part (label.Method p id) args z) d h a c =
      spelled_sound m (Runs d h) id _ (class_call_runs m id.at at (row_length args) (n.method class.0 id.bytes) d
      (highest args) h _ c
      (judged_rows m n b s at (params_of (n.method class.0 id.bytes)) 0 (Sound Absent) args d (highest args) a
      (omega arith) tt))
  judged_class m n b s at class t d h a c = tt

  judged_system : {F : Type 0} (m : Marks F) (n : Names) (b : Body) (s : Scope) (at : ℕ) (t : Tree) (d h : ℕ) →
      nesting t ≤ d → levels t ≤ h
      → IfSound (judge_system m n b s at t) (Runs d h)
  judged_system m n b s at (Part (label.Member p id) y z) d h a c = spelled_sound m (Runs d h) id _ tt
  judged_system m n b s at (Part (label.Method p id) args z) d h a c =
      spelled_sound m (Runs d h) id _ (system_runs m id.bytes at (row_length args) d h (judge_args m n b s at [] 0
      (Sound Absent) args) (omega (arith, c)))
  judged_system m n b s at t d h a c = tt

  judged_links : {F : Type 0} (m : Marks F) (n : Names) (b : Body) (s : Scope) (at : ℕ) (x : Judged Term F) (t : Tree)
      (d h : ℕ) → most_of t ≤ d → highest t ≤ h
      → IfSound x (Runs d h) → IfSound (judge_links m n b s at x t) (Runs d h)
  judged_links m n b s at x NoTree d h p q r = r
  judged_links m n b s at x (Part l link links) d h p q r =
      judged_links m n b s at _ links d h (omega (arith, p)) (omega (arith, q))
      (judged_step m n b s at x link d h (omega (arith, p)) (omega (arith, q)) r)
