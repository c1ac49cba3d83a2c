-- What expressions come to: the typed tree that is spelled, or that it is unknown, with the faults inside.
use Rattle.std.specs.Prelude.{ℕ, suc, Bool, List, [], Option, Some, None}
use Rattle.std.specs.Option.{option_and_then}
use Rattle.sed_units.specs.Tree.{Tree, Absent as NoTree, Part}
use Rattle.sed_units.specs.declared.label.Label.TheVariants as label
use Rattle.sed_units.specs.declared.operators.PrefixOp.{PrefixOp}
use Rattle.sed_units.specs.declared.operators.PrefixOp.TheVariants as prefix
use Rattle.sed_units.specs.declared.operators.UpdateOp.{UpdateOp}
use Rattle.sed_units.specs.declared.operators.UpdateOp.TheVariants as update
use Rattle.sed_typed.specs.declared.kind.Kind.{Kind}
use Rattle.sed_typed.specs.declared.number.TypeNo.{TypeNo}
use Rattle.sed_typed.specs.declared.operators.Arithmetic.{Arithmetic}
use Rattle.sed_typed.specs.declared.operators.Arithmetic.TheVariants as arithmetic
use Rattle.sed_typed.specs.declared.operators.Gives.TheVariants.{Old, New}
use Rattle.sed_names.specs.declared.signature.Signature.{Signature}
use Rattle.sed_names.specs.Names.{Names}
use Rattle.sed_terms.specs.declared.judged.Judged.{Judged}
use Rattle.sed_terms.specs.declared.judged.Judged.TheVariants.{Sound, Unknown}
use Rattle.sed_terms.specs.Faults.{Marks, broken}
use Rattle.sed_terms.specs.Term.{Term, Absent}
use Rattle.sed_body_rules.specs.Choices.{chosen}
use Rattle.sed_body_rules.specs.Operands.{negated, opposite, flipped, cast, form_of, operated, element}
use Rattle.sed_body_rules.specs.Stores.{assigned, compound, counted, arithmetic_of}
use Rattle.sed_bodies.specs.declared.context.Before.{Before}
use Rattle.sed_bodies.specs.declared.context.Before.TheVariants.{Value, Class, System}
use Rattle.sed_bodies.specs.declared.context.Body.{Body}
use Rattle.sed_bodies.specs.Calls.{row_length, kind_at, argument, with_argument, params_of, own_call, super_called}
use Rattle.sed_bodies.specs.Calls.{class_call, params_behind, called, system_call}
use Rattle.sed_bodies.specs.Literals.{literal_judged}
use Rattle.sed_bodies.specs.Members.{receiver, named, class_member, member_of, before_link, spelled, spelled_head}
use Rattle.sed_bodies.specs.Places.{place_of, may_name}
use Rattle.sed_body_rules.specs.Scope.{Scope}

-- a prefix operator, with its place and that of its operand; `may` says whether the operand may name a place
abbrev pub prefixed : {F : Type 0} → Marks F → ℕ → PrefixOp → Bool → ℕ → Judged Term F → Judged Term F
prefixed m at prefix.Not may right x = negated m right x
prefixed m at prefix.Minus may right x = opposite m right x
prefixed m at prefix.BitNot may right x = flipped m right x
prefixed m at prefix.Increment may right x = counted m arithmetic.Add New at may right x
prefixed m at prefix.Decrement may right x = counted m arithmetic.Subtract New at may right x

-- `++` and `--` behind their operand, which begins where they begin
abbrev pub counting : UpdateOp → Arithmetic
counting update.Increment = arithmetic.Add
counting update.Decrement = arithmetic.Subtract

-- `=`, or an operator with `=`
abbrev pub stored_by : {F : Type 0} → Marks F → Names → Option Arithmetic
    → ℕ → Bool → ℕ → Judged Term F → Judged Term F → Judged Term F
stored_by m n None at may right x y = assigned m n.below at may right x y
stored_by m n (Some a) at may right x y = compound m a at may right x y

-- the method that `super` names
abbrev pub super_method : Names → Body → List ℕ → Option Signature
super_method n b name = option_and_then (λ base. n.method base.0 name) (n.base b.class.0)

-- the first link of a chain, by what its head is: a value, a class, or the system's calls
abbrev pub first_by : {A : Type 0} → Before → A → (TypeNo → A) → A → A
first_by Value value class system = value
first_by (Class c) value class system = class c
first_by System value class system = system

abbrev mutual
  pub judge : {F : Type 0} → Marks F → Names → Body → Scope → Tree → Judged Term F
  judge m n b s (Part (label.Literal l) x y) = literal_judged m n l
  judge m n b s (Part (label.This at) x y) = receiver m b at
  judge m n b s (Part (label.Name id) x y) = spelled m id (named m n b s id)
  judge m n b s (Part (label.Of kit id) x y) = spelled m kit (spelled m id (Unknown (m.one (broken 12 kit.at))))
  judge m n b s (Part (label.Paren at) x y) = judge m n b s x
  judge m n b s (Part (label.Prefix at op) x y) = prefixed m at op (may_name x) (place_of x) (judge m n b s x)
  judge m n b s (Part (label.Cast at kind) x y) = cast m at kind (place_of x) (judge m n b s x)
  judge m n b s (Part (label.Update at op) x y) =
      counted m (counting op) Old at (may_name x) (place_of x) (judge m n b s x)
  judge m n b s (Part (label.Conditional at) t (Part label.Both x y)) =
      chosen m (place_of t) (place_of x) (place_of y) (judge m n b s t) (judge m n b s x) (judge m n b s y)
  judge m n b s (Part (label.Assign at op) x y) =
      stored_by m n (arithmetic_of op) at (may_name x) (place_of y) (judge m n b s x) (judge m n b s y)
  judge m n b s (Part (label.Call id) args y) =
      spelled m id (own_call m b id.at (row_length args) (n.method b.class.0 id.bytes)
      (judge_args m n b s id.at (params_of (n.method b.class.0 id.bytes)) 0 (Sound Absent) args))
  judge m n b s (Part (label.Super at id) args y) =
      spelled m id (super_called m b at (row_length args) (super_method n b id.bytes)
      (judge_args m n b s at (params_of (super_method n b id.bytes)) 0 (Sound Absent) args))
  judge m n b s (Part (label.Chain at) x (Part label.More link links)) =
      judge_links m n b s at (first_by (before_link n b s x link) (judge_step m n b s at (judge m n b s x) link)
      (λ class. spelled_head m x (judge_class m n b s at class link)) (judge_system m n b s at link)) links
  judge m n b s (Part (label.Chain at) x NoTree) = judge m n b s x
  -- no expression has another tree
  judge m n b s t = Unknown (m.one (broken 0 0))

  -- the arguments so far, with those behind them, for these parameters from a place on
  pub judge_args : {F : Type 0} → Marks F → Names → Body → Scope → ℕ
      → List (Option Kind) → ℕ → Judged Term F → Tree → Judged Term F
  judge_args m n b s at params i xs (Part label.More t rest) =
      judge_args m n b s at params (suc i)
      (with_argument m xs (argument m n at (kind_at params i) (judge m n b s t))) rest
  judge_args m n b s at params i xs t = xs

  -- what is on the left, with a link behind it; `at` is where the chain begins
  pub judge_step : {F : Type 0} → Marks F → Names → Body → Scope → ℕ → Judged Term F → Tree → Judged Term F
  judge_step m n b s at x (Part (label.Member p id) y z) = spelled m id (member_of m n id x)
  judge_step m n b s at x (Part (label.Method p id) args z) =
      spelled m id (called m n id.bytes at (row_length args) x
      (judge_args m n b s at (params_behind n id.bytes x) 0 (Sound Absent) args))
  judge_step m n b s at x (Part (label.Index p) y z) = element m at (place_of y) x (judge m n b s y)
  judge_step m n b s at x (Part (label.Operand p op) y z) = operated m (form_of op) at (place_of y) x (judge m n b s y)
  judge_step m n b s at x t = x

  -- a link behind the name of a class, which means nothing before another one than `.`
  pub judge_class : {F : Type 0} → Marks F → Names → Body → Scope → ℕ → TypeNo → Tree → Judged Term F
  judge_class m n b s at class (Part (label.Member p id) y z) =
      spelled m id (class_member m id.at (n.member class.0 id.bytes))
  judge_class m n b s at class (Part (label.Method p id) args z) =
      spelled m id (class_call m id.at at (row_length args) (n.method class.0 id.bytes)
      (judge_args m n b s at (params_of (n.method class.0 id.bytes)) 0 (Sound Absent) args))
  judge_class m n b s at class t = Unknown (m.one (broken 12 at))

  -- a link behind `Sys`, which has no members
  pub judge_system : {F : Type 0} → Marks F → Names → Body → Scope → ℕ → Tree → Judged Term F
  judge_system m n b s at (Part (label.Member p id) y z) = spelled m id (Unknown (m.one (broken 12 id.at)))
  judge_system m n b s at (Part (label.Method p id) args z) =
      spelled m id (system_call m id.bytes at (row_length args) (judge_args m n b s at [] 0 (Sound Absent) args))
  judge_system m n b s at t = Unknown (m.one (broken 12 at))

  pub judge_links : {F : Type 0} → Marks F → Names → Body → Scope → ℕ → Judged Term F → Tree → Judged Term F
  judge_links m n b s at x NoTree = x
  judge_links m n b s at x (Part l link links) = judge_links m n b s at (judge_step m n b s at x link) links

-- the head of a chain with its first link
abbrev pub judge_first : {F : Type 0} → Marks F → Names → Body → Scope → ℕ → Tree → Tree → Judged Term F
judge_first m n b s at x link =
    first_by (before_link n b s x link) (judge_step m n b s at (judge m n b s x) link)
    (λ class. spelled_head m x (judge_class m n b s at class link)) (judge_system m n b s at link)
