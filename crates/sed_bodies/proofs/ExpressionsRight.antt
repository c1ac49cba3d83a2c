-- What an expression comes to is typed, and where it is unknown there is a fault inside.
use Rattle.std.proofs.Common.{◌≡◌, ℕ, suc, Bool, true, false, if◌then◌else◌, List, [], ◌∷◌, ◌++◌, length, map, slice_get, Option, Some, None, IfSome, refl, sym, ap, subst, ◌∙◌, arith, append_assoc}
use Rattle.std.specs.Option.{option_map, option_and_then}
use Rattle.sed_units.specs.Tree.{Tree, Absent as NoTree, Part}
use Rattle.sed_units.specs.declared.label.Label.TheVariants as label
use Rattle.sed_units.specs.declared.operators.PrefixOp.{PrefixOp}
use Rattle.sed_units.specs.declared.operators.PrefixOp.TheVariants as prefix
use Rattle.sed_units.specs.declared.operators.UpdateOp.{UpdateOp}
use Rattle.sed_units.specs.declared.operators.UpdateOp.TheVariants as update
use Rattle.sed_typed.specs.declared.kind.Kind.{Kind}
use Rattle.sed_typed.specs.declared.number.TypeNo.{TypeNo}
use Rattle.sed_typed.specs.declared.operators.Arithmetic.{Arithmetic}
use Rattle.sed_typed.specs.declared.operators.Arithmetic.TheVariants as arithmetic
use Rattle.sed_typed.specs.declared.operators.Gives.TheVariants.{Old, New}
use Rattle.sed_typed.specs.Classes.{base_of}
use Rattle.sed_typed.specs.TypedExpr.{Context}
use Rattle.sed_names.specs.declared.signature.Signature.{Signature}
use Rattle.sed_names.specs.Names.{Names}
use Rattle.sed_faults.specs.declared.fault.Fault.{Fault}
use Rattle.sed_terms.specs.declared.judged.Judged.{Judged}
use Rattle.sed_terms.specs.declared.judged.Judged.TheVariants.{Sound, Unknown}
use Rattle.sed_terms.specs.Faults.{all_faults, broken, after, Right}
use Rattle.sed_terms.specs.Term.{Term, Absent, leaf}
use Rattle.sed_terms.specs.declared.sign.Sign.TheVariants as sign
use Rattle.sed_body_rules.specs.Operands.{form_of}
use Rattle.sed_body_rules.specs.Stores.{arithmetic_of}
use Rattle.sed_bodies.specs.declared.context.Before.{Before}
use Rattle.sed_bodies.specs.declared.context.Before.TheVariants.{Value, Class, System}
use Rattle.sed_bodies.specs.declared.context.Body.{Body}
use Rattle.sed_bodies.specs.Calls.{row_length, kind_at, argument, with_argument, params_of, params_behind}
use Rattle.sed_bodies.specs.Expressions.{prefixed, counting, stored_by, super_method, first_by, judge, judge_args, judge_step, judge_class, judge_system, judge_first, judge_links}
use Rattle.sed_bodies.specs.Inside.{IsIn, IsReady}
use Rattle.sed_bodies.specs.Members.{receiver, before_link, spelled_head, named, class_member, member_of}
use Rattle.sed_bodies.specs.Places.{place_of, may_name}
use Rattle.sed_body_rules.specs.Scope.{Scope}
use Rattle.sed_bodies.proofs.CallsRight.{AreArguments, AllKinds, Supplies, IsFound, some_kind, with_argument_right, own_call_right, super_called_right, class_call_right, called_right, system_right}
use Rattle.sed_bodies.proofs.ChoicesRight.{element_right, chosen_right}
use Rattle.sed_bodies.proofs.LiteralsRight.{literal_right}
use Rattle.sed_bodies.proofs.MembersRight.{named_right, class_right, member_right, spelled_right, head_right}
use Rattle.sed_bodies.proofs.OperandsRight.{negated_right, opposite_right, flipped_right, cast_right, forms_equate, operated_right}
use Rattle.sed_bodies.proofs.Right.{one_right}
use Rattle.sed_bodies.proofs.StoresRight.{Counts, assigned_right, compound_right, counted_right}

adds : Counts New arithmetic.Add
adds = (λ w. tt, λ w. refl)

takes_off : Counts New arithmetic.Subtract
takes_off = (λ w. tt, λ w. refl)

counts_behind : (o : UpdateOp) → Counts Old (counting o)
counts_behind update.Increment = (λ w. refl, λ w. refl)
counts_behind update.Decrement = (λ w. refl, λ w. refl)

prefixed_right : (c : Context) (n : Names) (b : Body) (s : Scope) → IsIn c n b s → (at : ℕ) (o : PrefixOp) (may : Bool) (right : ℕ) (x : Judged Term (List Fault)) →
    Right (IsReady c) x → Right (IsReady c) (prefixed all_faults at o may right x)
prefixed_right c n b s i at prefix.Not may right x p = negated_right c i.kinds right x p
prefixed_right c n b s i at prefix.Minus may right x p = opposite_right c right x p
prefixed_right c n b s i at prefix.BitNot may right x p = flipped_right c right x p
prefixed_right c n b s i at prefix.Increment may right x p = counted_right c arithmetic.Add New adds at may right x p
prefixed_right c n b s i at prefix.Decrement may right x p = counted_right c arithmetic.Subtract New takes_off at may right x p

stored_right : (c : Context) (n : Names) (b : Body) (s : Scope) → IsIn c n b s → (o : Option Arithmetic) (at : ℕ) (may : Bool) (right : ℕ)
    (x y : Judged Term (List Fault)) → Right (IsReady c) x → Right (IsReady c) y → Right (IsReady c) (stored_by all_faults n o at may right x y)
stored_right c n b s i None at may right x y p q = assigned_right c i.kinds n.below i.below at may right x y p q
stored_right c n b s i (Some a) at may right x y p q = compound_right c a at may right x y p q

-- the method that `super` names is the program's
super_found : (c : Context) (n : Names) (b : Body) (s : Scope) → IsIn c n b s → (name : List ℕ) → (class : ℕ)
    × IfSome (super_method n b name) (λ g. (base_of c.program.schema.classes c.class ≡ Some class) × IsFound c class g)
super_found c n b s i name = at (n.base b.class.0) (i.base b.class.0)
  where
    at : (o : Option TypeNo) → option_map (λ t. t.0) o ≡ base_of c.program.schema.classes b.class.0 → (class : ℕ)
        × IfSome (option_and_then (λ base. n.method base.0 name) o) (λ g. (base_of c.program.schema.classes c.class ≡ Some class) × IsFound c class g)
    at None e = (0, tt)
    at (Some base) e = (base.0, found (n.method base.0 name) (i.methods base.0 name))
      where
        found : (o : Option Signature) → IfSome o (IsFound c base.0) →
            IfSome o (λ g. (base_of c.program.schema.classes c.class ≡ Some base.0) × IsFound c base.0 g)
        found None h = tt
        found (Some g) h = (ap (base_of c.program.schema.classes) (sym i.class) ∙ sym e, h)

slice_there : (before : List Kind) (k : Kind) (after : List Kind) → slice_get (before ++ k ∷ after) (length before) ≡ Some k
slice_there [] k after = refl
slice_there (x ∷ xs) k after = slice_there xs k after

length_more : (before : List Kind) (k : Kind) → suc (length before) ≡ length (before ++ k ∷ [])
length_more [] k = refl
length_more (x ∷ xs) k = ap suc (length_more xs k)

append_none : (ks : List Kind) → ks ++ [] ≡ ks
append_none [] = refl
append_none (k ∷ ks) = ap (λ xs. k ∷ xs) (append_none ks)

this_ready : (c : Context) (n : Names) (b : Body) (s : Scope) → IsIn c n b s → (at : ℕ) → Right (IsReady c) (receiver all_faults b at)
this_ready c n b s i at = by_static b.is_static refl
  where
    by_static : (x : Bool) → b.is_static ≡ x → Right (IsReady c) (if x then Unknown (broken 17 at ∷ []) else Sound (leaf (sign.This b.class)))
    by_static true e = one_right (IsReady c) (broken 17 at)
    by_static false e = ((sym i.static ∙ e, i.class), λ u. absurd (let k : false ≡ true = u in cc))

abbrev args_of : Names → Body → Scope → ℕ → List (Option Kind) → Tree → Judged Term (List Fault)
args_of n b s at params args = judge_args all_faults n b s at params 0 (Sound Absent) args

-- the arguments of a call, from those of its parameters on
abbrev Row : Context → Names → Body → Scope → ℕ → Tree → Type 0
Row c n b s at args = (ks : List Kind) → AllKinds c ks → row_length args ≡ length ks →
    Right (AreArguments c ks) (judge_args all_faults n b s at (map some_kind ks) 0 (Sound Absent) args)

supplied : (c : Context) (n : Names) (b : Body) (s : Scope) (at : ℕ) (params : List (Option Kind)) (args : Tree) → Row c n b s at args →
    Supplies c params (row_length args) (judge_args all_faults n b s at params 0 (Sound Absent) args)
supplied c n b s at params args row ks e there count =
    subst (λ (ps : List (Option Kind)). Right (AreArguments c ks) (judge_args all_faults n b s at ps 0 (Sound Absent) args)) (sym e) (row ks there (sym count))

-- the first link of a chain, by what its head is
first_right : (c : Context) (f : Before) (x : Judged Term (List Fault)) (y : TypeNo → Judged Term (List Fault)) (z : Judged Term (List Fault)) → Right (IsReady c) x →
    ((class : TypeNo) → Right (IsReady c) (y class)) → Right (IsReady c) z → Right (IsReady c) (first_by f x y z)
first_right c Value x y z p q r = p
first_right c (Class class) x y z p q r = q class
first_right c System x y z p q r = r

mutual
  pub judge_right : (c : Context) (n : Names) (b : Body) (s : Scope) → IsIn c n b s → (t : Tree) → Right (IsReady c) (judge all_faults n b s t)
  judge_right c n b s i (Part (label.Literal l) x y) = literal_right c n b s i l
  judge_right c n b s i (Part (label.This at) x y) = this_ready c n b s i at
  judge_right c n b s i (Part (label.Name id) x y) = spelled_right c id (named all_faults n b s id) (named_right c n b s i id)
  judge_right c n b s i (Part (label.Of kit id) x y) =
      spelled_right c kit _ (spelled_right c id (Unknown (broken 12 kit.at ∷ [])) (one_right (IsReady c) (broken 12 kit.at)))
  judge_right c n b s i (Part (label.Paren at) x y) = judge_right c n b s i x
  judge_right c n b s i (Part (label.Prefix at o) x y) =
      prefixed_right c n b s i at o (may_name x) (place_of x) (judge all_faults n b s x) (judge_right c n b s i x)
  judge_right c n b s i (Part (label.Cast at p) x y) = cast_right c at p (place_of x) (judge all_faults n b s x) (judge_right c n b s i x)
  judge_right c n b s i (Part (label.Update at o) x y) =
      counted_right c (counting o) Old (counts_behind o) at (may_name x) (place_of x) (judge all_faults n b s x) (judge_right c n b s i x)
  judge_right c n b s i (Part (label.Conditional at) t (Part label.Both x y)) =
      chosen_right c i.kinds (place_of t) (place_of x) (place_of y) (judge all_faults n b s t) (judge all_faults n b s x) (judge all_faults n b s y)
      (judge_right c n b s i t) (judge_right c n b s i x) (judge_right c n b s i y)
  judge_right c n b s i (Part (label.Assign at o) x y) =
      stored_right c n b s i (arithmetic_of o) at (may_name x) (place_of y) (judge all_faults n b s x) (judge all_faults n b s y)
      (judge_right c n b s i x) (judge_right c n b s i y)
  judge_right c n b s i (Part (label.Call id) args y) =
      spelled_right c id _ (
      own_call_right c n b s i id.at (row_length args) (n.method b.class.0 id.bytes) (args_of n b s id.at (params_of (n.method b.class.0 id.bytes)) args) (i.methods b.class.0 id.bytes)
      (supplied c n b s id.at (params_of (n.method b.class.0 id.bytes)) args (λ ks t q. row_right c n b s i id.at [] ks t (Sound Absent) (tt, tt) args q)))
  judge_right c n b s i (Part (label.Super at id) args y) =
      let f = super_found c n b s i id.bytes in
      spelled_right c id _ (
      super_called_right c n b s i at (row_length args) f.0 (super_method n b id.bytes) (args_of n b s at (params_of (super_method n b id.bytes)) args) f.1
      (supplied c n b s at (params_of (super_method n b id.bytes)) args (λ ks t q. row_right c n b s i at [] ks t (Sound Absent) (tt, tt) args q)))
  judge_right c n b s i (Part (label.Chain at) x (Part label.More link links)) =
      links_right c n b s i at (judge_first all_faults n b s at x link) links
      (first_right c (before_link n b s x link) (judge_step all_faults n b s at (judge all_faults n b s x) link) (λ class. spelled_head all_faults x (judge_class all_faults n b s at class link))
      (judge_system all_faults n b s at link) (step_right c n b s i at (judge all_faults n b s x) link (judge_right c n b s i x))
      (λ class. head_right c x (judge_class all_faults n b s at class link) (behind_class_right c n b s i at class link)) (behind_system_right c n b s i at link))
  judge_right c n b s i (Part (label.Chain at) x NoTree) = judge_right c n b s i x
  judge_right c n b s i t = one_right (IsReady c) (broken 0 0)

  row_right : (c : Context) (n : Names) (b : Body) (s : Scope) → IsIn c n b s → (at : ℕ) (before rest : List Kind) → AllKinds c (before ++ rest) →
      (xs : Judged Term (List Fault)) → Right (AreArguments c before) xs → (args : Tree) → row_length args ≡ length rest →
      Right (AreArguments c (before ++ rest)) (judge_args all_faults n b s at (map some_kind (before ++ rest)) (length before) xs args)
  row_right c n b s i at before [] there xs p (Part label.More t more) e = absurd (omega (arith, e))
  row_right c n b s i at before (k ∷ ks) there xs p (Part label.More t more) e =
      let joined : (before ++ k ∷ []) ++ ks ≡ before ++ k ∷ ks = append_assoc before (k ∷ []) ks in
      let x : Judged Term (List Fault) = with_argument all_faults xs
      (argument all_faults n at (kind_at (map some_kind (before ++ k ∷ ks)) (length before)) (judge all_faults n b s t)) in
      let one : Right (AreArguments c (before ++ k ∷ [])) x =
      with_argument_right c n b s i at before ks k (there (length before) k (slice_there before k ks)) xs (judge all_faults n b s t) p (judge_right c n b s i t) in
      let left : row_length more ≡ length ks = omega (arith, e) in
      subst (λ (zs : List Kind). Right (AreArguments c zs) (judge_args all_faults n b s at (map some_kind zs) (suc (length before)) x more)) joined
      (subst (λ (m : ℕ). Right (AreArguments c ((before ++ k ∷ []) ++ ks)) (judge_args all_faults n b s at (map some_kind ((before ++ k ∷ []) ++ ks)) m x more))
      (sym (length_more before k))
      (row_right c n b s i at (before ++ k ∷ []) ks (subst (λ (zs : List Kind). AllKinds c zs) (sym joined) there) x one more left))
  row_right c n b s i at before [] there xs p t e = subst (λ (zs : List Kind). Right (AreArguments c zs) xs) (sym (append_none before)) p
  row_right c n b s i at before (k ∷ ks) there xs p t e = absurd (omega (arith, e))

  step_right : (c : Context) (n : Names) (b : Body) (s : Scope) → IsIn c n b s → (at : ℕ) (x : Judged Term (List Fault)) (link : Tree) → Right (IsReady c) x →
      Right (IsReady c) (judge_step all_faults n b s at x link)
  step_right c n b s i at x (Part (label.Member q id) y z) p = spelled_right c id (member_of all_faults n id x) (member_right c n b s i id x p)
  step_right c n b s i at x (Part (label.Method q id) args z) p =
      spelled_right c id _ (
      called_right c n b s i id.bytes at (row_length args) x (args_of n b s at (params_behind n id.bytes x) args) p
      (supplied c n b s at (params_behind n id.bytes x) args (λ ks t q. row_right c n b s i at [] ks t (Sound Absent) (tt, tt) args q)))
  step_right c n b s i at x (Part (label.Index q) y z) p = element_right c at (place_of y) x (judge all_faults n b s y) p (judge_right c n b s i y)
  step_right c n b s i at x (Part (label.Operand q o) y z) p =
      operated_right c i.kinds (form_of o) (forms_equate o) at (place_of y) x (judge all_faults n b s y) p (judge_right c n b s i y)
  step_right c n b s i at x t p = p

  behind_class_right : (c : Context) (n : Names) (b : Body) (s : Scope) → IsIn c n b s → (at : ℕ) (class : TypeNo) (link : Tree) →
      Right (IsReady c) (judge_class all_faults n b s at class link)
  behind_class_right c n b s i at class (Part (label.Member q id) y z) =
      spelled_right c id (class_member all_faults id.at (n.member class.0 id.bytes)) (class_right c class.0 id.at (n.member class.0 id.bytes) (i.members class.0 id.bytes))
  behind_class_right c n b s i at class (Part (label.Method q id) args z) =
      spelled_right c id _ (
      class_call_right c class.0 id.at at (row_length args) (n.method class.0 id.bytes) (args_of n b s at (params_of (n.method class.0 id.bytes)) args) (i.methods class.0 id.bytes)
      (supplied c n b s at (params_of (n.method class.0 id.bytes)) args (λ ks t q. row_right c n b s i at [] ks t (Sound Absent) (tt, tt) args q)))
  behind_class_right c n b s i at class t = one_right (IsReady c) (broken 12 at)

  behind_system_right : (c : Context) (n : Names) (b : Body) (s : Scope) → IsIn c n b s → (at : ℕ) (link : Tree) →
      Right (IsReady c) (judge_system all_faults n b s at link)
  behind_system_right c n b s i at (Part (label.Member q id) y z) = spelled_right c id (Unknown (broken 12 id.at ∷ [])) (one_right (IsReady c) (broken 12 id.at))
  behind_system_right c n b s i at (Part (label.Method q id) args z) =
      spelled_right c id _ (
      system_right c id.bytes at (row_length args) (args_of n b s at [] args)
      (supplied c n b s at [] args (λ ks t q. row_right c n b s i at [] ks t (Sound Absent) (tt, tt) args q)))
  behind_system_right c n b s i at t = one_right (IsReady c) (broken 12 at)

  links_right : (c : Context) (n : Names) (b : Body) (s : Scope) → IsIn c n b s → (at : ℕ) (x : Judged Term (List Fault)) (links : Tree) →
      Right (IsReady c) x → Right (IsReady c) (judge_links all_faults n b s at x links)
  links_right c n b s i at x NoTree p = p
  links_right c n b s i at x (Part l link links) p =
      links_right c n b s i at (judge_step all_faults n b s at x link) links (step_right c n b s i at x link p)
