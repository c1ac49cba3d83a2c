-- The code of a typed method has no bool above 2.
use Rattle.std.proofs.Common.{◌≡◌, ◌≤◌, ℕ, ℤ, Bool, true, false, if◌then◌else◌, List, [], ◌∷◌, Option, Some, None, refl, arith}
use Rattle.std.specs.Prelude.{All, IfSome, IsTrue}
use Rattle.std.proofs.lemmas.Bool.{le-leb}
use Rattle.std.proofs.lemmas.List.Elements.{All-nil, All-cons}
use mathlib.Core.Former.{Count}
use Rattle.sed_value.specs.declared.slot_type.Primitive.{Primitive}
use Rattle.sed_value.specs.declared.slot_type.Primitive.TheVariants as prim
use Rattle.sed_typed.specs.declared.kind.Kind.{Kind}
use Rattle.sed_typed.specs.declared.kind.Kind.TheVariants as kind
use Rattle.sed_typed.specs.declared.program.Method.{Method}
use Rattle.sed_typed.specs.declared.program.Program.{Program}
use Rattle.sed_typed.specs.declared.statement.Label.{Label}
use Rattle.sed_typed.specs.declared.statement.Label.TheVariants.{Case, Default}
use Rattle.sed_typed.specs.declared.statement.Stmt.{Stmt, Row_of-Stmt, end_of-Stmt, more_of-Stmt}
use Rattle.sed_typed.specs.declared.statement.Stmt.TheVariants as stmt
use Rattle.sed_typed.specs.Typed.{IsBody, IsMethod, locals_of}
use Rattle.sed_typed.specs.TypedExpr.{Context}
use Rattle.scode_ops.specs.declared.op.Op.{Op}
use Rattle.scode_ops.specs.declared.op.Op.TheVariants as op
use Rattle.scode_ops.specs.Codes.{is_spelled}
use Rattle.scode_ops.specs.Decoding.{size_of}
use Rattle.scode_entries.specs.Cases.{HasLabel, EachCase, EachCases}
use Rattle.scode_emit.specs.Code.{body_code}
use Rattle.scode_emit.specs.Instructions.{get_op, put_op, get_element_op, put_element_op, part_op, invoke_op}
use Rattle.scode_emit.specs.Site.{Site, class_of, is_virtual}
use Rattle.scode_emit.specs.Sizes.{stmt_size}
use Rattle.scode_entries.proofs.Admits.{Admits, Each, body_each}

abbrev pub Spelled : Op → Type 0
Spelled i = IsTrue (is_spelled i)

pub plain_spelled : (i : Op) → size_of i ≡ 1 → Spelled i
plain_spelled (op.Bool t) h = absurd (omega (arith, h))
plain_spelled i h = refl

get_spelled : (p : Primitive) (offset : ℕ) → Spelled (get_op p offset)
get_spelled prim.Bool offset = refl
get_spelled prim.Byte offset = refl
get_spelled prim.Short offset = refl
get_spelled prim.Int offset = refl
get_spelled prim.Long offset = refl

put_spelled : (p : Primitive) (offset : ℕ) → Spelled (put_op p offset)
put_spelled prim.Bool offset = refl
put_spelled prim.Byte offset = refl
put_spelled prim.Short offset = refl
put_spelled prim.Int offset = refl
put_spelled prim.Long offset = refl

get_at_spelled : (p : Primitive) (offset n : ℕ) → Spelled (get_element_op p offset n)
get_at_spelled prim.Bool offset n = refl
get_at_spelled prim.Byte offset n = refl
get_at_spelled prim.Short offset n = refl
get_at_spelled prim.Int offset n = refl
get_at_spelled prim.Long offset n = refl

put_at_spelled : (p : Primitive) (offset n : ℕ) → Spelled (put_element_op p offset n)
put_at_spelled prim.Bool offset n = refl
put_at_spelled prim.Byte offset n = refl
put_at_spelled prim.Short offset n = refl
put_at_spelled prim.Int offset n = refl
put_at_spelled prim.Long offset n = refl

part_spelled : (k : Kind) (offset size : ℕ) → Spelled (part_op k offset size)
part_spelled kind.Void offset size = refl
part_spelled kind.Bool offset size = refl
part_spelled kind.Int offset size = refl
part_spelled kind.Long offset size = refl
part_spelled kind.Text offset size = refl
part_spelled (kind.Object class) offset size = refl

invoke_spelled : (w : Site) (k : Kind) (m : ℕ) → Spelled (invoke_op w k m)
invoke_spelled w k m = cases (is_virtual w m)
  where
    cases : (b : Bool) → Spelled (if b then op.VirtualCall (class_of k) (w.layout.table_place (class_of k) m) else op.Call m)
    cases true = refl
    cases false = refl

admits : Context → Site → ℕ → Admits
admits c w limit = record {
  c = c;
  w = w;
  limit = limit;
  P = Spelled;
  Q = λ n. Unit {0};
  plain = plain_spelled;
  int = λ n h. refl;
  case = λ n h. refl;
  long = λ n h. refl;
  truth = λ t h. le-leb t 2 h;
  text = λ n h. refl;
  receiver = λ h. refl;
  load = λ i k h. refl;
  store = λ i k h. refl;
  load_waiting = λ p. refl;
  store_waiting = λ p. refl;
  load_index = refl;
  store_index = refl;
  jump = λ to h. refl;
  jump_false = λ to h. refl;
  jump_true = λ to h. refl;
  get = λ k i p h. get_spelled p _;
  put = λ k i p h. put_spelled p _;
  get_static = λ i p h. get_spelled p _;
  put_static = λ i p h. put_spelled p _;
  get_at = λ k i n p h. get_at_spelled p _ n;
  put_at = λ k i n p h. put_at_spelled p _ n;
  get_static_at = λ i n p h. get_at_spelled p _ n;
  put_static_at = λ i n p h. put_at_spelled p _ n;
  part = λ k i l h. part_spelled l _ _;
  static_part = λ i l h. part_spelled l _ _;
  size = λ k i h. refl;
  byte = λ k i h. refl;
  static_call = λ m k args h. refl;
  super_call = λ m k args h. refl;
  invoke = λ k m l args h. invoke_spelled w k m;
}

-- nothing is asked of cases
any_label : (labels : List Label) → All (HasLabel (λ (n : ℤ). Unit {0})) labels
any_label [] = All-nil (HasLabel (λ (n : ℤ). Unit {0}))
any_label (Case n ∷ labels) = All-cons (HasLabel (λ (n : ℤ). Unit {0})) (Case n) labels tt (any_label labels)
any_label (Default ∷ labels) = All-cons (HasLabel (λ (n : ℤ). Unit {0})) Default labels tt (any_label labels)

mutual
  any_case : (s : Stmt) → EachCase (λ (n : ℤ). Unit {0}) s
  any_case stmt.Empty = tt
  any_case (stmt.Do e) = tt
  any_case (stmt.Local k i e) = tt
  any_case (stmt.Block' shape all) = any_cases all
  any_case (stmt.If' t p a q b) = (any_case a, any_case b)
  any_case (stmt.While' t p body) = any_case body
  any_case (stmt.DoWhile' p body t) = any_case body
  any_case (stmt.For' p first t last q body) = (any_case first, any_case body)
  any_case (stmt.Switch' e labels shape all) = (any_label labels.items, any_cases all)
  any_case stmt.Break = tt
  any_case stmt.Continue = tt
  any_case (stmt.Return e) = tt

  any_cases : {n : Count} (ss : Row_of-Stmt n) → EachCases (λ (n : ℤ). Unit {0}) ss
  any_cases end_of-Stmt = tt
  any_cases (more_of-Stmt s ss) = (any_case s, any_cases ss)

pub all_each : {X : Type 0} (P : X → Type 0) (xs : List X) → Each P xs → All P xs
all_each P [] h = All-nil P
all_each P (x ∷ xs) h = All-cons P x xs h.0 (all_each P xs h.1)

by_body : (program : Program) (m : Method) (w : Site) (o : Option Stmt) → IfSome o (IsBody program m) → Each Spelled (body_code w m.result o)
unfolding admits
by_body program m w None h = tt
by_body program m w (Some body) h =
    let c : Context = record { program = program; class = m.class.0; is_static = m.is_static; locals = locals_of m; result = m.result } in
    body_each (admits c w (stmt_size w body)) (record { breaks = false; continues = false }) m.result body h.typed (any_case body) (omega arith)

pub code_spelled : (program : Program) (m : Method) (w : Site) → IsMethod program m → All Spelled (body_code w m.result m.body)
code_spelled program m w h = all_each Spelled (body_code w m.result m.body) (by_body program m w m.body h.body)
