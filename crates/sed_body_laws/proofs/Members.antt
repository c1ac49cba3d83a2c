-- What names, members and calls come to is so deep and so high.
use Rattle.std.proofs.Common.{◌≡◌, ◌≤◌, ℕ, suc, ◌+◌, max, Bool, true, false, not, IfSome, List, Option, Some, None, codes, refl, subst, arith}
use Rattle.std.specs.Str.{bytes_eq}
use Rattle.sed_units.specs.declared.label.Label.TheVariants as label
use Rattle.sed_units.specs.Tree.{Tree, Part}
use Rattle.sed_units.specs.declared.leaves.Ident.{Ident}
use Rattle.sed_units.specs.declared.leaves.Literal.{Literal}
use Rattle.sed_units.specs.declared.leaves.LiteralKind.{LiteralKind}
use Rattle.sed_units.specs.declared.leaves.LiteralKind.TheVariants as literal
use Rattle.sed_lexer.specs.declared.numbers.Number.{Number}
use Rattle.sed_lexer.specs.declared.numbers.Number.TheVariants.{Int, Long}
use Rattle.sed_typed.specs.declared.kind.Kind.{Kind}
use Rattle.sed_typed.specs.declared.kind.Kind.TheVariants as kind
use Rattle.sed_typed.specs.declared.operators.TextCall.{TextCall}
use Rattle.sed_typed.specs.declared.program.FieldForm.{FieldForm}
use Rattle.sed_typed.specs.declared.program.FieldForm.TheVariants as form
use Rattle.sed_names.specs.declared.member.Constant.{Constant}
use Rattle.sed_names.specs.declared.member.Constant.TheVariants as constant
use Rattle.sed_names.specs.declared.member.Member.{Member}
use Rattle.sed_names.specs.declared.member.Member.TheVariants as member
use Rattle.sed_names.specs.declared.signature.Signature.{Signature}
use Rattle.sed_names.specs.Names.{Names}
use Rattle.sed_names.specs.Spelled.{integer_of, character_of}
use Rattle.sed_body_rules.specs.declared.local.Local.{Local}
use Rattle.sed_body_rules.specs.Scope.{Scope, local_named}
use Rattle.sed_terms.specs.declared.judged.Judged.{Judged}
use Rattle.sed_terms.specs.declared.judged.Judged.TheVariants.{Sound, Unknown}
use Rattle.sed_terms.specs.declared.sign.Sign.TheVariants as sign
use Rattle.sed_terms.specs.declared.sort.Sort.{Sort}
use Rattle.sed_terms.specs.declared.sort.Sort.TheVariants.{Of, Buf}
use Rattle.sed_terms.specs.Faults.{Marks, IfSound, broken, after}
use Rattle.sed_terms.specs.Forms.{is_alone, bytes_of, size_of}
use Rattle.sed_terms.specs.Sorts.{sort_of}
use Rattle.sed_terms.specs.Term.{Term, Absent, Node, leaf, with_item}
use Rattle.sed_terms.specs.TermDepth.{term_depth}
use Rattle.sed_bodies.specs.declared.context.Body.{Body}
use Rattle.sed_bodies.specs.declared.context.Callee.{Callee}
use Rattle.sed_bodies.specs.Literals.{integer, character, text, literal_of, literal_judged}
use Rattle.sed_bodies.specs.Members.{known, local_of, field_term, field_of, static_term, static_of, constant_term, define_of, own_member, class_member, through, object_member, buf_member, owner_of, member_by, member_of, named_by, named, receiver, fits, spelled, spelled_head}
use Rattle.sed_bodies.specs.Calls.{argument, with_argument, callee, own_callee, static_call, invocation, super_invocation, no_method, own_call, super_called, class_call, object_call, text_callee, text_called, text_named, unknown_receiver, called_by, called, system_call}
use Rattle.sed_body_rules.specs.Conversions.{placed}
use Rattle.sed_body_laws.specs.TermHeight.{term_height, run_height}
use Rattle.sed_body_laws.proofs.Sounds.{after_sound, joined_sound, unless_sound, some_sound, any_sound, weaker, either_sound}
use Rattle.sed_body_laws.proofs.Terms.{slack, slack_most, single, alone_single, deep, deep_above, Fits, Runs, Rows, rows_are, runs_fit, fits_runs, fits_more, run_below}
use Rattle.sed_body_laws.proofs.Widths.{Goes, placed_goes}

-- what names a thing without an operand
pub record IsLeaf (t : Term) : Type 0 where
  pub depth : deep t ≡ 0
  pub height : term_height t ≤ 1
  pub alone : is_alone t ≡ true

leaf_fits : (n h : ℕ) (t : Term) → 3 ≤ h → IsLeaf t → Fits n h t
leaf_fits n h t big l =
    let s = slack_most (sort_of t) in
    let d = deep_above t in
    record {
      depth = omega (arith, d, l.depth);
      opened = omega (arith, l.depth);
      height = omega
          (arith, s, l.height, big);
      single = alone_single t l.alone;
      big = big;
    }

leaf_runs : (n h : ℕ) (t : Term) → 3 ≤ h → IsLeaf t → Runs n h t
leaf_runs n h t big l =
    let s = slack_most (sort_of t) in
    let d = deep_above t in
    let r = run_under t in
    record {
      depth = omega (arith, d, l.depth);
      opened = omega (arith, l.depth);
      run = omega
          (arith, s, l.height, big, r);
      single = alone_single t l.alone;
      big = big;
    }
  where
    run_under : (t : Term) → run_height t ≤ term_height t
    run_under t = run_below t

-- ---- literals

integer_leaf : {F : Type 0} (m : Marks F) (at : ℕ) (x : Option Number) → IfSound (integer m at x) IsLeaf
integer_leaf m at (Some (Int n)) = record { depth = refl; height = omega arith; alone = refl }
integer_leaf m at (Some (Long n)) = record { depth = refl; height = omega arith; alone = refl }
integer_leaf m at None = tt

character_leaf : {F : Type 0} (m : Marks F) (at : ℕ) (x : Option ℕ) → IfSound (character m at x) IsLeaf
character_leaf m at (Some c) = record { depth = refl; height = omega arith; alone = refl }
character_leaf m at None = tt

text_leaf : {F : Type 0} (m : Marks F) (at : ℕ) (x : Option ℕ) → IfSound (text m at x) IsLeaf
text_leaf m at (Some c) = record { depth = refl; height = omega arith; alone = refl }
text_leaf m at None = tt

literal_leaf : {F : Type 0} (m : Marks F) (n : Names) (at : ℕ) (k : LiteralKind) (bytes : List ℕ) →
    IfSound (literal_of m n at k bytes) IsLeaf
literal_leaf m n at literal.Integer bytes = integer_leaf m at (integer_of bytes)
literal_leaf m n at literal.Character bytes = character_leaf m at (character_of bytes)
literal_leaf m n at literal.Text bytes = text_leaf m at (n.text bytes)
literal_leaf m n at literal.True bytes = record { depth = refl; height = omega arith; alone = refl }
literal_leaf m n at literal.False bytes = record { depth = refl; height = omega arith; alone = refl }
literal_leaf m n at literal.Null bytes = record { depth = refl; height = omega arith; alone = refl }

pub literal_fits : {F : Type 0} (m : Marks F) (n : Names) (l : Literal) (k h : ℕ) → 3 ≤ h →
    IfSound (literal_judged m n l) (Fits k h)
literal_fits m n l k h big = weaker IsLeaf (Fits k h) (literal_judged m n l) (λ t p. leaf_fits k h t big p)
    (literal_leaf m n l.at l.kind l.bytes)

-- ---- members

known_sound : {F A B : Type 0} (m : Marks F) (P : B → Type 0) (o : Option A) (f : A → Judged B F) → ((a : A) →
    IfSound (f a) P) → IfSound (after (known m o) f) P
known_sound m P (Some a) f h = h a
known_sound m P None f h = tt

local_leaf : {F : Type 0} (m : Marks F) (l : Local) → IfSound (local_of m l) IsLeaf
local_leaf m l = known_sound m IsLeaf l.kind _ (λ k. record { depth = refl; height = omega arith; alone = refl })

field_runs : (i n h : ℕ) (x : Term) (f : FieldForm) → term_depth x ≤ n → run_height x + 2 ≤ h → 3 ≤ h →
    Runs n h (field_term i x f)
field_runs i n h x (form.Prim p) d r big = let s = slack_most (sort_of (field_term i x
    (form.Prim p))) in record {
      depth = omega (arith, d);
      opened = omega (arith, d);
      run = omega
          (arith, r, s);
      single = refl;
      big = big;
    }
field_runs i n h x (form.Str k) d r big = record {
  depth = omega (arith, d);
  opened = omega (arith, d);
  run = omega
      (arith, r);
  single = refl;
  big = big;
}
field_runs i n h x (form.Buf k) d r big = record {
  depth = omega arith;
  opened = omega (arith, d);
  run = omega
      (arith, r);
  single = refl;
  big = big;
}
field_runs i n h x (form.Array p k) d r big = record {
  depth = omega arith;
  opened = omega (arith, d);
  run = omega
      (arith, r);
  single = refl;
  big = big;
}
field_runs i n h x (form.Object class) d r big = record {
  depth = omega (arith, d);
  opened = omega
      (arith, d);
  run = omega (arith, r);
  single = refl;
  big = big;
}

field_of_runs : {F : Type 0} (m : Marks F) (o : Option FieldForm) (i n h : ℕ) (x : Term) → term_depth x ≤ n →
    run_height x + 2 ≤ h → 3 ≤ h → IfSound (field_of m o i x) (Runs n h)
field_of_runs m o i n h x d r big = known_sound m (Runs n h) o _ (λ f. field_runs i n h x f d r big)

static_term_leaf : {F : Type 0} (m : Marks F) (i : ℕ) (f : FieldForm) → IfSound (known m (static_term i f)) IsLeaf
static_term_leaf m i (form.Prim p) = record { depth = refl; height = omega arith; alone = refl }
static_term_leaf m i (form.Str k) = record { depth = refl; height = omega arith; alone = refl }
static_term_leaf m i (form.Buf k) = tt
static_term_leaf m i (form.Array p k) = record { depth = refl; height = omega arith; alone = refl }
static_term_leaf m i (form.Object class) = record { depth = refl; height = omega arith; alone = refl }

static_leaf : {F : Type 0} (m : Marks F) (o : Option FieldForm) (i : ℕ) → IfSound (static_of m o i) IsLeaf
static_leaf m o i = known_sound m IsLeaf o _ (λ f. static_term_leaf m i f)

constant_leaf : (c : Constant) → IsLeaf (constant_term c)
constant_leaf (constant.Bool t) = record { depth = refl; height = omega arith; alone = refl }
constant_leaf (constant.Int n) = record { depth = refl; height = omega arith; alone = refl }
constant_leaf (constant.Long n) = record { depth = refl; height = omega arith; alone = refl }

define_leaf : {F : Type 0} (m : Marks F) (c : Option Constant) → IfSound (define_of m c) IsLeaf
define_leaf m c = known_sound m IsLeaf c _ (λ v. constant_leaf v)

-- of what a static member is named through, or nothing
through_runs : (n h : ℕ) (x t : Term) → term_depth x ≤ n → run_height x + 2 ≤ h → deep t ≤ n → term_height t + 2 ≤ h →
    is_alone t ≡ true → 3 ≤ h → Runs n h (Node sign.After x t)
through_runs n h x t d r e s alone big =
    let q = slack_most (sort_of t) in
    let a = deep_above t in
    record {
      depth = omega (arith, d, e, a);
      opened = omega (arith, d, e);
      run = omega
          (arith, r, s, q);
      single = alone;
      big = big;
    }

through_leaf : {F : Type 0} (n h : ℕ) (x : Term) (y : Judged Term F) → term_depth x ≤ n → run_height x + 2 ≤ h →
    3 ≤ h → IfSound y IsLeaf → IfSound (through x y) (Runs n h)
through_leaf n h x y d r big l = after_sound IsLeaf (Runs n h) y _ l (λ t p. through_runs n h x t d r (omega
    (arith, p.depth)) (omega (arith, p.height, big)) p.alone big)

-- a name's own member is a field of the receiver
own_fits : {F : Type 0} (m : Marks F) (b : Body) (at : ℕ) (f : Option Member) (n : ℕ) →
    IfSound (own_member m b at f) (Fits n 4)
own_fits m b at (Some (member.Field f i)) n = either_sound (Fits n 4) b.is_static _ _ (λ _. tt)
    (λ _. weaker (Runs n 3) (Fits n 4) (field_of m f i (leaf (sign.This b.class))) (λ t p. runs_fit n 3 t p)
    (field_of_runs m f i n 3 (leaf (sign.This b.class)) (omega arith) (omega arith) (omega arith)))
own_fits m b at (Some (member.Static f i)) n = weaker IsLeaf (Fits n 4) (static_of m f i) (λ t p. leaf_fits n 4 t
    (omega arith) p) (static_leaf m f i)
own_fits m b at (Some (member.Define c)) n = weaker IsLeaf (Fits n 4) (define_of m c) (λ t p. leaf_fits n 4 t
    (omega arith) p) (define_leaf m c)
own_fits m b at (Some member.Method) n = tt
own_fits m b at None n = tt

named_by_fits : {F : Type 0} (m : Marks F) (b : Body) (at : ℕ) (l : Option Local) (f : Option Member) (n : ℕ) →
    IfSound (named_by m b at l f) (Fits n 4)
named_by_fits m b at (Some l) f n = weaker IsLeaf (Fits n 4) (local_of m l) (λ t p. leaf_fits n 4 t (omega arith) p)
    (local_leaf m l)
named_by_fits m b at None f n = own_fits m b at f n

pub named_fits : {F : Type 0} (m : Marks F) (k : Names) (b : Body) (s : Scope) (id : Ident) (n : ℕ) →
    IfSound (named m k b s id) (Fits n 4)
named_fits m k b s id n = named_by_fits m b id.at (local_named s.entries id.bytes) (k.member b.class.0 id.bytes) n

pub receiver_fits : {F : Type 0} (m : Marks F) (b : Body) (at n : ℕ) → IfSound (receiver m b at) (Fits n 4)
receiver_fits m b at n = either_sound (Fits n 4) b.is_static _ _ (λ _. tt)
    (λ _. leaf_fits n 4 (leaf (sign.This b.class)) (omega arith)
    (record { depth = refl; height = omega arith; alone = refl }))

pub class_member_runs : {F : Type 0} (m : Marks F) (at : ℕ) (f : Option Member) (n h : ℕ) → 3 ≤ h →
    IfSound (class_member m at f) (Runs n h)
class_member_runs m at (Some (member.Field f i)) n h big = tt
class_member_runs m at (Some (member.Static f i)) n h big = weaker IsLeaf (Runs n h) (static_of m f i)
    (λ t p. leaf_runs n h t big p) (static_leaf m f i)
class_member_runs m at (Some (member.Define c)) n h big = weaker IsLeaf (Runs n h) (define_of m c)
    (λ t p. leaf_runs n h t big p) (define_leaf m c)
class_member_runs m at (Some member.Method) n h big = tt
class_member_runs m at None n h big = tt

object_runs : {F : Type 0} (m : Marks F) (at n h : ℕ) (x : Term) (f : Option Member) → term_depth x ≤ n →
    run_height x + 2 ≤ h → 3 ≤ h → IfSound (object_member m at x f) (Runs n h)
object_runs m at n h x (Some (member.Field f i)) d r big = field_of_runs m f i n h x d r big
object_runs m at n h x (Some (member.Static f i)) d r big = through_leaf n h x (static_of m f i) d r big
    (static_leaf m f i)
object_runs m at n h x (Some (member.Define c)) d r big = through_leaf n h x (define_of m c) d r big (define_leaf m c)
object_runs m at n h x (Some member.Method) d r big = tt
object_runs m at n h x None d r big = tt

-- ---- a Buf

size_deep : (t : Term) → deep (size_of t) ≤ deep t
size_deep (Node (sign.Buf i) e b) = omega arith
size_deep (Node sign.After e t) = let r = size_deep t in omega (arith, r)
size_deep t = omega arith

size_alone : (t : Term) → is_alone t ≡ true → (term_height (size_of t) ≤ max (term_height t) (suc (run_height t)))
    × (is_alone (size_of t) ≡ true)
size_alone (Node (sign.Buf i) e b) h = (omega arith, refl)
size_alone (Node sign.After e t) h = absurd (let k : false ≡ true = h in cc)
size_alone t h = (omega arith, h)

size_run : (t : Term) → single t ≡ true → (run_height (size_of t) ≤ run_height t) × (single (size_of t) ≡ true)
size_run (Node (sign.Buf i) e b) h = (omega arith, refl)
size_run (Node sign.After e t) h =
    let r = size_alone t h in
    let n : suc (run_height t) ≤ suc (term_height t) = let q = run_below t in omega (arith, q) in
    (size_after e t h, r.1)
  where
    size_after : (e t : Term) → is_alone t ≡ true → run_height (Node sign.After e (size_of t)) ≤ run_height
        (Node sign.After e t)
    size_after e (Node (sign.Buf i) x b) h = omega arith
    size_after e (Node sign.After x y) h = absurd (let k : false ≡ true = h in cc)
    size_after e t h = omega arith
size_run t h = (omega arith, h)

bytes_deep : (t : Term) → deep (bytes_of t) ≤ deep t
bytes_deep (Node (sign.Buf i) e b) = omega arith
bytes_deep (Node sign.After e t) = let r = bytes_deep t in omega (arith, r)
bytes_deep t = omega arith

bytes_alone : (t : Term) → is_alone t ≡ true → is_alone (bytes_of t) ≡ true
bytes_alone (Node (sign.Buf i) e b) h = refl
bytes_alone (Node sign.After e t) h = absurd (let k : false ≡ true = h in cc)
bytes_alone t h = h

bytes_run : (t : Term) → single t ≡ true → (run_height (bytes_of t) ≤ run_height t) × (single (bytes_of t) ≡ true)
bytes_run (Node (sign.Buf i) e b) h = (omega arith, refl)
bytes_run (Node sign.After e t) h = (bytes_after e t h, bytes_alone t h)
  where
    bytes_after : (e t : Term) → is_alone t ≡ true → run_height (Node sign.After e (bytes_of t)) ≤ run_height
        (Node sign.After e t)
    bytes_after e (Node (sign.Buf i) x b) h = omega arith
    bytes_after e (Node sign.After x y) h = absurd (let k : false ≡ true = h in cc)
    bytes_after e t h = omega arith
bytes_run t h = (omega arith, h)

buf_runs : {F : Type 0} (m : Marks F) (id : Ident) (n h : ℕ) (x : Term) → deep x ≤ n → run_height x + 2 ≤ h →
    single x ≡ true → 3 ≤ h → IfSound (buf_member m id x) (Runs n h)
buf_runs m id n h x d r one big =
    either_sound (Runs n h) (bytes_eq id.bytes (codes "size")) _ _
    (λ _. let a = size_deep x in let b = size_run x one in let c = deep_above (size_of x) in let s = slack_most
    (sort_of (size_of x)) in
    record {
      depth = omega (arith, a, c, d);
      opened = omega (arith, a, d);
      run = omega
          (arith, b.0, r, s);
      single = b.1;
      big = big;
    })
    (λ _. either_sound (Runs n h) (bytes_eq id.bytes (codes "bytes")) _ _
    (λ _. let a = bytes_deep x in let b = bytes_run x one in let c = deep_above (bytes_of x) in let s = slack_most
    (sort_of (bytes_of x)) in
    record {
      depth = omega (arith, a, c, d);
      opened = omega (arith, a, d);
      run = omega
          (arith, b.0, r, s);
      single = b.1;
      big = big;
    })
    (λ _. tt))

member_by_runs : {F : Type 0} (m : Marks F) (k : Names) (id : Ident) (n h : ℕ) (x : Term) (s : Sort) → sort_of x ≡ s →
    Runs n h x → IfSound (member_by m k id (owner_of s) x) (Runs n h)
member_by_runs m k id n h x (Of (kind.Object class)) e r =
    let run : run_height x + 2 ≤ h = subst (λ z. run_height x + slack z ≤ h) e r.run in
    object_runs m id.at n h x (k.member class.0 id.bytes) r.depth run r.big
member_by_runs m k id n h x Buf e r =
    let run : run_height x + 2 ≤ h = subst (λ z. run_height x + slack z ≤ h) e r.run in
    buf_runs m id n h x r.opened run r.single r.big
member_by_runs m k id n h x s e r = tt

pub member_runs : {F : Type 0} (m : Marks F) (k : Names) (id : Ident) (n h : ℕ) (x : Judged Term F) →
    IfSound x (Runs n h) → IfSound (member_of m k id x) (Runs n h)
member_runs m k id n h x r = after_sound (Runs n h) (Runs n h) x _ r (λ t p. member_by_runs m k id n h t
    (sort_of t) refl p)

-- ---- arguments

appended_rows : (n h : ℕ) (ts t : Term) → Rows n h ts → suc (term_depth t) ≤ n → term_height t ≤ h →
    Rows n h (with_item ts t)
appended_rows n h Absent t r d l = (d, l, tt)
appended_rows n h (Node sign.More x rest) t r d l = (r.0, r.1, appended_rows n h rest t r.2 d l)
appended_rows n h ts t r d l = absurd r

pub argument_goes : {F : Type 0} (m : Marks F) (k : Names) (at : ℕ) (kind : Option Kind) (n h : ℕ)
    (x : Judged Term F) → IfSound x (Fits n h)
    → IfSound (argument m k at kind x) (λ t. (term_depth t ≤ n) × (term_height t ≤ h))
argument_goes m k at kind n h x f =
    joined_sound m (λ _. Unit {0}) (Fits n h) (λ t. (term_depth t ≤ n)
    × (term_height t ≤ h)) (known m kind) x _ (any_sound _) f
    (λ to t u p. some_sound m (λ t. (term_depth t ≤ n) × (term_height t ≤ h)) (broken 16 at) (placed k.below to t)
    (weaken (placed k.below to t) to (placed_goes k.below n h to t p)))
  where
    weaken : (o : Option Term) (to : Kind) → IfSome o (Goes n h to) →
        IfSome o (λ t. (term_depth t ≤ n) × (term_height t ≤ h))
    weaken (Some t) to g = (g.depth, omega (arith, g.height))
    weaken None to g = tt

pub with_argument_rows : {F : Type 0} (m : Marks F) (k : Names) (at : ℕ) (kind : Option Kind) (n d h : ℕ)
    (xs x : Judged Term F) → suc d ≤ n → IfSound xs (Rows n h) → IfSound x (Fits d h)
    → IfSound (with_argument m xs (argument m k at kind x)) (Rows n h)
with_argument_rows m k at kind n d h xs x nests r f =
    joined_sound m (Rows n h) (λ t. (term_depth t ≤ d) × (term_height t ≤ h)) (Rows n h) xs
    (argument m k at kind x) _ r (argument_goes m k at kind d h x f)
    (λ ts t p q. let a : term_depth t ≤ d = q.0 in appended_rows n h ts t p (omega (arith, a, nests)) q.1)

-- ---- calls

-- a static call, alone and behind an instance
static_fits : {F : Type 0} (m : Marks F) (c : Callee) (n h g : ℕ) (args : Term) → 3 + h ≤ g → Rows n h args →
    IfSound (static_call m c args) (Fits n g)
static_fits m c n h g args high r = known_sound m (Fits n g) c.result _
    (λ k. let a = rows_are n h args r in let s = slack_most (sort_of (Node (sign.Call k c.number) args Absent)) in
    record {
      depth = a.0;
      opened = a.0;
      height = omega (arith, a.1, s, high);
      single = refl;
      big = omega
          (arith, high);
    })

invocation_runs : {F : Type 0} (m : Marks F) (c : Callee) (n h g : ℕ) (x args : Term) → 3 + h ≤ g → term_depth x ≤ n →
    run_height x + 2 ≤ g → Rows n h args → IfSound (invocation m c x args) (Runs n g)
invocation_runs m c n h g x args high d l r = known_sound m (Runs n g) c.result _
    (λ k. let a = rows_are n h args r in let s = slack_most (sort_of (Node (sign.Invoke k c.number) x args)) in
    record {
      depth = omega (arith, a.0, d);
      opened = omega (arith, a.0, d);
      run = omega
          (arith, a.1, s, l, high);
      single = refl;
      big = omega (arith, high);
    })

super_fits : {F : Type 0} (m : Marks F) (c : Callee) (n h g : ℕ) (args : Term) → 3 + h ≤ g → Rows n h args →
    IfSound (super_invocation m c args) (Fits n g)
super_fits m c n h g args high r = known_sound m (Fits n g) c.result _
    (λ k. let a = rows_are n h args r in let s = slack_most (sort_of (Node (sign.Super k c.number) args Absent)) in
    record {
      depth = a.0;
      opened = a.0;
      height = omega (arith, a.1, s, high);
      single = refl;
      big = omega
          (arith, high);
    })

no_method_sound : {F : Type 0} (m : Marks F) (P : Term → Type 0) (at : ℕ) (xs : Judged Term F) →
    IfSound (no_method m at xs) P
no_method_sound m P at (Sound t) = tt
no_method_sound m P at (Unknown f) = tt

pub own_call_fits : {F : Type 0} (m : Marks F) (b : Body) (at count : ℕ) (s : Option Signature) (n h : ℕ)
    (xs : Judged Term F) → IfSound xs (Rows n h)
    → IfSound (own_call m b at count s xs) (Fits n (4 + h))
own_call_fits m b at count None n h xs r = no_method_sound m (Fits n (4 + h)) at xs
own_call_fits m b at count (Some s) n h xs r =
    joined_sound m (λ _. Unit {0}) (Rows n h) (Fits n (4 + h)) (own_callee m (not b.is_static) at at count s) xs _
    (any_sound _) r
    (λ c args u p. either_sound (Fits n (4 + h)) c.is_static _ _ (λ _. static_fits m c n h (4 + h) args (omega arith) p)
    (λ _. weaker (Runs n (3 + h)) (Fits n (4 + h)) (invocation m c (leaf (sign.This b.class)) args)
    (λ t q. fits_more n n (suc (3 + h)) (4 + h) t (omega arith) (omega arith) (runs_fit n (3 + h) t q))
    (invocation_runs m c n h (3 + h) (leaf (sign.This b.class)) args (omega arith) (omega arith) (omega arith) p)))

pub super_called_fits : {F : Type 0} (m : Marks F) (b : Body) (at count : ℕ) (s : Option Signature) (n h : ℕ)
    (xs : Judged Term F) → IfSound xs (Rows n h)
    → IfSound (super_called m b at count s xs) (Fits n (4 + h))
super_called_fits m b at count None n h xs r =
    joined_sound m (λ _. Unit {0}) (Fits n (4 + h)) (Fits n (4 + h)) (receiver m b at) (no_method m at xs) _
    (any_sound _) (no_method_sound m (Fits n (4 + h)) at xs) (λ x t u p. p)
super_called_fits m b at count (Some s) n h xs r =
    joined_sound m (λ _. Unit {0}) (Rows n h) (Fits n (4 + h)) _ xs _ (any_sound _) r
    (λ c args u p. either_sound (Fits n (4 + h)) c.is_static _ _ (λ _. static_fits m c n h (4 + h) args
    (omega arith) p) (λ _. super_fits m c n h (4 + h) args (omega arith) p))

pub class_call_runs : {F : Type 0} (m : Marks F) (id_at at count : ℕ) (s : Option Signature) (n h g : ℕ)
    (xs : Judged Term F) → 3 + h ≤ g → IfSound xs (Rows n h)
    → IfSound (class_call m id_at at count s xs) (Runs n g)
class_call_runs m id_at at count None n h g xs high r = no_method_sound m (Runs n g) at xs
class_call_runs m id_at at count (Some s) n h g xs high r =
    joined_sound m (λ _. Unit {0}) (Rows n h) (Runs n g) (own_callee m false id_at at count s) xs _ (any_sound _) r
    (λ c args u p. weaker (Fits n g) (Runs n g) (static_call m c args) (λ t q. fits_runs n g t q)
    (static_fits m c n h g args high p))

-- what a static call behind an instance is
static_behind : {F : Type 0} (m : Marks F) (c : Callee) (n h g : ℕ) (x args : Term) → 3 + h ≤ g → term_depth x ≤ n →
    run_height x + 2 ≤ g → Rows n h args
    → IfSound (through x (static_call m c args)) (Runs n g)
static_behind m c n h g x args high d l r =
    after_sound (λ t. (deep t ≤ n) × (term_height t + 2 ≤ g) × (is_alone t ≡ true)) (Runs n g) (static_call m c args) _
    (known_sound m (λ t. (deep t ≤ n) × (term_height t + 2 ≤ g) × (is_alone t ≡ true)) c.result _
    (λ k. let a = rows_are n h args r in (a.0, omega (arith, a.1, high), refl)))
    (λ t p. through_runs n g x t d l p.0 p.1 p.2 (omega (arith, high)))

object_call_runs : {F : Type 0} (m : Marks F) (at count : ℕ) (x : Term) (s : Option Signature) (n h g : ℕ)
    (xs : Judged Term F) → 3 + h ≤ g → term_depth x ≤ n → run_height x + 2 ≤ g → IfSound xs (Rows n h)
    → IfSound (object_call m at count x s xs) (Runs n g)
object_call_runs m at count x None n h g xs high d l r = no_method_sound m (Runs n g) at xs
object_call_runs m at count x (Some s) n h g xs high d l r =
    joined_sound m (λ _. Unit {0}) (Rows n h) (Runs n g) (callee m at count s) xs _ (any_sound _) r
    (λ c args u p. either_sound (Runs n g) c.is_static _ _ (λ _. static_behind m c n h g x args high d l p)
    (λ _. invocation_runs m c n h g x args high d l p))

text_called_runs : {F : Type 0} (m : Marks F) (at count : ℕ) (x : Term) (c : Option TextCall) (n h g : ℕ)
    (xs : Judged Term F) → 3 + h ≤ g → term_depth x ≤ n → run_height x + 2 ≤ g → IfSound xs (Rows n h)
    → IfSound (text_called m at count x c xs) (Runs n g)
text_called_runs m at count x None n h g xs high d l r = no_method_sound m (Runs n g) at xs
text_called_runs m at count x (Some c) n h g xs high d l r =
    joined_sound m (λ _. Unit {0}) (Rows n h) (Runs n g) (text_callee m at count c) xs _ (any_sound _) r
    (λ t args u p. let a = rows_are n h args p in let s = slack_most (sort_of (Node (sign.TextCall t) x args)) in
    record {
      depth = omega (arith, a.0, d);
      opened = omega (arith, a.0, d);
      run = omega
          (arith, a.1, s, l, high);
      single = refl;
      big = omega (arith, high);
    })

called_by_runs : {F : Type 0} (m : Marks F) (k : Names) (name : List ℕ) (at count n h g : ℕ) (x : Term) (s : Sort)
    (xs : Judged Term F) → sort_of x ≡ s → 3 + h ≤ g → Runs n g x → IfSound xs (Rows n h)
    → IfSound (called_by m k name at count (owner_of s) x xs) (Runs n g)
called_by_runs m k name at count n h g x (Of (kind.Object class)) xs e high r a =
    let run : run_height x + 2 ≤ g = subst (λ z. run_height x + slack z ≤ g) e r.run in
    object_call_runs m at count x (k.method class.0 name) n h g xs high r.depth run a
called_by_runs m k name at count n h g x (Of kind.Text) xs e high r a =
    let run : run_height x + 2 ≤ g = subst (λ z. run_height x + slack z ≤ g) e r.run in
    text_called_runs m at count x (text_named name) n h g xs high r.depth run a
called_by_runs m k name at count n h g x s xs e high r a = no_method_sound m (Runs n g) at xs

unknown_sound : {F : Type 0} (m : Marks F) (P : Term → Type 0) (f : F) (xs : Judged Term F) →
    IfSound (unknown_receiver m f xs) P
unknown_sound m P f (Sound t) = tt
unknown_sound m P f (Unknown g) = tt

pub called_runs : {F : Type 0} (m : Marks F) (k : Names) (name : List ℕ) (at count n h g : ℕ) (x xs : Judged Term F) →
    3 + h ≤ g → IfSound x (Runs n g) → IfSound xs (Rows n h)
    → IfSound (called m k name at count x xs) (Runs n g)
called_runs m k name at count n h g (Sound x) xs high r a = called_by_runs m k name at count n h g x
    (sort_of x) xs refl high r a
called_runs m k name at count n h g (Unknown f) xs high r a = unknown_sound m (Runs n g) f xs

pub system_runs : {F : Type 0} (m : Marks F) (name : List ℕ) (at count n g : ℕ) (xs : Judged Term F) → 3 ≤ g →
    IfSound (system_call m name at count xs) (Runs n g)
system_runs m name at count n g xs big =
    joined_sound m (Runs n g) (λ _. Unit {0}) (Runs n g) _ xs _
    (unless_sound m (Runs n g) _ (broken 16 at) (leaf sign.Ticks) (λ e. leaf_runs n g (leaf sign.Ticks) big
    (record { depth = refl; height = omega arith; alone = refl })))
    (any_sound xs) (λ t args p u. p)

-- ---- how names are spelled

pub spelled_sound : {F : Type 0} (m : Marks F) (P : Term → Type 0) (id : Ident) (x : Judged Term F) → IfSound x P →
    IfSound (spelled m id x) P
spelled_sound m P id x h = joined_sound {A = Bool} m (λ _. Unit {0}) P P (fits m id) x _ (any_sound (fits m id)) h
    (λ a t u p. p)

pub spelled_head_sound : {F : Type 0} (m : Marks F) (P : Term → Type 0) (head : Tree) (x : Judged Term F) →
    IfSound x P → IfSound (spelled_head m head x) P
spelled_head_sound m P (Part (label.Name id) y z) x h = spelled_sound m P id x h
spelled_head_sound m P (Part (label.Of kit id) y z) x h = spelled_sound m P kit (spelled m id x)
    (spelled_sound m P id x h)
spelled_head_sound m P t x h = h
