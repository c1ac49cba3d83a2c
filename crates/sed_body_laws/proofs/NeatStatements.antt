-- What a statement comes to is neat, and of at most six nodes for each part of its source, and one.
use Rattle.std.proofs.Common.{◌≤◌, ℕ, suc, ◌+◌, ◌*◌, Bool, List, [], Option, Some, None, option_map, refl, arith}
use Rattle.sed_units.specs.declared.label.Label.TheVariants as label
use Rattle.sed_units.specs.declared.leaves.Param.{Param}
use Rattle.sed_units.specs.declared.leaves.TypeRef.{TypeRef}
use Rattle.sed_units.specs.Tree.{Tree, Absent as NoTree, Part, row, tree_size}
use Rattle.sed_typed.specs.declared.kind.Kind.{Kind}
use Rattle.sed_typed.specs.declared.kind.Kind.TheVariants as kind
use Rattle.sed_typed.specs.declared.statement.Label.{Label}
use Rattle.sed_names.specs.Names.{Names}
use Rattle.sed_terms.specs.declared.judged.Judged.{Judged}
use Rattle.sed_terms.specs.declared.judged.Judged.TheVariants.{Sound}
use Rattle.sed_terms.specs.declared.sign.Sign.TheVariants as sign
use Rattle.sed_terms.specs.Faults.{Marks, IfSound, broken, paired}
use Rattle.sed_terms.specs.Forms.{evaluated_after, discarded, evaluating}
use Rattle.sed_terms.specs.Term.{Term, Absent, Node, leaf, optional, appended}
use Rattle.sed_body_rules.specs.Conversions.{placed, is_int}
use Rattle.sed_body_rules.specs.Scope.{Scope, past, behind, behind_case, behind_params}
use Rattle.sed_body_rules.specs.Stores.{going}
use Rattle.sed_body_rules.specs.Wants.{wants, truth}
use Rattle.sed_bodies.specs.Expressions.{judge}
use Rattle.sed_bodies.specs.Places.{place_of}
use Rattle.sed_statements.specs.declared.enclosing.Enclosing.{Enclosing}
use Rattle.sed_statements.specs.declared.leaving.Around.{Around}
use Rattle.sed_statements.specs.Declarations.{declared, begun_bare, begun}
use Rattle.sed_statements.specs.Labels.{with_case, with_label, switched}
use Rattle.sed_statements.specs.Leaving.{in_loop, in_switch, outermost}
use Rattle.sed_statements.specs.Loops.{conditional, repeated, done_while, repeated_for}
use Rattle.sed_statements.specs.Methods.{beginning, judge_params, judge_body, judge_method}
use Rattle.sed_statements.specs.Parts.{is_expression}
use Rattle.sed_statements.specs.Returns.{returned_nothing, has_result, answering, returned}
use Rattle.sed_statements.specs.Rows.{evaluated, followed, blocked}
use Rattle.sed_statements.specs.Statements.{judge_local, judge_return, judge_first_local, judge_first, judge_test, judge_last, judge_label, judge_stmt, judge_stmts, judge_case, judge_cases}
use Rattle.sed_body_laws.specs.Neat.{IsNeat, term_size}
use Rattle.sed_body_laws.proofs.Sounds.{after_sound, joined_sound, paired_sound, unless_sound, some_sound, any_sound, weaker, either_sound}
use Rattle.sed_body_laws.proofs.NeatRules.{Tidy, up, placed_tidy, wants_tidy, truth_tidy, going_tidy}
use Rattle.sed_body_laws.proofs.NeatMembers.{TidyRow, no_row, with_item_tidy}
use Rattle.sed_body_laws.proofs.NeatExpressions.{room, row_up, judged_tidy}

-- ---- an expression as a statement

discarded_tidy : (t : Term) → IsNeat t → IsNeat (discarded t) × (term_size (discarded t) ≤ term_size t)
discarded_tidy (Node sign.Nothing a b) f = (tt, omega arith)
discarded_tidy (Node (sign.Array p n i) e b) f = (f.2, omega arith)
discarded_tidy (Node (sign.StaticArray p n i) a b) f = (tt, omega arith)
discarded_tidy (Node (sign.Buf i) e b) f = (f.2, omega arith)
discarded_tidy (Node (sign.Bytes i) e b) f = (f.2, omega arith)
discarded_tidy (Node sign.After e t) f = let r = discarded_tidy t f.3 in at (discarded t) r.0 r.1
  where
    at : (u : Term) → IsNeat u → term_size u ≤ term_size t →
        IsNeat (evaluated_after e u) × (term_size (evaluated_after e u) ≤ suc (term_size e + term_size t))
    at Absent n l = (f.2, omega arith)
    at (Node s a b) n l = ((tt, tt, f.2, n), omega (arith, l))
discarded_tidy t f = (f, omega arith)

pub discarded_is : (k : ℕ) (t : Term) → Tidy k t → Tidy k (discarded t)
discarded_is k t f = let r = discarded_tidy t f.neat in record { neat = r.0; size = omega (arith, r.1, f.size) }

evaluating_tidy : (k : ℕ) (t : Term) → Tidy k t → Tidy (suc k) (evaluating t)
evaluating_tidy k Absent f = record { neat = (refl, refl, tt, tt); size = omega arith }
evaluating_tidy k (Node s a b) f = let l = f.size in record { neat = (tt, refl, f.neat, tt); size = omega (arith, l) }

evaluated_tidy : {F : Type 0} (k : ℕ) (x : Judged Term F) → IfSound x (Tidy k) → IfSound (evaluated x) (Tidy (suc k))
evaluated_tidy k x f = after_sound (Tidy k) (Tidy (suc k)) x _ f
    (λ t p. evaluating_tidy k (discarded t) (discarded_is k t p))

-- ---- locals and `return`

begun_tidy : {F : Type 0} (m : Marks F) (n : Names) (l : Judged (Kind × ℕ) F) (at k : ℕ) (x : Judged Term F) →
    IfSound x (Tidy k) → IfSound (begun m n l at x) (Tidy (2 + k))
begun_tidy m n l at k x f =
    joined_sound {A = Kind × ℕ} m (λ _. Unit {0}) (Tidy k) (Tidy (2 + k)) l x _ (any_sound l) f
    (λ p t u q. after_sound (Tidy (suc k)) (Tidy (2 + k)) (going m n.below p.0 at t) _
    (going_tidy m n.below p.0 at k t q)
    (λ v g. record { neat = (tt, refl, g.neat, tt); size = omega (arith, g.size) }))

bare_tidy : {F : Type 0} (k : ℕ) (l : Judged (Kind × ℕ) F) → IfSound (begun_bare l) (Tidy (2 + k))
bare_tidy k l = after_sound {A = Kind × ℕ} (λ _. Unit {0}) (Tidy (2 + k)) l _ (any_sound l)
    (λ p u. record { neat = (tt, refl, tt, tt); size = omega arith })

local_tidy : {F : Type 0} (m : Marks F) (n : Names) (c : Enclosing) (s : Scope) (at : ℕ) (type : TypeRef)
    (name : List ℕ) (value : Tree) → IfSound (judge_local m n c s at type name value) (Tidy (2 + room value))
local_tidy m n c s at type name value =
    either_sound (Tidy (2 + room value)) (is_expression value) _ _
    (λ _. begun_tidy m n (declared m n s at type name) (place_of value) (room value) (judge m n c.body s value)
    (judged_tidy m n c.body s value))
    (λ _. bare_tidy (room value) (declared m n s at type name))

nothing_tidy : {F : Type 0} (m : Marks F) (r : Option Kind) (at k : ℕ) →
    IfSound (returned_nothing m r at) (Tidy (2 + k))
nothing_tidy m (Some kind.Void) at k = record { neat = (tt, refl, tt, tt); size = omega arith }
nothing_tidy m (Some r) at k = tt
nothing_tidy m None at k = tt

returned_tidy : {F : Type 0} (m : Marks F) (n : Names) (r : Option Kind) (at k : ℕ) (x : Judged Term F) →
    IfSound x (Tidy k) → IfSound (returned m n r at x) (Tidy (2 + k))
returned_tidy m n r at k x f =
    joined_sound m (λ _. Unit {0}) (Tidy k) (Tidy (2 + k)) (has_result m r at) x _ (any_sound _) f
    (λ to t u q. after_sound (Tidy (suc k)) (Tidy (2 + k)) (answering m n to at t) _
    (some_sound m (Tidy (suc k)) (broken 19 at) (placed n.below to t) (placed_tidy n.below to k t q))
    (λ v g. record { neat = (tt, refl, g.neat, tt); size = omega (arith, g.size) }))

return_tidy : {F : Type 0} (m : Marks F) (n : Names) (c : Enclosing) (s : Scope) (at : ℕ) (value : Tree) →
    IfSound (judge_return m n c s at value) (Tidy (2 + room value))
return_tidy m n c s at value =
    either_sound (Tidy (2 + room value)) (is_expression value) _ _
    (λ _. returned_tidy m n c.result (place_of value) (room value) (judge m n c.body s value)
    (judged_tidy m n c.body s value))
    (λ _. nothing_tidy m c.result at (room value))

-- ---- rows

followed_tidy : {F : Type 0} (m : Marks F) (k l : ℕ) (xs x : Judged Term F) → IfSound xs (TidyRow k) →
    IfSound x (Tidy l) → IfSound (followed m xs x) (TidyRow (suc (k + l)))
followed_tidy m k l xs x r f =
    joined_sound m (TidyRow k) (Tidy l) (TidyRow (suc (k + l))) xs x _ r f (λ ts t p q. with_item_tidy k l ts t p q)

block_tidy : {F : Type 0} (k : ℕ) (xs : Judged Term F) → IfSound xs (TidyRow k) → IfSound (blocked xs) (Tidy (suc k))
block_tidy k xs r = after_sound (TidyRow k) (Tidy (suc k)) xs _ r
    (λ ts p. record { neat = (tt, refl, p.neat, tt); size = omega (arith, p.size) })

-- labels, each with the block behind it
abbrev AreCases : Term → Type 0
AreCases Absent = Unit {0}
AreCases (Node (sign.Label l) block rest) = AreCases rest
AreCases t = ⊥

pub record TidyCases (k : ℕ) (t : Term) : Type 0 where
  pub neat : IsNeat t
  pub size : term_size t ≤ k
  pub cases : AreCases t

case_put : (l : Label) (ts all : Term) → IsNeat ts → IsNeat all → AreCases ts →
    IsNeat (appended ts (Node (sign.Label l) (Node sign.Block all Absent) Absent))
    × (term_size (appended ts (Node (sign.Label l) (Node sign.Block all Absent) Absent))
    ≤ 2 + (term_size ts + term_size all))
    × AreCases (appended ts (Node (sign.Label l) (Node sign.Block all Absent) Absent))
case_put l Absent all f g c = ((tt, tt, (tt, refl, g, tt), tt), omega arith, tt)
case_put l (Node (sign.Label j) block rest) all f g c =
    let q = case_put l rest all f.3 g c in ((tt, tt, f.2, q.0), omega (arith, q.1), q.2)
case_put l ts all f g c = absurd c

with_case_tidy : {F : Type 0} (m : Marks F) (k j : ℕ) (xs : Judged Term F) (l : Judged Label F) (all : Judged Term F) →
    IfSound xs (TidyCases k) → IfSound all (TidyRow j) → IfSound (with_case m xs l all) (TidyCases (2 + (k + j)))
with_case_tidy m k j xs l all r f =
    joined_sound {B = Label × Term} m (TidyCases k) (λ (p : Label × Term). Unit {0} × TidyRow j p.1)
    (TidyCases (2 + (k + j))) xs (paired m l all) _ r
    (paired_sound m (λ _. Unit {0}) (TidyRow j) l all (any_sound l) f)
    (λ ts p a b.
    let row : TidyRow j p.1 = b.1 in
    let q = case_put p.0 ts p.1 a.neat row.neat a.cases in
    record { neat = q.0; size = omega (arith, q.1, a.size, row.size); cases = q.2 })

cases_up : {F : Type 0} (k l : ℕ) (x : Judged Term F) → k ≤ l → IfSound x (TidyCases k) → IfSound x (TidyCases l)
cases_up k l x p f = weaker (TidyCases k) (TidyCases l) x
    (λ t g. record { neat = g.neat; size = omega (arith, g.size, p); cases = g.cases }) f

-- ---- the forms, by their parts

conditional_tidy : {F : Type 0} (m : Marks F) (at j k l : ℕ) (t x y : Judged Term F) → IfSound t (Tidy j) →
    IfSound x (Tidy k) → IfSound y (Tidy l) → IfSound (conditional m at t x y) (Tidy (3 + (j + (k + l))))
conditional_tidy m at j k l t x y f g h =
    joined_sound {B = Term × Term} m (Tidy (suc j)) (λ (p : Term × Term). Tidy k p.0 × Tidy l p.1)
    (Tidy (3 + (j + (k + l)))) (truth m at t) (paired m x y) _ (truth_tidy m at j t f)
    (paired_sound m (Tidy k) (Tidy l) x y g h)
    (λ c p q r.
    let u : Tidy k p.0 = r.0 in
    let v : Tidy l p.1 = r.1 in
    record { neat = (tt, tt, q.neat, (tt, tt, u.neat, v.neat)); size = omega (arith, q.size, u.size, v.size) })

repeated_tidy : {F : Type 0} (m : Marks F) (at j k : ℕ) (t x : Judged Term F) → IfSound t (Tidy j) →
    IfSound x (Tidy k) → IfSound (repeated m at t x) (Tidy (2 + (j + k)))
repeated_tidy m at j k t x f g =
    joined_sound m (Tidy (suc j)) (Tidy k) (Tidy (2 + (j + k))) (truth m at t) x _ (truth_tidy m at j t f) g
    (λ c u p q. record { neat = (tt, tt, p.neat, q.neat); size = omega (arith, p.size, q.size) })

done_while_tidy : {F : Type 0} (m : Marks F) (at j k : ℕ) (x t : Judged Term F) → IfSound x (Tidy j) →
    IfSound t (Tidy k) → IfSound (done_while m x at t) (Tidy (2 + (j + k)))
done_while_tidy m at j k x t f g =
    joined_sound m (Tidy j) (Tidy (suc k)) (Tidy (2 + (j + k))) x (truth m at t) _ f (truth_tidy m at k t g)
    (λ u c p q. record { neat = (tt, tt, p.neat, q.neat); size = omega (arith, p.size, q.size) })

-- a part that may be missing, and one whose value is not used
abbrev Perhaps : ℕ → Option Term → Type 0
Perhaps k o = Tidy k (optional o)

abbrev Dropped : ℕ → Option Term → Type 0
Dropped k o = Tidy k (optional (option_map discarded o))

test_tidy : {F : Type 0} (m : Marks F) (n : Names) (c : Enclosing) (s : Scope) (t : Tree) →
    IfSound (judge_test m n c s t) (Perhaps (suc (room t)))
test_tidy m n c s t =
    either_sound (Perhaps (suc (room t))) (is_expression t) _ _
    (λ _. after_sound (Tidy (suc (room t))) (Perhaps (suc (room t))) (truth m (place_of t) (judge m n c.body s t)) _
    (truth_tidy m (place_of t) (room t) (judge m n c.body s t) (judged_tidy m n c.body s t)) (λ u p. p))
    (λ _. record { neat = tt; size = omega arith })

last_tidy : {F : Type 0} (m : Marks F) (n : Names) (c : Enclosing) (s : Scope) (t : Tree) →
    IfSound (judge_last m n c s t) (Dropped (room t))
last_tidy m n c s t =
    either_sound (Dropped (room t)) (is_expression t) _ _
    (λ _. after_sound (Tidy (room t)) (Dropped (room t)) (judge m n c.body s t) _ (judged_tidy m n c.body s t)
    (λ u p. discarded_is (room t) u p))
    (λ _. record { neat = tt; size = omega arith })

first_local_tidy : {F : Type 0} (m : Marks F) (n : Names) (c : Enclosing) (s : Scope) (t : Tree) →
    IfSound (judge_first_local m n c s t) (Tidy (suc (room t)))
first_local_tidy m n c s (Part (label.Local at type name) value y) =
    up (2 + room value) (suc (6 * (tree_size value + tree_size y + 1))) _ (omega arith)
    (local_tidy m n c s at type name.bytes value)
first_local_tidy m n c s NoTree = record { neat = (refl, refl, tt, tt); size = omega arith }
first_local_tidy m n c s t = tt

first_tidy : {F : Type 0} (m : Marks F) (n : Names) (c : Enclosing) (s : Scope) (t : Tree) →
    IfSound (judge_first m n c s t) (Tidy (suc (room t)))
first_tidy m n c s t =
    either_sound (Tidy (suc (room t))) (is_expression t) _ _
    (λ _. evaluated_tidy (room t) (judge m n c.body s t) (judged_tidy m n c.body s t))
    (λ _. first_local_tidy m n c s t)

for_tidy : {F : Type 0} (m : Marks F) (i j k l : ℕ) (first : Judged Term F) (test last : Judged (Option Term) F)
    (x : Judged Term F) → IfSound first (Tidy i) → IfSound test (Perhaps j) → IfSound last (Dropped k) →
    IfSound x (Tidy l) → IfSound (repeated_for m first test last x) (Tidy (3 + (i + (j + k) + l)))
for_tidy m i j k l first test last x a b c d =
    joined_sound {A = Term × (Option Term × Option Term)} m (λ (p : Term × (Option Term × Option Term)). Tidy i p.0
    × (Perhaps j p.1.0 × Dropped k p.1.1)) (Tidy l) (Tidy (3 + (i + (j + k) + l))) _ x _
    (paired_sound {B = Option Term × Option Term} m (Tidy i) (λ (p : Option Term × Option Term). Perhaps j p.0
    × Dropped k p.1) first _ a
    (paired_sound m (Perhaps j) (Dropped k) test last b c)) d
    (λ p u q r.
    let f : Tidy i p.0 = q.0 in
    let t : Tidy j (optional p.1.0) = q.1.0 in
    let z : Tidy k (optional (option_map discarded p.1.1)) = q.1.1 in
    record {
      neat = (tt, tt, (tt, tt, f.neat, (tt, tt, t.neat, z.neat)), r.neat);
      size = omega (arith, f.size, t.size, z.size, r.size);
    })

switched_tidy : {F : Type 0} (m : Marks F) (at k l : ℕ) (x cases : Judged Term F) → IfSound x (Tidy k) →
    IfSound cases (TidyCases l) → IfSound (switched m at x cases) (Tidy (suc (k + l)))
switched_tidy m at k l x cases f r =
    joined_sound m (Tidy k) (TidyCases l) (Tidy (suc (k + l))) (wants m is_int at x) cases _
    (wants_tidy m is_int at k x f) r
    (λ v cs p q. record { neat = (tt, tt, p.neat, q.neat); size = omega (arith, p.size, q.size) })

empty_tidy : (k : ℕ) → Tidy (suc k) (leaf sign.Empty)
empty_tidy k = record { neat = (refl, refl, tt, tt); size = omega arith }

-- ---- all statements

mutual
  judged_stmt : {F : Type 0} (m : Marks F) (n : Names) (c : Enclosing) (around : Around) (s : Scope) (t : Tree) →
      IfSound (judge_stmt m n c around s t) (Tidy (suc (room t)))
  judged_stmt m n c around s NoTree = empty_tidy (6 * 0)
  judged_stmt m n c around s (Part (label.Empty at) x y) = empty_tidy (6 * (tree_size x + tree_size y + 1))
  judged_stmt m n c around s (Part (label.Evaluate at) e y) =
      up (suc (room e)) (suc (6 * (tree_size e + tree_size y + 1))) _ (omega arith)
      (evaluated_tidy (room e) (judge m n c.body s e) (judged_tidy m n c.body s e))
  judged_stmt m n c around s (Part (label.Local at type name) value y) =
      up (2 + room value) (suc (6 * (tree_size value + tree_size y + 1))) _ (omega arith)
      (local_tidy m n c s at type name.bytes value)
  judged_stmt m n c around s (Part (label.Block at) all y) =
      up (suc (0 + room all)) (suc (6 * (tree_size all + tree_size y + 1))) _ (omega arith)
      (block_tidy (0 + room all) (judge_stmts m n c around s (Sound Absent) all)
      (judged_row m n c around s (Sound Absent) all 0 (no_row 0)))
  judged_stmt m n c around s (Part (label.If at) t (Part label.Both x y)) =
      up (3 + (room t + (suc (room x) + suc (room y))))
      (suc (6 * (tree_size t + (tree_size x + tree_size y + 1) + 1))) _ (omega arith)
      (conditional_tidy m (place_of t) (room t) (suc (room x)) (suc (room y)) (judge m n c.body s t)
      (judge_stmt m n c around s x) (judge_stmt m n c around (past s x) y) (judged_tidy m n c.body s t)
      (judged_stmt m n c around s x) (judged_stmt m n c around (past s x) y))
  judged_stmt m n c around s (Part (label.While at) t x) =
      up (2 + (room t + suc (room x))) (suc (6 * (tree_size t + tree_size x + 1))) _ (omega arith)
      (repeated_tidy m (place_of t) (room t) (suc (room x)) (judge m n c.body s t) (judge_stmt m n c in_loop s x)
      (judged_tidy m n c.body s t) (judged_stmt m n c in_loop s x))
  judged_stmt m n c around s (Part (label.Do at) x t) =
      up (2 + (suc (room x) + room t)) (suc (6 * (tree_size x + tree_size t + 1))) _ (omega arith)
      (done_while_tidy m (place_of t) (suc (room x)) (room t) (judge_stmt m n c in_loop s x)
      (judge m n c.body (past s x) t) (judged_stmt m n c in_loop s x) (judged_tidy m n c.body (past s x) t))
  judged_stmt m n c around s (Part (label.For at) (Part label.Both first t) (Part label.Both last x)) =
      up (3 + (suc (room first) + (suc (room t) + room last) + suc (room x)))
      (suc (6 * ((tree_size first + tree_size t + 1) + (tree_size last + tree_size x + 1) + 1))) _ (omega arith)
      (for_tidy m (suc (room first)) (suc (room t)) (room last) (suc (room x)) (judge_first m n c s first)
      (judge_test m n c (behind n s first) t) (judge_last m n c (behind n s first) last)
      (judge_stmt m n c in_loop (behind n s first) x) (first_tidy m n c s first)
      (test_tidy m n c (behind n s first) t) (last_tidy m n c (behind n s first) last)
      (judged_stmt m n c in_loop (behind n s first) x))
  judged_stmt m n c around s (Part (label.Switch at) e cases) =
      up (suc (room e + (0 + room cases))) (suc (6 * (tree_size e + tree_size cases + 1))) _ (omega arith)
      (switched_tidy m (place_of e) (room e) (0 + room cases) (judge m n c.body s e)
      (judge_cases m n c (in_switch around) s [] (Sound Absent) cases) (judged_tidy m n c.body s e)
      (judged_cases m n c (in_switch around) s [] (Sound Absent) cases 0
      (record { neat = tt; size = omega arith; cases = tt })))
  judged_stmt m n c around s (Part (label.Break at) x y) =
      unless_sound m (Tidy (suc (6 * (tree_size x + tree_size y + 1)))) around.breaks (broken 18 at) (leaf sign.Break)
      (λ _. record { neat = (refl, refl, tt, tt); size = omega arith })
  judged_stmt m n c around s (Part (label.Continue at) x y) =
      unless_sound m (Tidy (suc (6 * (tree_size x + tree_size y + 1)))) around.continues (broken 18 at)
      (leaf sign.Continue) (λ _. record { neat = (refl, refl, tt, tt); size = omega arith })
  judged_stmt m n c around s (Part (label.Return at) value y) =
      up (2 + room value) (suc (6 * (tree_size value + tree_size y + 1))) _ (omega arith)
      (return_tidy m n c s at value)
  judged_stmt m n c around s t = tt

  judged_row : {F : Type 0} (m : Marks F) (n : Names) (c : Enclosing) (around : Around) (s : Scope)
      (xs : Judged Term F) (t : Tree) (k : ℕ) → IfSound xs (TidyRow k) →
      IfSound (judge_stmts m n c around s xs t) (TidyRow (k + room t))
  judged_row m n c around s xs (Part label.More t rest) k r =
      row_up (suc (k + suc (room t)) + room rest) (k + 6 * (tree_size t + tree_size rest + 1)) _ (omega arith)
      (judged_row m n c around (behind n s t) (followed m xs (judge_stmt m n c around s t)) rest
      (suc (k + suc (room t)))
      (followed_tidy m k (suc (room t)) xs (judge_stmt m n c around s t) r (judged_stmt m n c around s t)))
  judged_row m n c around s xs NoTree k r = row_up k (k + 6 * 0) xs (omega arith) r
  judged_row m n c around s xs t k r = tt

  judged_case : {F : Type 0} (m : Marks F) (n : Names) (c : Enclosing) (around : Around) (s : Scope)
      (labels : List Label) (xs : Judged Term F) (t : Tree) (k : ℕ) → IfSound xs (TidyCases k) →
      IfSound (judge_case m n c around s labels xs t) (TidyCases (k + room t))
  judged_case m n c around s labels xs (Part (label.Case at) e all) k r =
      cases_up (2 + (k + (0 + room all))) (k + 6 * (tree_size e + tree_size all + 1)) _ (omega arith)
      (with_case_tidy m k (0 + room all) xs (judge_label m n c s labels (Part (label.Case at) e all))
      (judge_stmts m n c around s (Sound Absent) all) r (judged_row m n c around s (Sound Absent) all 0 (no_row 0)))
  judged_case m n c around s labels xs (Part (label.Default at) all y) k r =
      cases_up (2 + (k + (0 + room all))) (k + 6 * (tree_size all + tree_size y + 1)) _ (omega arith)
      (with_case_tidy m k (0 + room all) xs (judge_label m n c s labels (Part (label.Default at) all y))
      (judge_stmts m n c around s (Sound Absent) all) r (judged_row m n c around s (Sound Absent) all 0 (no_row 0)))
  judged_case m n c around s labels xs t k r = tt

  judged_cases : {F : Type 0} (m : Marks F) (n : Names) (c : Enclosing) (around : Around) (s : Scope)
      (labels : List Label) (xs : Judged Term F) (t : Tree) (k : ℕ) → IfSound xs (TidyCases k) →
      IfSound (judge_cases m n c around s labels xs t) (TidyCases (k + room t))
  judged_cases m n c around s labels xs (Part label.More t rest) k r =
      cases_up (k + room t + room rest) (k + 6 * (tree_size t + tree_size rest + 1)) _ (omega arith)
      (judged_cases m n c around (behind_case n s t) (with_label labels (judge_label m n c s labels t))
      (judge_case m n c around s labels xs t) rest (k + room t) (judged_case m n c around s labels xs t k r))
  judged_cases m n c around s labels xs NoTree k r = cases_up k (k + 6 * 0) xs (omega arith) r
  judged_cases m n c around s labels xs t k r = tt

-- ---- a method's body

body_tidy : {F : Type 0} (m : Marks F) (n : Names) (c : Enclosing) (s : Scope) (all : List Tree) →
    IfSound (judge_body m n c s all) (Tidy (6 * tree_size (row all) + 1))
body_tidy m n c s all =
    up (suc (0 + room (row all))) (6 * tree_size (row all) + 1) _ (omega arith)
    (block_tidy (0 + room (row all)) (judge_stmts m n c outermost s (Sound Absent) (row all))
    (judged_row m n c outermost s (Sound Absent) (row all) 0 (no_row 0)))

pub method_tidy : {F : Type 0} (m : Marks F) (n : Names) (c : Enclosing) (ps : List Param) (all : List Tree) →
    IfSound (judge_method m n c ps all) (Tidy (6 * tree_size (row all) + 1))
method_tidy m n c ps all =
    joined_sound {A = Bool} m (λ _. Unit {0}) (Tidy (6 * tree_size (row all) + 1)) (Tidy (6 * tree_size (row all) + 1))
    (judge_params m n c ps) (judge_body m n c (behind_params n (beginning c) ps) all) _
    (any_sound (judge_params m n c ps)) (body_tidy m n c (behind_params n (beginning c) ps) all) (λ a t u p. p)

pub method_neat : {F : Type 0} (m : Marks F) (n : Names) (c : Enclosing) (ps : List Param) (all : List Tree) →
    IfSound (judge_method m n c ps all) IsNeat
method_neat m n c ps all = weaker (Tidy (6 * tree_size (row all) + 1)) IsNeat (judge_method m n c ps all)
    (λ t p. p.neat) (method_tidy m n c ps all)

pub method_size : {F : Type 0} (m : Marks F) (n : Names) (c : Enclosing) (ps : List Param) (all : List Tree) →
    IfSound (judge_method m n c ps all) (λ t. term_size t ≤ 6 * tree_size (row all) + 1)
method_size m n c ps all =
    weaker (Tidy (6 * tree_size (row all) + 1)) (λ t. term_size t ≤ 6 * tree_size (row all) + 1)
    (judge_method m n c ps all) (λ t p. p.size) (method_tidy m n c ps all)
