-- The least of all faults of a statement is what the judgement with the least fault finds. `Expressions` is that law of
-- expressions.
use Rattle.std.proofs.Common.{◌≡◌, ℕ, Bool, true, false, if◌then◌else◌, List, [], Option, None, refl, ap, ◌∙◌}
use Rattle.sed_units.specs.Tree.{Tree, Absent as NoTree, Part, row}
use Rattle.sed_units.specs.declared.label.Label.TheVariants as label
use Rattle.sed_units.specs.declared.leaves.Param.{Param}
use Rattle.sed_units.specs.declared.leaves.TypeRef.{TypeRef}
use Rattle.sed_typed.specs.declared.statement.Label.{Label}
use Rattle.sed_names.specs.Names.{Names}
use Rattle.sed_faults.specs.declared.fault.Fault.{Fault}
use Rattle.sed_terms.specs.declared.judged.Judged.{Judged}
use Rattle.sed_terms.specs.declared.judged.Judged.TheVariants.{Sound}
use Rattle.sed_terms.specs.Faults.{all_faults, least_fault, told}
use Rattle.sed_terms.specs.Term.{Term, Absent}
use Rattle.sed_bodies.specs.declared.context.Body.{Body}
use Rattle.sed_body_rules.specs.Scope.{Scope, past, behind, behind_case, behind_params}
use Rattle.sed_bodies.specs.Expressions.{judge}
use Rattle.sed_bodies.specs.Places.{place_of}
use Rattle.sed_statements.specs.declared.leaving.Around.{Around}
use Rattle.sed_statements.specs.Declarations.{declared, begun_bare, begun}
use Rattle.sed_statements.specs.Labels.{case_of, with_label, with_case, switched}
use Rattle.sed_statements.specs.Leaving.{in_loop, in_switch, outermost}
use Rattle.sed_statements.specs.Loops.{conditional, repeated, done_while, test_of, last_of, repeated_for}
use Rattle.sed_statements.specs.Returns.{returned_nothing, returned}
use Rattle.sed_statements.specs.Rows.{evaluated, followed, blocked}
use Rattle.sed_statements.specs.declared.enclosing.Enclosing.{Enclosing}
use Rattle.sed_statements.specs.Cases.{case_int}
use Rattle.sed_statements.specs.Methods.{beginning, judge_params, judge_body, judge_method}
use Rattle.sed_statements.specs.Parts.{is_expression}
use Rattle.sed_statements.specs.Statements.{judge_local, judge_return, judge_first_local, judge_first, judge_test, judge_last, judge_label, judge_stmt, judge_stmts, judge_case, judge_cases}
use Rattle.sed_statements.proofs.FormsTold.{All, evaluated_told, followed_told, blocked_told, declared_told, begun_bare_told, begun_told, free_names_told, broken_off_told, continued_told, returned_nothing_told, returned_told, conditional_told, repeated_told, done_while_told, test_told, last_told, repeated_for_told, case_told, default_told, labels_told, with_case_told, switched_told}
use Rattle.sed_statements.proofs.Told.{Both, joined_told}

abbrev pub Expressions : Type 0
Expressions = (n : Names) (b : Body) (s : Scope) (t : Tree) →
    told (judge all_faults n b s t) ≡ judge least_fault n b s t

abbrev One : Type 0
One = Judged Term (Option Fault)

-- a rule of two or three parts, at parts that are equal
two : {A B X : Type 0} (f : A → B → X) {x u : A} {y v : B} → x ≡ u → y ≡ v → f x y ≡ f u v
two f {x} {u} {y} {v} p q = ap (λ z. f z y) p ∙ ap (λ z. f u z) q

three : {A B C X : Type 0} (f : A → B → C → X) {x u : A} {y v : B} {z w : C} → x ≡ u → y ≡ v → z ≡ w → f x y z ≡ f u v w
three f {x} {u} {y} {v} {z} {w} p q r = ap (λ a. f a y z) p ∙ ap (λ b. f u b z) q ∙ ap (λ c. f u v c) r

four : {A B C D X : Type 0} (f : A → B → C → D → X) {x u : A} {y v : B} {z w : C} {p q : D} → x ≡ u → y ≡ v → z ≡ w →
    p ≡ q → f x y z p ≡ f u v w q
four f {x} {u} {y} {v} {z} {w} {p} {q} a b c d = ap (λ k. f k y z p) a ∙ ap (λ k. f u k z p) b ∙ ap (λ k. f u v k p) c
    ∙ ap (λ k. f u v w k) d

local_told : Both → Expressions → (n : Names) (c : Enclosing) (s : Scope) (at : ℕ) (type : TypeRef) (name : List ℕ)
    (value : Tree) →
    told (judge_local all_faults n c s at type name value) ≡ judge_local least_fault n c s at type name value
local_told both es n c s at type name value = by_test (is_expression value)
  where
    by_test : (there : Bool) →
        told (if there then begun all_faults n (declared all_faults n s at type name) (place_of value)
        (judge all_faults n c.body s value) else begun_bare (declared all_faults n s at type name))
        ≡ (if there then begun least_fault n (declared least_fault n s at type name) (place_of value)
        (judge least_fault n c.body s value) else begun_bare (declared least_fault n s at type name))
    by_test true =
        begun_told both n (declared all_faults n s at type name) (place_of value) (judge all_faults n c.body s value)
        ∙ two (λ l x. begun least_fault n l (place_of value) x) (declared_told both n s at type name)
        (es n c.body s value)
    by_test false = begun_bare_told (declared all_faults n s at type name)
        ∙ ap begun_bare (declared_told both n s at type name)

return_told : Both → Expressions → (n : Names) (c : Enclosing) (s : Scope) (at : ℕ) (value : Tree) →
    told (judge_return all_faults n c s at value) ≡ judge_return least_fault n c s at value
return_told both es n c s at value = by_test (is_expression value)
  where
    by_test : (there : Bool) →
        told (if there then returned all_faults n c.result (place_of value) (judge all_faults n c.body s value)
        else returned_nothing all_faults c.result at)
        ≡ (if there then returned least_fault n c.result (place_of value) (judge least_fault n c.body s value)
        else returned_nothing least_fault c.result at)
    by_test true =
        returned_told both n c.result (place_of value) (judge all_faults n c.body s value)
        ∙ ap (returned least_fault n c.result (place_of value)) (es n c.body s value)
    by_test false = returned_nothing_told c.result at

first_local_told : Both → Expressions → (n : Names) (c : Enclosing) (s : Scope) (t : Tree) →
    told (judge_first_local all_faults n c s t) ≡ judge_first_local least_fault n c s t
first_local_told both es n c s (Part (label.Local at type name) value y) =
    local_told both es n c s at type name.bytes value
first_local_told both es n c s t = refl

first_told : Both → Expressions → (n : Names) (c : Enclosing) (s : Scope) (t : Tree) →
    told (judge_first all_faults n c s t) ≡ judge_first least_fault n c s t
first_told both es n c s t = by_test (is_expression t)
  where
    by_test : (there : Bool) →
        told (if there then evaluated (judge all_faults n c.body s t) else judge_first_local all_faults n c s t)
        ≡ (if there then evaluated (judge least_fault n c.body s t) else judge_first_local least_fault n c s t)
    by_test true = evaluated_told (judge all_faults n c.body s t) ∙ ap evaluated (es n c.body s t)
    by_test false = first_local_told both es n c s t

test_part_told : Expressions → (n : Names) (c : Enclosing) (s : Scope) (t : Tree) →
    told (judge_test all_faults n c s t) ≡ judge_test least_fault n c s t
test_part_told es n c s t = by_test (is_expression t)
  where
    by_test : (there : Bool) →
        told (if there then test_of all_faults (place_of t) (judge all_faults n c.body s t) else Sound None)
        ≡ (if there then test_of least_fault (place_of t) (judge least_fault n c.body s t) else Sound None)
    by_test true = test_told (place_of t) (judge all_faults n c.body s t)
        ∙ ap (test_of least_fault (place_of t)) (es n c.body s t)
    by_test false = refl

last_part_told : Expressions → (n : Names) (c : Enclosing) (s : Scope) (t : Tree) →
    told (judge_last all_faults n c s t) ≡ judge_last least_fault n c s t
last_part_told es n c s t = by_test (is_expression t)
  where
    by_test : (there : Bool) →
        told (if there then last_of (judge all_faults n c.body s t) else Sound None)
        ≡ (if there then last_of (judge least_fault n c.body s t) else Sound None)
    by_test true = last_told (judge all_faults n c.body s t) ∙ ap last_of (es n c.body s t)
    by_test false = refl

label_told : Expressions → (n : Names) (c : Enclosing) (s : Scope) (labels : List Label) (t : Tree) →
    told (judge_label all_faults n c s labels t) ≡ judge_label least_fault n c s labels t
label_told es n c s labels (Part (label.Case at) e all) =
    case_told labels (place_of e) (case_int n c.body s e) (judge all_faults n c.body s e)
    ∙ ap (case_of least_fault labels (place_of e) (case_int n c.body s e)) (es n c.body s e)
label_told es n c s labels (Part (label.Default at) all y) = default_told labels at
label_told es n c s labels t = refl

mutual
  pub stmt_told : Both → Expressions → (n : Names) (c : Enclosing) (around : Around) (s : Scope) (t : Tree) →
      told (judge_stmt all_faults n c around s t) ≡ judge_stmt least_fault n c around s t
  stmt_told both es n c around s NoTree = refl
  stmt_told both es n c around s (Part (label.Empty at) x y) = refl
  stmt_told both es n c around s (Part (label.Evaluate at) e y) = evaluated_told (judge all_faults n c.body s e)
      ∙ ap evaluated (es n c.body s e)
  stmt_told both es n c around s (Part (label.Local at type name) value y) =
      local_told both es n c s at type name.bytes value
  stmt_told both es n c around s (Part (label.Block at) all y) =
      blocked_told (judge_stmts all_faults n c around s (Sound Absent) all)
      ∙ ap blocked (stmts_told both es n c around s (Sound Absent) all)
  stmt_told both es n c around s (Part (label.If at) t (Part label.Both x y)) =
      conditional_told both (place_of t) (judge all_faults n c.body s t) (judge_stmt all_faults n c around s x)
      (judge_stmt all_faults n c around (past s x) y)
      ∙ three (conditional least_fault (place_of t)) (es n c.body s t) (stmt_told both es n c around s x)
      (stmt_told both es n c around (past s x) y)
  stmt_told both es n c around s (Part (label.While at) t x) =
      repeated_told both (place_of t) (judge all_faults n c.body s t) (judge_stmt all_faults n c in_loop s x)
      ∙ two (repeated least_fault (place_of t)) (es n c.body s t) (stmt_told both es n c in_loop s x)
  stmt_told both es n c around s (Part (label.Do at) x t) =
      done_while_told both (judge_stmt all_faults n c in_loop s x) (place_of t) (judge all_faults n c.body (past s x) t)
      ∙ two (λ u v. done_while least_fault u (place_of t) v) (stmt_told both es n c in_loop s x) (es n c.body
      (past s x) t)
  stmt_told both es n c around s (Part (label.For at) (Part label.Both first t) (Part label.Both last x)) =
      let z = behind n s first in
      repeated_for_told both (judge_first all_faults n c s first) (judge_test all_faults n c z t)
      (judge_last all_faults n c z last) (judge_stmt all_faults n c in_loop z x)
      ∙ four (repeated_for least_fault) (first_told both es n c s first) (test_part_told es n c z t)
      (last_part_told es n c z last) (stmt_told both es n c in_loop z x)
  stmt_told both es n c around s (Part (label.Switch at) e cases) =
      switched_told both (place_of e) (judge all_faults n c.body s e) (judge_cases all_faults n c
      (in_switch around) s [] (Sound Absent) cases)
      ∙ two (switched least_fault (place_of e)) (es n c.body s e) (cases_told both es n c (in_switch around) s []
      (Sound Absent) cases)
  stmt_told both es n c around s (Part (label.Break at) x y) = broken_off_told around at
  stmt_told both es n c around s (Part (label.Continue at) x y) = continued_told around at
  stmt_told both es n c around s (Part (label.Return at) value y) = return_told both es n c s at value
  stmt_told both es n c around s t = refl

  pub stmts_told : Both → Expressions → (n : Names) (c : Enclosing) (around : Around) (s : Scope) (xs : All)
      (t : Tree) →
      told (judge_stmts all_faults n c around s xs t) ≡ judge_stmts least_fault n c around s (told xs) t
  stmts_told both es n c around s xs (Part label.More t rest) =
      let z = behind n s t in
      stmts_told both es n c around z (followed all_faults xs (judge_stmt all_faults n c around s t)) rest
      ∙ ap (λ ys. judge_stmts least_fault n c around z ys rest)
      (followed_told both xs (judge_stmt all_faults n c around s t)
      ∙ ap (followed least_fault (told xs)) (stmt_told both es n c around s t))
  stmts_told both es n c around s xs t = refl

  case_part_told : Both → Expressions → (n : Names) (c : Enclosing) (around : Around) (s : Scope) (labels : List Label)
      (xs : All) (t : Tree) →
      told (judge_case all_faults n c around s labels xs t) ≡ judge_case least_fault n c around s labels (told xs) t
  case_part_told both es n c around s labels xs (Part (label.Case at) e all) =
      with_case_told both xs (judge_label all_faults n c s labels (Part (label.Case at) e all))
      (judge_stmts all_faults n c around s (Sound Absent) all)
      ∙ two (with_case least_fault (told xs)) (label_told es n c s labels (Part (label.Case at) e all))
      (stmts_told both es n c around s (Sound Absent) all)
  case_part_told both es n c around s labels xs (Part (label.Default at) all y) =
      with_case_told both xs (judge_label all_faults n c s labels (Part (label.Default at) all y))
      (judge_stmts all_faults n c around s (Sound Absent) all)
      ∙ two (with_case least_fault (told xs)) (label_told es n c s labels (Part (label.Default at) all y))
      (stmts_told both es n c around s (Sound Absent) all)
  case_part_told both es n c around s labels xs t = refl

  cases_told : Both → Expressions → (n : Names) (c : Enclosing) (around : Around) (s : Scope) (labels : List Label)
      (xs : All) (t : Tree) →
      told (judge_cases all_faults n c around s labels xs t) ≡ judge_cases least_fault n c around s labels (told xs) t
  cases_told both es n c around s labels xs (Part label.More t rest) =
      let z = behind_case n s t in
      let l = judge_label all_faults n c s labels t in
      cases_told both es n c around z (with_label labels l) (judge_case all_faults n c around s labels xs t) rest
      ∙ two (λ ls ys. judge_cases least_fault n c around z ls ys rest)
      (labels_told labels l ∙ ap (with_label labels) (label_told es n c s labels t))
      (case_part_told both es n c around s labels xs t)
  cases_told both es n c around s labels xs t = refl

pub method_told : Both → Expressions → (n : Names) (c : Enclosing) (ps : List Param) (all : List Tree) →
    told (judge_method all_faults n c ps all) ≡ judge_method least_fault n c ps all
method_told both es n c ps all =
    let z = behind_params n (beginning c) ps in
    joined_told {A = Bool} {B = Term} {C = Term} both (judge_params all_faults n c ps) (judge_body all_faults n c z all)
    (judge_params least_fault n c ps) (judge_body least_fault n c z all) _ _ (free_names_told both n (beginning c)
    (Sound true) ps)
    (blocked_told (judge_stmts all_faults n c outermost z (Sound Absent) (row all))
    ∙ ap blocked (stmts_told both es n c outermost z (Sound Absent) (row all)))
    (λ free t. refl)
