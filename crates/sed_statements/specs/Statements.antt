-- What statements come to: the typed tree that is spelled, or that it is unknown, with the faults inside. A statement
-- stands in a scope, and where its own names are in scope behind it is said by `behind` and `past`, whatever faults it
-- has.
use Rattle.std.specs.Prelude.{ℕ, if◌then◌else◌, List, [], Option, None}
use Rattle.sed_units.specs.Tree.{Tree, Absent as NoTree, Part}
use Rattle.sed_units.specs.declared.label.Label.TheVariants as label
use Rattle.sed_units.specs.declared.leaves.TypeRef.{TypeRef}
use Rattle.sed_typed.specs.declared.statement.Label.{Label}
use Rattle.sed_names.specs.Names.{Names}
use Rattle.sed_terms.specs.declared.judged.Judged.{Judged}
use Rattle.sed_terms.specs.declared.judged.Judged.TheVariants.{Sound, Unknown}
use Rattle.sed_terms.specs.declared.sign.Sign.TheVariants as sign
use Rattle.sed_terms.specs.Faults.{Marks, broken}
use Rattle.sed_terms.specs.Term.{Term, Absent, leaf}
use Rattle.sed_body_rules.specs.Scope.{Scope, past, behind, behind_case}
use Rattle.sed_bodies.specs.Expressions.{judge}
use Rattle.sed_bodies.specs.Places.{place_of}
use Rattle.sed_statements.specs.declared.leaving.Around.{Around}
use Rattle.sed_statements.specs.Declarations.{declared, begun_bare, begun}
use Rattle.sed_statements.specs.Labels.{case_of, default_of, with_label, with_case, switched}
use Rattle.sed_statements.specs.Leaving.{in_loop, in_switch, broken_off, continued}
use Rattle.sed_statements.specs.Loops.{conditional, repeated, done_while, test_of, last_of, repeated_for}
use Rattle.sed_statements.specs.Returns.{returned_nothing, returned}
use Rattle.sed_statements.specs.Rows.{evaluated, followed, blocked}
use Rattle.sed_statements.specs.declared.enclosing.Enclosing.{Enclosing}
use Rattle.sed_statements.specs.Cases.{case_int}
use Rattle.sed_statements.specs.Parts.{is_expression}

-- ---- statements without others inside

-- A local is not in scope in its own initial value.
abbrev pub judge_local : {F : Type 0} → Marks F → Names → Enclosing → Scope → ℕ → TypeRef → List ℕ → Tree →
    Judged Term F
judge_local m n c s at type name value =
    if is_expression value then begun m n (declared m n s at type name) (place_of value) (judge m n c.body s value)
    else begun_bare (declared m n s at type name)

abbrev pub judge_return : {F : Type 0} → Marks F → Names → Enclosing → Scope → ℕ → Tree → Judged Term F
judge_return m n c s at value =
    if is_expression value then returned m n c.result (place_of value) (judge m n c.body s value)
    else returned_nothing m c.result at

-- ---- the head of a `for`

abbrev pub judge_first_local : {F : Type 0} → Marks F → Names → Enclosing → Scope → Tree → Judged Term F
judge_first_local m n c s (Part (label.Local at type name) value y) = judge_local m n c s at type name.bytes value
judge_first_local m n c s NoTree = Sound (leaf sign.Empty)
judge_first_local m n c s t = Unknown (m.one (broken 0 0))

-- the first part: an expression, a local, or nothing
abbrev pub judge_first : {F : Type 0} → Marks F → Names → Enclosing → Scope → Tree → Judged Term F
judge_first m n c s t = if is_expression t then evaluated (judge m n c.body s t) else judge_first_local m n c s t

-- a missing condition is true
abbrev pub judge_test : {F : Type 0} → Marks F → Names → Enclosing → Scope → Tree → Judged (Option Term) F
judge_test m n c s t = if is_expression t then test_of m (place_of t) (judge m n c.body s t) else Sound None

abbrev pub judge_last : {F : Type 0} → Marks F → Names → Enclosing → Scope → Tree → Judged (Option Term) F
judge_last m n c s t = if is_expression t then last_of (judge m n c.body s t) else Sound None

-- ---- labels

-- a label of a `switch`, behind these labels
abbrev pub judge_label : {F : Type 0} → Marks F → Names → Enclosing → Scope → List Label → Tree → Judged Label F
judge_label m n c s labels (Part (label.Case at) e all) = case_of m labels (place_of e) (case_int n c.body s e)
    (judge m n c.body s e)
judge_label m n c s labels (Part (label.Default at) all y) = default_of m labels at
judge_label m n c s labels t = Unknown (m.one (broken 0 0))

-- ---- all statements

abbrev mutual
  pub judge_stmt : {F : Type 0} → Marks F → Names → Enclosing → Around → Scope → Tree → Judged Term F
  -- a branch that is missing is empty
  judge_stmt m n c around s NoTree = Sound (leaf sign.Empty)
  judge_stmt m n c around s (Part (label.Empty at) x y) = Sound (leaf sign.Empty)
  judge_stmt m n c around s (Part (label.Evaluate at) e y) = evaluated (judge m n c.body s e)
  judge_stmt m n c around s (Part (label.Local at type name) value y) = judge_local m n c s at type name.bytes value
  judge_stmt m n c around s (Part (label.Block at) all y) = blocked (judge_stmts m n c around s (Sound Absent) all)
  judge_stmt m n c around s (Part (label.If at) t (Part label.Both x y)) =
      conditional m (place_of t) (judge m n c.body s t) (judge_stmt m n c around s x) (judge_stmt m n c around
      (past s x) y)
  judge_stmt m n c around s (Part (label.While at) t x) =
      repeated m (place_of t) (judge m n c.body s t) (judge_stmt m n c in_loop s x)
  judge_stmt m n c around s (Part (label.Do at) x t) =
      done_while m (judge_stmt m n c in_loop s x) (place_of t) (judge m n c.body (past s x) t)
  -- what the first part of a `for` declares is in scope in the others
  judge_stmt m n c around s (Part (label.For at) (Part label.Both first t) (Part label.Both last x)) =
      repeated_for m (judge_first m n c s first) (judge_test m n c (behind n s first) t) (judge_last m n c
      (behind n s first) last)
      (judge_stmt m n c in_loop (behind n s first) x)
  judge_stmt m n c around s (Part (label.Switch at) e cases) =
      switched m (place_of e) (judge m n c.body s e) (judge_cases m n c (in_switch around) s [] (Sound Absent) cases)
  judge_stmt m n c around s (Part (label.Break at) x y) = broken_off m around at
  judge_stmt m n c around s (Part (label.Continue at) x y) = continued m around at
  judge_stmt m n c around s (Part (label.Return at) value y) = judge_return m n c s at value
  -- no other tree is a statement; rule 0 is no rule
  judge_stmt m n c around s t = Unknown (m.one (broken 0 0))

  -- the statements so far, with a row of statements behind them
  pub judge_stmts : {F : Type 0} → Marks F → Names → Enclosing → Around → Scope → Judged Term F → Tree → Judged Term F
  judge_stmts m n c around s xs (Part label.More t rest) =
      judge_stmts m n c around (behind n s t) (followed m xs (judge_stmt m n c around s t)) rest
  judge_stmts m n c around s xs NoTree = xs
  judge_stmts m n c around s xs t = Unknown (m.one (broken 0 0))

  -- the labels so far, with one more and the statements behind it
  pub judge_case : {F : Type 0} → Marks F → Names → Enclosing → Around → Scope → List Label → Judged Term F → Tree →
      Judged Term F
  judge_case m n c around s labels xs (Part (label.Case at) e all) =
      with_case m xs (judge_label m n c s labels (Part (label.Case at) e all)) (judge_stmts m n c around s
      (Sound Absent) all)
  judge_case m n c around s labels xs (Part (label.Default at) all y) =
      with_case m xs (judge_label m n c s labels (Part (label.Default at) all y)) (judge_stmts m n c around s
      (Sound Absent) all)
  judge_case m n c around s labels xs t = Unknown (m.one (broken 0 0))

  -- and with a row of labels behind them; the statements of all share one scope
  pub judge_cases : {F : Type 0} → Marks F → Names → Enclosing → Around → Scope → List Label → Judged Term F → Tree →
      Judged Term F
  judge_cases m n c around s labels xs (Part label.More t rest) =
      judge_cases m n c around (behind_case n s t) (with_label labels (judge_label m n c s labels t))
      (judge_case m n c around s labels xs t) rest
  judge_cases m n c around s labels xs NoTree = xs
  judge_cases m n c around s labels xs t = Unknown (m.one (broken 0 0))
