-- What a statement comes to is typed, and it is unknown only with a fault inside; and behind a sound one its scope
-- stands.
use Rattle.std.proofs.Common.{◌≡◌, ℕ, Bool, true, false, nat_lt, if◌then◌else◌, List, [], ◌∷◌, ◌++◌, Option, Some, None, IfSome, refl, sym, ap, subst, ◌∙◌}
use Rattle.std.specs.Option.{option_map}
use Rattle.sed_units.specs.Tree.{Tree, Absent as NoTree, Part}
use Rattle.sed_units.specs.declared.label.Label.TheVariants as label
use Rattle.sed_units.specs.declared.leaves.TypeRef.{TypeRef}
use Rattle.sed_typed.specs.declared.kind.Kind.{Kind}
use Rattle.sed_typed.specs.declared.kind.Kind.TheVariants as kind
use Rattle.sed_typed.specs.declared.statement.Label.{Label}
use Rattle.sed_typed.specs.TypedExpr.{Context}
use Rattle.sed_typed.specs.TypedStmt.{AreLabels}
use Rattle.sed_names.specs.Names.{Names}
use Rattle.sed_faults.specs.declared.fault.Fault.{Fault}
use Rattle.sed_terms.specs.declared.judged.Judged.{Judged}
use Rattle.sed_terms.specs.declared.judged.Judged.TheVariants.{Sound, Unknown}
use Rattle.sed_terms.specs.declared.sign.Sign.TheVariants as sign
use Rattle.sed_terms.specs.Faults.{all_faults, broken, paired, Right}
use Rattle.sed_terms.specs.Forms.{discarded}
use Rattle.sed_terms.specs.Term.{Term, Absent, Node, leaf, appended, optional}
use Rattle.sed_terms.specs.TypedStmtTerm.{IsTermTest, IsTermLast, IsTermFirst, IsStmtTerm, AreStmtTerms, AreCaseTerms, labels_of}
use Rattle.sed_body_rules.specs.Conversions.{is_int}
use Rattle.sed_body_rules.specs.Wants.{wants, truth}
use Rattle.sed_body_rules.specs.LocalTypes.{local_kind}
use Rattle.sed_body_rules.specs.Scope.{Scope, numbered_past, with_local, past, behind, behind_all, behind_case, behind_cases}
use Rattle.sed_bodies.specs.Expressions.{judge}
use Rattle.sed_bodies.specs.Inside.{HasKind, IsReady}
use Rattle.sed_bodies.specs.Places.{place_of}
use Rattle.sed_statements.specs.declared.leaving.Around.{Around}
use Rattle.sed_statements.specs.Declarations.{declared, begun_bare, begun}
use Rattle.sed_statements.specs.Labels.{with_label}
use Rattle.sed_statements.specs.Leaving.{in_loop, in_switch}
use Rattle.sed_statements.specs.Loops.{test_of, last_of}
use Rattle.sed_statements.specs.Returns.{returned, returned_nothing}
use Rattle.sed_statements.specs.Rows.{evaluated, followed}
use Rattle.sed_statements.specs.declared.enclosing.Enclosing.{Enclosing}
use Rattle.sed_statements.specs.Cases.{case_int}
use Rattle.sed_statements.specs.Inside.{around_of, CountsOn, IsLocalAt, Provides, Stands, HasResult}
use Rattle.sed_statements.specs.Parts.{is_expression}
use Rattle.sed_statements.specs.Statements.{judge_local, judge_return, judge_first_local, judge_first, judge_test, judge_last, judge_label, judge_stmt, judge_stmts, judge_case, judge_cases}
use Rattle.sed_statements.proofs.Firsts.{expression_declares_nothing}
use Rattle.sed_statements.proofs.FormsRight.{All, Conditions, Ints, Places, part_ready, test_typed, evaluated_typed, evaluated_first, declared_right, bare_right, begun_right, nothing_right, returned_right, one_more}
use Rattle.sed_statements.proofs.LabelsRight.{IsNew, case_right, default_right, none_labels, labels_more, labels_appended, cases_appended}
use Rattle.sed_statements.proofs.Right.{one_right, after_right, joined_right, paired_right, unless_right, known_right}
use Rattle.sed_statements.proofs.Scopes.{then_reaches, behind_reaches, all_reaches, case_reaches, cases_reaches, past_stands, local_stands}

-- what is said of expressions elsewhere
pub record Said (c : Context) (n : Names) (m : Enclosing) : Type 0 where
  pub expressions : (s : Scope) → Stands c n m s → (t : Tree) → Right (IsReady c) (judge all_faults n m.body s t)
  pub conditions : Conditions c
  pub ints : Ints c
  pub places : Places c n
  pub result : HasResult c m

-- what a statement comes to where it is sound: with its own names in scope behind it, or not
abbrev Step : Context → Names → Enclosing → Around → Scope → Tree → Term → Type 0
Step c n m around s t u = IsStmtTerm c (around_of around) u × Stands c n m (behind n s t)

abbrev Inner : Context → Names → Enclosing → Around → Scope → Tree → Term → Type 0
Inner c n m around s t u = IsStmtTerm c (around_of around) u × Stands c n m (past s t)

inner_of : (c : Context) (n : Names) (m : Enclosing) (around : Around) (s : Scope) (t : Tree) (u : Term) →
    Stands c n m s → Step c n m around s t u → Inner c n m around s t u
inner_of c n m around s t u i h = (h.0, past_stands c n m s (behind n s t) t i h.1 (behind_reaches n s t))

weaken : {A : Type 0} (P Q : A → Type 0) (x : Judged A (List Fault)) → ((a : A) → P a → Q a) → Right P x → Right Q x
weaken P Q (Sound a) f h = f a h
weaken P Q (Unknown fs) f h = h

-- what is provided behind a statement is so in its scope
provided : (c : Context) (n : Names) (s z : Scope) (t rest : Tree) → CountsOn s t z →
    Provides c n s.limit (numbered_past s.limit s.next t) rest → Provides c n z.limit z.next rest
provided c n s z t rest r p =
    subst (λ (l : ℕ). Provides c n l z.next rest) (sym r.1) (subst (λ (i : ℕ). Provides c n s.limit i rest) (sym r.0) p)

-- ---- statements without others inside

-- and it may be the first part of a `for`
abbrev Begun : Context → Names → Enclosing → Around → Scope → Term → Type 0
Begun c n m around z u = IsTermFirst u × IsStmtTerm c (around_of around) u × Stands c n m z

local_right : (c : Context) (n : Names) (m : Enclosing) → Said c n m → (around : Around) (s : Scope) → Stands c n m s →
    (at : ℕ) (type : TypeRef) (name : List ℕ) (value : Tree) →
    (nat_lt s.next s.limit ≡ true → IfSome (local_kind n type) (IsLocalAt c s.next)) →
    Right (Begun c n m around (with_local n s type name)) (judge_local all_faults n m s at type name value)
local_right c n m d around s i at type name value p = by_test (is_expression value)
  where
    also : (k : Kind) → local_kind n type ≡ Some k → nat_lt s.next s.limit ≡ true → IsLocalAt c s.next k →
        Stands c n m (with_local n s type name)
    also k e h q = local_stands c n m s type name k i h e q

    by_test : (there : Bool) → Right (Begun c n m around (with_local n s type name))
        (if there then begun all_faults n (declared all_faults n s at type name) (place_of value)
        (judge all_faults n m.body s value)
        else begun_bare (declared all_faults n s at type name))
    by_test true =
        begun_right c n (around_of around) i.inside.kinds d.places s type (Stands c n m
        (with_local n s type name)) also (declared all_faults n s at type name)
        (place_of value) (judge all_faults n m.body s value) (declared_right c n s at type name i.room p)
        (d.expressions s i value)
    by_test false =
        bare_right c n (around_of around) s type (Stands c n m (with_local n s type name)) also
        (declared all_faults n s at type name)
        (declared_right c n s at type name i.room p)

return_right : (c : Context) (n : Names) (m : Enclosing) → Said c n m → (around : Around) (s : Scope) →
    Stands c n m s → (at : ℕ) (value : Tree) →
    Right (IsStmtTerm c (around_of around)) (judge_return all_faults n m s at value)
return_right c n m d around s i at value = by_test (is_expression value)
  where
    by_test : (there : Bool) → Right (IsStmtTerm c (around_of around))
        (if there then returned all_faults n m.result (place_of value) (judge all_faults n m.body s value)
        else returned_nothing all_faults m.result at)
    by_test true =
        returned_right c n (around_of around) d.places m.result d.result.0 d.result.1 (place_of value)
        (judge all_faults n m.body s value) (d.expressions s i value)
    by_test false = nothing_right c (around_of around) m.result at d.result.0

evaluated_right : (c : Context) (n : Names) (m : Enclosing) → Said c n m → (around : Around) (s : Scope) →
    Stands c n m s → (e : Tree) →
    Right (λ u. IsTermFirst u × IsStmtTerm c (around_of around) u) (evaluated (judge all_faults n m.body s e))
evaluated_right c n m d around s i e =
    after_right {A = Term} {B = Term} (IsReady c) (λ u. IsTermFirst u
    × IsStmtTerm c (around_of around) u) (judge all_faults n m.body s e) _ (d.expressions s i e)
    (λ t h. (evaluated_first t, evaluated_typed c (around_of around) t h))

-- ---- the head of a `for`

abbrev First : Context → Names → Enclosing → Around → Scope → Tree → Term → Type 0
First c n m around s t u = Begun c n m around (behind n s t) u

first_local_right : (c : Context) (n : Names) (m : Enclosing) → Said c n m → (around : Around) (s : Scope) →
    Stands c n m s → (t : Tree) → Provides c n s.limit s.next t →
    Right (First c n m around s t) (judge_first_local all_faults n m s t)
first_local_right c n m d around s i NoTree p = (tt, tt, past_stands c n m s s NoTree i i (refl, refl))
first_local_right c n m d around s i (Part (label.Local at type name) value y) p =
    local_right c n m d around s i at type name.bytes value p
first_local_right c n m d around s i t p = one_right (First c n m around s t) (broken 0 0)

first_right : (c : Context) (n : Names) (m : Enclosing) → Said c n m → (around : Around) (s : Scope) → Stands c n m s →
    (t : Tree) → Provides c n s.limit s.next t →
    Right (First c n m around s t) (judge_first all_faults n m s t)
first_right c n m d around s i t p = by_test (is_expression t) refl
  where
    by_test : (there : Bool) → is_expression t ≡ there → Right (First c n m around s t)
        (if there then evaluated (judge all_faults n m.body s t) else judge_first_local all_faults n m s t)
    by_test true e =
        weaken (λ u. IsTermFirst u × IsStmtTerm c (around_of around) u) (First c n m around s t) (evaluated
        (judge all_faults n m.body s t))
        (λ u h. (h.0, h.1, subst (λ (z : Scope). Stands c n m z) (sym (expression_declares_nothing n s t e)) i))
        (evaluated_right c n m d around s i t)
    by_test false e = first_local_right c n m d around s i t p

test_right : (c : Context) (n : Names) (m : Enclosing) → Said c n m → (s : Scope) → Stands c n m s → (t : Tree) →
    Right (λ o. IsTermTest c (optional o)) (judge_test all_faults n m s t)
test_right c n m d s i t = by_test (is_expression t)
  where
    by_test : (there : Bool) → Right (λ o. IsTermTest c (optional o)) (if there then test_of all_faults (place_of t)
        (judge all_faults n m.body s t) else Sound None)
    by_test true =
        after_right {A = Term} {B = Option Term} (HasKind c kind.Bool) (λ o. IsTermTest c (optional o))
        (truth all_faults (place_of t) (judge all_faults n m.body s t)) _
        (d.conditions (place_of t) (judge all_faults n m.body s t) (d.expressions s i t)) (λ u h. test_typed c u h)
    by_test false = tt

last_right : (c : Context) (n : Names) (m : Enclosing) → Said c n m → (s : Scope) → Stands c n m s → (t : Tree) →
    Right (λ o. IsTermLast c (optional (option_map discarded o))) (judge_last all_faults n m s t)
last_right c n m d s i t = by_test (is_expression t)
  where
    by_test : (there : Bool) → Right (λ o. IsTermLast c (optional (option_map discarded o))) (if there then last_of
        (judge all_faults n m.body s t) else Sound None)
    by_test true =
        after_right {A = Term} {B = Option Term} (IsReady c) (λ o. IsTermLast c (optional (option_map discarded o)))
        (judge all_faults n m.body s t) _ (d.expressions s i t)
        (λ u h. part_ready c u h)
    by_test false = tt

-- ---- labels

label_right : (c : Context) (n : Names) (m : Enclosing) → Said c n m → (s : Scope) → Stands c n m s →
    (labels : List Label) (t : Tree) →
    Right (IsNew labels) (judge_label all_faults n m s labels t)
label_right c n m d s i labels (Part (label.Case at) e all) =
    case_right c labels (place_of e) (case_int n m.body s e) (judge all_faults n m.body s e) (d.expressions s i e)
label_right c n m d s i labels (Part (label.Default at) all y) = default_right labels at
label_right c n m d s i labels t = one_right (IsNew labels) (broken 0 0)

-- labels so far, of which these are sound
abbrev Labelled : Context → Names → Enclosing → Around → List Label → Scope → Term → Type 0
Labelled c n m around labels s ts = AreCaseTerms c (around_of around) ts × (labels_of ts
    ≡ labels) × AreLabels labels × Stands c n m s

abbrev IsOne : List Label → Judged Label (List Fault) → Label → Type 0
IsOne labels l a = (l ≡ Sound a) × IsNew labels a

labelled_more : (c : Context) (n : Names) (m : Enclosing) (around : Around) (labels : List Label) (l : Judged Label
    (List Fault)) (s z : Scope) (ts all : Term) (a : Label) →
    Labelled c n m around labels s ts → IsOne labels l a → AreStmtTerms c (around_of around) all → Stands c n m z →
    Labelled c n m around (with_label labels l) z (appended ts (Node (sign.Label a)
    (Node sign.Block all Absent) Absent))
labelled_more c n m around labels l s z ts all a h one block i =
    let more : with_label labels l ≡ labels ++ a ∷ [] = ap (with_label labels) one.0 in (
      cases_appended c (around_of around) ts a all h.0 block,
      labels_appended c (around_of around) ts a (Node sign.Block all Absent) h.0 ∙ ap (λ ls. ls
          ++ a ∷ []) h.1 ∙ sym more,
      subst (λ (ls : List Label). AreLabels ls) (sym more) (labels_more labels a h.2 one.1),
      i,
    )

-- ---- all statements

mutual
  pub stmt_right : (c : Context) (n : Names) (m : Enclosing) → Said c n m → (around : Around) (s : Scope) →
      Stands c n m s → (t : Tree) → Provides c n s.limit s.next t →
      Right (Step c n m around s t) (judge_stmt all_faults n m around s t)
  stmt_right c n m d around s i NoTree p = (tt, past_stands c n m s s NoTree i i (refl, refl))
  stmt_right c n m d around s i (Part (label.Empty at) x y) p = (tt, past_stands c n m s s NoTree i i (refl, refl))
  stmt_right c n m d around s i (Part (label.Evaluate at) e y) p =
      weaken (λ u. IsTermFirst u × IsStmtTerm c (around_of around) u) (Step c n m around s (Part
      (label.Evaluate at) e y)) (evaluated (judge all_faults n m.body s e))
      (λ u h. (h.1, past_stands c n m s s NoTree i i (refl, refl))) (evaluated_right c n m d around s i e)
  stmt_right c n m d around s i (Part (label.Local at type name) value y) p =
      weaken (Begun c n m around (with_local n s type name.bytes)) (Step c n m around s (Part
      (label.Local at type name) value y))
      (judge_local all_faults n m s at type name.bytes value) (λ u h. (h.1, h.2))
      (local_right c n m d around s i at type name.bytes value p)
  stmt_right c n m d around s i (Part (label.Block at) all y) p =
      after_right {A = Term} {B = Term} (λ ts. AreStmtTerms c (around_of around) ts
      × Stands c n m (behind_all n s all)) (Step c n m around s (Part (label.Block at) all y))
      (judge_stmts all_faults n m around s (Sound Absent) all) _ (stmts_right c n m d around s (Sound Absent)
      (tt, i) all p)
      (λ ts h. (h.0, past_stands c n m s (behind_all n s all) all i h.1 (all_reaches n s all)))
  stmt_right c n m d around s i (Part (label.If at) t (Part label.Both x y)) p =
      joined_right {A = Term} {B = Term × Term} {C = Term} (HasKind c kind.Bool) (λ q. Inner c n m around s x q.0
      × Inner c n m around (past s x) y q.1)
      (Step c n m around s (Part (label.If at) t (Part label.Both x y))) (truth all_faults (place_of t)
      (judge all_faults n m.body s t))
      (paired all_faults (judge_stmt all_faults n m around s x) (judge_stmt all_faults n m around (past s x) y)) _
      (d.conditions (place_of t) (judge all_faults n m.body s t) (d.expressions s i t))
      (λ _ _. paired_right (Inner c n m around s x) (Inner c n m around (past s x) y)
      (judge_stmt all_faults n m around s x) (judge_stmt all_faults n m around (past s x) y)
      (weaken (Step c n m around s x) (Inner c n m around s x) (judge_stmt all_faults n m around s x)
      (λ u h. inner_of c n m around s x u i h)
      (stmt_right c n m d around s i x p.0)) (λ u h. weaken (Step c n m around (past s x) y) (Inner c n m around
      (past s x) y) (judge_stmt all_faults n m around (past s x) y)
      (λ v g. inner_of c n m around (past s x) y v h.1 g) (stmt_right c n m d around (past s x) h.1 y p.1)))
      (λ v q h g. ((h, g.0.0, g.1.0), g.1.1))
  stmt_right c n m d around s i (Part (label.While at) t x) p =
      joined_right {A = Term} {B = Term} {C = Term} (HasKind c kind.Bool) (Inner c n m in_loop s x)
      (Step c n m around s (Part (label.While at) t x))
      (truth all_faults (place_of t) (judge all_faults n m.body s t)) (judge_stmt all_faults n m in_loop s x) _
      (d.conditions (place_of t) (judge all_faults n m.body s t) (d.expressions s i t)) (λ _ _. weaken
      (Step c n m in_loop s x) (Inner c n m in_loop s x) (judge_stmt all_faults n m in_loop s x)
      (λ u h. inner_of c n m in_loop s x u i h) (stmt_right c n m d in_loop s i x p)) (λ v u h g. ((h, g.0), g.1))
  stmt_right c n m d around s i (Part (label.Do at) x t) p =
      joined_right {A = Term} {B = Term} {C = Term} (Inner c n m in_loop s x) (HasKind c kind.Bool)
      (Step c n m around s (Part (label.Do at) x t))
      (judge_stmt all_faults n m in_loop s x) (truth all_faults (place_of t) (judge all_faults n m.body
      (past s x) t)) _ (weaken (Step c n m in_loop s x) (Inner c n m in_loop s x)
      (judge_stmt all_faults n m in_loop s x) (λ u h. inner_of c n m in_loop s x u i h)
      (stmt_right c n m d in_loop s i x p))
      (λ u h. d.conditions (place_of t) (judge all_faults n m.body (past s x) t) (d.expressions (past s x) h.1 t))
      (λ u v h g. ((h.0, g), h.1))
  stmt_right c n m d around s i (Part (label.For at) (Part label.Both first t) (Part label.Both last x)) p =
      let z = behind n s first in
      let r = behind_reaches n s first in
      joined_right {A = Term × (Option Term × Option Term)} {B = Term} {C = Term}
      (λ q. First c n m around s first q.0 × (IsTermTest c (optional q.1.0)
      × IsTermLast c (optional (option_map discarded q.1.1)))) (Step c n m in_loop z x)
      (Step c n m around s (Part (label.For at) (Part label.Both first t) (Part label.Both last x)))
      (paired {B = Option Term × Option Term} all_faults (judge_first all_faults n m s first) (paired all_faults
      (judge_test all_faults n m z t) (judge_last all_faults n m z last)))
      (judge_stmt all_faults n m in_loop z x) _
      (paired_right {A = Term} {B = Option Term × Option Term} (First c n m around s first) (λ q. IsTermTest c
      (optional q.0) × IsTermLast c (optional (option_map discarded q.1)))
      (judge_first all_faults n m s first) (paired all_faults (judge_test all_faults n m z t)
      (judge_last all_faults n m z last)) (first_right c n m d around s i first p.0)
      (λ u h. paired_right (λ o. IsTermTest c (optional o)) (λ o. IsTermLast c (optional (option_map discarded o)))
      (judge_test all_faults n m z t) (judge_last all_faults n m z last)
      (test_right c n m d z h.2 t) (λ _ _. last_right c n m d z h.2 last)))
      (λ q h. stmt_right c n m d in_loop z h.0.2 x (provided c n s z first x r p.1))
      (λ q u h g. (
        (h.0.0, h.0.1, h.1.0, h.1.1, g.0),
        past_stands c n m s (behind n z x) (Part (label.For at) (Part label.Both first t)
            (Part label.Both last x)) i g.1
            (then_reaches s z (behind n z x) (numbered_past s.limit s.next first) x r.0 r.1 (behind_reaches n z x)),
      ))
  stmt_right c n m d around s i (Part (label.Switch at) e cases) p =
      joined_right {A = Term} {B = Term} {C = Term} (HasKind c kind.Int)
      (λ ts. AreCaseTerms c (around_of (in_switch around)) ts × AreLabels (labels_of ts)
      × Stands c n m (behind_cases n s cases))
      (Step c n m around s (Part (label.Switch at) e cases)) (wants all_faults is_int (place_of e)
      (judge all_faults n m.body s e))
      (judge_cases all_faults n m (in_switch around) s [] (Sound Absent) cases) _ (d.ints (place_of e)
      (judge all_faults n m.body s e) (d.expressions s i e))
      (λ _ _. cases_right c n m d (in_switch around) s [] (Sound Absent) (tt, refl, none_labels, i) cases p)
      (λ v ts h g. (
        (h.0, h.1, g.1, g.0),
        past_stands c n m s (behind_cases n s cases) cases i g.2
            (cases_reaches n s cases),
      ))
  stmt_right c n m d around s i (Part (label.Break at) x y) p =
      unless_right (Step c n m around s (Part (label.Break at) x y)) around.breaks (broken 18 at) (leaf sign.Break)
      (λ e. (e, past_stands c n m s s NoTree i i (refl, refl)))
  stmt_right c n m d around s i (Part (label.Continue at) x y) p =
      unless_right (Step c n m around s (Part (label.Continue at) x y)) around.continues (broken 18 at)
      (leaf sign.Continue)
      (λ e. (e, past_stands c n m s s NoTree i i (refl, refl)))
  stmt_right c n m d around s i (Part (label.Return at) value y) p =
      weaken (IsStmtTerm c (around_of around)) (Step c n m around s (Part (label.Return at) value y))
      (judge_return all_faults n m s at value)
      (λ u h. (h, past_stands c n m s s NoTree i i (refl, refl))) (return_right c n m d around s i at value)
  stmt_right c n m d around s i t p = one_right (Step c n m around s t) (broken 0 0)

  pub stmts_right : (c : Context) (n : Names) (m : Enclosing) → Said c n m → (around : Around) (s : Scope) (xs : All) →
      Right (λ ts. AreStmtTerms c (around_of around) ts × Stands c n m s) xs → (t : Tree) →
      Provides c n s.limit s.next t →
      Right (λ ts. AreStmtTerms c (around_of around) ts × Stands c n m (behind_all n s t))
      (judge_stmts all_faults n m around s xs t)
  stmts_right c n m d around s xs h NoTree p = h
  stmts_right c n m d around s xs h (Part label.More t rest) p =
      stmts_right c n m d around (behind n s t) (followed all_faults xs (judge_stmt all_faults n m around s t))
      (joined_right {A = Term} {B = Term} {C = Term} (λ ts. AreStmtTerms c (around_of around) ts
      × Stands c n m s) (Step c n m around s t)
      (λ ts. AreStmtTerms c (around_of around) ts × Stands c n m (behind n s t)) xs
      (judge_stmt all_faults n m around s t) _ h
      (λ ts g. stmt_right c n m d around s g.1 t p.0) (λ ts u g q. (one_more c (around_of around) ts u g.0 q.0, q.1)))
      rest (provided c n s (behind n s t) t rest (behind_reaches n s t) p.1)
  stmts_right c n m d around s xs h t p = one_right (λ ts. AreStmtTerms c (around_of around) ts
      × Stands c n m (behind_all n s t)) (broken 0 0)

  case_part_right : (c : Context) (n : Names) (m : Enclosing) → Said c n m →
      (around : Around) (s : Scope) (labels : List Label) (xs : All) →
      Right (Labelled c n m around labels s) xs → (t : Tree) → Provides c n s.limit s.next t →
      Right (Labelled c n m around (with_label labels (judge_label all_faults n m s labels t)) (behind_case n s t))
      (judge_case all_faults n m around s labels xs t)
  case_part_right c n m d around s labels xs h (Part (label.Case at) e all) p =
      let l = judge_label all_faults n m s labels (Part (label.Case at) e all) in
      joined_right {A = Term} {B = Label × Term} {C = Term} (Labelled c n m around labels s)
      (λ q. IsOne labels l q.0 × (AreStmtTerms c (around_of around) q.1 × Stands c n m (behind_all n s all)))
      (Labelled c n m around (with_label labels l) (behind_all n s all)) xs (paired all_faults l
      (judge_stmts all_faults n m around s (Sound Absent) all)) _ h
      (λ ts g. paired_right (IsOne labels l) (λ u. AreStmtTerms c (around_of around) u
      × Stands c n m (behind_all n s all)) l (judge_stmts all_faults n m around s (Sound Absent) all)
      (known_right (IsNew labels) l (label_right c n m d s g.3 labels (Part (label.Case at) e all)))
      (λ _ _. stmts_right c n m d around s (Sound Absent) (tt, g.3) all p))
      (λ ts q g k. labelled_more c n m around labels l s (behind_all n s all) ts q.1 q.0 g k.0 k.1.0 k.1.1)
  case_part_right c n m d around s labels xs h (Part (label.Default at) all y) p =
      let l = judge_label all_faults n m s labels (Part (label.Default at) all y) in
      joined_right {A = Term} {B = Label × Term} {C = Term} (Labelled c n m around labels s)
      (λ q. IsOne labels l q.0 × (AreStmtTerms c (around_of around) q.1 × Stands c n m (behind_all n s all)))
      (Labelled c n m around (with_label labels l) (behind_all n s all)) xs (paired all_faults l
      (judge_stmts all_faults n m around s (Sound Absent) all)) _ h
      (λ ts g. paired_right (IsOne labels l) (λ u. AreStmtTerms c (around_of around) u
      × Stands c n m (behind_all n s all)) l (judge_stmts all_faults n m around s (Sound Absent) all)
      (known_right (IsNew labels) l (label_right c n m d s g.3 labels (Part (label.Default at) all y)))
      (λ _ _. stmts_right c n m d around s (Sound Absent) (tt, g.3) all p))
      (λ ts q g k. labelled_more c n m around labels l s (behind_all n s all) ts q.1 q.0 g k.0 k.1.0 k.1.1)
  case_part_right c n m d around s labels xs h t p =
      one_right (Labelled c n m around (with_label labels (judge_label all_faults n m s labels t)) (behind_case n s t))
      (broken 0 0)

  cases_right : (c : Context) (n : Names) (m : Enclosing) → Said c n m →
      (around : Around) (s : Scope) (labels : List Label) (xs : All) →
      Right (Labelled c n m around labels s) xs → (t : Tree) → Provides c n s.limit s.next t →
      Right (λ ts. AreCaseTerms c (around_of around) ts × AreLabels (labels_of ts)
      × Stands c n m (behind_cases n s t)) (judge_cases all_faults n m around s labels xs t)
  cases_right c n m d around s labels xs h NoTree p =
      weaken (Labelled c n m around labels s) (λ ts. AreCaseTerms c (around_of around) ts × AreLabels (labels_of ts)
      × Stands c n m s) xs
      (λ ts g. (g.0, subst (λ (ls : List Label). AreLabels ls) (sym g.1) g.2, g.3)) h
  cases_right c n m d around s labels xs h (Part label.More t rest) p =
      cases_right c n m d around (behind_case n s t) (with_label labels (judge_label all_faults n m s labels t))
      (judge_case all_faults n m around s labels xs t)
      (case_part_right c n m d around s labels xs h t p.0) rest (provided c n s (behind_case n s t) t rest
      (case_reaches n s t) p.1)
  cases_right c n m d around s labels xs h t p =
      one_right (λ ts. AreCaseTerms c (around_of around) ts × AreLabels (labels_of ts)
      × Stands c n m (behind_cases n s t)) (broken 0 0)

-- ---- what is said of a statement

pub judged_right : (c : Context) (n : Names) (m : Enclosing) → Said c n m → (around : Around) (s : Scope) →
    Stands c n m s → (t : Tree) → Provides c n s.limit s.next t →
    Right (IsStmtTerm c (around_of around)) (judge_stmt all_faults n m around s t)
judged_right c n m d around s i t p =
    weaken (Step c n m around s t) (IsStmtTerm c (around_of around)) (judge_stmt all_faults n m around s t)
    (λ u h. h.0) (stmt_right c n m d around s i t p)
