-- A method body without a fault is a body of its method.
use Rattle.std.proofs.Common.{◌≡◌, ◌≤◌, ◌<◌, ℕ, ◌+◌, Bool, true, false, not, if◌then◌else◌, List, [], ◌∷◌, ◌++◌, map, length, Option, Some, None, IfSome, All, refl, sym, ap, subst, ◌∙◌, arith, length-append}
use Rattle.std.specs.Option.{option_map_or}
use Rattle.std.specs.Prelude.{unwrap_or}
use Rattle.std.proofs.lemmas.List.Elements.{All-nil, All-cons, All-append}
use Rattle.sed_units.specs.Tree.{Tree, Absent as NoTree, Part, row}
use Rattle.sed_units.specs.declared.label.Label.TheVariants as label
use Rattle.sed_units.specs.declared.leaves.Param.{Param}
use Rattle.sed_units.specs.declared.leaves.TypeRef.{TypeRef}
use Rattle.sed_typed.specs.declared.kind.Kind.{Kind}
use Rattle.sed_typed.specs.declared.kind.Kind.TheVariants as kind
use Rattle.sed_typed.specs.declared.program.Method.{Method}
use Rattle.sed_typed.specs.declared.program.Program.{Program}
use Rattle.sed_typed.specs.declared.statement.Stmt.{Stmt}
use Rattle.sed_typed.specs.Locals.{Declared, AreNumbered, declared_in}
use Rattle.sed_typed.specs.Typed.{IsStorable, receiver_of, declared_by}
use Rattle.sed_typed.specs.TypedExpr.{Context, IsKindOf}
use Rattle.sed_typed.specs.TypedStmt.{Around as TypedAround, IsStmt}
use Rattle.sed_names.specs.Names.{Names}
use Rattle.sed_faults.specs.declared.fault.Fault.{Fault}
use Rattle.sed_terms.specs.declared.judged.Judged.{Judged}
use Rattle.sed_terms.specs.declared.judged.Judged.TheVariants.{Sound}
use Rattle.sed_terms.specs.Faults.{all_faults, broken, unless, Right}
use Rattle.sed_terms.specs.Seen.{stmt_term}
use Rattle.sed_terms.specs.Term.{Term}
use Rattle.sed_terms.specs.TermDepth.{declared_term}
use Rattle.sed_terms.specs.TypedStmtTerm.{IsStmtTerm}
use Rattle.sed_body_rules.specs.LocalTypes.{local_kind}
use Rattle.sed_body_rules.specs.Scope.{Scope, with_local, scope_of, behind_params}
use Rattle.sed_statements.specs.declared.leaving.Around.{Around}
use Rattle.sed_statements.specs.Declarations.{is_free, has_free_name, free_too, are_free_names}
use Rattle.sed_statements.specs.Leaving.{outermost as directly}
use Rattle.sed_statements.specs.declared.enclosing.Enclosing.{Enclosing}
use Rattle.sed_statements.specs.Inside.{around_of, HasResult, Provides, Stands}
use Rattle.sed_statements.specs.Methods.{beginning, judge_params, judge_body, judge_method}
use Rattle.sed_statements.specs.Statements.{judge_stmt}
use Rattle.sed_body_laws.specs.Bodies.{context_of, outermost, HasNames, Means, IsHeadOf, IsBodyTerm, IsTypedBody}
use Rattle.sed_body_laws.specs.Declared.{types_in}
use Rattle.sed_body_laws.proofs.Beginning.{OneMore, IsBehind, has_kinds, begins, begin_next, begin_limit, begin_further, behind_all}
use Rattle.sed_body_laws.proofs.Declared.{Counting, Of, stmt_declares}
use Rattle.sed_body_laws.proofs.Slots.{kind_or, slots_of, provides}
use Rattle.sed_body_laws.proofs.Sound.{beside_right, right_and_sound}
use Rattle.sed_body_laws.proofs.Storable.{HasClasses, local_storable, first_same, rest_same, kinds_storable, types_storable, types_are_kinds, all_kinds, at_place}

-- what is said of statements elsewhere
abbrev pub Statements : Type 0
Statements = (c : Context) (n : Names) (e : Enclosing) (around : Around) (s : Scope) → Stands c n e s → HasResult c e →
    (t : Tree) → Provides c n s.limit s.next t →
    Right (IsStmtTerm c (around_of around)) (judge_stmt all_faults n e around s t)

-- ---- parameters

one_there : (f : Fault) → f ∷ [] ≡ [] → ⊥
one_there f e = cc

unless_known : {A : Type 0} (test : Bool) (f : Fault) (a : A) → Right (λ _. Unit {0}) (unless all_faults test f a)
unless_known true f a = tt
unless_known false f a = one_there f

names_right : (n : Names) (s : Scope) (x : Judged Bool (List Fault)) (ps : List Param) → Right (λ _. Unit {0}) x →
    Right (λ _. Unit {0}) (are_free_names all_faults n s x ps)
names_right n s x [] h = h
names_right n s x (p ∷ ps) h =
    let free = is_free s p.name.bytes in
    names_right n (with_local n s p.kind p.name.bytes) (free_too all_faults x (has_free_name all_faults p.at free)) ps
    (beside_right {A = Bool} {B = Bool} (λ _. Unit {0}) x (has_free_name all_faults p.at free) h (unless_known free
    (broken 23 p.at) free))

pub params_right : (n : Names) (e : Enclosing) (ps : List Param) →
    Right (λ _. Unit {0}) (judge_params all_faults n e ps)
params_right n e ps = names_right n (beginning e) (Sound true) ps tt

-- ---- kinds

some_kinds : (ds : List Declared) → map (λ k. Some k) (map (λ d. d.kind) ds) ≡ map (λ d. Some d.kind) ds
some_kinds [] = refl
some_kinds (d ∷ ds) = ap (λ os. Some d.kind ∷ os) (some_kinds ds)

is_kind : (n : Names) (t : TypeRef) (k : Kind) → Some k ≡ local_kind n t → kind_or n t ≡ k
is_kind n t k h = by_kind (local_kind n t) h
  where
    by_kind : (o : Option Kind) → Some k ≡ o → unwrap_or o kind.Void ≡ k
    by_kind None g = absurd (cc)
    by_kind (Some x) g = cc

same_kinds : (n : Names) (ds : List Declared) (ts : List TypeRef) → map (λ d. Some d.kind) ds ≡ map (local_kind n) ts →
    map (kind_or n) ts ≡ map (λ d. d.kind) ds
same_kinds n [] [] e = refl
same_kinds n [] (t ∷ ts) e = absurd (cc)
same_kinds n (d ∷ ds) [] e = absurd (cc)
same_kinds n (d ∷ ds) (t ∷ ts) e =
    ap (λ k. k ∷ map (kind_or n) ts) (is_kind n t d.kind (first_same (Some d.kind) (local_kind n t) (map
    (λ x. Some x.kind) ds) (map (local_kind n) ts) e))
    ∙ ap (λ ks. d.kind ∷ ks) (same_kinds n ds ts (rest_same (Some d.kind) (local_kind n t) (map (λ x. Some x.kind) ds)
    (map (local_kind n) ts) e))

params_storable : (program : Program) (n : Names) → HasClasses program n → (ps : List Param) →
    All (λ o. IfSome o (IsStorable program)) (map (λ p. local_kind n p.kind) ps)
params_storable program n h [] = All-nil (λ o. IfSome o (IsStorable program))
params_storable program n h (p ∷ ps) =
    All-cons (λ o. IfSome o (IsStorable program)) (local_kind n p.kind) (map (λ q. local_kind n q.kind) ps)
    (local_storable program n h p.kind) (params_storable program n h ps)

receiver_storable : (program : Program) (is_static : Bool) (k : Kind) → IsStorable program k →
    All (IsStorable program) (if is_static then [] else k ∷ [])
receiver_storable program true k h = All-nil (IsStorable program)
receiver_storable program false k h = All-cons (IsStorable program) k [] h (All-nil (IsStorable program))

-- ---- a body

-- where a body stands, with the kinds that its source declares
abbrev Source : Program → Names → Method → List TypeRef → Context
Source program n m types = context_of program m (map (kind_or n) types)

abbrev begun : Names → Enclosing → List Param → Scope
begun n e ps = behind_params n (beginning e) ps

-- a method of a program, and where its body stands
pub record Standing (program : Program) (n : Names) (e : Enclosing) (ps : List Param) (m : Method)
    (c : Context) : Type 0 where
  pub result : HasResult c e
  pub behind : IsBehind c n e (length (receiver_of m)) (length m.params) (beginning e) (behind_params n
      (beginning e) ps)
  pub further : c.is_static ≡ false → 0 < length (receiver_of m ++ m.params)

front_storable : (program : Program) (n : Names) (e : Enclosing) (ps : List Param) (m : Method) →
    HasClasses program n → IsHeadOf program n e ps m →
    All (IsStorable program) (receiver_of m ++ m.params)
front_storable program n e ps m h d =
    All-append (IsStorable program) (receiver_of m) m.params (receiver_storable program m.is_static
    (kind.Object m.class) d.class_there)
    (kinds_storable program m.params (map (λ p. local_kind n p.kind) ps) d.params (params_storable program n h ps))

standing : OneMore → (program : Program) (n : Names) (e : Enclosing) (ps : List Param) (m : Method) → Means program n →
    IsHeadOf program n e ps m →
    (types : List TypeRef) → Standing program n e ps m (context_of program m (map (kind_or n) types))
standing more program n e ps m means d types = record {
  result = (d.result, d.result_there);
  behind =
      behind_all more (Source program n m types) n e (receiver_of m) m.params (map (kind_or n) types) ps (beginning e)
      (begins (Source program n m types) n e names
      (has_kinds (Source program n m types) n names d.class_there (at_place program (receiver_of m ++ m.params
      ++ map (kind_or n) types) kinds)) (ap (λ t. t.0) d.class) d.static (not e.body.is_static))
      next fits refl d.params further;
  further = λ h. omega (arith, further h, length-append (receiver_of m) m.params);
}
  where
    names : HasNames (Source program n m types) n
    names = means m.class.0 m.is_static (receiver_of m ++ m.params ++ map (kind_or n) types) m.result

    classes : HasClasses program n
    classes = record { classes = names.classes; classes_in = names.classes_in }

    kinds : All (IsKindOf program) (receiver_of m ++ m.params ++ map (kind_or n) types)
    kinds =
        All-append (IsKindOf program) (receiver_of m ++ m.params) (map (kind_or n) types)
        (all_kinds program (receiver_of m ++ m.params) (front_storable program n e ps m classes d))
        (types_are_kinds program n classes types)

    next : (let s : Scope = beginning e in s.next) ≡ length (receiver_of m)
    next = ap (λ b. let s : Scope = scope_of (not b) in s.next) d.static ∙ begin_next m.is_static (kind.Object m.class)

    limit : (let s : Scope = beginning e in s.limit) ≡ length (receiver_of m) + 64
    limit = ap (λ b. let s : Scope = scope_of (not b) in s.limit) d.static
        ∙ begin_limit m.is_static (kind.Object m.class)

    fits : length (receiver_of m) + length m.params ≤ (let s : Scope = beginning e in s.limit)
    fits = omega (arith, limit, d.params_most)

    further : m.is_static ≡ false → 0 < length (receiver_of m)
    further h = begin_further m.is_static (kind.Object m.class) h

-- a body's statements as one block
abbrev block : List Tree → Tree
block all = Part (label.Block 0) (row all) NoTree

body_term : (program : Program) (n : Names) (e : Enclosing) (ps : List Param) (m : Method) → Means program n →
    IsHeadOf program n e ps m → (all : List Tree) →
    Standing program n e ps m (context_of program m (map (kind_or n) (types_in (row all)))) → (t : Term) →
    IsStmtTerm (context_of program m (map (kind_or n) (types_in (row all)))) outermost t →
    (let z : Scope = behind_params n (beginning e) ps in Of n z.limit z.next (block all) t) →
    IsBodyTerm program m n all t
body_term program n e ps m means d all st t typed ds = record {
  kinds = ds.kinds;
  storable =
      All-append (IsStorable program) (receiver_of m ++ m.params) (map (λ x. x.kind) (declared_term t))
      (front_storable program n e ps m classes d)
      (kinds_storable program (map (λ x. x.kind) (declared_term t)) (map (local_kind n) (types_in (row all)))
      (some_kinds (declared_term t) ∙ ds.kinds)
      (types_storable program n classes (types_in (row all))));
  numbered = subst (λ (i : ℕ). AreNumbered i (declared_term t)) next ds.numbered;
  most_locals = omega (arith, ds.room st.behind.stands.room, next, limit, length-append (receiver_of m) m.params);
  typed =
      subst (λ (ks : List Kind). IsStmtTerm (context_of program m ks) outermost t) (same_kinds n (declared_term t)
      (types_in (row all)) ds.kinds) typed;
}
  where
    names : HasNames (context_of program m []) n
    names = means m.class.0 m.is_static (receiver_of m ++ m.params ++ []) m.result

    classes : HasClasses program n
    classes = record { classes = names.classes; classes_in = names.classes_in }

    next : (let z : Scope = begun n e ps in z.next) ≡ length (receiver_of m ++ m.params)
    next = st.behind.next ∙ sym (length-append (receiver_of m) m.params)

    limit : (let z : Scope = begun n e ps in z.limit) ≡ length (receiver_of m) + 64
    limit =
        st.behind.limit ∙ ap (λ b. let s : Scope = scope_of (not b) in s.limit) d.static
        ∙ begin_limit m.is_static (kind.Object m.class)

pub method_right : Statements → Counting → OneMore → (program : Program) (n : Names) (e : Enclosing) (ps : List Param)
    (m : Method) → Means program n →
    IsHeadOf program n e ps m → (all : List Tree) → Right (IsBodyTerm program m n all)
    (judge_method all_faults n e ps all)
method_right statements counting more program n e ps m means d all =
    let types = types_in (row all) in
    let c = Source program n m types in
    let z = begun n e ps in
    let st : Standing program n e ps m c = standing more program n e ps m means d types in
    let provided : Provides c n z.limit z.next (row all) =
    subst (λ (i : ℕ). Provides c n z.limit i (row all)) (sym (st.behind.next
    ∙ sym (length-append (receiver_of m) m.params)))
    (provides c n z.limit (length (receiver_of m ++ m.params)) (row all) (slots_of c n z.limit (receiver_of m
    ++ m.params) types refl st.further)) in
    beside_right {A = Bool} {B = Term} (IsBodyTerm program m n all) (judge_params all_faults n e ps)
    (judge_body all_faults n e z all) (params_right n e ps)
    (right_and_sound (IsStmtTerm c outermost) (Of n z.limit z.next (block all)) (IsBodyTerm program m n all)
    (judge_body all_faults n e z all)
    (λ t typed ds. body_term program n e ps m means d all st t typed ds)
    (statements c n e directly z st.behind.stands st.result (block all) provided)
    (stmt_declares counting n e directly z (block all)))

-- ---- the tree

abbrev pub Methods : Type 0
Methods = (program : Program) (n : Names) (e : Enclosing) (ps : List Param) (m : Method) → Means program n →
    IsHeadOf program n e ps m → (all : List Tree) →
    Right (IsBodyTerm program m n all) (judge_method all_faults n e ps all)

pub sound_body : Methods → ((c : Context) (around : TypedAround) (s : Stmt) → IsStmtTerm c around (stmt_term s) →
    IsStmt c around s) →
    ((s : Stmt) → declared_in s ≡ declared_term (stmt_term s)) →
    (program : Program) (n : Names) (e : Enclosing) (ps : List Param) (m : Method) → Means program n →
    IsHeadOf program n e ps m → (all : List Tree) (body : Stmt) → m.body ≡ Some body →
    judge_method all_faults n e ps all ≡ Sound (stmt_term body) → IsTypedBody program m body
sound_body methods typed locals program n e ps m means d all body has sound = record {
  storable = subst (λ (ds : List Declared). All (IsStorable program) (receiver_of m ++ m.params
      ++ map (λ x. x.kind) ds)) (sym same) term.storable;
  numbered = subst (λ (ds : List Declared). AreNumbered (length (receiver_of m
      ++ m.params)) ds) (sym same) term.numbered;
  most_locals = subst (λ (ds : List Declared). length m.params + length ds ≤ 64) (sym same) term.most_locals;
  typed =
      subst (λ (ds : List Declared). IsStmt (context_of program m (map (λ x. x.kind) ds)) outermost body) (sym same)
      (typed (context_of program m (map (λ x. x.kind) (declared_term (stmt_term body)))) outermost body term.typed);
}
  where
    term : IsBodyTerm program m n all (stmt_term body)
    term =
        let right : Right (IsBodyTerm program m n all) (Sound (stmt_term body)) =
        subst (λ (x : Judged Term (List Fault)). Right (IsBodyTerm program m n all) x) sound
        (methods program n e ps m means d all) in
        right

    same : declared_by m ≡ declared_term (stmt_term body)
    same = ap (λ o. option_map_or declared_in o []) has ∙ locals body
