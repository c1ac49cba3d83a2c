-- What a sound statement declares: the locals of its source, numbered on.
use Rattle.std.proofs.Common.{◌≡◌, ℕ, ◌==◌, Bool, true, false, nat_lt, if◌then◌else◌, List, [], ◌∷◌, ◌++◌, Option, Some, None, refl, sym, ap, subst, ◌∙◌, append_assoc}
use Rattle.std.proofs.lemmas.List.{append-nil}
use Rattle.sed_units.specs.Tree.{Tree, Absent as NoTree, Part}
use Rattle.sed_units.specs.declared.label.Label.TheVariants as label
use Rattle.sed_units.specs.declared.leaves.TypeRef.{TypeRef}
use Rattle.sed_typed.specs.declared.kind.Kind.{Kind}
use Rattle.sed_typed.specs.declared.kind.Kind.TheVariants as kind
use Rattle.sed_typed.specs.declared.statement.Label.{Label}
use Rattle.sed_typed.specs.Locals.{Declared}
use Rattle.sed_names.specs.Names.{Names}
use Rattle.sed_faults.specs.declared.fault.Fault.{Fault}
use Rattle.sed_terms.specs.declared.judged.Judged.{Judged}
use Rattle.sed_terms.specs.declared.judged.Judged.TheVariants.{Sound, Unknown}
use Rattle.sed_terms.specs.declared.sign.Sign.TheVariants as sign
use Rattle.sed_terms.specs.Faults.{all_faults, broken, paired, IfSound}
use Rattle.sed_terms.specs.Forms.{discarded, evaluating}
use Rattle.sed_terms.specs.Term.{Term, Absent, Node, leaf, appended, with_item}
use Rattle.sed_terms.specs.TermDepth.{declared_term}
use Rattle.sed_body_rules.specs.Conversions.{is_int}
use Rattle.sed_body_rules.specs.Wants.{wants, truth}
use Rattle.sed_body_rules.specs.Stores.{going}
use Rattle.sed_body_rules.specs.declared.local.TypeMeaning.{TypeMeaning}
use Rattle.sed_body_rules.specs.declared.local.TypeMeaning.TheVariants.{Is, NoClass, Outside}
use Rattle.sed_body_rules.specs.LocalTypes.{type_meaning, kind_of_meaning, local_kind}
use Rattle.sed_body_rules.specs.Scope.{Scope, following, numbered_past, past, behind, behind_all, behind_case}
use Rattle.sed_bodies.specs.Expressions.{judge}
use Rattle.sed_bodies.specs.Places.{place_of}
use Rattle.sed_statements.specs.declared.leaving.Around.{Around}
use Rattle.sed_statements.specs.Declarations.{is_storable, has_number, is_free, has_free_name, new_number, declared, begun_bare, begun}
use Rattle.sed_statements.specs.Labels.{with_label, with_case}
use Rattle.sed_statements.specs.Leaving.{in_loop, in_switch}
use Rattle.sed_statements.specs.Returns.{returned_nothing, returned, answering, has_result}
use Rattle.sed_statements.specs.Rows.{evaluated, followed}
use Rattle.sed_statements.specs.declared.enclosing.Enclosing.{Enclosing}
use Rattle.sed_statements.specs.Inside.{CountsOn}
use Rattle.sed_statements.specs.Parts.{is_expression}
use Rattle.sed_statements.specs.Statements.{judge_local, judge_return, judge_first_local, judge_first, judge_test, judge_last, judge_label, judge_stmt, judge_stmts, judge_case, judge_cases}
use Rattle.sed_body_laws.specs.Declared.{types_in}
use Rattle.sed_body_laws.proofs.Numbers.{Declares, declares_none, declares_one, declares_both, declares_at}
use Rattle.sed_body_laws.proofs.Sound.{after_sound, paired_sound, joined_sound, unless_sound, sound_weaker, all_known}

-- how far scopes come, which is said elsewhere
pub record Counting : Type 0 where
  pub statement : (n : Names) (s : Scope) (t : Tree) → CountsOn s t (behind n s t)
  pub row : (n : Names) (s : Scope) (t : Tree) → CountsOn s t (behind_all n s t)
  pub label : (n : Names) (s : Scope) (t : Tree) → CountsOn s t (behind_case n s t)

abbrev All : Type 0
All = Judged Term (List Fault)

-- a term declares what its tree does
abbrev pub Of : Names → ℕ → ℕ → Tree → Term → Type 0
Of n limit next t u = Declares n limit next (types_in t) (numbered_past limit next t) (declared_term u)

of_at : (n : Names) (limit limit' next next' : ℕ) (t : Tree) (u : Term) → limit ≡ limit' → next ≡ next' →
    Of n limit next t u → Of n limit' next' t u
of_at n limit limit' next next' t u el en h =
    subst (λ (x : ℕ). Of n limit' x t u) en (subst (λ (x : ℕ). Of n x next t u) el h)

-- ---- what declares nothing

evaluates_none : (t : Term) → declared_term (evaluating t) ≡ []
evaluates_none Absent = refl
evaluates_none (Node s a b) = refl

pub record IsBare (t : Tree) : Type 0 where
  pub types : types_in t ≡ []
  pub numbers : (limit next : ℕ) → numbered_past limit next t ≡ next

expression_bare : (t : Tree) → is_expression t ≡ true → IsBare t
expression_bare NoTree h = record { types = refl; numbers = λ limit next. refl }
expression_bare (Part (label.Literal l) x y) h = record { types = refl; numbers = λ limit next. refl }
expression_bare (Part (label.This at) x y) h = record { types = refl; numbers = λ limit next. refl }
expression_bare (Part (label.Super at id) x y) h = record { types = refl; numbers = λ limit next. refl }
expression_bare (Part (label.Name id) x y) h = record { types = refl; numbers = λ limit next. refl }
expression_bare (Part (label.Of kit id) x y) h = record { types = refl; numbers = λ limit next. refl }
expression_bare (Part (label.Call id) x y) h = record { types = refl; numbers = λ limit next. refl }
expression_bare (Part (label.Paren at) x y) h = record { types = refl; numbers = λ limit next. refl }
expression_bare (Part (label.Prefix at op) x y) h = record { types = refl; numbers = λ limit next. refl }
expression_bare (Part (label.Cast at kind) x y) h = record { types = refl; numbers = λ limit next. refl }
expression_bare (Part (label.Chain at) x y) h = record { types = refl; numbers = λ limit next. refl }
expression_bare (Part (label.Update at op) x y) h = record { types = refl; numbers = λ limit next. refl }
expression_bare (Part (label.Conditional at) x y) h = record { types = refl; numbers = λ limit next. refl }
expression_bare (Part (label.Assign at op) x y) h = record { types = refl; numbers = λ limit next. refl }
expression_bare (Part l x y) h = absurd (cc)

none_of : (n : Names) (limit next : ℕ) (t : Tree) (u : Term) → IsBare t → declared_term u ≡ [] → Of n limit next t u
none_of n limit next t u b e =
    declares_at n limit limit next next [] (types_in t) next (numbered_past limit next t) []
    (declared_term u) refl refl (sym b.types) (sym (b.numbers limit next)) (sym e)
    (declares_none n limit next)

evaluated_declares : (n : Names) (limit next : ℕ) (t : Tree) → IsBare t → (x : All) →
    IfSound (evaluated x) (Of n limit next t)
evaluated_declares n limit next t b x =
    after_sound {A = Term} {B = Term} (λ _. Unit {0}) (Of n limit next t) x _ (all_known x)
    (λ u _. none_of n limit next t (evaluating (discarded u)) b (evaluates_none (discarded u)))

-- ---- a local

storable_declares : (at : ℕ) (t : TypeMeaning) → IfSound (is_storable all_faults at t) (λ k. kind_of_meaning t ≡ Some k)
storable_declares at (Is k) = refl
storable_declares at (NoClass name_at) = tt
storable_declares at Outside = tt

abbrev IsNext : ℕ → ℕ → ℕ → Type 0
IsNext limit next i = (i ≡ next) × (nat_lt next limit ≡ true)

number_declares : (at limit next : ℕ) → IfSound (has_number all_faults at limit next) (IsNext limit next)
number_declares at limit next = by_tests (nat_lt next limit) (next == limit) refl
  where
    by_tests : (below equal : Bool) → nat_lt next limit ≡ below →
        IfSound (if below then Sound next else if equal then Unknown (all_faults.one (broken 22 at))
        else Unknown all_faults.none) (IsNext limit next)
    by_tests true equal a = (refl, a)
    by_tests false true a = tt
    by_tests false false a = tt

pub record IsDeclared (n : Names) (s : Scope) (type : TypeRef) (p : Kind × ℕ) : Type 0 where
  pub kind : local_kind n type ≡ Some p.0
  pub number : p.1 ≡ s.next
  pub room : nat_lt s.next s.limit ≡ true

declared_declares : (n : Names) (s : Scope) (at : ℕ) (type : TypeRef) (name : List ℕ) →
    IfSound (declared all_faults n s at type name) (IsDeclared n s type)
declared_declares n s at type name =
    joined_sound {A = Kind} {B = ℕ} {C = Kind × ℕ} (λ k. local_kind n type
    ≡ Some k) (IsNext s.limit s.next) (IsDeclared n s type)
    (is_storable all_faults at (type_meaning n type)) (new_number all_faults at s name) _ (storable_declares at
    (type_meaning n type))
    (joined_sound {A = ℕ} {B = Bool} {C = ℕ} (IsNext s.limit s.next) (λ _. Unit {0}) (IsNext s.limit s.next)
    (has_number all_faults at s.limit s.next)
    (has_free_name all_faults at (is_free s name)) _ (number_declares at s.limit s.next) (all_known
    (has_free_name all_faults at (is_free s name))) (λ i free p _. p))
    (λ k i e q. record { kind = e; number = q.0; room = q.1 })

one_of : (n : Names) (s : Scope) (type : TypeRef) (p : Kind × ℕ) → IsDeclared n s type p →
    Declares n s.limit s.next (type ∷ []) (following s.limit s.next) (record { number = p.1; kind = p.0 } ∷ [])
one_of n s type p d =
    subst (λ (i : ℕ). Declares n s.limit s.next (type ∷ []) (following s.limit s.next)
    (record { number = i; kind = p.0 } ∷ [])) (sym d.number)
    (declares_one n s.limit s.next type p.0 d.kind d.room)

local_declares : (n : Names) (c : Enclosing) (s : Scope) (at : ℕ) (type : TypeRef) (name : List ℕ) (value : Tree) →
    IfSound (judge_local all_faults n c s at type name value) (λ u. Declares n s.limit s.next (type ∷ [])
    (following s.limit s.next) (declared_term u))
local_declares n c s at type name value = by_test (is_expression value)
  where
    by_test : (there : Bool) → IfSound
        (if there then begun all_faults n (declared all_faults n s at type name) (place_of value)
        (judge all_faults n c.body s value)
        else begun_bare (declared all_faults n s at type name))
        (λ u. Declares n s.limit s.next (type ∷ []) (following s.limit s.next) (declared_term u))
    by_test true =
        joined_sound {A = Kind × ℕ} {B = Term} {C = Term} (IsDeclared n s type) (λ _. Unit {0})
        (λ u. Declares n s.limit s.next (type ∷ []) (following s.limit s.next) (declared_term u))
        (declared all_faults n s at type name) (judge all_faults n c.body s value) _
        (declared_declares n s at type name) (all_known (judge all_faults n c.body s value))
        (λ p t d _. after_sound {A = Term} {B = Term} (λ _. Unit {0}) (λ u. Declares n s.limit s.next (type ∷ [])
        (following s.limit s.next) (declared_term u))
        (going all_faults n.below p.0 (place_of value) t) _ (all_known (going all_faults n.below p.0
        (place_of value) t)) (λ v _. one_of n s type p d))
    by_test false =
        after_sound {A = Kind × ℕ} {B = Term} (IsDeclared n s type) (λ u. Declares n s.limit s.next (type ∷ [])
        (following s.limit s.next) (declared_term u))
        (declared all_faults n s at type name) _ (declared_declares n s at type name) (λ p d. one_of n s type p d)

-- ---- statements without others inside

first_local_declares : (n : Names) (c : Enclosing) (s : Scope) (t : Tree) →
    IfSound (judge_first_local all_faults n c s t) (Of n s.limit s.next t)
first_local_declares n c s NoTree = declares_none n s.limit s.next
first_local_declares n c s (Part (label.Local at type name) value y) = local_declares n c s at type name.bytes value
first_local_declares n c s t = tt

first_declares : (n : Names) (c : Enclosing) (s : Scope) (t : Tree) →
    IfSound (judge_first all_faults n c s t) (Of n s.limit s.next t)
first_declares n c s t = by_test (is_expression t) refl
  where
    by_test : (there : Bool) → is_expression t ≡ there →
        IfSound (if there then evaluated (judge all_faults n c.body s t)
        else judge_first_local all_faults n c s t) (Of n s.limit s.next t)
    by_test true e = evaluated_declares n s.limit s.next t (expression_bare t e) (judge all_faults n c.body s t)
    by_test false e = first_local_declares n c s t

returned_nothing_declares : (limit next at : ℕ) (n : Names) (k : Option Kind) →
    IfSound (returned_nothing all_faults k at) (λ u. Declares n limit next [] next (declared_term u))
returned_nothing_declares limit next at n None = tt
returned_nothing_declares limit next at n (Some kind.Void) = declares_none n limit next
returned_nothing_declares limit next at n (Some k) = tt

return_declares : (n : Names) (c : Enclosing) (s : Scope) (at : ℕ) (value : Tree) →
    IfSound (judge_return all_faults n c s at value) (λ u. Declares n s.limit s.next [] s.next (declared_term u))
return_declares n c s at value = by_test (is_expression value)
  where
    by_test : (there : Bool) → IfSound
        (if there then returned all_faults n c.result (place_of value) (judge all_faults n c.body s value)
        else returned_nothing all_faults c.result at)
        (λ u. Declares n s.limit s.next [] s.next (declared_term u))
    by_test true =
        joined_sound {A = Kind} {B = Term} {C = Term} (λ _. Unit {0}) (λ _. Unit {0})
        (λ u. Declares n s.limit s.next [] s.next (declared_term u))
        (has_result all_faults c.result (place_of value)) (judge all_faults n c.body s value) _ (all_known
        (has_result all_faults c.result (place_of value)))
        (all_known (judge all_faults n c.body s value))
        (λ to t _ _. after_sound {A = Term} {B = Term} (λ _. Unit {0}) (λ u. Declares n s.limit s.next [] s.next
        (declared_term u))
        (answering all_faults n to (place_of value) t) _ (all_known (answering all_faults n to (place_of value) t))
        (λ v _. declares_none n s.limit s.next))
    by_test false = returned_nothing_declares s.limit s.next at n c.result

-- ---- rows

abbrev pub IsRow : Term → Type 0
IsRow Absent = Unit {0}
IsRow (Node sign.More x rest) = IsRow rest
IsRow t = ⊥

abbrev pub AreCases : Term → Type 0
AreCases Absent = Unit {0}
AreCases (Node (sign.Label l) x rest) = AreCases rest
AreCases t = ⊥

row_more : (ts u : Term) → IsRow ts → IsRow (with_item ts u)
row_more Absent u h = tt
row_more (Node sign.More x rest) u h = row_more rest u h
row_more (Node s x rest) u h = absurd h

declared_more : (ts u : Term) → IsRow ts → declared_term (with_item ts u) ≡ declared_term ts ++ declared_term u
declared_more Absent u h = append-nil (declared_term u)
declared_more (Node sign.More x rest) u h =
    ap (λ ds. declared_term x ++ ds) (declared_more rest u h)
    ∙ sym (append_assoc (declared_term x) (declared_term rest) (declared_term u))
declared_more (Node s x rest) u h = absurd h

abbrev a_case : Label → Term → Term
a_case l all = Node (sign.Label l) (Node sign.Block all Absent) Absent

cases_more : (ts : Term) (l : Label) (all : Term) → AreCases ts → AreCases (appended ts (a_case l all))
cases_more Absent l all h = tt
cases_more (Node (sign.Label k) x rest) l all h = cases_more rest l all h
cases_more (Node s x rest) l all h = absurd h

declared_case : (ts : Term) (l : Label) (all : Term) → AreCases ts →
    declared_term (appended ts (a_case l all)) ≡ declared_term ts ++ declared_term all
declared_case Absent l all h = append-nil (declared_term all)
declared_case (Node (sign.Label k) x rest) l all h =
    ap (λ ds. declared_term x ++ ds) (declared_case rest l all h)
    ∙ sym (append_assoc (declared_term x) (declared_term rest) (declared_term all))
declared_case (Node s x rest) l all h = absurd h

-- a row so far, which began at a number
abbrev Row : Names → ℕ → ℕ → List TypeRef → ℕ → Term → Type 0
Row n limit start types next ts = IsRow ts × Declares n limit start types next (declared_term ts)

abbrev Cases : Names → ℕ → ℕ → List TypeRef → ℕ → Term → Type 0
Cases n limit start types next ts = AreCases ts × Declares n limit start types next (declared_term ts)

-- what stands behind another number, which the scope has come to
next_is : (limit : ℕ) (s z : Scope) (t : Tree) → s.limit ≡ limit → CountsOn s t z →
    z.next ≡ numbered_past limit s.next t
next_is limit s z t el r = r.0 ∙ ap (λ l. numbered_past l s.next t) el

row_with : (n : Names) (limit start : ℕ) (s z : Scope) (types : List TypeRef) (t : Tree) (ts u : Term) →
    s.limit ≡ limit → CountsOn s t z →
    Row n limit start types s.next ts → Of n s.limit s.next t u →
    Row n limit start (types ++ types_in t) z.next (with_item ts u)
row_with n limit start s z types t ts u el r h g = (
  row_more ts u h.0,
  declares_at n limit limit start start (types ++ types_in t) (types
      ++ types_in t) (numbered_past limit s.next t) z.next (declared_term ts ++ declared_term u)
      (declared_term (with_item ts u)) refl refl refl (sym (next_is limit s z t el r)) (sym (declared_more ts u h.0))
      (declares_both n limit start types (types_in t) s.next (numbered_past limit s.next t) (declared_term ts)
      (declared_term u) h.1
      (of_at n s.limit limit s.next s.next t u el refl g)),
)

-- a row that goes on behind a statement
row_on : (n : Names) (limit start : ℕ) (s z : Scope) (types : List TypeRef) (t rest : Tree) (ds : List Declared) →
    s.limit ≡ limit → CountsOn s t z →
    Declares n limit start (types ++ types_in t ++ types_in rest) (numbered_past limit z.next rest) ds →
    Declares n limit start (types ++ (types_in t ++ types_in rest)) (numbered_past limit
    (numbered_past limit s.next t) rest) ds
row_on n limit start s z types t rest ds el r h =
    declares_at n limit limit start start (types ++ types_in t ++ types_in rest) (types ++ (types_in t
    ++ types_in rest)) (numbered_past limit z.next rest)
    (numbered_past limit (numbered_past limit s.next t) rest) ds ds refl refl (append_assoc types (types_in t)
    (types_in rest))
    (ap (λ i. numbered_past limit i rest) (next_is limit s z t el r)) refl h

-- a row without a last item
row_ends : (n : Names) (limit start next : ℕ) (types : List TypeRef) (ds : List Declared) →
    Declares n limit start types next ds → Declares n limit start (types ++ []) next ds
row_ends n limit start next types ds h = declares_at n limit limit start start types (types
    ++ []) next next ds ds refl refl (sym (append-nil types)) refl refl h

-- one label more, with the row behind it
label_declares : (n : Names) (limit start : ℕ) (types : List TypeRef) (s : Scope) (all : Tree) (xs : All)
    (l : Judged Label (List Fault)) (ys : All) → s.limit ≡ limit →
    IfSound xs (Cases n limit start types s.next) → IfSound ys (Row n s.limit s.next (types_in all)
    (numbered_past s.limit s.next all)) →
    IfSound (with_case all_faults xs l ys) (Cases n limit start (types
    ++ types_in all) (numbered_past limit s.next all))
label_declares n limit start types s all xs l ys el h g =
    joined_sound {A = Term} {B = Label × Term} {C = Term} (Cases n limit start types s.next)
    (λ p. Unit {0} × Row n s.limit s.next (types_in all) (numbered_past s.limit s.next all) p.1)
    (Cases n limit start (types ++ types_in all) (numbered_past limit s.next all)) xs (paired all_faults l ys) _ h
    (paired_sound {A = Label} {B = Term} (λ _. Unit {0}) (Row n s.limit s.next (types_in all)
    (numbered_past s.limit s.next all)) l ys (all_known l) g)
    (λ ts p q r. (
      cases_more ts p.0 p.1 q.0,
      declares_at n limit limit start start (types ++ types_in all) (types
          ++ types_in all) (numbered_past limit s.next all) (numbered_past limit s.next all)
          (declared_term ts ++ declared_term p.1) (declared_term (appended ts (a_case p.0 p.1))) refl refl refl refl
          (sym (declared_case ts p.0 p.1 q.0))
          (declares_both n limit start types (types_in all) s.next (numbered_past limit s.next all) (declared_term ts)
          (declared_term p.1) q.1
          (of_at n s.limit limit s.next s.next all p.1 el refl r.1.1)),
    ))

-- ---- all statements

mutual
  pub stmt_declares : Counting → (n : Names) (c : Enclosing) (around : Around) (s : Scope) (t : Tree) →
      IfSound (judge_stmt all_faults n c around s t) (Of n s.limit s.next t)
  stmt_declares k n c around s NoTree = declares_none n s.limit s.next
  stmt_declares k n c around s (Part (label.Empty at) x y) = declares_none n s.limit s.next
  stmt_declares k n c around s (Part (label.Evaluate at) e y) =
      evaluated_declares n s.limit s.next (Part (label.Evaluate at) e y)
      (record { types = refl; numbers = λ limit next. refl }) (judge all_faults n c.body s e)
  stmt_declares k n c around s (Part (label.Local at type name) value y) = local_declares n c s at type name.bytes value
  stmt_declares k n c around s (Part (label.Block at) all y) =
      after_sound {A = Term} {B = Term} (Row n s.limit s.next (types_in all) (numbered_past s.limit s.next all))
      (Of n s.limit s.next (Part (label.Block at) all y))
      (judge_stmts all_faults n c around s (Sound Absent) all) _ (stmts_declare k n c around s.limit s.next [] s
      (Sound Absent) refl (tt, declares_none n s.limit s.next) all) (λ ts h. h.1)
  stmt_declares k n c around s (Part (label.If at) t (Part label.Both x y)) =
      joined_sound {A = Term} {B = Term × Term} {C = Term} (λ _. Unit {0}) (λ q. Of n s.limit s.next x q.0
      × Of n s.limit (numbered_past s.limit s.next x) y q.1)
      (Of n s.limit s.next (Part (label.If at) t (Part label.Both x y))) (truth all_faults (place_of t)
      (judge all_faults n c.body s t))
      (paired all_faults (judge_stmt all_faults n c around s x) (judge_stmt all_faults n c around (past s x) y)) _
      (all_known (truth all_faults (place_of t) (judge all_faults n c.body s t)))
      (paired_sound (Of n s.limit s.next x) (Of n s.limit (numbered_past s.limit s.next x) y)
      (judge_stmt all_faults n c around s x) (judge_stmt all_faults n c around (past s x) y)
      (stmt_declares k n c around s x) (stmt_declares k n c around (past s x) y))
      (λ v q _ h. declares_both n s.limit s.next (types_in x) (types_in y) (numbered_past s.limit s.next x)
      (numbered_past s.limit (numbered_past s.limit s.next x) y)
      (declared_term q.0) (declared_term q.1) h.0 h.1)
  stmt_declares k n c around s (Part (label.While at) t x) =
      joined_sound {A = Term} {B = Term} {C = Term} (λ _. Unit {0}) (Of n s.limit s.next x) (Of n s.limit s.next (Part
      (label.While at) t x))
      (truth all_faults (place_of t) (judge all_faults n c.body s t)) (judge_stmt all_faults n c in_loop s x) _
      (all_known (truth all_faults (place_of t) (judge all_faults n c.body s t))) (stmt_declares k n c in_loop s x)
      (λ v u _ h. h)
  stmt_declares k n c around s (Part (label.Do at) x t) =
      joined_sound {A = Term} {B = Term} {C = Term} (Of n s.limit s.next x) (λ _. Unit {0}) (Of n s.limit s.next (Part
      (label.Do at) x t))
      (judge_stmt all_faults n c in_loop s x) (truth all_faults (place_of t) (judge all_faults n c.body
      (past s x) t)) _ (stmt_declares k n c in_loop s x)
      (all_known (truth all_faults (place_of t) (judge all_faults n c.body (past s x) t))) (λ u v h _. h)
  stmt_declares k n c around s (Part (label.For at) (Part label.Both first t) (Part label.Both last x)) =
      let z = behind n s first in
      let r = k.statement n s first in
      joined_sound {A = Term × (Option Term × Option Term)} {B = Term} {C = Term} (λ q. Of n s.limit s.next first q.0
      × Unit {0})
      (Of n s.limit (numbered_past s.limit s.next first) x) (Of n s.limit s.next (Part (label.For at)
      (Part label.Both first t) (Part label.Both last x)))
      (paired {B = Option Term × Option Term} all_faults (judge_first all_faults n c s first) (paired all_faults
      (judge_test all_faults n c z t) (judge_last all_faults n c z last)))
      (judge_stmt all_faults n c in_loop z x) _
      (paired_sound {A = Term} {B = Option Term × Option Term} (Of n s.limit s.next first) (λ _. Unit {0})
      (judge_first all_faults n c s first)
      (paired all_faults (judge_test all_faults n c z t) (judge_last all_faults n c z last))
      (first_declares n c s first)
      (all_known (paired all_faults (judge_test all_faults n c z t) (judge_last all_faults n c z last))))
      (sound_weaker (Of n z.limit z.next x) (Of n s.limit (numbered_past s.limit s.next first) x)
      (judge_stmt all_faults n c in_loop z x)
      (λ u h. of_at n z.limit s.limit z.next (numbered_past s.limit s.next first) x u r.1 r.0 h)
      (stmt_declares k n c in_loop z x))
      (λ q u h g. declares_both n s.limit s.next (types_in first) (types_in x) (numbered_past s.limit s.next first)
      (numbered_past s.limit (numbered_past s.limit s.next first) x) (declared_term q.0) (declared_term u) h.0 g)
  stmt_declares k n c around s (Part (label.Switch at) e cases) =
      joined_sound {A = Term} {B = Term} {C = Term} (λ _. Unit {0}) (Cases n s.limit s.next (types_in cases)
      (numbered_past s.limit s.next cases))
      (Of n s.limit s.next (Part (label.Switch at) e cases)) (wants all_faults is_int (place_of e)
      (judge all_faults n c.body s e))
      (judge_cases all_faults n c (in_switch around) s [] (Sound Absent) cases) _ (all_known (wants all_faults is_int
      (place_of e) (judge all_faults n c.body s e)))
      (cases_declare k n c (in_switch around) s.limit s.next [] s [] (Sound Absent) refl
      (tt, declares_none n s.limit s.next) cases) (λ v ts _ h. h.1)
  stmt_declares k n c around s (Part (label.Break at) x y) =
      unless_sound (Of n s.limit s.next (Part (label.Break at) x y)) around.breaks (broken 18 at) (leaf sign.Break)
      (λ _. declares_none n s.limit s.next)
  stmt_declares k n c around s (Part (label.Continue at) x y) =
      unless_sound (Of n s.limit s.next (Part (label.Continue at) x y)) around.continues (broken 18 at)
      (leaf sign.Continue) (λ _. declares_none n s.limit s.next)
  stmt_declares k n c around s (Part (label.Return at) value y) = return_declares n c s at value
  stmt_declares k n c around s t = tt

  pub stmts_declare : Counting → (n : Names) (c : Enclosing) (around : Around) (limit start : ℕ) (types : List TypeRef)
      (s : Scope) (xs : All) → s.limit ≡ limit →
      IfSound xs (Row n limit start types s.next) → (t : Tree) →
      IfSound (judge_stmts all_faults n c around s xs t) (Row n limit start (types
      ++ types_in t) (numbered_past limit s.next t))
  stmts_declare k n c around limit start types s xs el h NoTree =
      sound_weaker (Row n limit start types s.next) (Row n limit start (types
      ++ []) s.next) xs (λ ts g. (g.0, row_ends n limit start s.next types (declared_term ts) g.1)) h
  stmts_declare k n c around limit start types s xs el h (Part label.More t rest) =
      let z = behind n s t in
      let r = k.statement n s t in
      sound_weaker (Row n limit start (types ++ types_in t ++ types_in rest) (numbered_past limit z.next rest))
      (Row n limit start (types ++ (types_in t ++ types_in rest)) (numbered_past limit
      (numbered_past limit s.next t) rest))
      (judge_stmts all_faults n c around z (followed all_faults xs (judge_stmt all_faults n c around s t)) rest)
      (λ us g. (g.0, row_on n limit start s z types t rest (declared_term us) el r g.1))
      (stmts_declare k n c around limit start (types ++ types_in t) z (followed all_faults xs
      (judge_stmt all_faults n c around s t)) (r.1 ∙ el)
      (joined_sound {A = Term} {B = Term} {C = Term} (Row n limit start types s.next) (Of n s.limit s.next t)
      (Row n limit start (types ++ types_in t) z.next) xs
      (judge_stmt all_faults n c around s t) _ h (stmt_declares k n c around s t)
      (λ ts u g q. row_with n limit start s z types t ts u el r g q)) rest)
  stmts_declare k n c around limit start types s xs el h t = tt

  case_declares : Counting → (n : Names) (c : Enclosing) (around : Around) (limit start : ℕ) (types : List TypeRef)
      (s : Scope) (labels : List Label) (xs : All) → s.limit ≡ limit →
      IfSound xs (Cases n limit start types s.next) → (t : Tree) →
      IfSound (judge_case all_faults n c around s labels xs t) (Cases n limit start (types
      ++ types_in t) (numbered_past limit s.next t))
  case_declares k n c around limit start types s labels xs el h (Part (label.Case at) e all) =
      label_declares n limit start types s all xs (judge_label all_faults n c s labels (Part (label.Case at) e all))
      (judge_stmts all_faults n c around s (Sound Absent) all) el h
      (stmts_declare k n c around s.limit s.next [] s (Sound Absent) refl (tt, declares_none n s.limit s.next) all)
  case_declares k n c around limit start types s labels xs el h (Part (label.Default at) all y) =
      label_declares n limit start types s all xs (judge_label all_faults n c s labels (Part (label.Default at) all y))
      (judge_stmts all_faults n c around s (Sound Absent) all) el h
      (stmts_declare k n c around s.limit s.next [] s (Sound Absent) refl (tt, declares_none n s.limit s.next) all)
  case_declares k n c around limit start types s labels xs el h t = tt

  pub cases_declare : Counting → (n : Names) (c : Enclosing) (around : Around) (limit start : ℕ) (types : List TypeRef)
      (s : Scope) (labels : List Label) (xs : All) → s.limit ≡ limit →
      IfSound xs (Cases n limit start types s.next) → (t : Tree) →
      IfSound (judge_cases all_faults n c around s labels xs t) (Cases n limit start (types
      ++ types_in t) (numbered_past limit s.next t))
  cases_declare k n c around limit start types s labels xs el h NoTree =
      sound_weaker (Cases n limit start types s.next) (Cases n limit start (types
      ++ []) s.next) xs (λ ts g. (g.0, row_ends n limit start s.next types (declared_term ts) g.1)) h
  cases_declare k n c around limit start types s labels xs el h (Part label.More t rest) =
      let z = behind_case n s t in
      let r = k.label n s t in
      let more = with_label labels (judge_label all_faults n c s labels t) in
      let ys = judge_case all_faults n c around s labels xs t in
      sound_weaker (Cases n limit start (types ++ types_in t ++ types_in rest) (numbered_past limit z.next rest))
      (Cases n limit start (types ++ (types_in t ++ types_in rest)) (numbered_past limit
      (numbered_past limit s.next t) rest))
      (judge_cases all_faults n c around z more ys rest) (λ us g. (
        g.0,
        row_on n limit start s z types t rest
            (declared_term us) el r g.1,
      ))
      (cases_declare k n c around limit start (types ++ types_in t) z more ys (r.1 ∙ el)
      (sound_weaker (Cases n limit start (types ++ types_in t) (numbered_past limit s.next t)) (Cases n limit start
      (types ++ types_in t) z.next) ys
      (λ ts g. (
        g.0,
        subst (λ (i : ℕ). Declares n limit start (types
            ++ types_in t) i (declared_term ts)) (sym (next_is limit s z t el r)) g.1,
      ))
      (case_declares k n c around limit start types s labels xs el h t)) rest)
  cases_declare k n c around limit start types s labels xs el h t = tt
