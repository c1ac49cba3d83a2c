-- The forms of statements give typed terms where their parts are typed, and unknown only with a fault inside.
use Rattle.std.proofs.Common.{◌≡◌, ◌≤◌, ℕ, ◌==◌, Bool, true, false, nat_lt, if◌then◌else◌, List, Option, Some, None, IfSome, refl, sym, subst, ◌∙◌, arith}
use Rattle.sed_units.specs.declared.leaves.TypeRef.{TypeRef}
use Rattle.sed_typed.specs.declared.kind.Kind.{Kind}
use Rattle.sed_typed.specs.declared.kind.Kind.TheVariants as kind
use Rattle.sed_typed.specs.TypedExpr.{Context, IsKindOf, GoesTo}
use Rattle.sed_typed.specs.TypedStmt.{Around as TypedAround}
use Rattle.sed_names.specs.Names.{Names}
use Rattle.sed_faults.specs.declared.fault.Fault.{Fault}
use Rattle.sed_terms.specs.declared.judged.Judged.{Judged}
use Rattle.sed_terms.specs.declared.judged.Judged.TheVariants.{Sound, Unknown}
use Rattle.sed_terms.specs.declared.sign.Sign.TheVariants as sign
use Rattle.sed_terms.specs.Faults.{all_faults, broken, Right}
use Rattle.sed_terms.specs.Forms.{discarded, evaluated_after, evaluating}
use Rattle.sed_terms.specs.Sorts.{term_kind}
use Rattle.sed_terms.specs.Term.{Term, Absent, Node, with_item}
use Rattle.sed_terms.specs.TypedTerm.{IsTerm}
use Rattle.sed_terms.specs.TypedStmtTerm.{IsTermFirst, IsTermLast, IsTermTest, IsStmtTerm, AreStmtTerms}
use Rattle.sed_body_rules.specs.Conversions.{is_int, placed}
use Rattle.sed_body_rules.specs.Wants.{wants, truth}
use Rattle.sed_body_rules.specs.declared.local.TypeMeaning.{TypeMeaning}
use Rattle.sed_body_rules.specs.declared.local.TypeMeaning.TheVariants.{Is, NoClass, Outside}
use Rattle.sed_body_rules.specs.LocalTypes.{type_meaning, kind_of_meaning, local_kind}
use Rattle.sed_body_rules.specs.Scope.{Scope}
use Rattle.sed_body_rules.specs.Stores.{going}
use Rattle.sed_bodies.specs.Inside.{Goes, HasKind, HasKinds, IsReady}
use Rattle.sed_statements.specs.Declarations.{is_storable, has_number, is_free, has_free_name, new_number, declared, begun_bare, begun}
use Rattle.sed_statements.specs.Returns.{returned_nothing, has_result, answering, returned}
use Rattle.sed_statements.specs.Inside.{IsLocalAt}
use Rattle.sed_statements.proofs.Right.{one_right, after_right, joined_right, unless_right, some_right}

abbrev pub All : Type 0
All = Judged Term (List Fault)

-- ---- what expressions in statements come to, which is said of them elsewhere

abbrev pub Conditions : Context → Type 0
Conditions c = (at : ℕ) (x : All) → Right (IsReady c) x → Right (HasKind c kind.Bool) (truth all_faults at x)

abbrev pub Ints : Context → Type 0
Ints c = (at : ℕ) (x : All) → Right (IsReady c) x → Right (HasKind c kind.Int) (wants all_faults is_int at x)

abbrev pub Places : Context → Names → Type 0
Places c n = (to : Kind) → IsKindOf c.program to → (t : Term) → IsReady c t → IfSome (placed n.below to t) (Goes c to)

-- ---- an expression whose value is not used

part_of : (c : Context) (t : Term) → IsTerm c t → IsTermLast c t
part_of c Absent h = tt
part_of c (Node s a b) h = h

after_part : (c : Context) (e t : Term) → IsTerm c e → IsTermLast c t → IsTermLast c (evaluated_after e t)
after_part c e Absent h p = part_of c e h
after_part c e (Node s a b) h p = (h, p)

pub part_ready : (c : Context) (t : Term) → IsReady c t → IsTermLast c (discarded t)
part_ready c (Node sign.Nothing a b) h = tt
part_ready c (Node (sign.Array p n i) e b) h = part_of c e h.0
part_ready c (Node (sign.StaticArray p n i) a b) h = tt
part_ready c (Node (sign.Buf i) e b) h = part_of c e h.0
part_ready c (Node (sign.Bytes i) e b) h = part_of c e h.0
part_ready c (Node sign.After e t) h = after_part c e (discarded t) h.0 (part_ready c t h.1)
part_ready c t h = part_of c t h.0

evaluating_typed : (c : Context) (a : TypedAround) (t : Term) → IsTermLast c t → IsStmtTerm c a (evaluating t)
evaluating_typed c a Absent h = tt
evaluating_typed c a (Node s x y) h = h

evaluating_first : (t : Term) → IsTermFirst (evaluating t)
evaluating_first Absent = tt
evaluating_first (Node s x y) = tt

pub evaluated_typed : (c : Context) (a : TypedAround) (t : Term) → IsReady c t →
    IsStmtTerm c a (evaluating (discarded t))
evaluated_typed c a t h = evaluating_typed c a (discarded t) (part_ready c t h)

pub evaluated_first : (t : Term) → IsTermFirst (evaluating (discarded t))
evaluated_first t = evaluating_first (discarded t)

-- ---- declarations

-- a local that is declared, at the next number
pub record IsDeclared (c : Context) (n : Names) (s : Scope) (type : TypeRef) (p : Kind × ℕ) : Type 0 where
  pub kind : local_kind n type ≡ Some p.0
  pub number : p.1 ≡ s.next
  pub room : nat_lt s.next s.limit ≡ true
  pub local : IsLocalAt c s.next p.0

storable_right : (at : ℕ) (t : TypeMeaning) → Right (λ k. kind_of_meaning t ≡ Some k) (is_storable all_faults at t)
storable_right at (Is k) = refl
storable_right at (NoClass name_at) = one_right (λ k. kind_of_meaning (NoClass name_at) ≡ Some k) (broken 1 name_at)
storable_right at Outside = one_right (λ k. kind_of_meaning Outside ≡ Some k) (broken 10 at)

no_room : (next limit : ℕ) → next ≤ limit → nat_lt next limit ≡ false → (next == limit) ≡ false → ⊥
no_room next limit h a b = grind (arith, h, a, b)

abbrev IsNext : ℕ → ℕ → ℕ → Type 0
IsNext limit next i = (i ≡ next) × (nat_lt next limit ≡ true)

number_right : (at limit next : ℕ) → next ≤ limit → Right (IsNext limit next) (has_number all_faults at limit next)
number_right at limit next h = by_tests (nat_lt next limit) (next == limit) refl refl
  where
    by_tests : (below equal : Bool) → nat_lt next limit ≡ below → (next == limit) ≡ equal →
        Right (IsNext limit next) (if below then Sound next else if equal then Unknown (all_faults.one (broken 22 at))
        else Unknown all_faults.none)
    by_tests true equal a b = (refl, a)
    by_tests false true a b = one_right (IsNext limit next) (broken 22 at)
    by_tests false false a b = absurd (no_room next limit h a b)

new_number_right : (at : ℕ) (s : Scope) (name : List ℕ) → s.next ≤ s.limit →
    Right (IsNext s.limit s.next) (new_number all_faults at s name)
new_number_right at s name h =
    joined_right {A = ℕ} {B = Bool} {C = ℕ} (IsNext s.limit s.next) (λ _. Unit {0}) (IsNext s.limit s.next)
    (has_number all_faults at s.limit s.next)
    (has_free_name all_faults at (is_free s name)) _ (number_right at s.limit s.next h)
    (λ i _. unless_right (λ _. Unit {0}) (is_free s name) (broken 23 at) (is_free s name) (λ _. tt)) (λ i free p _. p)

at_kind : (c : Context) (i : ℕ) (o : Option Kind) (k : Kind) → o ≡ Some k → IfSome o (IsLocalAt c i) → IsLocalAt c i k
at_kind c i o k e h = let g : IfSome (Some k) (IsLocalAt c i) = subst (λ (x : Option Kind). IfSome x
    (IsLocalAt c i)) e h in g

pub declared_right : (c : Context) (n : Names) (s : Scope) (at : ℕ) (type : TypeRef) (name : List ℕ) →
    s.next ≤ s.limit →
    (nat_lt s.next s.limit ≡ true → IfSome (local_kind n type) (IsLocalAt c s.next)) →
    Right (IsDeclared c n s type) (declared all_faults n s at type name)
declared_right c n s at type name h provided =
    joined_right {A = Kind} {B = ℕ} {C = Kind × ℕ} (λ k. local_kind n type
    ≡ Some k) (IsNext s.limit s.next) (IsDeclared c n s type)
    (is_storable all_faults at (type_meaning n type)) (new_number all_faults at s name) _ (storable_right at
    (type_meaning n type))
    (λ k _. new_number_right at s name h)
    (λ k i e q. record {
      kind = e;
      number = q.0;
      room = q.1;
      local = at_kind c s.next (local_kind n type) k e
          (provided q.1);
    })

begin_typed : (c : Context) (a : TypedAround) (k : Kind) (i : ℕ) (v : Term) → IsLocalAt c i k → Goes c k v →
    IsStmtTerm c a (Node (sign.Begin k i) v Absent)
begin_typed c a k i Absent p h = absurd h.0
begin_typed c a k i (Node s x y) p h = (p.0, h, p.1)

-- with what else holds of the local
pub bare_right : (c : Context) (n : Names) (a : TypedAround) (s : Scope) (type : TypeRef) (Also : Type 0) →
    ((k : Kind) → local_kind n type ≡ Some k →
    nat_lt s.next s.limit ≡ true → IsLocalAt c s.next k → Also) → (l : Judged (Kind × ℕ) (List Fault)) →
    Right (IsDeclared c n s type) l →
    Right (λ u. IsTermFirst u × IsStmtTerm c a u × Also) (begun_bare l)
bare_right c n a s type Also also l h =
    after_right {A = Kind × ℕ} {B = Term} (IsDeclared c n s type) (λ u. IsTermFirst u × IsStmtTerm c a u × Also) l _ h
    (λ p d. let g : IsLocalAt c p.1 p.0 = subst (λ (i : ℕ). IsLocalAt c i p.0) (sym d.number) d.local in (
      tt,
      (g.0, tt, g.1),
      also p.0 d.kind d.room d.local,
    ))

pub begun_right : (c : Context) (n : Names) (a : TypedAround) → HasKinds c → Places c n →
    (s : Scope) (type : TypeRef) (Also : Type 0) → ((k : Kind) → local_kind n type ≡ Some k →
    nat_lt s.next s.limit ≡ true → IsLocalAt c s.next k → Also) →
    (l : Judged (Kind × ℕ) (List Fault)) (at : ℕ) (x : All) → Right (IsDeclared c n s type) l →
    Right (IsReady c) x →
    Right (λ u. IsTermFirst u × IsStmtTerm c a u × Also) (begun all_faults n l at x)
begun_right c n a kinds places s type Also also l at x h g =
    joined_right {A = Kind × ℕ} {B = Term} {C = Term} (IsDeclared c n s type) (IsReady c) (λ u. IsTermFirst u
    × IsStmtTerm c a u × Also) l x _ h (λ _ _. g)
    (λ p t d r. let at_number : IsLocalAt c p.1 p.0 = subst (λ (i : ℕ). IsLocalAt c i p.0) (sym d.number) d.local in
    after_right {A = Term} {B = Term} (Goes c p.0) (λ u. IsTermFirst u × IsStmtTerm c a u
    × Also) (going all_faults n.below p.0 at t) _
    (some_right (Goes c p.0) (broken 15 at) (placed n.below p.0 t) (places p.0 (kinds.locals s.next p.0 d.local.0) t r))
    (λ v q. (tt, begin_typed c a p.0 p.1 v at_number q, also p.0 d.kind d.room d.local)))

-- ---- `return`

same_kind_of : (a b : Kind) → Some a ≡ Some b → a ≡ b
same_kind_of a b e = cc

pub nothing_right : (c : Context) (a : TypedAround) (k : Option Kind) (at : ℕ) → k ≡ Some c.result →
    Right (IsStmtTerm c a) (returned_nothing all_faults k at)
nothing_right c a None at e = absurd (cc)
nothing_right c a (Some kind.Void) at e = sym (same_kind_of kind.Void c.result e)
nothing_right c a (Some k) at e = one_right (IsStmtTerm c a) (broken 19 at)

abbrev IsResult : Context → Kind → Type 0
IsResult c to = (to ≡ c.result) × (to ≡ kind.Void → ⊥)

result_right : (c : Context) (k : Option Kind) (at : ℕ) → k ≡ Some c.result →
    Right (IsResult c) (has_result all_faults k at)
result_right c None at e = absurd (cc)
result_right c (Some kind.Void) at e = one_right (IsResult c) (broken 19 at)
result_right c (Some kind.Bool) at e = (same_kind_of kind.Bool c.result e, λ q. cc)
result_right c (Some kind.Int) at e = (same_kind_of kind.Int c.result e, λ q. cc)
result_right c (Some kind.Long) at e = (same_kind_of kind.Long c.result e, λ q. cc)
result_right c (Some kind.Text) at e = (same_kind_of kind.Text c.result e, λ q. cc)
result_right c (Some (kind.Object class)) at e = (same_kind_of (kind.Object class) c.result e, λ q. cc)

return_typed : (c : Context) (a : TypedAround) (to : Kind) (v : Term) → IsResult c to → Goes c to v →
    IsStmtTerm c a (Node sign.Return v Absent)
return_typed c a to Absent r h = absurd h.0
return_typed c a to (Node s x y) r h = (
  h.0,
  subst (λ (k : Kind). GoesTo c.program (term_kind
      (Node s x y)) k) r.0 h.1,
  λ q. r.1 (r.0 ∙ q),
)

pub returned_right : (c : Context) (n : Names) (a : TypedAround) → Places c n → (k : Option Kind) → k ≡ Some c.result →
    IsKindOf c.program c.result → (at : ℕ) (x : All) →
    Right (IsReady c) x → Right (IsStmtTerm c a) (returned all_faults n k at x)
returned_right c n a places k e g at x h =
    joined_right {A = Kind} {B = Term} {C = Term} (IsResult c) (IsReady c) (IsStmtTerm c a)
    (has_result all_faults k at) x _ (result_right c k at e) (λ _ _. h)
    (λ to t r q. after_right {A = Term} {B = Term} (Goes c to) (IsStmtTerm c a) (answering all_faults n to at t) _
    (some_right (Goes c to) (broken 19 at) (placed n.below to t) (places to (subst (λ (y : Kind). IsKindOf c.program y)
    (sym r.0) g) t q))
    (λ v w. return_typed c a to v r w))

-- ---- rows

pub one_more : (c : Context) (a : TypedAround) (ts u : Term) → AreStmtTerms c a ts → IsStmtTerm c a u →
    AreStmtTerms c a (with_item ts u)
one_more c a Absent u h g = (g, tt)
one_more c a (Node sign.More x xs) u h g = (h.0, one_more c a xs u h.1 g)
one_more c a (Node s x xs) u h g = absurd h

-- ---- parts of the head of a `for`

pub test_typed : (c : Context) (t : Term) → HasKind c kind.Bool t → IsTermTest c t
test_typed c Absent h = tt
test_typed c (Node s a b) h = h
