-- How far a scope has come, and what stands in it.
use Rattle.std.proofs.Common.{◌≡◌, ◌≤◌, ℕ, Bool, true, false, nat_lt, if◌then◌else◌, find, List, [], ◌∷◌, ◌++◌, Option, Some, None, IfSome, IsSomeAnd, refl, sym, ap, subst, ◌∙◌, arith}
use Rattle.std.specs.Option.{option_map}
use Rattle.std.specs.Str.{bytes_eq}
use Rattle.sed_units.specs.Tree.{Tree, Absent, Part}
use Rattle.sed_units.specs.declared.label.Label.TheVariants as label
use Rattle.sed_units.specs.declared.leaves.TypeRef.{TypeRef}
use Rattle.sed_typed.specs.declared.kind.Kind.{Kind}
use Rattle.sed_typed.specs.TypedExpr.{Context}
use Rattle.sed_names.specs.Names.{Names}
use Rattle.sed_body_rules.specs.declared.local.Entry.{Entry}
use Rattle.sed_body_rules.specs.declared.local.Local.{Local}
use Rattle.sed_body_rules.specs.LocalTypes.{local_kind}
use Rattle.sed_body_rules.specs.Scope.{Scope, local_named, following, numbered_past, local_of, entry_of, with_local, past, behind, behind_all, behind_case, behind_cases}
use Rattle.sed_bodies.specs.Inside.{IsIn}
use Rattle.sed_bodies.specs.declared.context.Body.{Body}
use Rattle.sed_statements.specs.declared.enclosing.Enclosing.{Enclosing}
use Rattle.sed_statements.specs.Inside.{CountsOn, IsLocalAt, Stands}

-- ---- numbers

pub behind_reaches : (n : Names) (s : Scope) (t : Tree) → CountsOn s t (behind n s t)
behind_reaches n s (Part (label.Local at type name) x y) = (refl, refl)
behind_reaches n s t = (refl, refl)

pub then_reaches : (s z w : Scope) (next : ℕ) (t : Tree) → z.next ≡ next → z.limit ≡ s.limit → CountsOn z t w →
    (w.next ≡ numbered_past s.limit next t) × (w.limit ≡ s.limit)
then_reaches s z w next t e l r = (
  r.0 ∙ ap (λ m. numbered_past m z.next t) l
      ∙ ap (λ i. numbered_past s.limit i t) e,
  r.1 ∙ l,
)

pub all_reaches : (n : Names) (s : Scope) (t : Tree) → CountsOn s t (behind_all n s t)
all_reaches n s Absent = (refl, refl)
all_reaches n s (Part label.More t rest) =
    let r = behind_reaches n s t in
    then_reaches s (behind n s t) (behind_all n (behind n s t) rest) (numbered_past s.limit s.next t) rest r.0 r.1
    (all_reaches n (behind n s t) rest)
all_reaches n s t = (refl, refl)

pub case_reaches : (n : Names) (s : Scope) (t : Tree) → CountsOn s t (behind_case n s t)
case_reaches n s (Part (label.Case at) e all) = all_reaches n s all
case_reaches n s (Part (label.Default at) all y) = all_reaches n s all
case_reaches n s t = (refl, refl)

pub cases_reaches : (n : Names) (s : Scope) (t : Tree) → CountsOn s t (behind_cases n s t)
cases_reaches n s Absent = (refl, refl)
cases_reaches n s (Part label.More t rest) =
    let r = case_reaches n s t in
    then_reaches s (behind_case n s t) (behind_cases n (behind_case n s t) rest)
    (numbered_past s.limit s.next t) rest r.0 r.1 (cases_reaches n (behind_case n s t) rest)
cases_reaches n s t = (refl, refl)

-- ---- what stands in a scope

abbrev pub IsLocal : Context → Local → Type 0
IsLocal c l = IsSomeAnd l.kind (IsLocalAt c l.number)

-- other numbers, and these names
moved : (c : Context) (n : Names) (b : Body) (s : Scope) (next limit : ℕ) → IsIn c n b s →
    IsIn c n b (record { entries = s.entries; next = next; limit = limit })
moved c n b s next limit i = record {
  kinds = i.kinds;
  class = i.class;
  static = i.static;
  below = i.below;
  base = i.base;
  locals = i.locals;
  members = i.members;
  methods = i.methods;
  texts = i.texts;
}

-- behind what was in scope while it lasted
pub past_stands : (c : Context) (n : Names) (m : Enclosing) (s z : Scope) (t : Tree) → Stands c n m s →
    Stands c n m z → CountsOn s t z → Stands c n m (past s t)
past_stands c n m s z t a b r = record {
  inside = moved c n m.body s (numbered_past s.limit s.next t) s.limit a.inside;
  room = subst (λ (i : ℕ). i ≤ s.limit) r.0 (subst (λ (l : ℕ). z.next ≤ l) r.1 b.room);
}

-- ---- one local more

if_more : (P : Local → Type 0) (b : Bool) (x : Entry) (o o' : Option Entry) →
    IfSome (option_map (λ e. e.local) (if b then Some x else o)) P →
    (IfSome (option_map (λ e. e.local) o) P → IfSome (option_map (λ e. e.local) o') P) →
    IfSome (option_map (λ e. e.local) (if b then Some x else o')) P
if_more P true x o o' p q = p
if_more P false x o o' p q = q p

if_last : (P : Local → Type 0) (b : Bool) (x : Entry) → P x.local →
    IfSome (option_map (λ e. e.local) (if b then Some x else None)) P
if_last P true x p = p
if_last P false x p = tt

local_more : (P : Local → Type 0) (entries : List Entry) (e : Entry) (name : List ℕ) →
    IfSome (local_named entries name) P → P e.local →
    IfSome (local_named (entries ++ e ∷ []) name) P
local_more P [] e name h p = if_last P (bytes_eq e.name name) e p
local_more P (x ∷ xs) e name h p =
    if_more P (bytes_eq x.name name) x (find (λ y. bytes_eq y.name name) xs) (find (λ y. bytes_eq y.name name) (xs
    ++ e ∷ [])) h (λ g. local_more P xs e name g p)

local_is : (c : Context) (n : Names) (limit next : ℕ) (type : TypeRef) (k : Kind) → nat_lt next limit ≡ true →
    local_kind n type ≡ Some k → IsLocalAt c next k →
    IsLocal c (local_of n limit next type)
local_is c n limit next type k h e p = by_test (nat_lt next limit) h (local_kind n type) e
  where
    by_test : (below : Bool) → below ≡ true → (o : Option Kind) → o ≡ Some k →
        IsLocal c (if below then record { number = next; kind = o } else record { number = 0; kind = None })
    by_test true g (Some k') q = subst (λ (o : Option Kind). IsSomeAnd o (IsLocalAt c next)) (sym q) p
    by_test true g None q = absurd (cc)
    by_test false g o q = absurd (let k : false ≡ true = g in cc)

follows : (limit next : ℕ) → nat_lt next limit ≡ true → following limit next ≤ limit
follows limit next h = grind (arith, h)

pub local_stands : (c : Context) (n : Names) (m : Enclosing) (s : Scope) (type : TypeRef) (name : List ℕ) (k : Kind) →
    Stands c n m s →
    nat_lt s.next s.limit ≡ true → local_kind n type ≡ Some k → IsLocalAt c s.next k →
    Stands c n m (with_local n s type name)
local_stands c n m s type name k i h e p = record {
  inside = record {
    kinds = i.inside.kinds;
    class = i.inside.class;
    static = i.inside.static;
    below = i.inside.below;
    base = i.inside.base;
    locals = λ q. local_more (IsLocal c) s.entries (entry_of n s.limit s.next type name) q (i.inside.locals q)
        (local_is c n s.limit s.next type k h e p);
    members = i.inside.members;
    methods = i.inside.methods;
    texts = i.inside.texts;
  };
  room = follows s.limit s.next h;
}
