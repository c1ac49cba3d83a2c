-- What calls come to is typed, and unknown only with a fault inside.
use Rattle.std.proofs.Common.{◌≡◌, ◌≢◌, ℕ, zero, suc, Bool, true, false, ◌&&◌, ◌||◌, ◌==◌, not, if◌then◌else◌, List, [], ◌∷◌, ◌++◌, length, map, slice_get, codes, Option, Some, None, IfSome, IsSomeAnd, refl, sym, ap, subst, ◌∙◌}
use Rattle.std.specs.Option.{option_and_then}
use Rattle.std.specs.Str.{bytes_eq}
use Rattle.std.proofs.lemmas.Bool.Decides.{Decides-eqb}
use Rattle.sed_typed.specs.declared.kind.Kind.{Kind}
use Rattle.sed_typed.specs.declared.kind.Kind.TheVariants as kind
use Rattle.sed_typed.specs.declared.number.TypeNo.{TypeNo}
use Rattle.sed_typed.specs.declared.operators.TextCall.{TextCall}
use Rattle.sed_typed.specs.declared.operators.TextCall.TheVariants as texts
use Rattle.sed_typed.specs.declared.program.Method.{Method}
use Rattle.sed_typed.specs.Classes.{base_of, find, method_name}
use Rattle.sed_typed.specs.TypedExpr.{Context, IsKindOf, GoesTo, AllGoTo, object_class, text_kinds, IsCallOf}
use Rattle.sed_names.specs.declared.signature.Signature.{Signature}
use Rattle.sed_names.specs.Names.{Names}
use Rattle.sed_faults.specs.declared.fault.Fault.{Fault}
use Rattle.sed_terms.specs.declared.judged.Judged.{Judged}
use Rattle.sed_terms.specs.declared.judged.Judged.TheVariants.{Sound, Unknown}
use Rattle.sed_terms.specs.declared.sign.Sign.TheVariants as sign
use Rattle.sed_terms.specs.declared.sort.Sort.{Sort}
use Rattle.sed_terms.specs.declared.sort.Sort.TheVariants.{Of}
use Rattle.sed_terms.specs.Faults.{all_faults, broken, joined, unless, Right}
use Rattle.sed_terms.specs.SortKind.{kind_in}
use Rattle.sed_terms.specs.Sorts.{sort_of, term_kind, term_kinds, is_kind}
use Rattle.sed_terms.specs.Term.{Term, Absent, Node, leaf, with_item}
use Rattle.sed_terms.specs.TypedTerm.{IsTerm, AreTerms}
use Rattle.sed_body_rules.specs.Conversions.{placed}
use Rattle.sed_bodies.specs.declared.context.Body.{Body}
use Rattle.sed_bodies.specs.declared.context.Callee.{Callee}
use Rattle.sed_bodies.specs.Calls.{kind_at, params_of, argument, with_argument, callee_of, callee, reached, own_callee, super_callee, static_call, invocation, super_invocation, own_call, super_called, class_call, object_call, text_named, text_params, text_callee, text_called, no_method, called_by, called, system_call, params_by, params_behind}
use Rattle.sed_bodies.specs.Inside.{IsMethod, IsIn, IsReady, Goes}
use Rattle.sed_bodies.specs.Members.{known, through, receiver, owner_of}
use Rattle.sed_body_rules.specs.Scope.{Scope}
use Rattle.sed_bodies.proofs.MembersRight.{receiver_right, through_right}
use Rattle.sed_bodies.proofs.Ready.{ready_value, kind_is}
use Rattle.sed_bodies.proofs.Right.{one_right, after_right, joined_right, unless_right, some_right}
use Rattle.sed_bodies.proofs.StoresRight.{placed_goes}
use Rattle.std.proofs.lemmas.Option.{none-some as none_there}

some_is : {X : Type 0} (a b : X) → ◌≡◌ {A = Option X} (Some a) (Some b) → a ≡ b
some_is a b e = cc

-- ---- arguments

-- typed arguments for parameters of these kinds
abbrev pub AreArguments : Context → List Kind → Term → Type 0
AreArguments c ks xs = AreTerms c xs × AllGoTo c.program (term_kinds xs) ks

abbrev pub some_kind : Kind → Option Kind
some_kind k = Some k

kind_there : (before : List Kind) (k : Kind) (after : List Kind) → kind_at (map some_kind (before ++ k ∷ after)) (length before) ≡ Some k
kind_there [] k after = refl
kind_there (x ∷ xs) k after = kind_there xs k after

one_more : (c : Context) (xs v : Term) (ks : List Kind) (k : Kind) → AreArguments c ks xs → Goes c k v → AreArguments c (ks ++ k ∷ []) (with_item xs v)
one_more c Absent v [] k h g = ((g.0, tt), (g.1, tt))
one_more c Absent v (q ∷ qs) k h g = absurd h.1
one_more c (Node sign.More x rest) v [] k h g = absurd h.1
one_more c (Node sign.More x rest) v (q ∷ qs) k h g =
    let r = one_more c rest v qs k (h.0.1, h.1.1) g in ((h.0.0, r.0), (h.1.0, r.1))
one_more c (Node s x rest) v ks k h g = absurd h.0

argument_right : (c : Context) (n : Names) (b : Body) (s : Scope) → IsIn c n b s → (at : ℕ) (o : Option Kind) (k : Kind) → o ≡ Some k → IsKindOf c.program k →
    (x : Judged Term (List Fault)) → Right (IsReady c) x → Right (Goes c k) (argument all_faults n at o x)
argument_right c n b s i at o k e g x p =
    subst (λ (q : Option Kind). Right (Goes c k) (argument all_faults n at q x)) (sym e)
    (joined_right (λ (q : Kind). q ≡ k) (IsReady c) (Goes c k) (known all_faults (Some k)) x _ refl (λ a h. p)
    (λ to t h r. some_right (Goes c k) (broken 16 at) (placed n.below to t)
    (subst (λ (q : Kind). IfSome (placed n.below q t) (Goes c k)) (sym h) (placed_goes c i.kinds n.below i.below k g t r))))

pub with_argument_right : (c : Context) (n : Names) (b : Body) (s : Scope) → IsIn c n b s → (at : ℕ) (before after : List Kind) (k : Kind) →
    IsKindOf c.program k → (xs x : Judged Term (List Fault)) → Right (AreArguments c before) xs → Right (IsReady c) x →
    Right (AreArguments c (before ++ k ∷ []))
    (with_argument all_faults xs (argument all_faults n at (kind_at (map some_kind (before ++ k ∷ after)) (length before)) x))
with_argument_right c n b s i at before after k g xs x p q =
    joined_right (AreArguments c before) (Goes c k) (AreArguments c (before ++ k ∷ [])) xs
    (argument all_faults n at (kind_at (map some_kind (before ++ k ∷ after)) (length before)) x) _ p
    (λ a h. argument_right c n b s i at _ k (kind_there before k after) g x q)
    (λ ts t h r. one_more c ts t before k h r)

-- the kinds of parameters are the program's
abbrev pub AllKinds : Context → List Kind → Type 0
AllKinds c ks = (i : ℕ) (k : Kind) → slice_get ks i ≡ Some k → IsKindOf c.program k

-- what is found of the arguments is right for these parameters, if there are as many
abbrev pub Supplies : Context → List (Option Kind) → ℕ → Judged Term (List Fault) → Type 0
Supplies c params count xs = (ks : List Kind) → params ≡ map some_kind ks → AllKinds c ks → length ks ≡ count → Right (AreArguments c ks) xs

-- ---- calls of a method that is there

-- what a call has found: a method of this signature
abbrev pub IsFound : Context → ℕ → Signature → Type 0
IsFound c class s = IsSomeAnd (slice_get c.program.methods s.number) (IsMethod c class s)

abbrev IsThere : Context → ℕ → Signature → Method → Type 0
IsThere c class s x = (slice_get c.program.methods s.number ≡ Some x) × IsMethod c class s x

method_of : (c : Context) (class : ℕ) (s : Signature) → IsFound c class s → (x : Method) × IsThere c class s x
method_of c class s h = at (slice_get c.program.methods s.number) refl h
  where
    at : (o : Option Method) → slice_get c.program.methods s.number ≡ o → IsSomeAnd o (IsMethod c class s) → (x : Method) × IsThere c class s x
    at (Some x) e r = (x, (e, r))
    at None e r = absurd r

call_of : (c : Context) (class : ℕ) (s : Signature) (x : Method) → IsThere c class s x → (v : Bool) → s.is_static ≡ v → (k : Kind) → x.result ≡ k →
    (args : Term) → AreArguments c x.params args →
    IsSomeAnd (slice_get c.program.methods s.number) (λ y. (y.is_static ≡ v) × IsCallOf c.program y k (term_kinds args))
call_of c class s x t v e k g args h =
    subst (λ (o : Option Method). IsSomeAnd o (λ y. (y.is_static ≡ v) × IsCallOf c.program y k (term_kinds args))) (sym t.0)
    (t.1.static ∙ e, record { gives = g; takes = h.1 })

result_known : (P : Kind → Type 0) (o : Option Kind) (k : Kind) → o ≡ Some k → P k → Right P (known all_faults o)
result_known P o k e h = subst (λ (q : Option Kind). Right P (known all_faults q)) (sym e) h

static_right : (c : Context) (class : ℕ) (s : Signature) (x : Method) → IsThere c class s x → s.is_static ≡ true → (args : Term) → AreArguments c x.params args →
    Right (IsReady c) (static_call all_faults (callee_of s) args)
static_right c class s x t e args h = after_right (λ (k : Kind). x.result ≡ k) (IsReady c) (known all_faults s.result) _
    (result_known (λ (k : Kind). x.result ≡ k) s.result x.result t.1.result refl)
    (λ k g. ((h.0, call_of c class s x t true e k g args h), λ u. absurd (let k : false ≡ true = u in cc)))

invocation_right : (c : Context) (class : TypeNo) (s : Signature) (x : Method) → IsThere c class.0 s x → s.is_static ≡ false → (o : Term) → IsTerm c o →
    term_kind o ≡ kind.Object class → (args : Term) → AreArguments c x.params args → Right (IsReady c) (invocation all_faults (callee_of s) o args)
invocation_right c class s x t e o typed is args h = after_right (λ (k : Kind). x.result ≡ k) (IsReady c) (known all_faults s.result) _
    (result_known (λ (k : Kind). x.result ≡ k) s.result x.result t.1.result refl)
    (λ k g. (
      (
        typed,
        h.0,
        (
          ap (λ (q : Kind). option_and_then (λ d. find c.program d (method_name c.program s.number)) (object_class q)) is ∙ t.1.nearest,
          call_of c class.0 s x t false e k g args h,
        ),
      ),
      λ u. absurd (let k : false ≡ true = u in cc),
    ))

super_right : (c : Context) (class : ℕ) (s : Signature) (x : Method) → IsThere c class s x → s.is_static ≡ false → s.is_abstract ≡ false →
    c.is_static ≡ false → base_of c.program.schema.classes c.class ≡ Some class → (args : Term) → AreArguments c x.params args →
    Right (IsReady c) (super_invocation all_faults (callee_of s) args)
super_right c class s x t e a st base args h = after_right (λ (k : Kind). x.result ≡ k) (IsReady c) (known all_faults s.result) _
    (result_known (λ (k : Kind). x.result ≡ k) s.result x.result t.1.result refl)
    (λ k g. (
      (
        h.0,
        st,
        (
          (
            ap (λ (q : Option ℕ). option_and_then (λ d. find c.program d (method_name c.program s.number)) q) base ∙ t.1.nearest,
            call_of c class s x t false e k g args h,
          ),
          subst (λ (o : Option Method). IsSomeAnd o (λ y. y.body ≢ None)) (sym t.0) (t.1.body a),
        ),
      ),
      λ u. absurd (let k : false ≡ true = u in cc),
    ))

-- ---- what is called

-- the callee is that of the signature, and has as many parameters
abbrev IsCallee : Signature → ℕ → Callee → Type 0
IsCallee s count q = (q ≡ callee_of s) × (length s.params ≡ count)

callee_right : (s : Signature) (at count : ℕ) → Right (IsCallee s count) (callee all_faults at count s)
callee_right s at count = unless_right (IsCallee s count) (length s.params == count) (broken 16 at) (callee_of s)
    (λ e. (refl, (Decides-eqb (length s.params) count).0 e))

length_map : (ks : List Kind) → length (map some_kind ks) ≡ length ks
length_map [] = refl
length_map (k ∷ ks) = ap suc (length_map ks)

supplied : (c : Context) (class : ℕ) (s : Signature) (x : Method) → IsThere c class s x → (count : ℕ) (xs : Judged Term (List Fault)) →
    Supplies c s.params count xs → length s.params ≡ count → Right (AreArguments c x.params) xs
supplied c class s x t count xs supplies e =
    supplies x.params t.1.params t.1.there (sym (length_map x.params) ∙ ap length (sym t.1.params) ∙ e)

pub nothing_right : (c : Context) (at : ℕ) (xs : Judged Term (List Fault)) → Right (IsReady c) (no_method all_faults at xs)
nothing_right c at xs =
    joined_right (λ (q : Term). ⊥) (λ (t : Term). Unit {0}) (IsReady c) (Unknown (broken 16 at ∷ [])) xs _
    (one_right (λ (q : Term). ⊥) (broken 16 at)) (λ a h. absurd h) (λ a t h g. absurd h)

pub object_call_right : (c : Context) (at count : ℕ) (x : Term) (class : TypeNo) (o : Option Signature) (xs : Judged Term (List Fault)) → IsTerm c x →
    term_kind x ≡ kind.Object class → IfSome o (IsFound c class.0) → Supplies c (params_of o) count xs →
    Right (IsReady c) (object_call all_faults at count x o xs)
object_call_right c at count x class None xs h e f supplies = nothing_right c at xs
object_call_right c at count x class (Some s) xs h e f supplies =
    let m = method_of c class.0 s f in
    joined_right (IsCallee s count) (AreArguments c m.0.params) (IsReady c) (callee all_faults at count s) xs _ (callee_right s at count)
    (λ q g. supplied c class.0 s m.0 m.1 count xs supplies g.1)
    (λ q args g a. subst (λ (q : Callee). Right (IsReady c) (if q.is_static then through x (static_call all_faults q args) else invocation all_faults q x args)) (sym g.0)
    (build s m.0 m.1 args a s.is_static refl))
  where
    build : (s : Signature) (y : Method) → IsThere c class.0 s y → (args : Term) → AreArguments c y.params args → (v : Bool) → s.is_static ≡ v →
        Right (IsReady c) (if v then through x (static_call all_faults (callee_of s) args) else invocation all_faults (callee_of s) x args)
    build s y t args a true q = through_right c x (static_call all_faults (callee_of s) args) h (static_right c class.0 s y t q args a)
    build s y t args a false q = invocation_right c class s y t q x h e args a

-- by its name alone, or behind the name of a class
own_callee_right : (s : Signature) (has_receiver : Bool) (id_at at count : ℕ) →
    Right (λ q. IsCallee s count q × (s.is_static || has_receiver ≡ true)) (own_callee all_faults has_receiver id_at at count s)
own_callee_right s r id_at at count =
    joined_right (IsCallee s count) (λ (q : Callee). s.is_static || r ≡ true) (λ (q : Callee). IsCallee s count q × (s.is_static || r ≡ true))
    (callee all_faults at count s) (reached all_faults r id_at (callee_of s)) _ (callee_right s at count)
    (λ q h. unless_right (λ (q : Callee). s.is_static || r ≡ true) (s.is_static || r) (broken 17 id_at) (callee_of s) (λ e. e))
    (λ q d h g. (h, g))

pub own_call_right : (c : Context) (n : Names) (b : Body) (s : Scope) → IsIn c n b s → (at count : ℕ) (o : Option Signature) (xs : Judged Term (List Fault)) →
    IfSome o (IsFound c b.class.0) → Supplies c (params_of o) count xs → Right (IsReady c) (own_call all_faults b at count o xs)
own_call_right c n b s i at count None xs f supplies = nothing_right c at xs
own_call_right c n b s i at count (Some g) xs f supplies =
    let m = method_of c b.class.0 g f in
    joined_right (λ (q : Callee). IsCallee g count q × (g.is_static || not b.is_static ≡ true)) (AreArguments c m.0.params) (IsReady c)
    (own_callee all_faults (not b.is_static) at at count g) xs _ (own_callee_right g (not b.is_static) at at count)
    (λ q h. supplied c b.class.0 g m.0 m.1 count xs supplies h.0.1)
    (λ q args h a. subst (λ (q : Callee). Right (IsReady c) (if q.is_static then static_call all_faults q args else invocation all_faults q (leaf (sign.This b.class)) args)) (sym h.0.0)
    (build g m.0 m.1 args a g.is_static refl h.1))
  where
    this_there : (v w : Bool) → v ≡ false → v || not w ≡ true → w ≡ false
    this_there true w e h = absurd (let k : true ≡ false = e in cc)
    this_there false true e h = absurd (let k : false ≡ true = h in cc)
    this_there false false e h = refl

    build : (g : Signature) (y : Method) → IsThere c b.class.0 g y → (args : Term) → AreArguments c y.params args → (v : Bool) → g.is_static ≡ v →
        g.is_static || not b.is_static ≡ true →
        Right (IsReady c) (if v then static_call all_faults (callee_of g) args else invocation all_faults (callee_of g) (leaf (sign.This b.class)) args)
    build g y t args a true q r = static_right c b.class.0 g y t q args a
    build g y t args a false q r =
        let st : b.is_static ≡ false = this_there g.is_static b.is_static q r in
        invocation_right c b.class g y t q (leaf (sign.This b.class)) (sym i.static ∙ st, i.class) refl args a

pub class_call_right : (c : Context) (class id_at at count : ℕ) (o : Option Signature) (xs : Judged Term (List Fault)) → IfSome o (IsFound c class) →
    Supplies c (params_of o) count xs → Right (IsReady c) (class_call all_faults id_at at count o xs)
class_call_right c class id_at at count None xs f supplies = nothing_right c at xs
class_call_right c class id_at at count (Some g) xs f supplies =
    let m = method_of c class g f in
    joined_right (λ (q : Callee). IsCallee g count q × (g.is_static || false ≡ true)) (AreArguments c m.0.params) (IsReady c)
    (own_callee all_faults false id_at at count g) xs _ (own_callee_right g false id_at at count)
    (λ q h. supplied c class g m.0 m.1 count xs supplies h.0.1)
    (λ q args h a. subst (λ (q : Callee). Right (IsReady c) (static_call all_faults q args)) (sym h.0.0)
    (static_right c class g m.0 m.1 (or_false g.is_static h.1) args a))
  where
    or_false : (v : Bool) → v || false ≡ true → v ≡ true
    or_false true h = refl
    or_false false h = h

-- by `super`
super_callee_right : (s : Signature) (at count : ℕ) → Right (λ q. IsCallee s count q × (s.is_abstract ≡ false)) (super_callee all_faults at count s)
super_callee_right s at count =
    joined_right (IsCallee s count) (λ (a : Bool). s.is_abstract ≡ false) (λ (q : Callee). IsCallee s count q × (s.is_abstract ≡ false))
    (callee all_faults at count s) (unless all_faults (not s.is_abstract) (broken 24 at) s.is_abstract) _ (callee_right s at count)
    (λ q h. unless_right (λ (a : Bool). s.is_abstract ≡ false) (not s.is_abstract) (broken 24 at) s.is_abstract (λ e. not_true s.is_abstract e))
    (λ q d h g. (h, g))
  where
    not_true : (v : Bool) → not v ≡ true → v ≡ false
    not_true true h = absurd (let k : false ≡ true = h in cc)
    not_true false h = refl

abbrev IsSuper : Body → Signature → ℕ → Callee → Type 0
IsSuper b g count q = IsCallee g count q × (g.is_abstract ≡ false) × (b.is_static ≡ false)

pub super_called_right : (c : Context) (n : Names) (b : Body) (s : Scope) → IsIn c n b s → (at count class : ℕ) (o : Option Signature) (xs : Judged Term (List Fault)) →
    IfSome o (λ g. (base_of c.program.schema.classes c.class ≡ Some class) × IsFound c class g) → Supplies c (params_of o) count xs →
    Right (IsReady c) (super_called all_faults b at count o xs)
super_called_right c n b s i at count class None xs f supplies =
    joined_right (λ (t : Term). IsTerm c t × (b.is_static ≡ false)) (IsReady c) (IsReady c) (receiver all_faults b at) (no_method all_faults at xs) _
    (receiver_right c n b s i at) (λ a h. nothing_right c at xs) (λ a t h g. g)
super_called_right c n b s i at count class (Some g) xs f supplies =
    let m = method_of c class g f.1 in
    joined_right (IsSuper b g count) (AreArguments c m.0.params) (IsReady c)
    (joined all_faults (receiver all_faults b at) (super_callee all_faults at count g) (λ x q. Sound q)) xs _
    (joined_right (λ (t : Term). IsTerm c t × (b.is_static ≡ false)) (λ (q : Callee). IsCallee g count q × (g.is_abstract ≡ false)) (IsSuper b g count)
    (receiver all_faults b at) (super_callee all_faults at count g) _ (receiver_right c n b s i at) (λ a h. super_callee_right g at count)
    (λ t q h r. (r.0, r.1, h.1)))
    (λ q h. supplied c class g m.0 m.1 count xs supplies h.0.1)
    (λ q args h a. subst (λ (q : Callee). Right (IsReady c) (if q.is_static then static_call all_faults q args else super_invocation all_faults q args)) (sym h.0.0)
    (build m.0 m.1 args a g.is_static refl h.1 h.2))
  where
    build : (y : Method) → IsThere c class g y → (args : Term) → AreArguments c y.params args → (v : Bool) → g.is_static ≡ v → g.is_abstract ≡ false →
        b.is_static ≡ false → Right (IsReady c) (if v then static_call all_faults (callee_of g) args else super_invocation all_faults (callee_of g) args)
    build y t args a true q r e = static_right c class g y t q args a
    build y t args a false q r e = super_right c class g y t q r (sym i.static ∙ e) f.0 args a

-- ---- calls of a Str

goes_int : (c : Context) (k : Kind) → GoesTo c.program k kind.Int → k ≡ kind.Int
goes_int c kind.Void h = h
goes_int c kind.Bool h = h
goes_int c kind.Int h = h
goes_int c kind.Long h = h
goes_int c kind.Text h = h
goes_int c (kind.Object class) h = h

goes_text : (c : Context) (k : Kind) → GoesTo c.program k kind.Text → k ≡ kind.Text
goes_text c kind.Void h = h
goes_text c kind.Bool h = h
goes_text c kind.Int h = h
goes_text c kind.Long h = h
goes_text c kind.Text h = h
goes_text c (kind.Object class) h = h

text_params_are : (o : TextCall) → text_params (Some o) ≡ map some_kind (text_kinds o)
text_params_are texts.Length = refl
text_params_are texts.Get = refl
text_params_are texts.Set = refl
text_params_are texts.Equals = refl
text_params_are texts.Copy = refl

abbrev ArePlain : Context → List Kind → Type 0
ArePlain c [] = Unit {0}
ArePlain c (k ∷ ks) = IsKindOf c.program k × ArePlain c ks

plain_kinds : (c : Context) (o : TextCall) → ArePlain c (text_kinds o)
plain_kinds c texts.Length = tt
plain_kinds c texts.Get = (tt, tt)
plain_kinds c texts.Set = (tt, (tt, tt))
plain_kinds c texts.Equals = (tt, tt)
plain_kinds c texts.Copy = (tt, tt)

plain_there : (c : Context) (ks : List Kind) → ArePlain c ks → AllKinds c ks
plain_there c [] h i k e = absurd (none_there k e)
plain_there c (x ∷ xs) h zero k e = let q : x ≡ k = some_is x k e in subst (λ (y : Kind). IsKindOf c.program y) q h.0
plain_there c (x ∷ xs) h (suc i) k e = plain_there c xs h.1 i k e

text_kinds_there : (c : Context) (o : TextCall) → AllKinds c (text_kinds o)
text_kinds_there c o = plain_there c (text_kinds o) (plain_kinds c o)

-- arguments of these kinds have just these
one_kind : (c : Context) (q : Kind) → ((k : Kind) → GoesTo c.program k q → k ≡ q) → (ks : List Kind) → AllGoTo c.program ks (q ∷ []) → ks ≡ q ∷ []
one_kind c q same [] h = absurd h
one_kind c q same (k ∷ []) h = ap (λ x. x ∷ []) (same k h.0)
one_kind c q same (k ∷ l ∷ ks) h = absurd h.1

text_args : (c : Context) (o : TextCall) (ks : List Kind) → AllGoTo c.program ks (text_kinds o) → ks ≡ text_kinds o
text_args c texts.Length [] h = refl
text_args c texts.Length (k ∷ ks) h = absurd h
text_args c texts.Get ks h = one_kind c kind.Int (goes_int c) ks h
text_args c texts.Set [] h = absurd h
text_args c texts.Set (k ∷ ks) h = ap (λ x. x ∷ ks) (goes_int c k h.0) ∙ ap (λ xs. kind.Int ∷ xs) (one_kind c kind.Int (goes_int c) ks h.1)
text_args c texts.Equals ks h = one_kind c kind.Text (goes_text c) ks h
text_args c texts.Copy ks h = one_kind c kind.Text (goes_text c) ks h

pub text_called_right : (c : Context) (at count : ℕ) (x : Term) (o : Option TextCall) (xs : Judged Term (List Fault)) → IsTerm c x → term_kind x ≡ kind.Text →
    Supplies c (text_params o) count xs → Right (IsReady c) (text_called all_faults at count x o xs)
text_called_right c at count x None xs h e supplies = nothing_right c at xs
text_called_right c at count x (Some o) xs h e supplies =
    joined_right (λ (q : TextCall). (q ≡ o) × (length (text_params (Some o)) ≡ count)) (AreArguments c (text_kinds o)) (IsReady c)
    (text_callee all_faults at count o) xs _
    (unless_right (λ (q : TextCall). (q ≡ o) × (length (text_params (Some o)) ≡ count)) (length (text_params (Some o)) == count) (broken 16 at) o
    (λ q. (refl, (Decides-eqb (length (text_params (Some o))) count).0 q)))
    (λ q g. supplies (text_kinds o) (text_params_are o) (text_kinds_there c o) (same_length o ∙ g.1))
    (λ q args g a. subst (λ (q : TextCall). IsReady c (Node (sign.TextCall q) x args)) (sym g.0)
    ((h, a.0, e, text_args c o (term_kinds args) a.1), λ u. absurd (let k : false ≡ true = u in cc)))
  where
    same_length : (o : TextCall) → length (text_kinds o) ≡ length (text_params (Some o))
    same_length texts.Length = refl
    same_length texts.Get = refl
    same_length texts.Set = refl
    same_length texts.Equals = refl
    same_length texts.Copy = refl

-- ---- behind an expression

pub called_right : (c : Context) (n : Names) (b : Body) (s : Scope) → IsIn c n b s → (name : List ℕ) (at count : ℕ) (x xs : Judged Term (List Fault)) →
    Right (IsReady c) x → Supplies c (params_behind n name x) count xs → Right (IsReady c) (called all_faults n name at count x xs)
called_right c n b s i name at count (Unknown f) xs p supplies =
    joined_right (λ (q : Term). ⊥) (λ (t : Term). Unit {0}) (IsReady c) (Unknown f) xs _ p (λ a h. absurd h) (λ a t h g. absurd h)
called_right c n b s i name at count (Sound x) xs p supplies = by_sort (sort_of x) refl supplies
  where
    by_sort : (q : Sort) → sort_of x ≡ q → Supplies c (params_by n name (owner_of q)) count xs → Right (IsReady c) (called_by all_faults n name at count (owner_of q) x xs)
    by_sort (Of (kind.Object class)) e g =
        object_call_right c at count x class (n.method class.0 name) xs (ready_value c x p (ap is_kind e)) (sym (kind_is x) ∙ ap kind_in e) (i.methods class.0 name) g
    by_sort (Of kind.Text) e g =
        text_called_right c at count x (text_named name) xs (ready_value c x p (ap is_kind e)) (sym (kind_is x) ∙ ap kind_in e) g
    by_sort q e g = nothing_right c at xs

-- ---- of the system

pub system_right : (c : Context) (name : List ℕ) (at count : ℕ) (xs : Judged Term (List Fault)) → Supplies c [] count xs →
    Right (IsReady c) (system_call all_faults name at count xs)
system_right c name at count xs supplies = by_test (bytes_eq name (codes "ticks")) (count == 0) refl
  where
    by_test : (v w : Bool) → (count == 0) ≡ w →
        Right (IsReady c) (joined all_faults (unless all_faults (v && w) (broken 16 at) (leaf sign.Ticks)) xs (λ t args. Sound t))
    by_test true true e =
        joined_right (IsReady c) (AreArguments c []) (IsReady c) (Sound (leaf sign.Ticks)) xs _ (tt, λ u. absurd (let k : false ≡ true = u in cc))
        (λ a h. supplies [] refl (λ i k q. absurd (none_there k q)) (sym ((Decides-eqb count 0).0 e))) (λ t args h g. h)
    by_test true false e = nothing_right c at xs
    by_test false w e = nothing_right c at xs
