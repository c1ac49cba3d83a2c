-- Declarations that are numbered on.
use Rattle.std.proofs.Common.{◌≡◌, ◌≤◌, ℕ, suc, ◌+◌, true, nat_lt, List, [], ◌∷◌, ◌++◌, map, length, Some, refl, sym, ap, subst, ◌∙◌, arith, length-append}
use Rattle.std.proofs.lemmas.List.{map-append}
use Rattle.sed_units.specs.declared.leaves.TypeRef.{TypeRef}
use Rattle.sed_typed.specs.declared.kind.Kind.{Kind}
use Rattle.sed_typed.specs.Locals.{Declared, AreNumbered}
use Rattle.sed_names.specs.Names.{Names}
use Rattle.sed_body_rules.specs.LocalTypes.{local_kind}
use Rattle.sed_body_rules.specs.Scope.{following}

-- declarations of these types from a number on, behind which the next number is the last one
pub record Declares (n : Names) (limit next : ℕ) (types : List TypeRef) (behind : ℕ) (ds : List Declared) : Type 0 where
  pub numbered : AreNumbered next ds
  pub kinds : map (λ d. Some d.kind) ds ≡ map (local_kind n) types
  pub last : behind ≡ next + length ds
  pub room : next ≤ limit → next + length ds ≤ limit

no_more : (next : ℕ) → next + length {A = Declared} [] ≡ next
no_more next = omega arith

pub declares_none : (n : Names) (limit next : ℕ) → Declares n limit next [] next []
declares_none n limit next = record {
  numbered = tt;
  kinds = refl;
  last = sym (no_more next);
  room = λ h. omega
      (arith, no_more next);
}

below_follows : (limit next : ℕ) → nat_lt next limit ≡ true → following limit next ≡ next + 1
below_follows limit next h = grind (arith, h)

below_room : (limit next : ℕ) → nat_lt next limit ≡ true → next + 1 ≤ limit
below_room limit next h = grind (arith, h)

one_long : (d : Declared) → length (d ∷ []) ≡ 1
one_long d = refl

pub declares_one : (n : Names) (limit next : ℕ) (type : TypeRef) (k : Kind) → local_kind n type ≡ Some k →
    nat_lt next limit ≡ true →
    Declares n limit next (type ∷ []) (following limit next) (record { number = next; kind = k } ∷ [])
declares_one n limit next type k e h = record {
  numbered = (refl, tt);
  kinds = ap (λ o. o ∷ []) (sym e);
  last = below_follows limit next h ∙ ap (λ i. next + i) (sym (one_long (record { number = next; kind = k })));
  room = λ _. omega (arith, below_room limit next h, one_long (record { number = next; kind = k }));
}

numbered_append : (next : ℕ) (ds es : List Declared) → AreNumbered next ds → AreNumbered (next + length ds) es →
    AreNumbered next (ds ++ es)
numbered_append next [] es h g = subst (λ (i : ℕ). AreNumbered i es) (no_more next) g
numbered_append next (d ∷ ds) es h g =
    let e : next + length (d ∷ ds) ≡ suc next + length ds = omega arith in
    (h.0, numbered_append (suc next) ds es h.1 (subst (λ (i : ℕ). AreNumbered i es) e g))

pub declares_both : (n : Names) (limit next : ℕ) (ts us : List TypeRef) (mid last : ℕ) (ds es : List Declared) →
    Declares n limit next ts mid ds →
    Declares n limit mid us last es → Declares n limit next (ts ++ us) last (ds ++ es)
declares_both n limit next ts us mid last ds es a b = record {
  numbered = numbered_append next ds es a.numbered (subst (λ (i : ℕ). AreNumbered i es) a.last b.numbered);
  kinds = map-append (λ d. Some d.kind) ds es ∙ ap (λ xs. xs
      ++ map (λ d. Some d.kind) es) a.kinds ∙ ap (λ xs. map (local_kind n) ts ++ xs) b.kinds
      ∙ sym (map-append (local_kind n) ts us);
  last = omega (arith, a.last, b.last, length-append ds es);
  room = λ h. omega (arith, a.room h, b.room, a.last, length-append ds es);
}

-- from another number, behind which the last one is another
pub declares_at : (n : Names) (limit limit' next next' : ℕ) (types types' : List TypeRef) (last last' : ℕ)
    (ds ds' : List Declared) → limit ≡ limit' → next ≡ next' →
    types ≡ types' → last ≡ last' → ds ≡ ds' → Declares n limit next types last ds →
    Declares n limit' next' types' last' ds'
declares_at n limit limit' next next' types types' last last' ds ds' el en et eb ed h =
    subst (λ (x : List Declared). Declares n limit' next' types' last' x) ed
    (subst (λ (x : ℕ). Declares n limit' next' types' x ds) eb
    (subst (λ (x : List TypeRef). Declares n limit' next' x last ds) et
    (subst (λ (x : ℕ). Declares n limit' x types last ds) en (subst (λ
    (x : ℕ). Declares n x next types last ds) el h))))
