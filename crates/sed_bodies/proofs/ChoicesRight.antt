-- The rules on indexes and on `? :` give typed terms, and unknown only with a fault inside.
use Rattle.std.proofs.Common.{◌≡◌, ℕ, Bool, true, false, ◌&&◌, if◌then◌else◌, List, Some, None, IfSome, refl, sym, ap, ◌∙◌}
use Rattle.std.proofs.lemmas.Bool.Decides.{Decides-eqb}
use Rattle.sed_typed.specs.declared.kind.Kind.{Kind}
use Rattle.sed_typed.specs.declared.kind.Kind.TheVariants as kind
use Rattle.sed_typed.specs.declared.number.TypeNo.{TypeNo}
use Rattle.sed_typed.specs.TypedExpr.{Context}
use Rattle.sed_faults.specs.declared.fault.Fault.{Fault}
use Rattle.sed_terms.specs.declared.judged.Judged.{Judged}
use Rattle.sed_terms.specs.declared.sign.Sign.TheVariants as sign
use Rattle.sed_terms.specs.Faults.{all_faults, broken, Right}
use Rattle.sed_terms.specs.Forms.{has_elements, indexed}
use Rattle.sed_terms.specs.Sorts.{sort_of, term_kind, is_value}
use Rattle.sed_terms.specs.Term.{Term, Node}
use Rattle.sed_terms.specs.TypedTerm.{IsTerm}
use Rattle.sed_body_rules.specs.Choices.{equal_branches, branches, branched, chosen}
use Rattle.sed_body_rules.specs.Conversions.{is_number, is_int, is_operand, same_kind, meeting, in_width, beside}
use Rattle.sed_body_rules.specs.Operands.{element}
use Rattle.sed_body_rules.specs.Wants.{wants, truth}
use Rattle.sed_bodies.proofs.OperandsRight.{Passes, IsTruth, wants_right, truth_right, beside_ready, sort_of_ready, in_both}
use Rattle.sed_bodies.specs.Inside.{IsReady, HasKinds}
use Rattle.sed_bodies.proofs.Ready.{ready_value, int_is}
use Rattle.sed_body_rules.specs.Values.{number_value, int_value}
use Rattle.sed_bodies.proofs.Right.{after_right, joined_right, unless_right, some_right}

-- ---- indexes

abbrev IsIndexed : Context → Term → Type 0
IsIndexed c t = IsReady c t × (has_elements (sort_of t) ≡ true)

indexed_ready : (c : Context) (t x : Term) → IsReady c t → has_elements (sort_of t) ≡ true → IsTerm c x → term_kind x ≡ kind.Int → IsReady c (indexed t x)
indexed_ready c (Node (sign.Array p n i) e b) x h v y q = ((h.0, h.1, y, q), λ u. (h.0, h.1, y, q))
indexed_ready c (Node (sign.StaticArray p n i) a b) x h v y q = ((h, y, q), λ u. (h, y, q))
indexed_ready c (Node (sign.Bytes i) e b) x h v y q = ((h.0, h.1, y, q), λ u. absurd (let k : false ≡ true = u in cc))
indexed_ready c (Node sign.After e t) x h v y q = (h.0, indexed_ready c t x h.1 v y q)
indexed_ready c t x h v y q = absurd (let k : false ≡ true = v in cc)

pub element_right : (c : Context) (at right : ℕ) (x y : Judged Term (List Fault)) → Right (IsReady c) x → Right (IsReady c) y →
    Right (IsReady c) (element all_faults at right x y)
element_right c at right x y p q =
    joined_right (IsIndexed c) (Passes c is_int) (IsReady c) (wants all_faults has_elements at x) (wants all_faults is_int right y) _
    (after_right (IsReady c) (IsIndexed c) x _ p (λ t h. unless_right (IsIndexed c) (has_elements (sort_of t)) (broken 13 at) t (λ e. (h, e))))
    (λ a h. wants_right c is_int int_value right y q)
    (λ t i h g. indexed_ready c t i h.0 h.1 g.0 (int_is i g.1))

-- ---- `? :`

same_kind_is : (a b : Kind) → same_kind a b ≡ true → a ≡ b
same_kind_is kind.Void kind.Void h = refl
same_kind_is kind.Bool kind.Bool h = refl
same_kind_is kind.Int kind.Int h = refl
same_kind_is kind.Long kind.Long h = refl
same_kind_is kind.Text kind.Text h = refl
same_kind_is (kind.Object c) (kind.Object d) h =
    let same : c.0 ≡ d.0 = (Decides-eqb c.0 d.0).0 h in ap (λ (n : ℕ). let t : TypeNo = record { 0 = n } in kind.Object t) same
same_kind_is a b h = absurd (let k : false ≡ true = h in cc)

abbrev AreBranches : Context → Term × Term → Type 0
AreBranches c p = IsTerm c p.0 × IsTerm c p.1 × (term_kind p.0 ≡ term_kind p.1)

branches_ready : (c : Context) (x y : Term) → IsReady c x → IsReady c y → IfSome (equal_branches x y) (AreBranches c)
branches_ready c x y p q = numbers (is_number (sort_of x)) (is_number (sort_of y)) refl refl
  where
    values : (s t u : Bool) → is_value x ≡ s → is_value y ≡ t → same_kind (term_kind x) (term_kind y) ≡ u →
        IfSome {T = Term × Term} (if s && t && u then Some (x, y) else None) (AreBranches c)
    values true true true e f g = (ready_value c x p e, ready_value c y q f, same_kind_is (term_kind x) (term_kind y) g)
    values true true false e f g = tt
    values true false u e f g = tt
    values false t u e f g = tt

    numbers : (s t : Bool) → is_number (sort_of x) ≡ s → is_number (sort_of y) ≡ t →
        IfSome {T = Term × Term} (if s && t then Some (in_width (meeting x y) x, in_width (meeting x y) y)
        else if is_value x && is_value y && same_kind (term_kind x) (term_kind y) then Some (x, y) else None) (AreBranches c)
    numbers true true e f =
        let b = in_both c x y (ready_value c x p (number_value (sort_of x) e), e) (ready_value c y q (number_value (sort_of y) f), f) in
        (b.0.0, b.1.0, b.0.1 ∙ sym b.1.1)
    numbers true false e f = values (is_value x) (is_value y) (same_kind (term_kind x) (term_kind y)) refl refl refl
    numbers false t e f = values (is_value x) (is_value y) (same_kind (term_kind x) (term_kind y)) refl refl refl

operand_right : (c : Context) (at : ℕ) (x : Judged Term (List Fault)) → Right (IsReady c) x → Right (IsReady c) (wants all_faults is_operand at x)
operand_right c at x p = after_right (IsReady c) (IsReady c) x _ p (λ t h. unless_right (IsReady c) (is_operand (sort_of t)) (broken 13 at) t (λ e. h))

branched_right : (c : Context) → HasKinds c → (left right : ℕ) (x y : Judged Term (List Fault)) → Right (IsReady c) x → Right (IsReady c) y →
    Right (AreBranches c) (branched all_faults left right x y)
branched_right c k left right x y p q =
    joined_right {C = Term × Term} (IsReady c) (IsReady c) (AreBranches c) (wants all_faults is_operand left x) (wants all_faults is_operand right y) _
    (operand_right c left x p) (λ a h. operand_right c right y q)
    (λ s t h g. some_right {A = Term × Term} (AreBranches c) (broken 13 right) (branches s t)
    (branches_ready c (beside (sort_of t) (sort_of s) s) (beside (sort_of s) (sort_of t) t)
    (beside_ready c k (sort_of t) (sort_of s) s (sort_of_ready c k t g) h) (beside_ready c k (sort_of s) (sort_of t) t (sort_of_ready c k s h) g)))

pub chosen_right : (c : Context) → HasKinds c → (at left right : ℕ) (t x y : Judged Term (List Fault)) → Right (IsReady c) t → Right (IsReady c) x →
    Right (IsReady c) y → Right (IsReady c) (chosen all_faults at left right t x y)
chosen_right c k at left right t x y r p q =
    joined_right {B = Term × Term} (IsTruth c) (AreBranches c) (IsReady c) (truth all_faults at t) (branched all_faults left right x y) _
    (truth_right c k at t r) (λ a h. branched_right c k left right x y p q)
    (λ test both h g. ((h.0, g.0, g.1, h.1, g.2), λ e. absurd (let k : false ≡ true = e in cc)))
