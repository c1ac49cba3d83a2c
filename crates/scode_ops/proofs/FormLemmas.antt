-- The numbers of forms that one instruction alone has.
use Rattle.std.proofs.Common.{◌≡◌, ℕ, Bool, cond, sym, eqb-true}
use Rattle.std.specs.Prelude.{Option, Some, None}
use Rattle.std.proofs.lemmas.Bool.{cond_both}
use Rattle.scode_ops.specs.declared.operands.Form.{Form}
use Rattle.scode_ops.specs.declared.operands.Form.TheVariants.{Empty, U1, U2, U2U1, U2U2, I4, I8}
use Rattle.scode_ops.specs.Forms.{form_of, is_empty, is_u1, is_u2, is_u2u1, is_u2u2, is_i4, is_i8}

-- a choice that is not the one looked for is passed over
past : (test : Bool) (form other : Form) (rest : Option Form) (P : Type 0) → (Some form ≡ Some other → ⊥) → (rest ≡ Some other → P) → cond test (Some form) rest ≡ Some other → P
past test form other rest P not' go = cond_both test (Some form) rest (λ f. f ≡ Some other → P) (λ is e. absurd (not' e)) (λ is e. go e)

from_u2u1 : (number : ℕ) → cond (is_u2u1 number) (Some U2U1) (cond (is_u2u2 number) (Some U2U2) (cond (is_i4 number) (Some I4) (cond (is_i8 number) (Some I8) None))) ≡ Some U2U1 → 113 ≡ number
from_u2u1 number =
    cond_both (is_u2u1 number) (Some U2U1) (cond (is_u2u2 number) (Some U2U2) (cond (is_i4 number) (Some I4) (cond (is_i8 number) (Some I8) None))) (λ f. f ≡ Some U2U1 → 113 ≡ number)
    (λ is e. sym (eqb-true number 113 is))
    (λ is. past (is_u2u2 number) U2U2 U2U1 (cond (is_i4 number) (Some I4) (cond (is_i8 number) (Some I8) None)) (113 ≡ number) (λ e. cc)
    (past (is_i4 number) I4 U2U1 (cond (is_i8 number) (Some I8) None) (113 ≡ number) (λ e. cc)
    (past (is_i8 number) I8 U2U1 None (113 ≡ number) (λ e. cc) (λ e. absurd (cc)))))

from_i4 : (number : ℕ) → cond (is_i4 number) (Some I4) (cond (is_i8 number) (Some I8) None) ≡ Some I4 → 1 ≡ number
from_i4 number =
    cond_both (is_i4 number) (Some I4) (cond (is_i8 number) (Some I8) None) (λ f. f ≡ Some I4 → 1 ≡ number)
    (λ is e. sym (eqb-true number 1 is))
    (λ is. past (is_i8 number) I8 I4 None (1 ≡ number) (λ e. cc) (λ e. absurd (cc)))

from_i8 : (number : ℕ) → cond (is_i8 number) (Some I8) None ≡ Some I8 → 2 ≡ number
from_i8 number = cond_both (is_i8 number) (Some I8) None (λ f. f ≡ Some I8 → 2 ≡ number) (λ is e. sym (eqb-true number 2 is)) (λ is e. absurd (cc))

pub is_u2u1-number : (number : ℕ) → form_of number ≡ Some U2U1 → 113 ≡ number
is_u2u1-number number =
    past (is_empty number) Empty U2U1 _ (113 ≡ number) (λ e. cc) (past (is_u1 number) U1 U2U1 _ (113 ≡ number) (λ e. cc) (past (is_u2 number) U2 U2U1 _ (113 ≡ number) (λ e. cc) (from_u2u1 number)))

pub is_i4-number : (number : ℕ) → form_of number ≡ Some I4 → 1 ≡ number
is_i4-number number =
    past (is_empty number) Empty I4 _ (1 ≡ number) (λ e. cc) (past (is_u1 number) U1 I4 _ (1 ≡ number) (λ e. cc) (past (is_u2 number) U2 I4 _ (1 ≡ number) (λ e. cc)
    (past (is_u2u1 number) U2U1 I4 _ (1 ≡ number) (λ e. cc) (past (is_u2u2 number) U2U2 I4 _ (1 ≡ number) (λ e. cc) (from_i4 number)))))

pub is_i8-number : (number : ℕ) → form_of number ≡ Some I8 → 2 ≡ number
is_i8-number number =
    past (is_empty number) Empty I8 _ (2 ≡ number) (λ e. cc) (past (is_u1 number) U1 I8 _ (2 ≡ number) (λ e. cc) (past (is_u2 number) U2 I8 _ (2 ≡ number) (λ e. cc)
    (past (is_u2u1 number) U2U1 I8 _ (2 ≡ number) (λ e. cc) (past (is_u2u2 number) U2U2 I8 _ (2 ≡ number) (λ e. cc) (past (is_i4 number) I4 I8 _ (2 ≡ number) (λ e. cc) (from_i8 number))))))
