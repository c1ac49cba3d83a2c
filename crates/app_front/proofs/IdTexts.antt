-- Ids that are told, as their form spells them.
use Rattle.std.proofs.Common.{◌≡◌, ℕ, ◌<◌, ◌^◌, Bool, true, false, List, [], ◌++◌, refl, sym, ◌∙◌, ap, ap₂, arith, eqb-true}
use Rattle.std.specs.Prelude.{◌==◌, Option, Some, None, IfSome}
use Rattle.std.proofs.lemmas.Bool.Decides.{nat_tests}
use Rattle.std.proofs.lemmas.List.{append-nil}
use Rattle.sed_value.specs.declared.id.Id.{Id}
use Rattle.sed_wire.proofs.NumberLemmas.{written_spells}
use Rattle.comp_tree.specs.Parts.{no_id, u2}
use Rattle.app_file.specs.Text.{id_text}
use Rattle.app_front.specs.RowForm as form
use Rattle.app_front.specs.Rows.{IsToldId, number_of_id}
use Rattle.app_front.proofs.Texts.{Texts, number_texts}

-- ---- ids

pub not_mark : (n : ℕ) → n < no_id → (n == no_id) ≡ false
not_mark n lt = grind (arith, nat_tests)

no_mark : (n : ℕ) (id : Id) → ◌≡◌ {A = Option Id} (Some id) (form.id_of n) → n ≡ no_id → ⊥
no_mark n id e is = absurd (let no : ◌≡◌ {A = Option Id} (Some id) None = e ∙ ap form.id_of is in cc)

pub below_mark : (n : ℕ) → n < 256 ^ 2 → (n ≡ no_id → ⊥) → n < no_id
below_mark n lt other = by (n == no_id) refl
  where
    by : (b : Bool) → (n == no_id) ≡ b → n < no_id
    by true is = absurd (other (eqb-true n no_id is))
    by false is = grind (arith, nat_tests)

pub id_texts : Texts form.id.spells (λ o. IfSome o IsToldId) (λ o. id_text (number_of_id o))
unfolding form.id
id_texts = record { said = said; spelled = spelled }
  where
    said : (o : Option Id) (bytes : List ℕ) → form.id.spells o bytes → IfSome o IsToldId × (bytes ≡ id_text (number_of_id o))
    said None bytes is =
        let number = (number_texts 2).said no_id is.0 is.2 in
        (tt, is.4 ∙ ap₂ (λ (x y : List ℕ). x ++ y) number.1 is.3.1 ∙ append-nil (u2 no_id))
    said (Some i) bytes is =
        let number = (number_texts 2).said i.0 is.0 is.2 in
        (below_mark i.0 number.0 (no_mark i.0 i is.3.0), is.4 ∙ ap₂ (λ (x y : List ℕ). x ++ y) number.1 is.3.1 ∙ append-nil (u2 i.0))

    spelled : (o : Option Id) → IfSome o IsToldId → form.id.spells o (id_text (number_of_id o))
    spelled None is = (u2 no_id, [], written_spells 2 no_id (omega arith), (refl, refl), sym (append-nil (u2 no_id)))
    spelled (Some i) is =
        let again : ◌≡◌ {A = Option Id} (Some i) (form.id_of i.0) = rw (not_mark i.0 is) refl in
        (u2 i.0, [], written_spells 2 i.0 (omega (arith, is)), (again, refl), sym (append-nil (u2 i.0)))
