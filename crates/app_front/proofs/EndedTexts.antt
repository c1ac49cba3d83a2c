-- Things up to a mark, as their form spells them.
use Rattle.std.proofs.Common.{◌≡◌, ℕ, zero, suc, ◌<◌, Bool, true, false, cond, List, [], ◌∷◌, ◌++◌, length, refl, sym, ◌∙◌, ap, ap₂, subst, append_assoc, arith}
use Rattle.std.specs.Prelude.{◌==◌}
use Rattle.std.specs.List.{AllByRecursion, flat_map}
use Rattle.std.proofs.lemmas.List.{append-nil}
use Rattle.sed_wire.proofs.NumberLemmas.{written_spells}
use Rattle.sed_wire.specs.Form.{Form, given, then}
use Rattle.sed_wire.specs.Row.{listed}
use Rattle.comp_tree.specs.Parts.{no_id, u2}
use Rattle.app_front.specs.Ended.{Begin, ended}
use Rattle.app_front.proofs.IdTexts.{below_mark, not_mark}
use Rattle.app_front.proofs.Texts.{number_texts}

-- what stands behind the number that a thing begins with
pub record IsBehind {A : Type 0} (first : A → ℕ) (behind : ℕ → Form A) (text_of : A → List ℕ) (x : A) : Type 0 where
  pub bytes : List ℕ
  pub spelled : (behind (first x)).spells x bytes
  pub text : text_of x ≡ u2 (first x) ++ bytes

module _ {A : Type 0} (first : A → ℕ) (behind : ℕ → Form A) (begin : Begin first behind) (P : A → Type 0) (text_of : A → List ℕ)
    (below : (x : A) → P x → first x < no_id)
    (said : (x : A) (bytes : List ℕ) → first x < no_id → (behind (first x)).spells x bytes → P x × (u2 (first x) ++ bytes ≡ text_of x))
    (told : (x : A) → P x → IsBehind first behind text_of x) where
  both : (x : A) (xs : List A) (bytes a b c d : List ℕ) → bytes ≡ a ++ b → a ≡ u2 (first x) → b ≡ c ++ d → u2 (first x) ++ c ≡ text_of x → d ≡ flat_map text_of xs ++ u2 no_id
      → bytes ≡ flat_map text_of (x ∷ xs) ++ u2 no_id
  both x xs bytes a b c d parted number parted2 text rest =
      parted ∙ ap₂ (λ (s t : List ℕ). s ++ t) number parted2 ∙ sym (append_assoc (u2 (first x)) c d)
      ∙ ap₂ (λ (s t : List ℕ). s ++ t) text rest ∙ sym (append_assoc (text_of x) (flat_map text_of xs) (u2 no_id))

  pub ended_said : (n : ℕ) (xs : List A) (bytes : List ℕ) → (ended first behind begin n).spells xs bytes → AllByRecursion P xs × (bytes ≡ flat_map text_of xs ++ u2 no_id)
  ended_said zero xs bytes is = absurd is
  ended_said (suc n) [] bytes is =
      let number = (number_texts 2).said no_id is.0 is.2 in
      (tt, is.4 ∙ ap₂ (λ (x y : List ℕ). x ++ y) number.1 is.3.1 ∙ append-nil (u2 no_id))
  ended_said (suc n) (x ∷ xs) bytes is = by (λ b h. ended_said n xs b h) (first x == no_id) refl is.3
    where
      by : ((b : List ℕ) → (ended first behind begin n).spells xs b → AllByRecursion P xs × (b ≡ flat_map text_of xs ++ u2 no_id)) → (b : Bool) → (first x == no_id) ≡ b → (cond b (given []) (listed (then (behind (first x)) (λ _. ended first behind begin n)))).spells (x ∷ xs) is.1
          → AllByRecursion P (x ∷ xs) × (bytes ≡ flat_map text_of (x ∷ xs) ++ u2 no_id)
      by again true e h = absurd (let no : x ∷ xs ≡ [] = h.0 in cc)
      by again false e h =
          let number = (number_texts 2).said (first x) is.0 is.2 in
          let lt = below_mark (first x) number.0 (λ same. let no : false ≡ true = sym e ∙ (rw same refl) in absurd cc) in
          let here = said x h.0 lt h.2 in
          let others = again h.1 h.3 in
          ((here.0, others.0), both x xs bytes is.0 is.1 h.0 h.1 is.4 number.1 h.4 here.1 others.1)

  pub ended_spelled : (n : ℕ) (xs : List A) → length xs < n → AllByRecursion P xs → (ended first behind begin n).spells xs (flat_map text_of xs ++ u2 no_id)
  ended_spelled zero xs few each = absurd (omega (arith, few))
  ended_spelled (suc n) [] few each = (u2 no_id, [], written_spells 2 no_id (omega arith), (refl, refl), sym (append-nil (u2 no_id)))
  ended_spelled (suc n) (x ∷ xs) few each =
      let here = told x each.0 in
      let lt = below x each.0 in
      let rest = flat_map text_of xs ++ u2 no_id in
      let more = ended_spelled n xs (omega (arith, few)) each.1 in (
        u2 (first x),
        here.bytes ++ rest,
        written_spells 2 (first x) (omega (arith, lt)),
        subst (λ (b : Bool). (cond b (given []) (listed (then (behind (first x)) (λ _. ended first behind begin n)))).spells (x ∷ xs) (here.bytes ++ rest)) (sym (not_mark (first x) lt)) (here.bytes, rest, here.spelled, more, refl),
        append_assoc (text_of x) (flat_map text_of xs) (u2 no_id) ∙ ap (λ (t : List ℕ). t ++ rest) here.text ∙ append_assoc (u2 (first x)) here.bytes rest,
      )
