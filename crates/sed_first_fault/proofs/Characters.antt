-- What bytes of a text spell, one by one.
use Rattle.std.proofs.Common.{◌≡◌, ℕ, suc, ◌+◌, ◌<◌, ◌≤◌, get_or, drop-cons, length-append, add-one, ◌==◌, Bool, true, false, not, if◌then◌else◌, is_none, List, ◌∷◌, ◌++◌, length, drop, Option, Some, None, refl, sym, ap, ◌∙◌, arith, append_assoc}
use Rattle.std.specs.Option.{option_to_list}
use Rattle.std.specs.Str.{byte}
use Rattle.sed_classes.specs.Literals.{characters_in}
use Rattle.sed_first_fault.specs.Texts.{character}

-- one byte more
pub one_more : (slashed : Bool) (b : ℕ) (bs : List ℕ) →
    characters_in slashed (b ∷ bs) ≡ option_to_list (character slashed b)
    ++ characters_in (is_none (character slashed b)) bs
one_more true b bs = refl
one_more false b bs = by_test (b == byte "\\")
  where
    by_test : (test : Bool) → (if test then characters_in true bs else b ∷ characters_in false bs)
        ≡ option_to_list (if test then None else Some b) ++ characters_in (is_none (if test then None else Some b)) bs
    by_test true = refl
    by_test false = refl

-- a text so far, with a byte more
pub step : (text : List ℕ) (slashed : Bool) (b : ℕ) (bs whole : List ℕ) →
    text ++ characters_in slashed (b ∷ bs) ≡ whole →
    (text ++ option_to_list (character slashed b)) ++ characters_in (is_none (character slashed b)) bs ≡ whole
step text slashed b bs whole e =
    append_assoc text (option_to_list (character slashed b)) (characters_in (is_none (character slashed b)) bs)
    ∙ sym (ap (λ more. text ++ more) (one_more slashed b bs))
    ∙ e

-- the same in a loop over bytes
pub loop_step : (text : List ℕ) (slashed : Bool) (bytes : List ℕ) (i : ℕ) (found : Option ℕ) (next : Bool)
    (new whole : List ℕ) →
    i < length bytes → found ≡ character slashed (get_or bytes i 0) → next ≡ is_none found →
    new ≡ text ++ option_to_list found → text ++ characters_in slashed (drop i bytes) ≡ whole →
    new ++ characters_in next (drop (i + 1) bytes) ≡ whole
loop_step text slashed bytes i found next new whole h f n p e =
    let b : ℕ = get_or bytes i 0 in
    let rest : List ℕ = drop (suc i) bytes in
    ap (λ more. more ++ characters_in next (drop (i + 1) bytes)) (p ∙ ap (λ o. text ++ option_to_list o) f)
    ∙ ap (λ m. (text ++ option_to_list (character slashed b)) ++ characters_in next (drop m bytes)) (add-one i)
    ∙ ap (λ z. (text ++ option_to_list (character slashed b)) ++ characters_in z rest) (n ∙ ap is_none f)
    ∙ step text slashed b rest whole (sym (ap (λ bs. text ++ characters_in slashed bs) (drop-cons bytes i 0 h)) ∙ e)

-- a text that is too long already has no room for what is behind it
pub too_long : (text : List ℕ) (slashed : Bool) (bs whole : List ℕ) → 255 ≤ length text →
    text ++ characters_in slashed bs ≡ whole → 255 ≤ length whole
too_long text slashed bs whole h e =
    omega (arith, h, ap length (sym e) ∙ length-append text (characters_in slashed bs))

pub turned : (a b : Bool) → a ≡ not b → b ≡ not a
turned a true e = sym (ap not e)
turned a false e = sym (ap not e)
