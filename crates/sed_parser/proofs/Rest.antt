-- What a reader at its end has left.
use Rattle.std.proofs.Common.{◌≡◌, ℕ, zero, suc, ◌≤◌, ◌<◌, Bool, true, List, [], ◌∷◌, length, drop, nat_eq, refl, ◌∙◌, ◌+◌, add-one, arith}
use Rattle.sed_lexer.specs.Token.{Token}
use Rattle.sed_parser.specs.Next.{at_end, next_goes}

pub at_end-drop : (ts : List Token) (at : ℕ) → at ≤ length ts → nat_eq at (length ts) ≡ at_end (drop at ts)
at_end-drop [] zero within = refl
at_end-drop [] (suc at) within = grind arith
at_end-drop (t ∷ ts) zero within = grind arith
at_end-drop (t ∷ ts) (suc at) within =
    let less : at ≤ length ts = omega arith in
    let shorter : nat_eq at (length ts) ≡ at_end (drop at ts) = at_end-drop ts at less in
    grind (arith, shorter)

pub ruleset ends = at_end-drop

-- within brackets each token goes on
pub goes_inside : (inside : Bool) (ts : List Token) (at : ℕ) → inside ≡ true → at < length ts
    → next_goes inside (drop at ts) ≡ true
goes_inside inside [] at is within = absurd (omega arith)
goes_inside inside (t ∷ ts) zero is within = rw is refl
goes_inside inside (t ∷ ts) (suc at) is within =
    let less : at < length ts = omega arith in
    goes_inside inside ts at is less

pub ruleset going = goes_inside

-- behind a token
pub drop_one : (ts : List Token) (at : ℕ) → drop 1 (drop at ts) ≡ drop (at + 1) ts
drop_one ts zero = refl
drop_one [] (suc at) = rw add-one refl
drop_one (t ∷ ts) (suc at) = rw add-one (drop_one ts at ∙ rw add-one refl)

pub ruleset behind = drop_one
