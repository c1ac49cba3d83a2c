-- Fronts of lists, and that one spelling at most begins a list of bytes.
use Rattle.std.proofs.Common.{◌≡◌, ℕ, ℤ, List, [], ◌∷◌, ◌++◌, length, Ok, refl, sym, ◌∙◌, ap, arith}
use Rattle.std.proofs.lemmas.Int.{to_z-of_z}
use Rattle.std.specs.Int.{Width, byte_len, cast_signed}
use Rattle.sed_wire.specs.Number.{number_of, SpellsNumber, SpellsSigned}
pub use Rattle.sed_wire.specs.OneSpelling.{number_of-below, one_number, one_signed}
use Rattle.sed_wire.specs.Reading.{Reads, ReadsAgain, IsReadOneWay}

-- two fronts of one length are one
pub same_front : (a b after others : List ℕ) → length a ≡ length b → a ++ after ≡ b ++ others → (a ≡ b)
    × (after ≡ others)
same_front [] [] after others long e = (refl, e)
same_front [] (y ∷ ys) after others long e = absurd (omega arith)
same_front (x ∷ xs) [] after others long e = absurd (omega arith)
same_front (x ∷ xs) (y ∷ ys) after others long e =
    let tails : xs ++ after ≡ ys ++ others = cc in
    let rest = same_front xs ys after others (omega arith) tails in
    (cc, rest.1)

pub read_number : (width : ℕ) → IsReadOneWay (SpellsNumber width)
read_number width v w a b after others of_a of_b e =
    let parts = same_front a b after others (of_a.as_many ∙ sym of_b.as_many) e in
    (sym of_a.is_number ∙ ap number_of parts.0 ∙ of_b.is_number, parts.0, parts.1)

pub read_signed : (width : Width) → IsReadOneWay (SpellsSigned width)
read_signed width v w a b after others of_a of_b e =
    let parts = read_number (byte_len width) _ _ a b after others of_a.complement of_b.complement e in
    let same : v ≡ w =
    sym (to_z-of_z width v of_a.fits) ∙ ap (cast_signed width) parts.0 ∙ to_z-of_z width w of_b.fits in
    (same, parts.1, parts.2)

-- what the front spells is what was written
pub read_again : {A E : Type 0} (Spells : A → List ℕ → Type 0) (read : A) (old new : List ℕ) → IsReadOneWay Spells
    → Reads Spells read old new → ReadsAgain {E = E} Spells (Ok read) old new
read_again Spells read old new one found written spelling follows spelled front =
    let same = one read written found.spelling spelling new follows found.spelled spelled (sym found.front ∙ front) in
    (ap Ok same.0, same.2)

pub number_again : {E : Type 0} (width number : ℕ) (old new : List ℕ) → Reads (SpellsNumber width) number old new
    → ReadsAgain {E = E} (SpellsNumber width) (Ok number) old new
number_again width number old new found = read_again (SpellsNumber width) number old new (read_number width) found

pub signed_again : {E : Type 0} (width : Width) (number : ℤ) (old new : List ℕ)
    → Reads (SpellsSigned width) number old new
    → ReadsAgain {E = E} (SpellsSigned width) (Ok number) old new
signed_again width number old new found = read_again (SpellsSigned width) number old new (read_signed width) found
