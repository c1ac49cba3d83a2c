-- The bytes that spell the fields and parts of an image, as they are put.
use Rattle.std.proofs.Common.{◌≡◌, ℕ, zero, suc, ◌+◌, ◌-◌, ◌^◌, ◌<◌, ℤ, to_z, of_z, Bool, List, [], ◌∷◌, ◌++◌, length, drop, get_or, drop-cons, ◌≤◌, Result, Ok, Err, OnOk, refl, sym, ◌∙◌, ap, subst, arith}
use Rattle.std.specs.Int.{to_be_bytes, cast_unsigned, w16, w32}
use Rattle.std.proofs.lemmas.Int.{to_z-of_z}
use Rattle.std.proofs.lemmas.List.{append_assoc, append-nil}
use Rattle.sed_wire.specs.Number.{SpellsNumber, SpellsSigned}
use Rattle.sed_wire.proofs.FrontLemmas.{one_number, one_signed, number_of-below}
use Rattle.sed_wire.proofs.NumberLemmas.{written_spells, written_spells_signed}
use Rattle.sed_wire.proofs.ReadingLemmas.{one_byte}
use Rattle.sed_wire.specs.Form.{Form, then, only}
use Rattle.sed_wire.specs.Leaves.{u1, u2, i4, run, text}
use Rattle.scode_image.specs.Grammar.{head, version, end}
use Rattle.sed_wire.specs.Row.{row}
use Rattle.scode_image.specs.Steps.{Puts}

-- ---- fields

-- a number that is spelled is one of its width
number-below : (width n : ℕ) (bytes : List ℕ) → SpellsNumber width n bytes → n < 256 ^ width
number-below width n bytes is = rw (← is.is_number, ← is.as_many) (number_of-below bytes is.are_bytes)

behind : (old new these bytes : List ℕ) → new ≡ old ++ these → these ≡ bytes → new ≡ old ++ bytes
behind old new these bytes put same = put ∙ ap (λ (s : List ℕ). old ++ s) same

pub u1_puts : (n : ℕ) (old new : List ℕ) → new ≡ old ++ n ∷ [] → Puts u1 n old new
unfolding u1
u1_puts n old new put bytes is = behind old new (n ∷ []) bytes put (sym (one_byte n bytes is))

pub u2_puts : (n : ℕ) (old new : List ℕ) → new ≡ old ++ to_be_bytes w16 n → Puts u2 n old new
unfolding u2
u2_puts n old new put bytes is =
    let written : SpellsNumber 2 n (to_be_bytes w16 n) = written_spells 2 n (number-below 2 n bytes is) in
    behind old new (to_be_bytes w16 n) bytes put (one_number 2 n (to_be_bytes w16 n) bytes written is)

-- what has no spelling is put as anything
pub no_u1 : (n : ℕ) (old new : List ℕ) → 255 < n → Puts u1 n old new
unfolding u1
no_u1 n old new above bytes is = let below : n < 256 ^ 1 = number-below 1 n bytes is in absurd (omega (arith, above, below))

pub no_u2 : (n : ℕ) (old new : List ℕ) → 65535 < n → Puts u2 n old new
unfolding u2
no_u2 n old new above bytes is = let below : n < 256 ^ 2 = number-below 2 n bytes is in absurd (omega (arith, above, below))

pub signed_puts : (n : ℤ) (old new : List ℕ) → new ≡ old ++ to_be_bytes w32 (cast_unsigned w32 n) → Puts i4 n old new
signed_puts n old new put bytes is =
    let written : SpellsSigned w32 n (to_be_bytes w32 (cast_unsigned w32 n)) = written_spells_signed w32 n is.fits in
    behind old new (to_be_bytes w32 (cast_unsigned w32 n)) bytes put (one_signed w32 n (to_be_bytes w32 (cast_unsigned w32 n)) bytes written is)

pub text_puts : (t old middle new : List ℕ) → middle ≡ old ++ t → new ≡ middle ++ 0 ∷ [] → Puts text t old new
text_puts t old middle new put last bytes is =
    behind old new (t ++ 0 ∷ []) bytes (last ∙ ap (λ (s : List ℕ). s ++ 0 ∷ []) put ∙ append_assoc old t (0 ∷ [])) (sym is.ended)

pub run_puts : (n : ℕ) (r old new : List ℕ) → new ≡ old ++ r → Puts (run n) r old new
run_puts n r old new put bytes is = behind old new r bytes put (sym is.same)

pub head_puts : (old new : List ℕ) → new ≡ old ++ 0x53 ∷ 0x43 ∷ 0x44 ∷ 0x30 ∷ [] → Puts head tt old new
unfolding head
head_puts old new put bytes is =
    let spelled : SpellsNumber 4 0x53434430 (0x53 ∷ 0x43 ∷ 0x44 ∷ 0x30 ∷ []) = record { as_many = refl; are_bytes = refl; is_number = refl } in
    behind old new (0x53 ∷ 0x43 ∷ 0x44 ∷ 0x30 ∷ []) bytes put (one_number 4 0x53434430 (0x53 ∷ 0x43 ∷ 0x44 ∷ 0x30 ∷ []) bytes spelled is.0)

pub version_puts : (old new : List ℕ) → new ≡ old ++ 1 ∷ [] → Puts version tt old new
unfolding version
version_puts old new put bytes is = behind old new (1 ∷ []) bytes put (sym (one_byte 1 bytes is.0))

pub end_puts : (old new : List ℕ) → new ≡ old ++ 0x2e ∷ [] → Puts end tt old new
unfolding end
end_puts old new put bytes is = behind old new (0x2e ∷ []) bytes put (sym (one_byte 0x2e bytes is.0))

-- ---- one thing behind another

pub then_puts : {A B : Type 0} (p : Form A) (f : A → Form B) (a : A) (b : B) (old middle new : List ℕ)
    → Puts p a old middle → Puts (f a) b middle new → Puts (then p f) (a, b) old new
then_puts p f a b old middle new first second bytes (x, y, begun, followed, parted) =
    second y followed ∙ ap (λ (s : List ℕ). s ++ y) (first x begun) ∙ append_assoc old x y ∙ ap (λ (s : List ℕ). old ++ s) (sym parted)

pub only_puts : {A : Type 0} (test : A → Bool) (p : Form A) (a : A) (old new : List ℕ) → Puts p a old new → Puts (only test p) a old new
only_puts test p a old new put bytes is = put bytes is.0

-- ---- a row, item by item

-- so many were put, and the rest of what spells the row is still to be put
abbrev pub RowPut : {A S : Type 0} → (S → Form A) → (S → A → S) → ℕ → S → List A → List ℕ → List ℕ → ℕ → Type 0
RowPut {A} {S} item next count s all old now k =
    (bytes : List ℕ) → (row item next count s).spells all bytes
    → (t : S) × (rest : List ℕ) × (row item next (count - k) t).spells (drop k all) rest × (old ++ bytes ≡ now ++ rest)

pub row_begins : {A S : Type 0} (item : S → Form A) (next : S → A → S) (count : ℕ) (s : S) (all : List A) (old : List ℕ) → RowPut item next count s all old old 0
row_begins item next count s all old bytes is =
    let same : count - 0 ≡ count = omega arith in
    (s, bytes, rw same is, refl)

row_next : {A S : Type 0} (item : S → Form A) (next : S → A → S) (left : ℕ) (t : S) (x : A) (xs : List A) (now new rest : List ℕ)
    → Puts (item t) x now new → (row item next left t).spells (x ∷ xs) rest
    → (u : S) × (behind : List ℕ) × (row item next (left - 1) u).spells xs behind × (now ++ rest ≡ new ++ behind)
row_next item next zero t x xs now new rest put is = absurd (let e = is.0 in cc)
row_next item next (suc left) t x xs now new rest put (first, second, begun, followed, parted) =
    let same : suc left - 1 ≡ left = omega arith in (
      next t x,
      second,
      rw same followed,
      ap (λ (s : List ℕ). now ++ s) parted ∙ sym (append_assoc now first second) ∙ ap (λ (s : List ℕ). s ++ second) (sym (put first begun)),
    )

pub row_goes_on : {A S : Type 0} (item : S → Form A) (next : S → A → S) (count : ℕ) (s : S) (all : List A) (old now new : List ℕ) (k : ℕ) (x : A)
    → drop k all ≡ x ∷ drop (k + 1) all → ((t : S) → Puts (item t) x now new) → RowPut item next count s all old now k → RowPut item next count s all old new (k + 1)
row_goes_on {A} {S} item next count s all old now new k x parted put so_far bytes is =
    let (t, rest, spelled, same) = so_far bytes is in
    let here : (row item next (count - k) t).spells (x ∷ drop (k + 1) all) rest = subst (λ (ys : List A). (row item next (count - k) t).spells ys rest) parted spelled in
    let (u, behind, more, joined) = row_next item next (count - k) t x (drop (k + 1) all) now new rest (put t) here in
    let one : count - k - 1 ≡ count - (k + 1) = omega arith in
    (u, behind, subst (λ (n : ℕ). (row item next n u).spells (drop (k + 1) all) behind) one more, same ∙ joined)

row_done : {A S : Type 0} (item : S → Form A) (next : S → A → S) (left : ℕ) (t : S) (rest : List ℕ) → (row item next left t).spells [] rest → rest ≡ []
row_done item next zero t rest is = is.1
row_done item next (suc left) t rest is = absurd is

pub row_ends : {A S : Type 0} (item : S → Form A) (next : S → A → S) (count : ℕ) (s : S) (all : List A) (old now : List ℕ) (k : ℕ)
    → drop k all ≡ [] → RowPut item next count s all old now k → Puts (row item next count s) all old now
row_ends {A} {S} item next count s all old now k none so_far bytes is =
    let (t, rest, spelled, same) = so_far bytes is in
    let empty : rest ≡ [] = row_done item next (count - k) t rest (subst (λ (ys : List A). (row item next (count - k) t).spells ys rest) none spelled) in
    sym (same ∙ ap (λ (s : List ℕ). now ++ s) empty ∙ append-nil now)

-- behind all of them none is left
pub none_left : {A : Type 0} (k : ℕ) (xs : List A) → length xs ≤ k → drop k xs ≡ []
none_left zero [] long = refl
none_left (suc k) [] long = refl
none_left zero (x ∷ xs) long = absurd (omega arith)
none_left (suc k) (x ∷ xs) long = none_left k xs (omega arith)

-- the next item, and those behind it
pub next_left : {A : Type 0} (k : ℕ) (xs : List A) (x : A) → k < length xs → x ≡ get_or xs k x → drop k xs ≡ x ∷ drop (k + 1) xs
next_left {A} k xs x within is =
    let one : suc k ≡ k + 1 = omega arith in
    drop-cons xs k x within ∙ ap (λ (y : A). y ∷ drop (suc k) xs) (sym is) ∙ ap (λ (n : ℕ). x ∷ drop n xs) one

-- what is said of a call that is done
pub on_ok : {T E : Type 0} (result : Result T E) (P Q : Type 0) → (P → Q) → OnOk result P → OnOk result Q
on_ok (Ok x) P Q f h = f h
on_ok (Err e) P Q f h = h

-- of an equal thing
pub puts_same : {A : Type 0} (form : Form A) (a b : A) (old new : List ℕ) → a ≡ b → Puts form a old new → Puts form b old new
puts_same {A} form a b old new same put = subst (λ (x : A). Puts form x old new) same put

-- a signed number that went through its bits
pub signed_through : (n : ℤ) (old new : List ℕ) → Puts i4 (to_z w32 (of_z w32 n)) old new → Puts i4 n old new
signed_through n old new put bytes is =
    put bytes (subst (λ (m : ℤ). SpellsSigned w32 m bytes) (sym (to_z-of_z w32 n is.fits)) is)
