-- What has a spelling in a form of bytes: fields, and forms that are put together.
use Rattle.std.proofs.Common.{◌≡◌, ℕ, ◌^◌, ◌<◌, ◌≤◌, ℤ, Bool, List, [], ◌∷◌, ◌++◌, length, nat_le, refl, arith}
use Rattle.std.specs.Prelude.{All, IsTrue}
use Rattle.std.specs.Int.{w32, byte_len, bytes_high_first, cast_unsigned}
use Rattle.std.proofs.lemmas.Bool.{le-leb}
use Rattle.std.proofs.lemmas.List.Elements.{All-head, All-tail}
use Rattle.sed_value.specs.Value.{is_signed}
use Rattle.sed_engine.proofs.Ranges.{fits_of}
use Rattle.sed_wire.specs.Form.{Form, then, only, sized}
use Rattle.sed_wire.specs.Leaves.{u1, u2, i4, run, counted_run, text}
use Rattle.sed_wire.specs.Row.{times, counted}
use Rattle.sed_wire.specs.Text.{is_text}
use Rattle.sed_wire.proofs.NumberLemmas.{written_spells, written_spells_signed}
use Rattle.scode_image.specs.Grammar.{u1_to, u2_from}

abbrev pub HasBytes : {A : Type 0} → Form A → A → Type 0
HasBytes form a = (bytes : List ℕ) × form.spells a bytes

-- ---- forms that are put together

pub then_bytes : {A B : Type 0} (p : Form A) (f : A → Form B) (a : A) (b : B) → HasBytes p a → HasBytes (f a) b → HasBytes (then p f) (a, b)
then_bytes p f a b first second = (first.0 ++ second.0, (first.0, second.0, first.1, second.1, refl))

pub only_bytes : {A : Type 0} (test : A → Bool) (p : Form A) (a : A) → HasBytes p a → IsTrue (test a) → HasBytes (only test p) a
only_bytes test p a h is = (h.0, (h.1, is))

pub sized_bytes : {B : Type 0} (size : B → ℕ) (count : Form ℕ) (f : ℕ → Form B) (has : (n : ℕ) (b : B) (bytes : List ℕ) → (f n).spells b bytes → size b ≡ n) (b : B) →
    HasBytes count (size b) → HasBytes (f (size b)) b → HasBytes (sized size count f has) b
sized_bytes size count f has b first second = then_bytes count f (size b) b first second

pub times_bytes : {A : Type 0} (item : Form A) (xs : List A) → All (HasBytes item) xs → HasBytes (times (length xs) item) xs
times_bytes item [] h = ([], (refl, refl))
times_bytes item (x ∷ xs) h =
    let one : HasBytes item x = All-head (HasBytes item) x xs h in
    let rest : HasBytes (times (length xs) item) xs = times_bytes item xs (All-tail (HasBytes item) x xs h) in
    (one.0 ++ rest.0, (one.0, rest.0, one.1, rest.1, refl))

pub counted_bytes : {A : Type 0} (count : Form ℕ) (item : Form A) (xs : List A) → HasBytes count (length xs) → All (HasBytes item) xs → HasBytes (counted count item) xs
counted_bytes count item xs first each = then_bytes count (λ n. times n item) (length xs) xs first (times_bytes item xs each)

-- ---- fields

pub u1_bytes : (n : ℕ) → n ≤ 255 → HasBytes u1 n
unfolding u1
u1_bytes n le = (bytes_high_first 1 n, written_spells 1 n (let below : n < 256 ^ 1 = omega (arith, le) in below))

pub u2_bytes : (n : ℕ) → n ≤ 65535 → HasBytes u2 n
unfolding u2
u2_bytes n le = (bytes_high_first 2 n, written_spells 2 n (let below : n < 256 ^ 2 = omega (arith, le) in below))

pub u1_to_bytes : (most n : ℕ) → n ≤ most → n ≤ 255 → HasBytes (u1_to most) n
unfolding u1_to
u1_to_bytes most n h le = only_bytes (λ k. nat_le k most) u1 n (u1_bytes n le) (le-leb n most h)

pub u2_from_bytes : (least n : ℕ) → least ≤ n → n ≤ 65535 → HasBytes (u2_from least) n
unfolding u2_from
u2_from_bytes least n h le = only_bytes (λ k. nat_le least k) u2 n (u2_bytes n le) (le-leb least n h)

pub i4_bytes : (n : ℤ) → IsTrue (is_signed w32 n) → HasBytes i4 n
i4_bytes n is = (bytes_high_first (byte_len w32) (cast_unsigned w32 n), written_spells_signed w32 n (fits_of w32 n is))

pub run_bytes : (r : List ℕ) → HasBytes (run (length r)) r
run_bytes r = (r, record { as_many = refl; same = refl })

pub counted_run_bytes : (count : Form ℕ) (r : List ℕ) → HasBytes count (length r) → HasBytes (counted_run count) r
counted_run_bytes count r first = then_bytes count (λ n. run n) (length r) r first (run_bytes r)

pub text_bytes : (t : List ℕ) → IsTrue (is_text t) → HasBytes text t
text_bytes t is = (t ++ 0 ∷ [], record { characters = is; ended = refl })
