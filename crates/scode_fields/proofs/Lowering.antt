-- Rows that are lowered.
use Rattle.std.proofs.Common.{◌≡◌, ℕ, zero, suc, ◌+◌, ◌-◌, ◌*◌, ◌^◌, ◌<◌, ◌≤◌, ◌==◌, ◌&&◌, ◌||◌, not, nat_le, if◌then◌else◌, Bool, true, false, List, [], ◌∷◌, length, get_or, take, drop, refl, ap, sym, ◌∙◌, subst, arith, ◌⊎◌, inl, inr, min, length-drop}
use Rattle.std.specs.List.{list_all, range_with_len}
use Rattle.std.proofs.Math.ListN.{length-set, replicate}
use Rattle.std.proofs.Math.Bool.{and-false, and-true}
use Rattle.std.proofs.lemmas.Bool.{cases_lt, eq-eqb, le-leb, lt-leb, ne_eqb}
use Rattle.std.proofs.lemmas.List.{drop_all, drop_more, get_or-drop, get_or_past}
use Rattle.std.proofs.lemmas.List.Folds.{list_all_more}
use Rattle.sed_value.specs.SlotType.{width_of}
use Rattle.sed_wire.specs.Number.{number_of}
use Rattle.scode_image.specs.declared.image.Image.{Image}
use Rattle.scode_image.specs.declared.image.ImageField.{ImageField}
use Rattle.scode_code.specs.Contents.{bytes_at}
use Rattle.scode_code.specs.Tables.{primitive_of}
use Rattle.scode_code.specs.TableRules.{array_fits, buf_fits, field_fits, field_width, object_fits, primitive_fits, str_fits}
use Rattle.scode_fields.specs.Words.{bools_fit, object_width}
use Rattle.scode_fields.proofs.Arrays.{array_of_bools}
use Rattle.scode_fields.specs.Rows.{HasRow, IsLaid, Lowers, Spans, Tells, below, field_test, fields_test, lowered, row_at}

-- ---- truths

grouped : (a b c : Bool) → ((a && b) && c) ≡ (a && (b && c))
grouped true b c = refl
grouped false b c = refl

late : (a b c : Bool) → ((a && b) && c) ≡ ((a && c) && b)
late true true c = sym (and-true c)
late true false c = sym (and-false c)
late false b c = refl

under_min : (r m b : ℕ) → nat_le b (min r m) ≡ (nat_le b r && nat_le b m)
under_min r m b =
    let h : ((r < b) ⊎ (b ≤ r)) = cases_lt r b in
    let k : ((m < b) ⊎ (b ≤ m)) = cases_lt m b in
    elim h [
      | inl above ↦ lt-leb b (min r m) (omega arith) ∙ sym (ap (λ (t : Bool). t && nat_le b m) (lt-leb b r above))
      | inr under ↦ elim k [
        | inl above ↦ lt-leb b (min r m) (omega arith)
            ∙ sym (ap (λ (t : Bool). t && nat_le b m) (le-leb b r under) ∙ lt-leb b m above)
        | inr also ↦ le-leb b (min r m) (omega arith)
            ∙ sym (ap (λ (t : Bool). t && nat_le b m) (le-leb b r under) ∙ le-leb b m also)
      ]
    ]

-- ---- one byte

pub below_lowered : (row bytes : List ℕ) (at most : ℕ) → at < length row → length row ≤ length bytes
    → below (lowered row at most) bytes ≡ (below row bytes && nat_le (get_or bytes at 0) most)
below_lowered [] bytes at most within long = absurd (omega arith)
below_lowered (r ∷ rs) [] at most within long = absurd (omega arith)
below_lowered (r ∷ rs) (b ∷ bs) zero most within long =
    ap (λ (t : Bool). t && below rs bs) (under_min r most b) ∙ late (nat_le b r) (nat_le b most) (below rs bs)
below_lowered (r ∷ rs) (b ∷ bs) (suc at) most within long =
    ap (λ (t : Bool). nat_le b r && t) (below_lowered rs bs at most (omega arith) (omega arith))
    ∙ sym (grouped (nat_le b r) (below rs bs) (nat_le (get_or bs at 0) most))

pub lowers_one : (row : List ℕ) (at most : ℕ) → at < length row
    → Lowers row (lowered row at most) (λ bytes. nat_le (get_or bytes at 0) most)
lowers_one row at most within = record {
  long = length-set row at (min (get_or row at 0) most);
  is = λ bytes spans. (let long = spans.long in below_lowered row bytes at most within long);
}

-- ---- one after another

pub lowers_none : (row : List ℕ) (test : List ℕ → Bool) → ((bytes : List ℕ) → test bytes ≡ true) → Lowers row row test
lowers_none row test none = record {
  long = refl;
  is = λ bytes spans. sym (ap (λ (t : Bool). below row bytes && t) (none bytes) ∙ and-true (below row bytes));
}

pub lowers_so : (a b : List ℕ) (s t : List ℕ → Bool) → ((bytes : List ℕ) → Spans (length a) bytes → s bytes ≡ t bytes)
    → Lowers a b s → Lowers a b t
lowers_so a b s t same low = record {
  long = low.long;
  is = λ bytes spans. low.is bytes spans ∙ ap (λ (x : Bool). below a bytes && x) (same bytes spans);
}

pub lowers_then : (a b c : List ℕ) (s t : List ℕ → Bool) → Lowers a b s → Lowers b c t
    → Lowers a c (λ bytes. s bytes && t bytes)
lowers_then a b c s t first second = record {
  long = second.long ∙ first.long;
  is = λ bytes spans. (
      let spans_then : Spans (length b) bytes = record {
        small = spans.small;
        long = (let l = spans.long in let same = first.long in omega arith);
      } in
      second.is bytes spans_then ∙ ap (λ (x : Bool). x && t bytes) (first.is bytes spans)
      ∙ grouped (below a bytes) (s bytes) (t bytes));
}

-- ---- a row behind an offset

-- the first so many limits
below_more : (row bytes : List ℕ) (i : ℕ) → i < length row → i < length bytes
    → below (take (i + 1) row) bytes ≡ (below (take i row) bytes && nat_le (get_or bytes i 0) (get_or row i 0))
below_more [] bytes i within long = absurd (omega arith)
below_more (r ∷ rs) [] i within long = absurd (omega arith)
below_more (r ∷ rs) (b ∷ bs) zero within long =
    let one : zero + 1 ≡ suc zero = omega arith in
    ap (λ (n : ℕ). below (take n (r ∷ rs)) (b ∷ bs)) one ∙ and-true (nat_le b r)
below_more (r ∷ rs) (b ∷ bs) (suc i) within long =
    let one : suc i + 1 ≡ suc (i + 1) = omega arith in
    ap (λ (n : ℕ). below (take n (r ∷ rs)) (b ∷ bs)) one
    ∙ ap (λ (t : Bool). nat_le b r && t) (below_more rs bs i (omega arith) (omega arith))
    ∙ sym (grouped (nat_le b r) (below (take i rs) bs) (nat_le (get_or bs i 0) (get_or rs i 0)))

pub lowers_first : (row mosts : List ℕ) (from : ℕ) → Lowers row row (λ bytes. below (take 0 mosts) (drop from bytes))
lowers_first row mosts from = lowers_none row (λ bytes. below (take 0 mosts) (drop from bytes)) (λ bytes. refl)

pub lowers_more : (a b c mosts : List ℕ) (from i : ℕ) → i < length mosts → from + length mosts ≤ length a
    → Lowers a b (λ bytes. below (take i mosts) (drop from bytes)) → c ≡ lowered b (from + i) (get_or mosts i 0)
    → Lowers a c (λ bytes. below (take (i + 1) mosts) (drop from bytes))
lowers_more a b c mosts from i within room low is =
    let long = low.long in
    let one = lowers_one b (from + i) (get_or mosts i 0) (omega arith) in
    let both = lowers_then a b c (λ bytes. below (take i mosts) (drop from bytes)) (λ bytes. nat_le (get_or bytes
    (from + i) 0) (get_or mosts i 0))
    low (subst (λ (row : List ℕ). Lowers b row (λ bytes. nat_le (get_or bytes (from + i) 0) (get_or mosts i 0)))
    (sym is) one) in
    lowers_so a c (λ bytes. below (take i mosts) (drop from bytes) && nat_le (get_or bytes (from + i) 0)
    (get_or mosts i 0))
    (λ bytes. below (take (i + 1) mosts) (drop from bytes))
    (λ bytes spans. (let l = spans.long in
    ap (λ (n : ℕ). below (take i mosts) (drop from bytes) && nat_le n (get_or mosts i 0)) (sym
    (get_or-drop from bytes i 0))
    ∙ sym (below_more mosts (drop from bytes) i within (omega (arith, length-drop from bytes))))) both

-- ---- the bytes that definitions read

pub byte_is : (bytes : List ℕ) (at : ℕ) → number_of (bytes_at bytes at 1) ≡ get_or bytes at 0
byte_is bytes at =
    let h : ((at < length bytes) ⊎ (length bytes ≤ at)) = cases_lt at (length bytes) in
    elim h [
      | inl here ↦ ap (λ (bs : List ℕ). number_of (take 1 bs)) (drop_more bytes at 0 here)
          ∙ (let w : get_or bytes at 0 * 256 ^ 0 + 0 ≡ get_or bytes at 0 = omega arith in w)
      | inr past ↦ ap (λ (bs : List ℕ). number_of (take 1 bs)) (drop_all at bytes past)
          ∙ sym (get_or_past bytes at 0 past)
    ]

pub two_bytes : (bytes : List ℕ) (at : ℕ) → at + 1 < length bytes
    → number_of (bytes_at bytes at 2) ≡ get_or bytes at 0 * 256 + get_or bytes (at + 1) 0
two_bytes bytes at within =
    ap (λ (bs : List ℕ). number_of (take 2 bs)) (drop_more bytes at 0 (omega arith)
    ∙ ap (λ (bs : List ℕ). get_or bytes at 0 ∷ bs) (drop_more bytes (at + 1) 0 within))
    ∙ (let w : get_or bytes at 0 * 256 ^ 1 + (get_or bytes (at + 1) 0 * 256 ^ 0 + 0) ≡ get_or bytes at 0 * 256 +
    get_or bytes (at + 1) 0 =
    omega arith in w)

-- ---- fields

pub primitive_lowers : (row new : List ℕ) (form offset : ℕ) → offset < length row → form ≡ 1
    → new ≡ lowered row offset 2
    → Lowers row new (λ bytes. primitive_fits form bytes offset)
primitive_lowers row new form offset within is low =
    subst (λ (n : List ℕ). Lowers row n (λ bytes. primitive_fits form bytes offset)) (sym low)
    (lowers_so row (lowered row offset 2) (λ bytes. nat_le (get_or bytes offset 0) 2)
    (λ bytes. primitive_fits form bytes offset)
    (λ bytes spans. sym (ap (λ (b : Bool). not b || nat_le (number_of (bytes_at bytes offset 1)) 2) (eq-eqb form 1 is)
    ∙ ap (λ (n : ℕ). nat_le n 2) (byte_is bytes offset)))
    (lowers_one row offset 2 within))

pub primitive_stays : (row : List ℕ) (form offset : ℕ) → (form ≡ 1 → ⊥)
    → Lowers row row (λ bytes. primitive_fits form bytes offset)
primitive_stays row form offset other =
    lowers_none row (λ bytes. primitive_fits form bytes offset)
    (λ bytes. ap (λ (b : Bool). not b || nat_le (number_of (bytes_at bytes offset 1)) 2) (ne_eqb form 1 other))

at_most_none : (n : ℕ) → nat_le n 0 ≡ (n == 0)
at_most_none zero = refl
at_most_none (suc n) = lt-leb (suc n) 0 (omega arith) ∙ sym (ne_eqb (suc n) 0 (λ e. omega arith))

pub str_lowers : (row new : List ℕ) (n offset : ℕ) → offset + (n - 1) < length row
    → new ≡ lowered row (offset + (n - 1)) 0
    → Lowers row new (λ bytes. str_fits n bytes offset)
str_lowers row new n offset within low =
    subst (λ (r : List ℕ). Lowers row r (λ bytes. str_fits n bytes offset)) (sym low)
    (lowers_so row (lowered row (offset + (n - 1)) 0) (λ bytes. nat_le (get_or bytes (offset + (n - 1)) 0) 0)
    (λ bytes. str_fits n bytes offset)
    (λ bytes spans. at_most_none (get_or bytes (offset + (n - 1)) 0)
    ∙ sym (ap (λ (m : ℕ). m == 0) (byte_is bytes (offset + (n - 1)))))
    (lowers_one row (offset + (n - 1)) 0 within))

two_under : (high low n : ℕ) → n ≤ 255 → (nat_le high 0 && nat_le low n) ≡ nat_le (high * 256 + low) n
two_under zero low n small = ap (λ (m : ℕ). nat_le m n) (let w : low ≡ zero * 256 + low = omega arith in w)
two_under (suc high) low n small =
    ap (λ (b : Bool). b && nat_le low n) (lt-leb (suc high) 0 (omega arith))
    ∙ sym (lt-leb (suc high * 256 + low) n (omega arith))

pub buf_lowers : (row mid new : List ℕ) (n offset : ℕ) → n ≤ 255 → offset + 1 < length row → mid ≡ lowered row offset 0
    → new ≡ lowered mid (offset + 1) n → Lowers row new (λ bytes. buf_fits n bytes offset)
buf_lowers row mid new n offset small within first second =
    let one : Lowers row mid (λ bytes. nat_le (get_or bytes offset 0) 0) =
    subst (λ (r : List ℕ). Lowers row r (λ bytes. nat_le (get_or bytes offset 0) 0)) (sym first)
    (lowers_one row offset 0 (omega arith)) in
    let long = one.long in
    let two : Lowers mid new (λ bytes. nat_le (get_or bytes (offset + 1) 0) n) =
    subst (λ (r : List ℕ). Lowers mid r (λ bytes. nat_le (get_or bytes (offset + 1) 0) n)) (sym second)
    (lowers_one mid (offset + 1) n (omega arith)) in
    lowers_so row new (λ bytes. nat_le (get_or bytes offset 0) 0 && nat_le (get_or bytes (offset + 1) 0) n)
    (λ bytes. buf_fits n bytes offset)
    (λ bytes spans. (let l = spans.long in
    two_under (get_or bytes offset 0) (get_or bytes (offset + 1) 0) n small
    ∙ sym (ap (λ (m : ℕ). nat_le m n) (two_bytes bytes offset (omega arith)))))
    (lowers_then row mid new (λ bytes. nat_le (get_or bytes offset 0) 0) (λ bytes. nat_le (get_or bytes
    (offset + 1) 0) n) one two)

-- ---- arrays of bools

-- each of a run is at most 2
run_under : (n a offset most : ℕ) (bytes : List ℕ) → offset + a + n ≤ length bytes
    → below (replicate n most) (drop (offset + a) bytes)
    ≡ list_all (λ (k : ℕ). nat_le (number_of (bytes_at bytes (offset + k) 1)) most) (range_with_len a n)
run_under zero a offset most bytes within = refl
run_under (suc n) a offset most bytes within =
    let next : offset + a + 1 ≡ offset + (a + 1) = omega arith in
    ap (λ (bs : List ℕ). below (replicate (suc n) most) bs) (drop_more bytes (offset + a) 0 (omega arith))
    ∙ ap (λ (m : ℕ). nat_le m most && below (replicate n most) (drop (offset + a + 1) bytes)) (sym (byte_is bytes
    (offset + a)))
    ∙ ap (λ (m : ℕ). nat_le (number_of (bytes_at bytes (offset + a) 1)) most && below (replicate n most)
    (drop m bytes)) next
    ∙ ap (λ (b : Bool). nat_le (number_of (bytes_at bytes (offset + a) 1)) most && b)
    (run_under n (a + 1) offset most bytes (omega arith))

pub array_lowers : (row new : List ℕ) (form n offset : ℕ) → offset + n ≤ length row → form ≡ 1
    → Lowers row new (λ bytes. below (replicate n 2) (drop offset bytes))
    → Lowers row new (λ bytes. array_fits form n bytes offset)
array_lowers row new form n offset within is low =
    lowers_so row new (λ bytes. below (replicate n 2) (drop offset bytes)) (λ bytes. array_fits form n bytes offset)
    (λ bytes spans. (let l = spans.long in
    let zeroth : offset ≡ offset + 0 = omega arith in
    ap (λ (m : ℕ). below (replicate n 2) (drop m bytes)) zeroth
    ∙ run_under n 0 offset 2 bytes (omega arith)
    ∙ sym (array_of_bools form n bytes offset ∙ ap (λ (b : Bool). not b || bools_fit n bytes offset)
    (eq-eqb form 1 is)))) low

pub array_stays : (row : List ℕ) (form n offset : ℕ) → (form ≡ 1 → ⊥)
    → Lowers row row (λ bytes. array_fits form n bytes offset)
array_stays row form n offset other =
    lowers_none row (λ bytes. array_fits form n bytes offset)
    (λ bytes. array_of_bools form n bytes offset ∙ ap (λ (b : Bool). not b || bools_fit n bytes offset)
    (ne_eqb form 1 other))

-- ---- a field by its form

pub field_primitive : (object : ℕ → List ℕ → Bool) (bytes : List ℕ) (f : ImageField) → f.form ≤ 5
    → field_fits object bytes f ≡ primitive_fits f.form bytes f.offset
field_primitive object bytes f low = rw (le-leb f.form 5 low) refl

pub field_behind : (object : ℕ → List ℕ → Bool) (bytes : List ℕ) (f : ImageField) → 5 < f.form
    → field_fits object bytes f
    ≡ (if f.form == 6 then str_fits f.n bytes f.offset
    else if f.form == 7 then buf_fits f.n bytes f.offset
    else if f.form == 8 then object f.n (drop f.offset bytes)
    else array_fits (f.form - 8) f.n bytes f.offset)
field_behind object bytes f high = rw (lt-leb f.form 5 high) refl

-- ---- a whole row

pub drop_spans : (size offset : ℕ) (bytes : List ℕ) → Spans size bytes → (least : ℕ) → offset + least ≤ size
    → Spans least (drop offset bytes)
drop_spans size offset bytes spans least within = record {
  small = λ k. subst (λ (n : ℕ). n ≤ 255) (sym (get_or-drop offset bytes k 0)) (spans.small (offset + k));
  long = (let l = spans.long in omega (arith, length-drop offset bytes));
}

all_below : (n : ℕ) (bytes : List ℕ) → ((k : ℕ) → get_or bytes k 0 ≤ 255) → below (replicate n 255) bytes ≡ true
all_below zero bytes small = refl
all_below (suc n) [] small = refl
all_below (suc n) (b ∷ bs) small =
    ap (λ (t : Bool). t && below (replicate n 255) bs) (le-leb b 255 (small 0)) ∙ all_below n bs (λ k. small (suc k))

pub tells_all : (size : ℕ) (old new : List ℕ) (test : List ℕ → Bool) → old ≡ replicate size 255 → Lowers old new test
    → Tells new test
tells_all size old new test highest low = record {
  is = λ bytes spans. (
      let long = low.long in
      let spans_old : Spans (length old) bytes = record {
        small = spans.small;
        long =
            (let l = spans.long in omega arith);
      } in
      low.is bytes spans_old
      ∙ ap (λ (t : Bool). t && test bytes) (ap (λ (row : List ℕ). below row bytes) highest
      ∙ all_below size bytes spans.small));
}

-- ---- an object

width_of_object : (image : Image) (f : ImageField) → f.form ≡ 8 → field_width image f ≡ object_width image f.n
width_of_object image f is = ap (λ (n : ℕ). if nat_le n 5 then width_of
    (primitive_of n) else if n == 6 then f.n else if n == 7 then f.n + 2
    else if n == 8 then object_width image f.n else f.n * width_of (primitive_of (n - 8))) is

test_of_object : (depth : ℕ) (image : Image) (f : ImageField) (bytes : List ℕ) → f.form ≡ 8
    → field_test depth image f bytes ≡ object_fits depth image f.n (drop f.offset bytes)
test_of_object depth image f bytes is = ap (λ (n : ℕ). if nat_le n 5 then primitive_fits n bytes f.offset
    else if n == 6 then str_fits f.n bytes f.offset else if n == 7 then buf_fits f.n bytes f.offset
    else if n == 8 then object_fits depth image f.n (drop f.offset bytes) else array_fits (n - 8) f.n bytes f.offset) is

pub object_lowers : (image : Image) (rows : List (List ℕ)) (places : List ℕ) (row new mosts : List ℕ)
    (f : ImageField) (offset depth : ℕ)
    → f.form ≡ 8 → HasRow image rows places f.n → IsLaid image (length row) f → length rows ≤ depth
    → mosts ≡ row_at rows places f.n → offset ≡ f.offset → Lowers row new (λ bytes. below mosts (drop offset bytes))
    → Lowers row new (field_test depth image f)
object_lowers image rows places row new mosts f offset depth is has laid deep same at low =
    lowers_so row new (λ bytes. below mosts (drop offset bytes)) (field_test depth image f)
    (λ bytes spans. (let within = laid.within in
    let long = has.long in
    let width = width_of_object image f is in
    ap (λ (n : ℕ). below mosts (drop n bytes)) at
    ∙ ap (λ (ms : List ℕ). below ms (drop f.offset bytes)) same
    ∙ (has.tells depth deep).is (drop f.offset bytes)
    (drop_spans (length row) f.offset bytes spans (length (row_at rows places f.n)) (omega arith))
    ∙ sym (test_of_object depth image f bytes is))) low

-- ---- fields one after another

pub fields_more : (image : Image) (fields : List ImageField) (a b c : List ℕ) (depth i : ℕ) (d : ImageField)
    → i < length fields
    → Lowers a b (fields_test depth image (take i fields)) → Lowers b c (field_test depth image (get_or fields i d))
    → Lowers a c (fields_test depth image (take (i + 1) fields))
fields_more image fields a b c depth i d within first second =
    lowers_so a c (λ bytes. fields_test depth image (take i fields) bytes && field_test depth image
    (get_or fields i d) bytes)
    (fields_test depth image (take (i + 1) fields))
    (λ bytes spans. sym (list_all_more (field_fits (object_fits depth image) bytes) fields i d within))
    (lowers_then a b c (fields_test depth image (take i fields)) (field_test depth image
    (get_or fields i d)) first second)
