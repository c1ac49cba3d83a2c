-- What a receiver keeps after a call stands for what the call makes of the list.
use Rattle.std.proofs.Common.{◌≡◌, ℕ, ◌+◌, ◌-◌, ◌*◌, ◌/◌, ◌%◌, ◌^◌, ◌<◌, ◌≤◌, ◌≢◌, Bool, true, false, ◌||◌, ◌&&◌, not, cond, eqb, leb, ltb, List, refl, sym, ◌∙◌, ap, subst, inl, inr, arith, w32, eq-eqb, ne_eqb, le-leb, lt-ltb, le-ltb, leb-true, ltb-true, shr-shr, pow_mono}
use Rattle.std.specs.Prelude.{Some, None, bit_or, slice_index}
use Rattle.std.proofs.lemmas.Nat.{or_lt}
use Rattle.std.specs.Int.{bit_at, to_le_bytes}
use Rattle.std.proofs.lemmas.Bool.{or_cases, or_left, or_right, cases_eq, cases_lt, lt-leb, and_parts, and_from, not_from_false, cond-true, cond-false, false_from_ne_true}
use Rattle.std.proofs.lemmas.Nat.Bits.{bit_at_set_same, bit_at_set_other, bit_at_cat_low}
use Rattle.dasp_msg.specs.declared.receiver.Taken.TheVariants.{New, Repeat, Outside}
use Rattle.dasp_msg.specs.Acks.{digit, bit_of_bytes, SaysMore}
use Rattle.dasp_msg.specs.Numbers.{wire_number, distance, index_of}
use Rattle.dasp_msg.specs.Receiving.{GapBits, ReceivesLike}
use Rattle.dasp_msg.specs.TakenIndexes.{is_taken, first_gap, is_new, with_index, answer_at, taken_as, IsTakenList}
use Rattle.dasp_msg.proofs.TakenLemmas.{NewIndex, is_taken-with_index, IsTakenList-with_index, first_gap_is, gap_from-below}

pub digit-one : (bit : Bool) → digit bit ≡ 1 → bit ≡ true
digit-one true one = refl
digit-one false one = absurd (cc)

pub digit-zero : (bit : Bool) → digit bit ≡ 0 → bit ≡ false
digit-zero true none = absurd (cc)
digit-zero false none = refl

-- a new index sets its bit and no other
set_bit : (kept : GapBits) (taken : List ℕ) (ahead : ℕ) → ReceivesLike kept taken → ahead < 31
    → (place : ℕ) → bit_at (bit_or kept.bits (1 * 2 ^ ahead % 2 ^ 32)) place ≡ digit (is_taken (with_index (first_gap taken + ahead) taken) (first_gap taken + place))
set_bit kept taken ahead like lt place =
    let gap : ℕ = first_gap taken in
    let also : is_taken (with_index (gap + ahead) taken) (gap + place) ≡ (eqb (gap + ahead) (gap + place) || is_taken taken (gap + place)) = is_taken-with_index (gap + ahead) taken (gap + place) in
    elim (cases_eq ahead place) [
      | inl same ↦
          let is : (eqb (gap + ahead) (gap + place) || is_taken taken (gap + place)) ≡ true = or_left (eqb (gap + ahead) (gap + place)) (is_taken taken (gap + place)) (eq-eqb (gap + ahead) (gap + place) (ap (λ (n : ℕ). gap + n) same)) in
          subst (λ (n : ℕ). bit_at (bit_or kept.bits (1 * 2 ^ ahead % 2 ^ 32)) n ≡ 1) same (bit_at_set_same w32 kept.bits ahead (omega arith))
          ∙ ap digit (sym (also ∙ is))
      | inr other ↦
          let not' : eqb (gap + ahead) (gap + place) ≡ false = ne_eqb (gap + ahead) (gap + place) (λ e. other (omega arith)) in
          bit_at_set_other w32 kept.bits ahead (omega arith) place (λ e. other (sym e))
          ∙ like.bits place ∙ ap digit (sym (also ∙ ap (λ (b : Bool). b || is_taken taken (gap + place)) not'))
    ]

-- the gap moves over the run of set bits
pub ReceivesLike-new : (kept : GapBits) (taken : List ℕ) (ahead run : ℕ) (far : Bool) → ReceivesLike kept taken → ahead < 31 → is_taken taken (first_gap taken + ahead) ≡ false
    → run < 32 → bit_at (bit_or kept.bits (1 * 2 ^ ahead % 2 ^ 32)) run ≡ 0 → ((place : ℕ) → place < run → bit_at (bit_or kept.bits (1 * 2 ^ ahead % 2 ^ 32)) place ≡ 1)
    → far ≡ (kept.far || leb 32768 ((kept.gap + run) % 65536))
    → ReceivesLike (record { gap = (kept.gap + run) % 65536; bits = bit_or kept.bits (1 * 2 ^ ahead % 2 ^ 32) / 2 ^ run; far = far }) (with_index (first_gap taken + ahead) taken)
ReceivesLike-new kept taken ahead run far like lt fresh short stop ones come =
    let gap : ℕ = first_gap taken in
    let bits : ℕ = bit_or kept.bits (1 * 2 ^ ahead % 2 ^ 32) in
    let after : List ℕ = with_index (gap + ahead) taken in
    let set : (place : ℕ) → bit_at bits place ≡ digit (is_taken after (gap + place)) = set_bit kept taken ahead like lt in
    let new : NewIndex taken (gap + ahead) = record { least = omega arith; most = omega arith; fresh = fresh } in
    let list : IsTakenList after = IsTakenList-with_index taken (gap + ahead) like.list new in
    let below : (index : ℕ) → index < gap + run → is_taken after index ≡ true = λ index under.
    elim (cases_lt index gap) [
      | inl low ↦ is_taken-with_index (gap + ahead) taken index ∙ or_right (eqb (gap + ahead) index) (is_taken taken index) (gap_from-below 0 taken index (omega arith) low)
      | inr high ↦
          let at : gap + (index - gap) ≡ index = omega arith in
          subst (λ (n : ℕ). is_taken after n ≡ true) at (digit-one (is_taken after (gap + (index - gap))) (sym (set (index - gap)) ∙ ones (index - gap) (omega arith)))
    ] in
    let moved : first_gap after ≡ gap + run = first_gap_is after (gap + run) list.ascends below (digit-zero (is_taken after (gap + run)) (sym (set run) ∙ stop)) in
    let number : kept.gap ≡ wire_number gap = like.gap in
    record {
      list = list;
      gap = rw moved (omega arith);
      bits = λ place. shr-bit bits run place ∙ set (run + place) ∙ ap (λ (n : ℕ). digit (is_taken after n)) (let e : gap + (run + place) ≡ first_gap after + place = omega arith in e);
      far = come ∙ ap (λ (b : Bool). b || leb 32768 ((kept.gap + run) % 65536)) like.far ∙ far-moved gap kept.gap run number short ∙ ap (leb 32768) (sym moved);
    }
  where
    shr-bit : (bits run place : ℕ) → bit_at (bits / 2 ^ run) place ≡ bit_at bits (run + place)
    shr-bit bits run place = ap (λ (n : ℕ). n % 2) (shr-shr bits run place)

    far-moved : (gap number run : ℕ) → number ≡ wire_number gap → run < 32 → (leb 32768 gap || leb 32768 ((number + run) % 65536)) ≡ leb 32768 (gap + run)
    far-moved gap number run is short = elim (cases_lt gap 32768) [
      | inl near ↦ let same : (number + run) % 65536 ≡ gap + run = omega arith in ap (λ (b : Bool). b || leb 32768 ((number + run) % 65536)) (lt-leb 32768 gap near) ∙ ap (leb 32768) same
      | inr far ↦ or_left (leb 32768 gap) (leb 32768 ((number + run) % 65536)) (le-leb 32768 gap far) ∙ sym (le-leb 32768 (gap + run) (omega arith))
    ]

-- an index that lies ahead and was not taken is new
pub is_new-ahead : (taken : List ℕ) (ahead : ℕ) → ahead < 31 → is_taken taken (first_gap taken + ahead) ≡ false → is_new taken (first_gap taken + ahead) ≡ true
is_new-ahead taken ahead lt fresh =
    let gap : ℕ = first_gap taken in
    and_from (leb gap (gap + ahead) && ltb (gap + ahead) (gap + 31)) (not (is_taken taken (gap + ahead)))
    (and_from (leb gap (gap + ahead)) (ltb (gap + ahead) (gap + 31)) (le-leb gap (gap + ahead) (omega arith)) (lt-ltb (gap + ahead) (gap + 31) (omega arith)))
    (not_from_false (is_taken taken (gap + ahead)) fresh)

-- the bit says whether it was
pub bit-ahead : (kept : GapBits) (taken : List ℕ) (ahead : ℕ) → ReceivesLike kept taken → bit_at kept.bits ahead ≢ 1 → is_taken taken (first_gap taken + ahead) ≡ false
bit-ahead kept taken ahead like other = false_from_ne_true (is_taken taken (first_gap taken + ahead)) (λ is. other (like.bits ahead ∙ ap digit is))

-- bits below 31 leave the last one unset, so the run ends
pub run_ends : (bits ahead : ℕ) → bits < 2 ^ 31 → ahead < 31 → bit_or bits (1 * 2 ^ ahead % 2 ^ 32) < 2 ^ 31
run_ends bits ahead small lt =
    let power : 2 ^ ahead ≤ 2 ^ 30 = pow_mono {i = ahead} {j = 30} (omega arith) in
    or_lt 31 bits (1 * 2 ^ ahead % 2 ^ 32) small (let e : 1 * 2 ^ ahead % 2 ^ 32 < 2 ^ 31 = omega arith in e)

-- an index below the gap, and what a number behind it stands for
pub repeat_below : (kept : GapBits) (taken : List ℕ) (number : ℕ) → ReceivesLike kept taken → number < 65536 → (leb 32768 (distance kept.gap number) && (kept.far || ltb number kept.gap)) ≡ true
    → Repeat ≡ taken_as taken number
repeat_below kept taken number like fits behind =
    let gap : ℕ = first_gap taken in
    let at : kept.gap ≡ wire_number gap = like.gap in
    let same : distance gap number ≡ distance kept.gap number = omega arith in
    let parts = and_parts (leb 32768 (distance kept.gap number)) (kept.far || ltb number kept.gap) behind in
    let half : 32768 ≤ distance kept.gap number = leb-true 32768 (distance kept.gap number) parts.0 in
    let whole : 65536 ≤ gap + distance gap number = elim (or_cases kept.far (ltb number kept.gap) parts.1) [
      | inl far ↦ let reached : 32768 ≤ gap = leb-true 32768 gap (sym like.far ∙ far) in omega arith
      | inr low ↦ let under : number < kept.gap = ltb-true number kept.gap low in omega arith
    ] in
    let index : ℕ = gap + distance gap number - 65536 in
    let stands : index_of gap number ≡ Some index =
    cond-false (ltb (distance gap number) 32768) (Some (gap + distance gap number)) (cond (leb 65536 (gap + distance gap number)) (Some index) None) (le-ltb (distance gap number) 32768 (omega arith))
    ∙ cond-true (leb 65536 (gap + distance gap number)) (Some index) None (le-leb 65536 (gap + distance gap number) whole) in
    let is : is_taken taken index ≡ true = gap_from-below 0 taken index (omega arith) (let e : index < gap = omega arith in e) in
    sym (ap (answer_at taken) stands ∙ cond-true (is_taken taken index) Repeat (cond (is_new taken index) New Outside) is)

-- the bytes of a number have its bits, lowest first
byte_bit : (number place : ℕ) → place < 8 → bit_at (number % 256) place ≡ bit_at number place
byte_bit number place lt =
    let whole : number / 256 * 2 ^ 8 + number % 256 ≡ number = omega arith in
    sym (ap (λ (n : ℕ). bit_at n place) (sym whole) ∙ bit_at_cat_low (number / 256) 8 (number % 256) place lt)

high_bit : (number low place : ℕ) → place < 8 → bit_at (number / 2 ^ low % 256) place ≡ bit_at number (low + place)
high_bit number low place lt = byte_bit (number / 2 ^ low) place lt ∙ ap (λ (n : ℕ). n % 2) (shr-shr number low place)

pub bytes_bit : (number place : ℕ) → place < 32 → bit_of_bytes (to_le_bytes w32 number) place ≡ bit_at number place
bytes_bit number place lt =
    let family : ℕ → ℕ → Type 0 = λ byte bit. bit_at (slice_index (to_le_bytes w32 number) byte) bit ≡ bit_at number place in
    let at : (byte bit : ℕ) → place / 8 ≡ byte → place % 8 ≡ bit → family byte bit → family (place / 8) (place % 8) =
    λ byte bit e f h. subst (λ (n : ℕ). family n (place % 8)) (sym e) (subst (λ (n : ℕ). family byte n) (sym f) h) in
    elim (cases_lt place 8) [
      | inl a ↦ at 0 place (omega arith) (omega arith) (byte_bit number place a)
      | inr b ↦ elim (cases_lt place 16) [
        | inl a ↦ at 1 (place - 8) (omega arith) (omega arith) (high_bit number 8 (place - 8) (omega arith) ∙ ap (bit_at number) (let e : 8 + (place - 8) ≡ place = omega arith in e))
        | inr b ↦ elim (cases_lt place 24) [
          | inl a ↦ at 2 (place - 16) (omega arith) (omega arith) (high_bit number 16 (place - 16) (omega arith) ∙ ap (bit_at number) (let e : 16 + (place - 16) ≡ place = omega arith in e))
          | inr b ↦ at 3 (place - 24) (omega arith) (omega arith) (high_bit number 24 (place - 24) (omega arith) ∙ ap (bit_at number) (let e : 24 + (place - 24) ≡ place = omega arith in e))
        ]
      ]
    ]

pub SaysMore-bytes : (kept : GapBits) (taken : List ℕ) → ReceivesLike kept taken → SaysMore taken (to_le_bytes w32 kept.bits)
SaysMore-bytes kept taken like = record {
  four = refl;
  bits = λ place lt. bytes_bit kept.bits place lt ∙ like.bits place;
}
