-- What a store that is made leaves.
use Rattle.std.proofs.Common.{◌≡◌, inl, inr, ◌+◌, ◌*◌, ◌-◌, ◌/◌, ◌<◌, ◌≤◌, min, ℕ, List, [], ◌∷◌, length, take, get_or, get_or-take, replicate, refl, sym, ◌∙◌, ap, subst, arith, Result, Ok, Err, OnOk}
use Rattle.std.proofs.lemmas.Bool.{cases_lt}
use Rattle.std.proofs.lemmas.List.{get_or_past, get_or-replicate, length-take-le, length-replicate}
use Rattle.sed_value.specs.declared.limits.TheConstants.{LARGEST_SLOT}
use Rattle.disk_model.specs.Disk.{Image, Meaning, Elapses, During, Torn, IsTorn, Holds, Keeps}
use Rattle.app_save.specs.Store.{IsOpen, length_at, Opens}
use Rattle.app_save.specs.Saving.{AllOpen}
use Rattle.app_save.proofs.Newest.{stands_opens}
use Rattle.app_save.specs.Stages.{Saved, IsSaved, Lands}
use Rattle.app_save.specs.Making.{IsBlank}
use Rattle.app_save.proofs.Bytes.{held_part}
use Rattle.app_save.proofs.Moments.{at_end}

-- zeros, one piece further
pub blank_further : (len q : ℕ) (bytes : List ℕ) (d c : Image) → 512 * q < len → length bytes ≡ min (len - 512 * q) 512 → ((i : ℕ) → get_or bytes i 0 ≡ 0) → IsBlank (min (512 * q) len) d → Torn (512 * q) (length bytes) d c → Holds (512 * q) bytes c → IsBlank (min (512 * (q + 1)) len) c
blank_further len q bytes d c below size zero blank torn holds = record {
  size = let a = blank.size in let b = torn.no_shorter in let e = torn.no_longer in let r = holds.room in grind (arith, a, b, e, r, size, below);
  zeros = λ i. elim (cases_lt i (512 * q)) [
    | inl before ↦ torn.same i (inl before) (let e = blank.size in grind (arith, e, before, below)) ∙ blank.zeros i
    | inr from ↦ elim (cases_lt i (512 * q + length bytes)) [
      | inl inside ↦ ap (λ (k : ℕ). get_or c k 0) (let e : i ≡ 512 * q + (i - 512 * q) = omega (arith, from) in e) ∙ holds.bytes_are (i - 512 * q) (omega (arith, inside, from)) ∙ zero (i - 512 * q)
      | inr behind ↦ get_or_past c i 0 (let a = blank.size in let b = torn.no_longer in grind (arith, a, b, behind, below))
    ]
  ];
}

pub blank_none : (len : ℕ) (c : Image) → length c ≡ 0 → IsBlank (min (512 * 0) len) c
blank_none len c empty = record { size = grind (arith, empty); zeros = λ i. get_or_past c i 0 (omega (arith, empty)) }

pub blank_all : (len q : ℕ) (c : Image) → (len + 511) / 512 ≤ q → IsBlank (min (512 * q) len) c → IsBlank len c
blank_all len q c le blank = subst (λ (n : ℕ). IsBlank n c) (let e : len ≤ 512 * q = omega (arith, le) in let m : min (512 * q) len ≡ len = grind (arith, e) in m) blank

pub zero_bytes : (k i : ℕ) → get_or {A = ℕ} (take k (replicate 512 0)) i 0 ≡ 0
zero_bytes k i = elim (cases_lt i (length {A = ℕ} (take k (replicate 512 0)))) [
  | inl inside ↦
      let most = Rattle.std.proofs.lemmas.List.length-take k (replicate {A = ℕ} 512 0) in
      let whole = length-replicate {A = ℕ} 512 0 in
      let low : i < k = grind (arith, inside, most, whole) in
      let within : i < 512 = grind (arith, inside, most, whole) in
      get_or-take k (replicate 512 0) i 0 low ∙ get_or-replicate 512 i 0 0 within
  | inr past ↦ get_or_past (take k (replicate 512 0)) i 0 past
]

-- no write passes the end
pub none_longer : (len at : ℕ) (bytes : List ℕ) (a m n : Meaning) → at + length bytes ≤ len → Elapses a m → During a m (λ c. length c ≤ len) → During m n (IsTorn at (length bytes) m) → During m n (λ c. length c ≤ len)
none_longer len at bytes a m n room time so_far writes u c from to left =
    let was = writes u c from to left in
    let short = at_end a m (λ i. length i ≤ len) time so_far was.0 was.1 in
    let long = was.2.no_longer in
    grind (arith, short, long, room)

-- from zeros to a store whose first slot is open
pub made : (S : ℕ) (header payload : List ℕ) (z b c d : Image) → IsBlank (2 * (S + 6)) z → length header ≡ 5 → length payload ≤ S → Torn 1 (length header) z b → Holds 1 header b → Torn 6 (length payload) b c → Holds 6 payload c → Torn 0 1 c d → Holds 0 (0xa5 ∷ []) d
    → 16777216 * get_or header 0 0 + 65536 * get_or header 1 0 + 256 * get_or header 2 0 + get_or header 3 0 ≡ length payload → get_or header 4 0 ≡ 0 → Saved S (S + 6) 0 payload d
made S header payload z b c d blank five fits torn_b holds_b torn_c holds_c torn_d holds_d len generation = record {
  stands = record {
    size = size_d;
    newest = record { is_open = holds_d.bytes_are 0 (omega arith); next = λ is_open. absurd (shut is_open) };
    sound = record { generation = let g = byte 5 (omega arith) (omega arith) in omega (arith, g, generation); length = omega (arith, length_d, fits) };
    sound_other = λ is_open. absurd (shut is_open);
  };
  payload_is = held_part d 6 (length_at d 0) payload length_d (omega (arith, length_d, size_d, fits))
      (λ i small. torn_d.same (6 + i) (inr (omega arith)) (omega (arith, small, fits, size_c)) ∙ holds_c.bytes_are i small);
}
  where
    size_b : length b ≡ 2 * (S + 6)
    size_b = let e = blank.size in let x = torn_b.no_shorter in let y = torn_b.no_longer in grind (arith, e, x, y, five)

    size_c : length c ≡ 2 * (S + 6)
    size_c = let x = torn_c.no_shorter in let y = torn_c.no_longer in grind (arith, size_b, x, y, fits)

    size_d : length d ≡ 2 * (S + 6)
    size_d = let x = torn_d.no_shorter in let y = torn_d.no_longer in grind (arith, size_c, x, y)

    byte : (i : ℕ) → 1 ≤ i → i < 6 → get_or d i 0 ≡ get_or header (i - 1) 0
    byte i low high = torn_d.same i (inr (omega (arith, low))) (omega (arith, high, size_c)) ∙ torn_c.same i (inl high) (omega (arith, high, size_b))
        ∙ ap (λ (k : ℕ). get_or b k 0) (let e : i ≡ 1 + (i - 1) = omega (arith, low) in e) ∙ holds_b.bytes_are (i - 1) (omega (arith, low, high, five))

    length_d : length_at d 0 ≡ length payload
    length_d = let b1 = byte 1 (omega arith) (omega arith) in let b2 = byte 2 (omega arith) (omega arith) in let b3 = byte 3 (omega arith) (omega arith) in let b4 = byte 4 (omega arith) (omega arith) in omega (arith, b1, b2, b3, b4, len)

    shut : IsOpen d (S + 6) → ⊥
    shut is_open =
        let zero = blank.zeros (S + 6) in
        let size_z = blank.size in
        let there : get_or d (S + 6) 0 ≡ get_or z (S + 6) 0 = torn_d.same (S + 6) (inr (omega arith)) (omega (arith, size_c)) ∙ torn_c.same (S + 6) (inr (omega (arith, fits))) (omega (arith, size_b)) ∙ torn_b.same (S + 6) (inr (omega (arith, five))) (omega (arith, size_z)) in
        omega (arith, there, zero, is_open)

pub made_done : {T E : Type 0} (r : Result T E) (S : ℕ) (header payload : List ℕ) (z b c d : Meaning) → IsBlank (2 * (S + 6)) z.content → length header ≡ 5 → length payload ≤ S → Torn 1 (length header) z.content b.content → Holds 1 header b.content → Torn 6 (length payload) b.content c.content → Holds 6 payload c.content
    → Lands 0 (0xa5 ∷ []) r c d → 16777216 * get_or header 0 0 + 65536 * get_or header 1 0 + 256 * get_or header 2 0 + get_or header 3 0 ≡ length payload → get_or header 4 0 ≡ 0 → OnOk r (IsSaved S (S + 6) 0 payload d)
made_done (Ok x) S header payload z b c d blank five fits torn_b holds_b torn_c holds_c lands len generation = record { rests = lands.rests; saved = made S header payload z.content b.content c.content d.content blank five fits torn_b holds_b torn_c holds_c lands.torn lands.holds len generation }
made_done (Err e) S header payload z b c d blank five fits torn_b holds_b torn_c holds_c lands len generation = tt

-- a piece of 512 zeros, cut at the end
pub piece_length : (len q k : ℕ) → k ≡ min (len - 512 * q) 512 → length {A = ℕ} (take k (replicate 512 0)) ≡ k
piece_length len q k is = let whole = length-replicate {A = ℕ} 512 0 in length-take-le k (replicate 512 0) (grind (arith, is, whole))

pub piece_fits : (len q k : ℕ) → 512 * q < len → k ≡ min (len - 512 * q) 512 → 512 * q + length {A = ℕ} (take k (replicate 512 0)) ≤ len
piece_fits len q k below is = let long = piece_length len q k is in grind (arith, long, is, below)

-- and then every crash opens to the payload
pub made_opens : (S : ℕ) (payload : List ℕ) (b c : Meaning) → S ≤ LARGEST_SLOT → IsSaved S (S + 6) 0 payload b → Elapses b c → Keeps b c → AllOpen S payload c
made_opens S payload b c small is time keeps i left =
    let same = is.rests i (keeps.during c.now i time.later (omega arith) left) in
    subst (λ (d : Image). Opens S d payload) (sym same) (stands_opens S b.content 0 (S + 6) payload small (inl (refl, refl)) is.saved.stands is.saved.payload_is)
