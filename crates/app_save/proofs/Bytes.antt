-- Parts of files that are the same.
use Rattle.std.proofs.Common.{◌≡◌, ◌+◌, ◌<◌, ◌≤◌, ℕ, List, length, take, drop, get_or, sym, ◌∙◌, ap, arith, length-drop, get_or-take, get_or-drop}
use Rattle.std.proofs.lemmas.List.{ext_get_or, length-take-le, length-take}
use Rattle.disk_model.specs.Disk.{Image, Holds}
use Rattle.app_save.specs.Store.{length_at, generation_at, payload_at}

-- the bytes from here to there
abbrev pub SameBytes : ℕ → ℕ → Image → Image → Type 0
SameBytes from to d c = (i : ℕ) → from ≤ i → i < to → get_or c i 0 ≡ get_or d i 0

part_at : (c : Image) (m n i : ℕ) → i < n → get_or (take n (drop m c)) i 0 ≡ get_or c (m + i) 0
part_at c m n i small = get_or-take n (drop m c) i 0 small ∙ get_or-drop m c i 0

part_size : (c : Image) (m n : ℕ) → m + n ≤ length c → length (take n (drop m c)) ≡ n
part_size c m n room = let whole = length-drop m c in length-take-le n (drop m c) (omega (arith, room, whole))

pub same_part : (d c : Image) (m n : ℕ) → m + n ≤ length d → m + n ≤ length c → SameBytes m (m + n) d c → take n (drop m c) ≡ take n (drop m d)
same_part d c m n room_d room_c same = ext_get_or 0 (take n (drop m c)) (take n (drop m d)) (part_size c m n room_c ∙ sym (part_size d m n room_d))
    (λ i small. let low : i < n = let size = part_size c m n room_c in omega (arith, small, size) in
    part_at c m n i low ∙ same (m + i) (omega arith) (omega (arith, low)) ∙ sym (part_at d m n i low))

-- bytes that a file holds are its part there
pub held_part : (c : Image) (m n : ℕ) (bytes : List ℕ) → n ≡ length bytes → m + n ≤ length c → ((i : ℕ) → i < length bytes → get_or c (m + i) 0 ≡ get_or bytes i 0) → take n (drop m c) ≡ bytes
held_part c m n bytes long room same = ext_get_or 0 (take n (drop m c)) bytes (part_size c m n room ∙ long)
    (λ i small. let low : i < n = let size = part_size c m n room in omega (arith, small, size) in part_at c m n i low ∙ same i (omega (arith, low, long)))

-- and the other way
pub part_held : (c : Image) (m n : ℕ) (bytes : List ℕ) → n ≡ length bytes → m + n ≤ length c → take n (drop m c) ≡ bytes → Holds m bytes c
part_held c m n bytes long room is = record {
  room = omega (arith, room, long);
  bytes_are = λ i small. sym (part_at c m n i (omega (arith, small, long))) ∙ ap (λ (l : List ℕ). get_or l i 0) is;
}

-- a byte of a payload stands in the file
pub payload_byte : (c : Image) (slot : ℕ) (payload : List ℕ) → payload_at c slot ≡ payload → (i : ℕ) → i < length payload → get_or c (slot + 6 + i) 0 ≡ get_or payload i 0
payload_byte c slot payload is i small =
    let size = ap length is in
    let most = length-take (length_at c slot) (drop (slot + 6) c) in
    let low : i < length_at c slot = grind (arith, size, most, small) in
    sym (part_at c (slot + 6) (length_at c slot) i low) ∙ ap (λ (l : List ℕ). get_or l i 0) is

pub same_length : (d c : Image) (slot : ℕ) → SameBytes (slot + 1) (slot + 6) d c → length_at c slot ≡ length_at d slot
same_length d c slot same = omega (arith, same (slot + 1) (omega arith) (omega arith), same (slot + 2) (omega arith) (omega arith), same (slot + 3) (omega arith) (omega arith), same (slot + 4) (omega arith) (omega arith))

pub same_generation : (d c : Image) (slot : ℕ) → SameBytes (slot + 1) (slot + 6) d c → generation_at c slot ≡ generation_at d slot
same_generation d c slot same = same (slot + 5) (omega arith) (omega arith)

pub same_payload : (d c : Image) (S slot : ℕ) → slot + S + 6 ≤ length d → slot + S + 6 ≤ length c → SameBytes (slot + 1) (slot + S + 6) d c → length_at d slot ≤ S → payload_at c slot ≡ payload_at d slot
same_payload d c S slot room_d room_c same fits =
    ap (λ (n : ℕ). take n (drop (slot + 6) c)) (same_length d c slot (λ i from to. same i from (omega (arith, to))))
    ∙ same_part d c (slot + 6) (length_at d slot) (omega (arith, room_d, fits)) (omega (arith, room_c, fits)) (λ i from to. same i (omega (arith, from)) (omega (arith, to, fits)))
