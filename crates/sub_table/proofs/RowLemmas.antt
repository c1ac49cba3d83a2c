-- Rows of one width: what is read of them after a write.
use Rattle.std.proofs.Common.{ℕ, ◌≡◌, ◌≢◌, ◌<◌, ◌≤◌, ◌+◌, ◌-◌, ◌*◌, ◌⊎◌, inl, inr, List, [], ◌∷◌, ◌++◌, length, take, drop, Option, Some, None, refl, sym, ◌∙◌, ap, arith}
use Rattle.std.proofs.Math.ListN.{set, get_or, get_or-append}
use Rattle.std.proofs.lemmas.List.{append_assoc, length-take-le, length-append, length-drop, take-append-drop, take-append-le, drop-append-le, drop_at, drop-take, take-take}
use Rattle.std.proofs.lemmas.List.{get_or-set_other, get_or_past}
use Rattle.std.proofs.lemmas.Bool.{cases_eq, cases_lt, cases_order, cond-true, cond-false, eq-eqb, ne_eqb}
use Rattle.std.proofs.lemmas.Nat.{row_fits}
use Rattle.std.proofs.lemmas.Slice.{drop-append-drop}
use Rattle.std.specs.Option.{option_map}
use Rattle.std.specs.Prelude.{◌==◌, if◌then◌else◌}
use Rattle.sub_table.specs.Rows.{Texts, IsReserved, text_at}

-- bytes put over those from a place on
abbrev pub put_at : List ℕ → ℕ → List ℕ → List ℕ
put_at bytes start event = take start bytes ++ (event ++ drop (start + length event) bytes)

front : (bytes rest : List ℕ) (start s len : ℕ) → start ≤ length bytes → s + len ≤ start → take len (drop s (take start bytes ++ rest)) ≡ take len (drop s (take start bytes))
front bytes rest start s len fits le =
    let long : length (take start bytes) ≡ start = length-take-le start bytes fits in
    ap (take len) (drop-append-le s (take start bytes) rest (omega arith))
    ∙ take-append-le len (drop s (take start bytes)) rest (let d = length-drop s (take start bytes) in omega arith)

-- what stands elsewhere is as it was
pub read_elsewhere : (bytes event : List ℕ) (start s len : ℕ) → start + length event ≤ length bytes → (s + len ≤ start) ⊎ (start + length event ≤ s)
    → take len (drop s (put_at bytes start event)) ≡ take len (drop s bytes)
read_elsewhere bytes event start s len fits (inl before) =
    front bytes (event ++ drop (start + length event) bytes) start s len (omega arith) before
    ∙ sym (front bytes (drop start bytes) start s len (omega arith) before)
    ∙ ap (λ (b : List ℕ). take len (drop s b)) (take-append-drop start bytes)
read_elsewhere bytes event start s len fits (inr behind) =
    let long : length (take start bytes) ≡ start = length-take-le start bytes (omega arith) in
    ap (λ (b : List ℕ). take len (drop s b)) (sym (append_assoc (take start bytes) event (drop (start + length event) bytes)))
    ∙ ap (take len) (drop-append-drop (start + length event) bytes (take start bytes ++ event) s behind (length-append (take start bytes) event ∙ ap (λ (n : ℕ). n + length event) long))

-- what was put is read, and the front of it
pub read_here : (bytes event : List ℕ) (start len : ℕ) → start ≤ length bytes → len ≤ length event → take len (drop start (put_at bytes start event)) ≡ take len event
read_here bytes event start len fits short =
    ap (take len) (drop_at (take start bytes) (event ++ drop (start + length event) bytes) start (length-take-le start bytes fits))
    ∙ take-append-le len event (drop (start + length event) bytes) short

pub length-put_at : (bytes event : List ℕ) (start : ℕ) → start + length event ≤ length bytes → length (put_at bytes start event) ≡ length bytes
length-put_at bytes event start fits =
    let front_len = length-take-le start bytes (omega arith) in
    let back = length-drop (start + length event) bytes in
    let inner = length-append event (drop (start + length event) bytes) in
    let whole = length-append (take start bytes) (event ++ drop (start + length event) bytes) in
    omega arith

-- so many bytes from one place on put over those from another on
abbrev pub move_to : List ℕ → ℕ → ℕ → ℕ → List ℕ
move_to bytes start to len = take to bytes ++ (take len (drop start bytes) ++ drop (to + len) bytes)

pub move_to_is : (bytes : List ℕ) (start to len : ℕ) → length (take len (drop start bytes)) ≡ len → move_to bytes start to len ≡ put_at bytes to (take len (drop start bytes))
move_to_is bytes start to len long = ap (λ (n : ℕ). take to bytes ++ (take len (drop start bytes) ++ drop (to + n) bytes)) (sym long)

-- what stands before a cut
read_cut : (bytes : List ℕ) (s len n : ℕ) → s + len ≤ n → take len (drop s (take n bytes)) ≡ take len (drop s bytes)
read_cut bytes s len n le =
    let sum : n ≡ s + (n - s) = omega arith in
    ap (λ (k : ℕ). take len (drop s (take k bytes))) sum
    ∙ ap (take len) (drop-take s (n - s) bytes)
    ∙ take-take len (n - s) (drop s bytes) (omega arith)

-- what stands before something more
read_grown : (bytes more : List ℕ) (s len : ℕ) → s + len ≤ length bytes → take len (drop s (bytes ++ more)) ≡ take len (drop s bytes)
read_grown bytes more s len le =
    ap (take len) (drop-append-le s bytes more (omega arith))
    ∙ take-append-le len (drop s bytes) more (let d = length-drop s bytes in omega arith)

-- ---- fields of one width

each_text : (b c : List ℕ) (s r : ℕ) (o p : Option ℕ) → p ≡ o → ((len : ℕ) → p ≡ Some len → take len (drop s b) ≡ take len (drop r c))
    → option_map (λ (len : ℕ). take len (drop s b)) o ≡ option_map (λ (len : ℕ). take len (drop r c)) o
each_text b c s r None p is each = refl
each_text b c s r (Some len) p is each = ap Some (each len is)

-- rows of one length have one event where the bytes of their fields are the same
same_text : (t u : Texts) (row row' : ℕ) → get_or u.lengths row' None ≡ get_or t.lengths row None
    → ((len : ℕ) → get_or t.lengths row None ≡ Some len → take len (drop (row' * u.width) u.bytes) ≡ take len (drop (row * t.width) t.bytes))
    → text_at u row' ≡ text_at t row
unfolding text_at
same_text t u row row' same each =
    ap (option_map (λ (len : ℕ). take len (drop (row' * u.width) u.bytes))) same
    ∙ each_text u.bytes t.bytes (row' * u.width) (row * t.width) (get_or t.lengths row None) (get_or t.lengths row None) refl each

-- fields of other rows stand before or behind
apart : (a b w len short : ℕ) → a ≢ b → len ≤ w → short ≤ w → (a * w + len ≤ b * w) ⊎ (b * w + short ≤ a * w)
apart a b w len short ne le le' = elim (cases_order a b) [
  | inl same ↦ absurd (ne same)
  | inr (inl below) ↦ inl (let row = row_fits a w b w below (omega arith) in omega arith)
  | inr (inr above) ↦ inr (let row = row_fits b w a w above (omega arith) in omega arith)
]

module _ (t : Texts) (lengths_room bytes_room : ℕ) (reserved : IsReserved t lengths_room bytes_room) where
  pub field : (row : ℕ) → row < length t.lengths → row * t.width + t.width ≤ length t.bytes
  field row within = let fits = row_fits row t.width (length t.lengths) t.width within (omega arith) in let all = reserved.fields in omega arith

  -- one row more
  pub push_others : (more : List ℕ) (row : ℕ) → row < length t.lengths
      → text_at (record { lengths = t.lengths ++ None ∷ []; bytes = t.bytes ++ more; width = t.width }) row ≡ text_at t row
  push_others more row within =
      same_text t (record { lengths = t.lengths ++ None ∷ []; bytes = t.bytes ++ more; width = t.width }) row row
      (get_or-append t.lengths (None ∷ []) None row within)
      (λ len is. read_grown t.bytes more (row * t.width) len (let f = field row within in let short = reserved.within row len is in omega arith))

  -- an event in another row
  pub put_others : (row : ℕ) (event : List ℕ) → row < length t.lengths → length event ≤ t.width → (other : ℕ) → other ≢ row
      → text_at (record { lengths = set t.lengths row (Some (length event)); bytes = put_at t.bytes (row * t.width) event; width = t.width }) other ≡ text_at t other
  put_others row event within short other ne =
      same_text t (record { lengths = set t.lengths row (Some (length event)); bytes = put_at t.bytes (row * t.width) event; width = t.width }) other other
      (get_or-set_other t.lengths row other (Some (length event)) None ne)
      (λ len is. read_elsewhere t.bytes event (row * t.width) (other * t.width) len (let f = field row within in omega arith)
      (apart other row t.width len (length event) ne (reserved.within other len is) short))

  module _ (row end : ℕ) (lengths' : List (Option ℕ)) (within : row < length t.lengths) (end_is : end + t.width ≡ length t.bytes)
      (fewer : length lengths' + 1 ≡ length t.lengths)
      (here : row + 1 < length t.lengths → get_or lengths' row None ≡ get_or t.lengths (length t.lengths - 1) None)
      (elsewhere : (k : ℕ) → k ≢ row → k + 1 < length t.lengths → get_or lengths' k None ≡ get_or t.lengths k None) where
    abbrev pub after_remove : Texts
    after_remove = record { lengths = lengths'; bytes = take end (put_at t.bytes (row * t.width) (take t.width (drop end t.bytes))); width = t.width }

    last_row : end ≡ (length t.lengths - 1) * t.width
    last_row =
        let n : ℕ = length t.lengths - 1 in
        let one_more : length t.lengths ≡ n + 1 = omega arith in
        let product : length t.lengths * t.width ≡ n * t.width + t.width = ap (λ (k : ℕ). k * t.width) one_more ∙ grind arith in
        let all = reserved.fields in
        omega arith

    pub last_field : length (take t.width (drop end t.bytes)) ≡ t.width
    last_field = length-take-le t.width (drop end t.bytes) (let d = length-drop end t.bytes in omega arith)

    pub row_end : row * t.width + t.width ≤ length t.bytes
    row_end = field row within

    inner_end : (other : ℕ) → other + 1 < length t.lengths → other * t.width + t.width ≤ end
    inner_end other inner =
        let l = last_row in
        let below : other < length t.lengths - 1 = omega arith in
        let fits = row_fits other t.width (length t.lengths - 1) t.width below (omega arith) in
        omega arith

    moved_here : row + 1 < length t.lengths → text_at after_remove row ≡ text_at t (length t.lengths - 1)
    moved_here inner =
        same_text t after_remove (length t.lengths - 1) row (here inner)
        (λ len is.
        let short = reserved.within (length t.lengths - 1) len is in
        let f = inner_end row inner in
        let l = last_field in
        let e = row_end in
        read_cut (put_at t.bytes (row * t.width) (take t.width (drop end t.bytes))) (row * t.width) len end (omega arith)
        ∙ read_here t.bytes (take t.width (drop end t.bytes)) (row * t.width) len (omega arith) (omega arith)
        ∙ take-take len t.width (drop end t.bytes) short
        ∙ ap (λ (k : ℕ). take len (drop k t.bytes)) last_row)

    moved_other : (other : ℕ) → other ≢ row → other + 1 < length t.lengths → text_at after_remove other ≡ text_at t other
    moved_other other ne inner =
        same_text t after_remove other other (elsewhere other ne inner)
        (λ len is.
        let short = reserved.within other len is in
        let f = inner_end other inner in
        let l = last_field in
        let e = row_end in
        let small : length (take t.width (drop end t.bytes)) ≤ t.width = omega arith in
        read_cut (put_at t.bytes (row * t.width) (take t.width (drop end t.bytes))) (other * t.width) len end (omega arith)
        ∙ read_elsewhere t.bytes (take t.width (drop end t.bytes)) (row * t.width) (other * t.width) len (omega arith)
        (apart other row t.width len (length (take t.width (drop end t.bytes))) ne short small))

    pub remove_moves : (other : ℕ) → other + 1 < length t.lengths → text_at after_remove other ≡ text_at t (if other == row then length t.lengths - 1 else other)
    remove_moves other inner = elim (cases_eq other row) [
      | inl same ↦
          let inside : row + 1 < length t.lengths = omega arith in
          ap (text_at after_remove) same ∙ moved_here inside
          ∙ ap (text_at t) (sym (cond-true (other == row) (length t.lengths - 1) other (eq-eqb other row same)))
      | inr ne ↦
          moved_other other ne inner
          ∙ ap (text_at t) (sym (cond-false (other == row) (length t.lengths - 1) other (ne_eqb other row ne)))
    ]

    within_kept : (k len : ℕ) → get_or lengths' k None ≡ Some len → k < length lengths' → len ≤ t.width
    within_kept k len is inside = elim (cases_eq k row) [
      | inl same ↦
          let inner : row + 1 < length t.lengths = omega arith in
          reserved.within (length t.lengths - 1) len (sym (here inner) ∙ ap (λ (j : ℕ). get_or lengths' j None) (sym same) ∙ is)
      | inr ne ↦ reserved.within k len (sym (elsewhere k ne (omega arith)) ∙ is)
    ]

    pub reserved_remove : (bytes' : List ℕ) (lengths_room' bytes_room' : ℕ) → length bytes' ≡ end → lengths_room ≤ lengths_room' → bytes_room ≤ bytes_room'
        → IsReserved (record { lengths = lengths'; bytes = bytes'; width = t.width }) lengths_room' bytes_room'
    reserved_remove bytes' lengths_room' bytes_room' long more_lengths more_bytes = record {
      fields = long ∙ last_row ∙ ap (λ (k : ℕ). k * t.width) (let e : length t.lengths - 1 ≡ length lengths' = omega arith in e);
      within = λ k len is. elim (cases_lt k (length lengths')) [
        | inl inside ↦ within_kept k len is inside
        | inr past ↦ absurd (let no : ◌≡◌ {A = Option ℕ} (Some len) None = sym is ∙ get_or_past lengths' k None past in cc)
      ];
      for_lengths = (let r = reserved.for_lengths in omega arith);
      for_bytes = (let r = reserved.for_bytes in omega arith);
    }
