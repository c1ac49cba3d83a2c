-- How the fields of a line go on, once some of them are read.
use Rattle.std.proofs.Common.{◌≡◌, ◌<◌, refl, sym, ap, subst, ◌∙◌, ℕ, List, [], ◌∷◌, ◌++◌, append_assoc, append-nil, length, arith, Option, Some, None}
use Rattle.rows.specs.Fields.{Writes, behind_bar, spelled}
use Rattle.rows.specs.Fields.Writes.{at_end, at_bar, at_byte}

-- the fields of a line, where these and the front of a field are read, and what is left writes these
abbrev pub joined : List (List ℕ) → List ℕ → List (List ℕ) → List (List ℕ)
joined before front [] = before
joined before front (more ∷ others) = before ++ (front ++ more) ∷ others

abbrev pub SoFar : List ℕ → List ℕ → List (List ℕ) → List ℕ → Type 0
SoFar line rest before front = (left : List (List ℕ)) → Writes rest left → Writes line (joined before front left)

abbrev pub Only : List ℕ → List ℕ → List (List ℕ) → List ℕ → Type 0
Only line rest before front = (all : List (List ℕ)) → Writes line all
    → (left : List (List ℕ)) × (all ≡ joined before front left) × Writes rest left

none_some : {A : Type 0} → (x : A) → ◌≡◌ {A = Option A} None (Some x) → ⊥
none_some x e = cc

some_same : {A : Type 0} → (x y : A) → Some x ≡ Some y → x ≡ y
some_same x y e = cc

-- a text writes one field at least
no_field : (text : List ℕ) (all : List (List ℕ)) → Writes text all → all ≡ [] → ⊥
no_field _ _ at_end e = cc
no_field _ _ (at_bar text rest fields b w) e = cc
no_field _ _ (at_byte text rest field b fields n s w) e = cc

join_bar : (before : List (List ℕ)) (front text : List ℕ) (left : List (List ℕ)) → Writes text left
    → joined before front ([] ∷ left) ≡ joined (before ++ front ∷ []) [] left
join_bar before front text [] w = absurd (no_field text [] w refl)
join_bar before front text (more ∷ others) w = rw (append_assoc, append-nil front)

join_byte : (before : List (List ℕ)) (front more : List ℕ) (b : ℕ) (others : List (List ℕ))
    → joined before front ((b ∷ more) ∷ others) ≡ joined before (front ++ b ∷ []) (more ∷ others)
join_byte before front more b others = rw append_assoc

pub bar_so_far : (line rest left : List ℕ) (before : List (List ℕ)) (front : List ℕ) → behind_bar rest ≡ Some left
    → SoFar line rest before front → SoFar line left (before ++ front ∷ []) []
bar_so_far line rest left before front bar so_far all w =
    subst (Writes line) (join_bar before front left all w) (so_far ([] ∷ all) (at_bar rest left all bar w))

pub byte_so_far : (line rest left : List ℕ) (before : List (List ℕ)) (front : List ℕ) (b : ℕ) → behind_bar rest ≡ None
    → spelled rest ≡ Some (b, left) → SoFar line rest before front → SoFar line left before (front ++ b ∷ [])
byte_so_far line rest left before front b bar byte so_far [] w = absurd (no_field left [] w refl)
byte_so_far line rest left before front b bar byte so_far (more ∷ others) w =
    subst (Writes line) (join_byte before front more b others)
    (so_far ((b ∷ more) ∷ others) (at_byte rest left more b others bar byte w))

behind : (rest left : List ℕ) (all : List (List ℕ)) → Writes rest all → behind_bar rest ≡ Some left
    → (others : List (List ℕ)) × (all ≡ [] ∷ others) × Writes left others
behind _ left _ at_end bar = absurd (none_some left bar)
behind _ left _ (at_bar text rest fields b w) bar =
    (fields, refl, subst (λ (x : List ℕ). Writes x fields) (some_same rest left (sym b ∙ bar)) w)
behind _ left _ (at_byte text rest field b fields n s w) bar = absurd (none_some left (sym n ∙ bar))

pub bar_only : (line rest left : List ℕ) (before : List (List ℕ)) (front : List ℕ) → behind_bar rest ≡ Some left
    → Only line rest before front → Only line left (before ++ front ∷ []) []
bar_only line rest left before front bar only all w =
    let found = only all w in
    let tail = behind rest left found.0 found.2 bar in
    (tail.0, found.1 ∙ ap (joined before front) tail.1 ∙ join_bar before front left tail.0 tail.2, tail.2)

first_spelled : (rest left : List ℕ) (b : ℕ) (all : List (List ℕ)) → Writes rest all → behind_bar rest ≡ None
    → spelled rest ≡ Some (b, left)
    → (more : List ℕ) × (others : List (List ℕ)) × (all ≡ (b ∷ more) ∷ others) × Writes left (more ∷ others)
first_spelled _ left b _ at_end bar byte = absurd (none_some (b, left) byte)
first_spelled _ left b _ (at_bar text rest fields found w) bar byte = absurd (none_some rest (sym bar ∙ found))
first_spelled _ left b _ (at_byte text rest field c fields n s w) bar byte =
    let same : (c, rest) ≡ (b, left) = some_same (c, rest) (b, left) (sym s ∙ byte) in (
      field,
      fields,
      ap (λ (x : ℕ × List ℕ). (x.0 ∷ field) ∷ fields) same,
      subst (λ (x : ℕ × List ℕ). Writes x.1 (field ∷ fields)) same w,
    )

pub byte_only : (line rest left : List ℕ) (before : List (List ℕ)) (front : List ℕ) (b : ℕ) → behind_bar rest ≡ None
    → spelled rest ≡ Some (b, left) → Only line rest before front → Only line left before (front ++ b ∷ [])
byte_only line rest left before front b bar byte only all w =
    let found = only all w in
    let tail = first_spelled rest left b found.0 found.2 bar byte in
    (tail.0 ∷ tail.1, found.1 ∙ ap (joined before front) tail.2 ∙ join_byte before front tail.0 b tail.1, tail.3)

-- a line that is read to its end
pub all_read : (line rest : List ℕ) (before : List (List ℕ)) (front : List ℕ) → length rest ≡ 0
    → SoFar line rest before front → Writes line (before ++ front ∷ [])
all_read line [] before front none so_far =
    subst (λ (x : List ℕ). Writes line (before ++ x ∷ [])) (append-nil front) (so_far ([] ∷ []) at_end)
all_read line (b ∷ rest) before front none so_far = absurd (cc)

nothing_left : (all : List (List ℕ)) (rest : List ℕ) → Writes rest all → rest ≡ [] → all ≡ [] ∷ []
nothing_left _ _ at_end e = refl
nothing_left _ _ (at_bar text rest fields b w) e = absurd (none_some rest (ap behind_bar (sym e) ∙ b))
nothing_left _ _ (at_byte text rest field b fields n s w) e = absurd (none_some (b, rest) (ap spelled (sym e) ∙ s))

no_items : (rest : List ℕ) → length rest ≡ 0 → rest ≡ []
no_items [] none = refl
no_items (b ∷ rest) none = absurd (cc)

pub only_these : (line rest : List ℕ) (before : List (List ℕ)) (front : List ℕ) → length rest ≡ 0
    → Only line rest before front → (all : List (List ℕ)) → Writes line all → all ≡ before ++ front ∷ []
only_these line rest before front none only all w =
    let found = only all w in
    found.1 ∙ ap (joined before front) (nothing_left found.0 rest found.2 (no_items rest none))
    ∙ ap (λ (x : List ℕ). before ++ x ∷ []) (append-nil front)

no_fields : (rest : List ℕ) (all : List (List ℕ)) → Writes rest all → 0 < length rest → behind_bar rest ≡ None
    → ◌≡◌ {A = Option (ℕ × List ℕ)} (spelled rest) None → ⊥
no_fields _ _ at_end more bar byte = omega (arith, more)
no_fields _ _ (at_bar text rest fields found w) more bar byte = none_some rest (sym bar ∙ found)
no_fields _ _ (at_byte text rest field b fields n s w) more bar byte = none_some (b, rest) (sym byte ∙ s)

-- a line that goes on with what is no escape
pub nothing_written : (line rest : List ℕ) (before : List (List ℕ)) (front : List ℕ) → 0 < length rest
    → behind_bar rest ≡ None → ◌≡◌ {A = Option (ℕ × List ℕ)} (spelled rest) None → Only line rest before front
    → (all : List (List ℕ)) → Writes line all → ⊥
nothing_written line rest before front more bar byte only all w =
    let found = only all w in
    no_fields rest found.0 found.2 more bar byte
