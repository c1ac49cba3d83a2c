-- Bytes that are written within one part change the value at its path, and no other.
use Rattle.std.proofs.Common.{◌≡◌, ◌≢◌, ◌<◌, ◌≤◌, ◌+◌, ◌*◌, ◌⊎◌, inl, inr, ℕ, zero, suc, Bool, true, false, if◌then◌else◌, List, [], ◌∷◌, ◌++◌, length, map, Option, Some, None, refl, sym, ap, subst, ◌∙◌, arith}
use Rattle.std.specs.Prelude.{slice_get}
use Rattle.std.specs.Option.{option_and_then, option_map}
use Rattle.std.specs.Str.{bytes_eq}
use Rattle.std.proofs.lemmas.Bool.{cases_eq}
use Rattle.std.proofs.lemmas.Slice.Eq.{bytes_eq-Decides}
use Rattle.sed_value.specs.declared.value.Value.{Value}
use Rattle.sed_value.specs.declared.value.Value.TheVariants as kept
use Rattle.sed_value.specs.SlotType.{width_of}
use Rattle.sed_typed.specs.declared.program.FieldForm.{FieldForm}
use Rattle.sed_typed.specs.declared.program.FieldForm.TheVariants as form
use Rattle.sed_typed.specs.Contents.{Contents, Path, changed_at, with_value}
use Rattle.sed_wire.specs.Number.{number_of}
use Rattle.sed_engine.specs.Values.{Base, Component, Statics}
use Rattle.scode_image.specs.declared.image.Image.{Image}
use Rattle.scode_image.specs.declared.image.ImageField.{ImageField}
use Rattle.scode_code.specs.Contents.{bytes_at, data_size, primitive_from}
use Rattle.scode_code.specs.Parts.{Part, field_part, part_from, part_in, part_of}
use Rattle.scode_whole.proofs.Rule.{Agrees}
use Rattle.scode_whole.proofs.Truths.{no_value, same_value, through}
use Rattle.scode_state.specs.Values.{BufsFit, held_in, part_width, size_in}
use Rattle.scode_state.proofs.Rows.{AreApart, static_row, turned}
use Rattle.scode_state.proofs.Apart.{LiesBetween, LiesIn, Stand, apart, compare, field_lies, field_part_of, fields_apart, holds, inside_apart, path_lies, same, stands_in}
use Rattle.scode_state.proofs.Leaves.{Each, IsAt, IsLeaf, Leaf, held_read, leaves_lead, leaves_of, part_value, read}

-- ---- parts at two paths of a block

nothing_in : {P : Type 0} (image : Image) (a b : Part) (i : ℕ) (rest : Path) → IsLeaf a.1
    → part_from image (i ∷ rest) a ≡ Some b → P
nothing_in image (o, form.Prim p) b i rest leaf e = no_value b e
nothing_in image (o, form.Str n) b i rest leaf e = no_value b e
nothing_in image (o, form.Buf n) b i rest leaf e = no_value b e
nothing_in image (o, form.Array p n) b i rest leaf e = absurd leaf
nothing_in image (o, form.Object t) b i rest leaf e = absurd leaf

not_root : {P : Type 0} (b : Part) → Some (let r : Part = (0, form.Object (record { 0 = 0xffff })) in r) ≡ Some b → IsLeaf b.1 → P
not_root b e leaf =
    let never : ⊥ = subst (λ (p : Part). IsLeaf p.1) (sym (same_value (let r : Part = (0, form.Object (record { 0 = 0xffff })) in r) b e)) leaf in
    absurd never

module _ (image : Image) (agree : Agrees image) where
  abbrev SameOrApart : Path → Path → Part → Part → Type 0
  SameOrApart p q a b = (p ≡ q) ⊎ AreApart a.0 (part_width image a.1) b.0 (part_width image b.1)

  of_leaves : (p q : Path) (a b : Part) → IsLeaf a.1 → IsLeaf b.1 → Stand image p q a b → SameOrApart p q a b
  of_leaves p q a b la lb (same e) = inl e
  of_leaves p q a b la lb (apart h) = inr h
  of_leaves p q a b la lb (holds i rest e) = nothing_in image a b i rest la e
  of_leaves p q a b la lb (stands_in i rest e) = nothing_in image b a i rest lb e

  pub leaves_apart : (class : ℕ) (base : Base) (p q : Path) (a b : Part) → part_of image class base p ≡ Some a
      → part_of image class base q ≡ Some b → IsLeaf a.1 → IsLeaf b.1 → SameOrApart p q a b
  leaves_apart class Component p q a b x y la lb =
      of_leaves p q a b la lb (compare image agree p q (0, form.Object (record { 0 = class })) a b x y)
  leaves_apart class Statics [] q a b x y la lb = not_root a x la
  leaves_apart class Statics (i ∷ p) [] a b x y la lb = not_root b y lb
  leaves_apart class Statics (i ∷ p) (j ∷ q) a b x y la lb =
      let one = through (part_from image p) (option_map (field_part 0) (slice_get image.static_fields i)) a x in
      let other = through (part_from image q) (option_map (field_part 0) (slice_get image.static_fields j)) b y in
      by_number one.0 one.1 one.2 other.0 other.1 other.2 (cases_eq i j)
    where
      by_number : (c : Part) → option_map (field_part 0) (slice_get image.static_fields i) ≡ Some c
          → part_from image p c ≡ Some a → (d : Part)
          → option_map (field_part 0) (slice_get image.static_fields j) ≡ Some d → part_from image q d ≡ Some b
          → (i ≡ j) ⊎ (i ≢ j) → SameOrApart (i ∷ p) (j ∷ q) a b
      by_number c ci pa d dj qb (inl e) =
          let one : c ≡ d = same_value c d (sym ci
          ∙ ap (λ (k : ℕ). option_map (field_part 0) (slice_get image.static_fields k)) e ∙ dj) in
          further e (of_leaves p q a b la lb
          (compare image agree p q c a b pa (subst (λ (o : Part). part_from image q o ≡ Some b) (sym one) qb)))
        where
          further : i ≡ j → SameOrApart p q a b → SameOrApart (i ∷ p) (j ∷ q) a b
          further e (inl one) = inl (ap (λ (k : ℕ). k ∷ p) e ∙ ap (λ (r : Path). j ∷ r) one)
          further e (inr h) = inr h
      by_number c ci pa d dj qb (inr ne) =
          inr (inside_apart image c d a b
          (fields_apart image (length image.static_bytes) image.static_fields (static_row image agree) 0 i j c d
          (field_part_of 0 image.static_fields i c ci) (field_part_of 0 image.static_fields j d dj) ne)
          (path_lies image agree p c a pa) (path_lies image agree q d b qb))

  -- a leaf lies within the bytes of its block
  pub leaf_lies : (class : ℕ) (base : Base) (path : Path) (part : Part) → part_of image class base path ≡ Some part
      → IsLeaf part.1 → part.0 + part_width image part.1 ≤ size_in image class base
  leaf_lies class Component path part e leaf =
      let low : part.0 + part_width image part.1 ≤ 0 + size_in image class Component =
      (path_lies image agree path (0, form.Object (record { 0 = class })) part e).ends in
      omega (arith, low)
  leaf_lies class Statics [] part e leaf = not_root part e leaf
  leaf_lies class Statics (i ∷ path) part e leaf =
      let mid = through (part_from image path) (option_map (field_part 0) (slice_get image.static_fields i)) part e in
      let lies = field_lies image (length image.static_bytes) image.static_fields (static_row image agree) 0 i mid.0
      (field_part_of 0 image.static_fields i mid.0 mid.1) in
      let inner = path_lies image agree path mid.0 part mid.2 in
      let x = lies.ends in
      let y = inner.ends in
      omega (arith, x, y)

-- ---- a leaf whose bytes stay

-- the same bytes stand in each range that ends before these, or begins behind them
abbrev pub StaysBeside : List ℕ → List ℕ → ℕ → ℕ → Type 0
StaysBeside other bytes at width = (start size : ℕ) → AreApart start size at width
    → bytes_at other start size ≡ bytes_at bytes start size

part_of_range : (start size o w at width : ℕ) → o ≤ start → start + size ≤ o + w → AreApart o w at width
    → AreApart start size at width
part_of_range start size o w at width low high (inl h) = inl (omega (arith, low, high, h))
part_of_range start size o w at width low high (inr h) = inr (omega (arith, low, high, h))

-- a Buf at a leaf has at most as many bytes as its room
abbrev pub LeafFits : List ℕ → Part → Type 0
LeafFits bytes (o, form.Buf n) = number_of (bytes_at bytes o 2) ≤ n
LeafFits bytes (o, form.Prim p) = Unit {0}
LeafFits bytes (o, form.Str n) = Unit {0}
LeafFits bytes (o, form.Array p n) = Unit {0}
LeafFits bytes (o, form.Object t) = Unit {0}

leaf_stays : (image : Image) (other bytes : List ℕ) (at width : ℕ) → StaysBeside other bytes at width → (part : Part)
    → IsLeaf part.1 → LeafFits bytes part → AreApart part.0 (part_width image part.1) at width
    → part_value other part ≡ part_value bytes part
leaf_stays image other bytes at width stays (o, form.Prim p) leaf fits far =
    ap (primitive_from p) (stays o (width_of p) far)
leaf_stays image other bytes at width stays (o, form.Str n) leaf fits far =
    ap (λ (b : List ℕ). kept.Buf b) (stays o n far)
leaf_stays image other bytes at width stays (o, form.Buf n) leaf fits far =
    ap (λ (b : List ℕ). kept.Buf (bytes_at other (o + 2) (number_of b)))
    (stays o 2 (part_of_range o 2 o (n + 2) at width (omega arith) (omega arith) far))
    ∙ ap (λ (b : List ℕ). kept.Buf b)
    (stays (o + 2) (number_of (bytes_at bytes o 2))
    (part_of_range (o + 2) (number_of (bytes_at bytes o 2)) o (n + 2) at width (omega arith) (omega (arith, fits)) far))
leaf_stays image other bytes at width stays (o, form.Array p n) leaf fits far = absurd leaf
leaf_stays image other bytes at width stays (o, form.Object t) leaf fits far = absurd leaf

-- ---- the contents after a write

same_path : (a b : Path) → bytes_eq a b ≡ true → a ≡ b
same_path a b e = (bytes_eq-Decides a b).0 e

module _ (image : Image) (agree : Agrees image) (class : ℕ) (base : Base) (path : Path) (part : Part)
    (there : part_of image class base path ≡ Some part) (leaf : IsLeaf part.1) (bytes other : List ℕ) (at width : ℕ)
    (fits : BufsFit image class base bytes) (low : part.0 ≤ at) (high : at + width ≤ part.0 + part_width image part.1)
    (stays : StaysBeside other bytes at width) where
  leaf_fits : (q : Path) (b : Part) → part_of image class base q ≡ Some b → LeafFits bytes b
  leaf_fits q (o, form.Prim p) e = tt
  leaf_fits q (o, form.Str n) e = tt
  leaf_fits q (o, form.Buf n) e = fits q o n e
  leaf_fits q (o, form.Array p n) e = tt
  leaf_fits q (o, form.Object t) e = tt

  narrower : (a w : ℕ) → AreApart a w part.0 (part_width image part.1) → AreApart a w at width
  narrower a w (inl h) = inl (omega (arith, h, low))
  narrower a w (inr h) = inr (omega (arith, h, high))

  one_leaf : (l : Leaf) → IsAt image class base l
      → ◌≡◌ {A = Path × Value} (read other l) (l.0, if bytes_eq l.0 path then part_value other part else part_value bytes l.1)
  one_leaf l is = by_test (bytes_eq l.0 path) refl
    where
      by_test : (b : Bool) → bytes_eq l.0 path ≡ b
          → ◌≡◌ {A = Path × Value} (read other l) (l.0, if b then part_value other part else part_value bytes l.1)
      by_test true e =
          let here : l.1 ≡ part =
          same_value l.1 part (sym is.leads ∙ ap (part_of image class base) (same_path l.0 path e) ∙ there) in
          ap (λ (p : Part). let x : Path × Value = (l.0, part_value other p) in x) here
      by_test false e = by_place (leaves_apart image agree class base l.0 path l.1 part is.leads there is.leaf leaf)
        where
          never : {P : Type 0} → false ≡ true → P
          never h = let no : ⊥ = cc in absurd no

          by_place : (l.0 ≡ path) ⊎ AreApart l.1.0 (part_width image l.1.1) part.0 (part_width image part.1)
              → ◌≡◌ {A = Path × Value} (read other l) (l.0, part_value bytes l.1)
          by_place (inl one) = never (sym e ∙ (bytes_eq-Decides l.0 path).1 one)
          by_place (inr far) =
              ap (λ (v : Value). let x : Path × Value = (l.0, v) in x)
              (leaf_stays image other bytes at width stays l.1 is.leaf (leaf_fits l.0 l.1 is.leads)
              (narrower l.1.0 (part_width image l.1.1) far))

  each_leaf : (ls : List Leaf) → Each (IsAt image class base) ls
      → map (read other) ls ≡ with_value (map (read bytes) ls) path (part_value other part)
  each_leaf [] h = refl
  each_leaf (l ∷ ls) h =
      ap (λ (e : Path × Value). e ∷ map (read other) ls) (one_leaf l h.0)
      ∙ ap (λ (rest : Contents). (let x : Path × Value = (l.0, if bytes_eq l.0 path then part_value other part else part_value bytes l.1) in x) ∷ rest)
      (each_leaf ls h.1)

  pub one_changes : held_in image class base other ≡ with_value (held_in image class base bytes) path (part_value other part)
  one_changes =
      held_read image other class base
      ∙ each_leaf (leaves_of image class base) (leaves_lead image class base)
      ∙ sym (ap (λ (m : Contents). with_value m path (part_value other part)) (held_read image bytes class base))

  -- and all Bufs are within their room, if this one is
  pub fits_on : LeafFits other part → BufsFit image class base other
  fits_on own q o n e = by_place (leaves_apart image agree class base q path (o, form.Buf n) part e there tt leaf)
    where
      by_place : (q ≡ path) ⊎ AreApart o (n + 2) part.0 (part_width image part.1)
          → number_of (bytes_at other o 2) ≤ n
      by_place (inl one) =
          subst (λ (p : Part). LeafFits other p)
          (sym (same_value (let b : Part = (o, form.Buf n) in b) part (sym e ∙ ap (part_of image class base) one ∙ there))) own
      by_place (inr far) =
          let stay : bytes_at other o 2 ≡ bytes_at bytes o 2 =
          stays o 2 (part_of_range o 2 o (n + 2) at width (omega arith) (omega arith) (narrower o (n + 2) far)) in
          let old : number_of (bytes_at bytes o 2) ≤ n = fits q o n e in
          subst (λ (b : List ℕ). number_of b ≤ n) (sym stay) old
