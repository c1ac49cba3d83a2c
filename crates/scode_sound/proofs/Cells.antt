-- Cells of a kind: what fits a kind goes on to fit the kinds to which it goes.
use Rattle.std.proofs.Common.{◌≡◌, ◌<◌, ◌≤◌, ◌==◌, ◌&&◌, ◌||◌, ◌⊎◌, inl, inr, not, nat_le, ℕ, zero, suc, Bool, true, false, if◌then◌else◌, List, [], ◌∷◌, ◌++◌, length, map, Option, Some, refl, sym, ap, subst, ◌∙◌, arith}
use Rattle.std.specs.Prelude.{slice_get, slice_set, pos}
use Rattle.std.specs.List.{list_all, list_any}
use Rattle.std.specs.Option.{option_map}
use Rattle.std.proofs.lemmas.Bool.{and_parts, eqb-true, leb-true}
use Rattle.std.proofs.lemmas.Bool.Decides.{nat_tests}
use Rattle.std.proofs.lemmas.List.{length-map}
use Rattle.std.proofs.lemmas.Option.{slice_get_within}
use Rattle.sed_typed.specs.declared.number.TypeNo.{TypeNo}
use Rattle.sed_typed.specs.declared.schema.ClassInfo.{ClassInfo}
use Rattle.sed_typed.specs.Classes.{base_of, reached}
use Rattle.sed_engine.specs.Values.{Val, Nothing, Truth, Int, Long, Null, At, Literal, Spot}
use Rattle.sed_engine.proofs.FirstFits.{equal}
use Rattle.sed_engine.proofs.Below.{Below, Itself, Based, below_of, below_then}
use Rattle.scode_image.specs.declared.image.Image.{Image}
use Rattle.scode_image.specs.declared.image.ImageKind.{ImageKind}
use Rattle.scode_code.specs.Calls.{zero_of}
use Rattle.scode_code.specs.CodeRules.{with_kind}
use Rattle.scode_code.specs.Fields.{Setting}
use Rattle.scode_code.specs.Kinds.{all_go, goes_to, is_at_or_above, is_null, is_object, is_statics, is_str, same_kind}
use Rattle.scode_code.specs.TableRules as rule
use Rattle.scode_code.specs.Tables.{class_of as info_of, schema_of}
use Rattle.scode_whole.proofs.Bases.{follows}
use Rattle.scode_whole.proofs.Kits.{classes_most}
use Rattle.scode_whole.proofs.Truths.{no_truth, no_value, same_value, two, three, either, of_mapped, through}
use Rattle.scode_sound.specs.Cells.{Block, Concrete, Fit, HasKind, LeadsTo, Object, Text, class_from}
use Rattle.scode_sound.proofs.Booleans.{or_right}
use Rattle.scode_sound.proofs.Rules.{Tables}

abbrev pub classes_of : Image → List ClassInfo
classes_of image = (schema_of image).classes

-- ---- the class 0xffff is none

no_base : (image : Image) → Tables image → (base : ℕ) → base_of (classes_of image) 0xffff ≡ Some base → ⊥
no_base image is base e =
    let t = through (λ (info : ClassInfo). option_map (λ (b : TypeNo). b.0) info.base)
    (slice_get (classes_of image) 0xffff) base e in
    let m = of_mapped info_of image.classes 0xffff t.0 t.1 in
    let inside = slice_get_within image.classes 0xffff m.0 m.1 in
    let few = classes_most image is.whole in
    omega (arith, inside, few)

alone : (image : Image) → Tables image → (above class : ℕ) → class ≡ 0xffff → Below (classes_of image) above class
    → above ≡ 0xffff
alone image is above class e Itself = e
alone image is above class e (Based base low b rest) =
    absurd (no_base image is base (ap (base_of (classes_of image)) (sym e) ∙ b))

-- ---- a class at or above another, by the test

in_reached : (classes : List ClassInfo) → ((at base : ℕ) → base_of classes at ≡ Some base → base < at)
    → (n above class : ℕ) → class < n → Below classes above class
    → list_any (λ c. c == above) (reached (base_of classes) n (Some class)) ≡ true
in_reached classes falls zero above class low b = absurd (omega (arith, low))
in_reached classes falls (suc n) above class low Itself =
    ap (λ (b : Bool). b || list_any (λ c. c == class) (reached (base_of classes) n (base_of classes class)))
    (equal class class refl)
in_reached classes falls (suc n) above class low (Based base low_class e rest) =
    let before : base < class = falls class base e in
    or_right (class == above) (list_any (λ c. c == above) (reached (base_of classes) n (base_of classes class)))
    (subst (λ (o : Option ℕ). list_any (λ c. c == above) (reached (base_of classes) n o) ≡ true) (sym e)
    (in_reached classes falls n above base (omega (arith, low, before)) rest))

pub by_test : (image : Image) → Tables image → (above class : ℕ) → Concrete image class
    → Below (classes_of image) above class → is_at_or_above image above class ≡ true
by_test image is above class known b =
    let inside = slice_get_within image.classes class known.info known.stands in
    let all : length (classes_of image) ≡ length image.classes = length-map image.classes info_of in
    in_reached (classes_of image) (λ at base e. (follows image is.whole at base e).before) (length (classes_of image))
    above class (omega (arith, inside, all)) b

-- an object of a class, or of one below it
pub an_object : (w : Setting) → Tables w.image → (k : ImageKind) (spot : Spot) → k.kind ≡ 6 → (at : ℕ)
    → class_from w spot.base spot.path ≡ Some at → Concrete w.image at → Below (classes_of w.image) k.class at
    → LeadsTo w k spot
an_object w is k spot e at x c b = Object e at x c (by_test w.image is k.class at c b)

-- ---- kinds that go to others

made_kind : ℕ → ℕ → ImageKind
made_kind kind class = record { kind = kind; class = class }

pub same_kinds : (k l : ImageKind) → same_kind k l ≡ true → k ≡ l
unfolding made_kind
same_kinds k l h =
    let p = two (k.kind == l.kind) (k.class == l.class) h in
    ap (λ (n : ℕ). made_kind n k.class) (eqb-true k.kind l.kind p.0)
    ∙ ap (λ (n : ℕ). made_kind l.kind n) (eqb-true k.class l.class p.1)

module _ (w : Setting) (is : Tables w.image) where
  abbrev Has : ImageKind → Val → Type 0
  Has k v = HasKind w k v

  from_null : (k l : ImageKind) (v : Val) → k.kind ≡ 5 → (4 ≤ l.kind) × (l.kind ≤ 6) → Has k v → Has l v
  from_null k l Nothing e to h = absurd h
  from_null k l (Truth t) e to h = absurd (omega (arith, e, h.0))
  from_null k l (Int n) e to h = absurd (omega (arith, e, h.0))
  from_null k l (Long n) e to h = absurd (omega (arith, e, h.0))
  from_null k l Null e to h = to
  from_null k l (At spot) e to (Text f n g) = absurd (omega (arith, e, f))
  from_null k l (At spot) e to (Block f c s) = absurd (omega (arith, e, f))
  from_null k l (At spot) e to (Object f at c d b) = absurd (omega (arith, e, f))
  from_null k l (Literal n) e to h = absurd (omega (arith, e, h.0))

  from_object : (k l : ImageKind) (v : Val) → k.kind ≡ 6 → l.kind ≡ 6
      → Below (classes_of w.image) l.class k.class → Has k v → Has l v
  from_object k l Nothing e f b h = absurd h
  from_object k l (Truth t) e f b h = absurd (omega (arith, e, h.0))
  from_object k l (Int n) e f b h = absurd (omega (arith, e, h.0))
  from_object k l (Long n) e f b h = absurd (omega (arith, e, h.0))
  from_object k l Null e f b h = (omega (arith, f), omega (arith, f))
  from_object k l (At spot) e f b (Text g n x) = absurd (omega (arith, e, g))
  from_object k l (At spot) e f b (Block g c s) = Block f (alone w.image is l.class k.class c b) s
  from_object k l (At spot) e f b (Object g at c d low) =
      an_object w is l spot f at c d (below_then b (below_of (classes_of w.image) k.class at low))
  from_object k l (Literal n) e f b h = absurd (omega (arith, e, h.0))

  pub goes : (k l : ImageKind) (v : Val) → goes_to w.image k l ≡ true → Has k v → Has l v
  goes k l v g h =
      first (either (same_kind k l || (is_null k && (is_str l || (is_object l && not (is_statics l)))))
      (is_object k && is_object l && is_at_or_above w.image l.class k.class) g)
    where
      by_sort : ((is_str l) ≡ true) ⊎ ((is_object l && not (is_statics l)) ≡ true) → (4 ≤ l.kind) × (l.kind ≤ 6)
      by_sort (inl s) = let e : l.kind ≡ 4 = eqb-true l.kind 4 s in (omega (arith, e), omega (arith, e))
      by_sort (inr s) =
          let e : l.kind ≡ 6 = eqb-true l.kind 6 (two (is_object l) (not (is_statics l)) s).0 in
          (omega (arith, e), omega (arith, e))

      second : (same_kind k l ≡ true) ⊎ ((is_null k && (is_str l || (is_object l && not (is_statics l)))) ≡ true)
          → Has l v
      second (inl s) = subst (λ (x : ImageKind). Has x v) (same_kinds k l s) h
      second (inr s) =
          let p = two (is_null k) (is_str l || (is_object l && not (is_statics l))) s in
          from_null k l v (eqb-true k.kind 5 p.0) (by_sort (either (is_str l)
          (is_object l && not (is_statics l)) p.1)) h

      first : ((same_kind k l || (is_null k && (is_str l || (is_object l && not (is_statics l))))) ≡ true)
          ⊎ ((is_object k && is_object l && is_at_or_above w.image l.class k.class) ≡ true) → Has l v
      first (inl s) =
          second (either (same_kind k l) (is_null k && (is_str l || (is_object l && not (is_statics l)))) s)
      first (inr s) =
          let p = three (is_object k) (is_object l) (is_at_or_above w.image l.class k.class) s in
          from_object k l v (eqb-true k.kind 6 p.0) (eqb-true l.kind 6 p.1)
          (below_of (classes_of w.image) l.class k.class p.2) h

  pub all_goes : (ks ls : List ImageKind) (vs : List Val) → all_go w.image ks ls ≡ true → Fit w ks vs → Fit w ls vs
  all_goes [] [] vs g h = h
  all_goes [] (l ∷ ls) vs g h = no_truth g
  all_goes (k ∷ ks) [] vs g h = no_truth g
  all_goes (k ∷ ks) (l ∷ ls) [] g h = absurd h
  all_goes (k ∷ ks) (l ∷ ls) (v ∷ vs) g h =
      let p = and_parts (goes_to w.image k l) (all_go w.image ks ls) g in
      (goes k l v p.0 h.0, all_goes ks ls vs p.1 h.1)

  -- what a local begins as
  pub zero_fits : (statics : Bool) (k : ImageKind) → rule.is_kind_of_cell w.image statics k ≡ true → Has k (zero_of k)
  zero_fits statics k h =
      let p = three (nat_le 1 k.kind) (nat_le k.kind 6)
      (if k.kind == 6 then rule.has_class w.image k.class || (statics && (k.class == 0xffff)) else k.class == 0) h in
      by_number (k.kind == 1) (k.kind == 2) (k.kind == 3) refl refl refl (leb-true 1 k.kind p.0) (leb-true k.kind 6 p.1)
    where
      by_number : (a b c : Bool) → (k.kind == 1) ≡ a → (k.kind == 2) ≡ b → (k.kind == 3) ≡ c → 1 ≤ k.kind → k.kind ≤ 6
          → Has k (if a then Truth 0 else if b then Int (pos 0) else if c then Long (pos 0) else Null)
      by_number true b c x y z some most = (eqb-true k.kind 1 x, refl)
      by_number false true c x y z some most = (eqb-true k.kind 2 y, refl)
      by_number false false true x y z some most = (eqb-true k.kind 3 z, refl)
      by_number false false false x y z some most = (grind (arith, nat_tests, x, y, z, some, most), most)

  pub zeros_fit : (statics : Bool) (ks : List ImageKind) → list_all (rule.is_kind_of_cell w.image statics) ks ≡ true
      → Fit w ks (map zero_of ks)
  zeros_fit statics [] h = tt
  zeros_fit statics (k ∷ ks) h =
      let p = and_parts (rule.is_kind_of_cell w.image statics k)
      (list_all (rule.is_kind_of_cell w.image statics) ks) h in
      (zero_fits statics k p.0, zeros_fit statics ks p.1)

-- ---- rows of cells

pub fit_get : (w : Setting) (ks : List ImageKind) (vs : List Val) (i : ℕ) (k : ImageKind) → Fit w ks vs
    → slice_get ks i ≡ Some k → (v : Val) × (slice_get vs i ≡ Some v) × HasKind w k v
fit_get w [] vs i k h e = no_value k e
fit_get w (l ∷ ks) [] i k h e = absurd h
fit_get w (l ∷ ks) (v ∷ vs) zero k h e = (v, refl, subst (λ (x : ImageKind). HasKind w x v) (same_value l k e) h.0)
fit_get w (l ∷ ks) (v ∷ vs) (suc i) k h e = fit_get w ks vs i k h.1 e

pub fit_set : (w : Setting) (ks : List ImageKind) (vs : List Val) (i : ℕ) (k : ImageKind) (v : Val) → Fit w ks vs
    → HasKind w k v → Fit w (with_kind ks i k) (slice_set vs i v)
fit_set w [] [] i k v h g = tt
fit_set w [] (u ∷ vs) i k v h g = absurd h
fit_set w (l ∷ ks) [] i k v h g = absurd h
fit_set w (l ∷ ks) (u ∷ vs) zero k v h g = (g, h.1)
fit_set w (l ∷ ks) (u ∷ vs) (suc i) k v h g = (h.0, fit_set w ks vs i k v h.1 g)

pub fit_length : (w : Setting) (ks : List ImageKind) (vs : List Val) → Fit w ks vs → length vs ≡ length ks
fit_length w [] [] h = refl
fit_length w [] (v ∷ vs) h = absurd h
fit_length w (k ∷ ks) [] h = absurd h
fit_length w (k ∷ ks) (v ∷ vs) h = ap suc (fit_length w ks vs h.1)

pub fit_append : (w : Setting) (ks ls : List ImageKind) (vs us : List Val) → Fit w ks vs → Fit w ls us
    → Fit w (ks ++ ls) (vs ++ us)
fit_append w [] ls [] us h g = g
fit_append w [] ls (v ∷ vs) us h g = absurd h
fit_append w (k ∷ ks) ls [] us h g = absurd h
fit_append w (k ∷ ks) ls (v ∷ vs) us h g = (h.0, fit_append w ks ls vs us h.1 g)
