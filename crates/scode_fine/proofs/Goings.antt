-- Kinds that go to others: each goes to itself, and what goes to one that goes on goes on too.
use Rattle.std.proofs.Common.{◌≡◌, ◌⊎◌, inl, inr, ℕ, zero, suc, ◌==◌, ◌&&◌, ◌||◌, not, Bool, true, false, List, [], ◌∷◌, ◌++◌, length, take, drop, refl, sym, ap, subst, ◌∙◌, arith}
use Rattle.std.specs.Prelude.{is_some}
use Rattle.std.proofs.lemmas.Bool.{and_from, and_parts, and_right, eq-eqb, eqb-true, not-true, not_from_false, or_cases, or_left, or_right}
use Rattle.scode_image.specs.declared.image.Image.{Image}
use Rattle.scode_image.specs.declared.image.ImageKind.{ImageKind}
use Rattle.scode_code.specs.CodeRules.{fields_of_kind}
use Rattle.scode_code.specs.Fields.{buf_number}
use Rattle.scode_code.specs.Kinds.{all_go, goes_to, is_at_or_above, is_null, is_object, is_statics, is_str, object, same_kind}
use Rattle.scode_code.specs.Tables.{field_number}
use Rattle.scode_code.specs.Wants.{meets}
use Rattle.scode_code.specs.declared.needs.Need.{Need}
use Rattle.scode_code.specs.declared.needs.Need.TheVariants as need
use Rattle.scode_code.proofs.Verifies.{goes_to_itself}
use Rattle.scode_whole.proofs.Truths.{no_truth}
use Rattle.scode_sound.proofs.Cells.{same_kinds}

-- ---- truths

unless : (a b : Bool) → a ≡ true → not (a && b) ≡ true → b ≡ false
unless true b e h = not-true b h
unless false b e h = no_truth e

-- ---- what is asked of classes

-- Classes at and above others, 0xffff apart, and a class has the fields of those above it.
pub record Ordered (image : Image) : Type 0 where
  pub through : (a b c : ℕ) → is_at_or_above image a b ≡ true → is_at_or_above image b c ≡ true →
      is_at_or_above image a c ≡ true
  pub statics : (class : ℕ) → is_at_or_above image 0xffff class ≡ true → class ≡ 0xffff
  pub fields : (above class form offset n : ℕ) → is_at_or_above image above class ≡ true →
      is_some (field_number (fields_of_kind image (object above)) form offset n) ≡ true →
      is_some (field_number (fields_of_kind image (object class)) form offset n) ≡ true
  pub bufs : (above class offset : ℕ) → is_at_or_above image above class ≡ true →
      is_some (buf_number (fields_of_kind image (object above)) offset) ≡ true →
      is_some (buf_number (fields_of_kind image (object class)) offset) ≡ true

-- ---- a kind goes to another

-- why it goes
pub data Goes (image : Image) (k l : ImageKind) : Type 0 where
  Same : k ≡ l → Goes image k l
  Null : k.kind ≡ 5 → ((l.kind ≡ 4) ⊎ ((l.kind ≡ 6) × ((l.class == 0xffff) ≡ false))) → Goes image k l
  Under : k.kind ≡ 6 → l.kind ≡ 6 → is_at_or_above image l.class k.class ≡ true → Goes image k l

pub goes_view : (image : Image) (k l : ImageKind) → goes_to image k l ≡ true → Goes image k l
goes_view image k l g =
    first (or_cases (same_kind k l || (is_null k && (is_str l || (is_object l && not (is_statics l)))))
    (is_object k && is_object l && is_at_or_above image l.class k.class) g)
  where
    by_sort : ((is_str l) ≡ true) ⊎ ((is_object l && not (is_statics l)) ≡ true) →
        (l.kind ≡ 4) ⊎ ((l.kind ≡ 6) × ((l.class == 0xffff) ≡ false))
    by_sort (inl s) = inl (eqb-true l.kind 4 s)
    by_sort (inr s) =
        let p = and_parts (is_object l) (not (is_statics l)) s in
        inr (eqb-true l.kind 6 p.0, unless (is_object l) (l.class == 0xffff) p.0 p.1)

    second : (same_kind k l ≡ true) ⊎ ((is_null k && (is_str l || (is_object l && not (is_statics l)))) ≡ true) →
        Goes image k l
    second (inl s) = Same (same_kinds k l s)
    second (inr s) =
        let p = and_parts (is_null k) (is_str l || (is_object l && not (is_statics l))) s in
        Null (eqb-true k.kind 5 p.0) (by_sort (or_cases (is_str l) (is_object l && not (is_statics l)) p.1))

    first : ((same_kind k l || (is_null k && (is_str l || (is_object l && not (is_statics l))))) ≡ true)
        ⊎ ((is_object k && is_object l && is_at_or_above image l.class k.class) ≡ true) → Goes image k l
    first (inl s) =
        second (or_cases (same_kind k l) (is_null k && (is_str l || (is_object l && not (is_statics l)))) s)
    first (inr s) =
        let p = and_parts (is_object k && is_object l) (is_at_or_above image l.class k.class) s in
        let q = and_parts (is_object k) (is_object l) p.0 in
        Under (eqb-true k.kind 6 q.0) (eqb-true l.kind 6 q.1) p.1

pub goes_seen : (image : Image) (k l : ImageKind) → Goes image k l → goes_to image k l ≡ true
goes_seen image k l (Same e) = subst (λ (x : ImageKind). goes_to image k x ≡ true) e (goes_to_itself image k)
goes_seen image k l (Null e s) =
    or_left (same_kind k l || (is_null k && (is_str l || (is_object l && not (is_statics l)))))
    (is_object k && is_object l && is_at_or_above image l.class k.class)
    (or_right (same_kind k l) (is_null k && (is_str l || (is_object l && not (is_statics l))))
    (and_from (is_null k) (is_str l || (is_object l && not (is_statics l))) (eq-eqb k.kind 5 e) (by_sort s)))
  where
    by_sort : (l.kind ≡ 4) ⊎ ((l.kind ≡ 6) × ((l.class == 0xffff) ≡ false)) →
        (is_str l || (is_object l && not (is_statics l))) ≡ true
    by_sort (inl f) = or_left (is_str l) (is_object l && not (is_statics l)) (eq-eqb l.kind 4 f)
    by_sort (inr f) =
        or_right (is_str l) (is_object l && not (is_statics l))
        (and_from (is_object l) (not (is_statics l)) (eq-eqb l.kind 6 f.0)
        (not_from_false (is_object l && (l.class == 0xffff)) (and_right (is_object l) (l.class == 0xffff) f.1)))
goes_seen image k l (Under e f h) =
    or_right (same_kind k l || (is_null k && (is_str l || (is_object l && not (is_statics l)))))
    (is_object k && is_object l && is_at_or_above image l.class k.class)
    (and_from (is_object k && is_object l) (is_at_or_above image l.class k.class)
    (and_from (is_object k) (is_object l) (eq-eqb k.kind 6 e) (eq-eqb l.kind 6 f)) h)

-- ---- through another

module _ (image : Image) (o : Ordered image) where
  not_five : (l : ImageKind) → (l.kind ≡ 4) ⊎ ((l.kind ≡ 6) × ((l.class == 0xffff) ≡ false)) → l.kind ≡ 5 → ⊥
  not_five l (inl s) e = omega (arith, s, e)
  not_five l (inr s) e = let six = s.0 in omega (arith, six, e)

  -- a class above one that is not 0xffff is not so or_cases
  not_statics : (l m : ImageKind) → (l.kind ≡ 4) ⊎ ((l.kind ≡ 6) × ((l.class == 0xffff) ≡ false)) → l.kind ≡ 6 →
      is_at_or_above image m.class l.class ≡ true → (m.class == 0xffff) ≡ false
  not_statics l m (inl s) e h = absurd (omega (arith, s, e))
  not_statics l m (inr s) e h = by_test (m.class == 0xffff) refl
    where
      by_test : (b : Bool) → (m.class == 0xffff) ≡ b → b ≡ false
      by_test false is = refl
      by_test true is =
          let high : is_at_or_above image 0xffff l.class ≡ true =
          subst (λ (n : ℕ). is_at_or_above image n l.class ≡ true) (eqb-true m.class 0xffff is) h in
          no_truth (sym s.1 ∙ eq-eqb l.class 0xffff (o.statics l.class high))

  over : (k l m : ImageKind) → Goes image k l → Goes image l m → Goes image k m
  over k l m (Same e) b = subst (λ (x : ImageKind). Goes image x m) (sym e) b
  over k l m (Null e s) (Same f) = subst (λ (x : ImageKind). Goes image k x) f (Null e s)
  over k l m (Null e s) (Null f t) = absurd (not_five l s f)
  over k l m (Null e s) (Under f g h) = Null e (inr (g, not_statics l m s f h))
  over k l m (Under e f h) (Same g) = subst (λ (x : ImageKind). Goes image k x) g (Under e f h)
  over k l m (Under e f h) (Null g t) = absurd (omega (arith, f, g))
  over k l m (Under e f h) (Under g i j) = Under e i (o.through m.class l.class k.class j h)

  pub goes_over : (k l m : ImageKind) → goes_to image k l ≡ true → goes_to image l m ≡ true → goes_to image k m ≡ true
  goes_over k l m g h = goes_seen image k m (over k l m (goes_view image k l g) (goes_view image l m h))

  -- ---- what a cell has to be

  any_over : (k l : ImageKind) → Goes image k l → (is_object l || is_null l) ≡ true → (is_object k || is_null k) ≡ true
  any_over k l (Same e) h = subst (λ (x : ImageKind). (is_object x || is_null x) ≡ true) (sym e) h
  any_over k l (Null e s) h = or_right (is_object k) (is_null k) (eq-eqb k.kind 5 e)
  any_over k l (Under e f g) h = or_left (is_object k) (is_null k) (eq-eqb k.kind 6 e)

  reference_over : (k l : ImageKind) → Goes image k l → ((is_object l || is_null l) || is_str l) ≡ true →
      ((is_object k || is_null k) || is_str k) ≡ true
  reference_over k l (Same e) h = subst (λ (x : ImageKind). ((is_object x || is_null x) || is_str x) ≡ true) (sym e) h
  reference_over k l (Null e s) h =
      or_left (is_object k || is_null k) (is_str k) (or_right (is_object k) (is_null k) (eq-eqb k.kind 5 e))
  reference_over k l (Under e f g) h =
      or_left (is_object k || is_null k) (is_str k) (or_left (is_object k) (is_null k) (eq-eqb k.kind 6 e))

  pub meets_over : (n : Need) (k l : ImageKind) → goes_to image k l ≡ true → meets image n l ≡ true →
      meets image n k ≡ true
  meets_over (need.Goes x) k l g h = goes_over k l x g h
  meets_over need.AnyObject k l g h = any_over k l (goes_view image k l g) h
  meets_over need.Reference k l g h = reference_over k l (goes_view image k l g) h
  meets_over need.Anything k l g h = refl

  -- ---- lists of kinds

  pub all_go_over : (ks ls ms : List ImageKind) → all_go image ks ls ≡ true → all_go image ls ms ≡ true →
      all_go image ks ms ≡ true
  all_go_over [] [] ms g h = h
  all_go_over [] (l ∷ ls) ms g h = no_truth g
  all_go_over (k ∷ ks) [] ms g h = no_truth g
  all_go_over (k ∷ ks) (l ∷ ls) [] g h = no_truth h
  all_go_over (k ∷ ks) (l ∷ ls) (m ∷ ms) g h =
      let p = and_parts (goes_to image k l) (all_go image ks ls) g in
      let q = and_parts (goes_to image l m) (all_go image ls ms) h in
      and_from (goes_to image k m) (all_go image ks ms) (goes_over k l m p.0 q.0) (all_go_over ks ls ms p.1 q.1)

pub all_go_length : (image : Image) (ks ls : List ImageKind) → all_go image ks ls ≡ true → length ks ≡ length ls
all_go_length image [] [] g = refl
all_go_length image [] (l ∷ ls) g = no_truth g
all_go_length image (k ∷ ks) [] g = no_truth g
all_go_length image (k ∷ ks) (l ∷ ls) g =
    ap suc (all_go_length image ks ls (and_parts (goes_to image k l) (all_go image ks ls) g).1)

pub all_go_append : (image : Image) (ks ls ms ns : List ImageKind) → all_go image ks ls ≡ true →
    all_go image ms ns ≡ true → all_go image (ks ++ ms) (ls ++ ns) ≡ true
all_go_append image [] [] ms ns g h = h
all_go_append image [] (l ∷ ls) ms ns g h = no_truth g
all_go_append image (k ∷ ks) [] ms ns g h = no_truth g
all_go_append image (k ∷ ks) (l ∷ ls) ms ns g h =
    let p = and_parts (goes_to image k l) (all_go image ks ls) g in
    and_from (goes_to image k l) (all_go image (ks ++ ms) (ls ++ ns)) p.0 (all_go_append image ks ls ms ns p.1 h)

pub all_go_take : (image : Image) (n : ℕ) (ks ls : List ImageKind) → all_go image ks ls ≡ true →
    all_go image (take n ks) (take n ls) ≡ true
all_go_take image zero ks ls g = refl
all_go_take image (suc n) [] [] g = refl
all_go_take image (suc n) [] (l ∷ ls) g = no_truth g
all_go_take image (suc n) (k ∷ ks) [] g = no_truth g
all_go_take image (suc n) (k ∷ ks) (l ∷ ls) g =
    let p = and_parts (goes_to image k l) (all_go image ks ls) g in
    and_from (goes_to image k l) (all_go image (take n ks) (take n ls)) p.0 (all_go_take image n ks ls p.1)

pub all_go_drop : (image : Image) (n : ℕ) (ks ls : List ImageKind) → all_go image ks ls ≡ true →
    all_go image (drop n ks) (drop n ls) ≡ true
all_go_drop image zero ks ls g = g
all_go_drop image (suc n) [] [] g = refl
all_go_drop image (suc n) [] (l ∷ ls) g = no_truth g
all_go_drop image (suc n) (k ∷ ks) [] g = no_truth g
all_go_drop image (suc n) (k ∷ ks) (l ∷ ls) g =
    all_go_drop image n ks ls (and_parts (goes_to image k l) (all_go image ks ls) g).1
