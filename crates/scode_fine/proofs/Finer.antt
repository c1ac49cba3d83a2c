-- What fits where kinds are declared fits where finer ones stand: those that go to them.
use Rattle.std.proofs.Common.{◌≡◌, ◌≤◌, ℕ, zero, suc, ◌==◌, ◌&&◌, ◌||◌, not, Bool, true, false, List, [], ◌∷◌, length, take, drop, Option, Some, None, refl, sym, ap, subst, ◌∙◌, arith}
use Rattle.std.specs.Prelude.{is_some, slice_get}
use Rattle.std.specs.Option.{option_map_or}
use Rattle.std.proofs.lemmas.Bool.{and_from, and_left, and_parts, and_right, eq-eqb, not-false, not_from_true}
use Rattle.scode_image.specs.declared.image.Image.{Image}
use Rattle.scode_image.specs.declared.image.ImageKind.{ImageKind}
use Rattle.scode_image.specs.declared.image.ImageMethod.{ImageMethod}
use Rattle.scode_code.specs.CodeRules.{after, after_stack, all_meet, field_missing, fields_of_kind, lacks_buf, lacks_field, locals_after, result_differs, with_kind}
use Rattle.scode_code.specs.Fields.{buf_number}
use Rattle.scode_code.specs.Kinds.{Shape, all_go, goes_to, is_null, object}
use Rattle.scode_code.specs.Tables.{field_number}
use Rattle.scode_code.specs.Wants.{cells_of, constant, loads, meets, needs, needs_of, nothing, result_cells, wants_of}
use Rattle.scode_code.specs.declared.needs.Effect.{Effect}
use Rattle.scode_code.specs.declared.needs.Need.{Need}
use Rattle.scode_code.specs.declared.needs.Puts.{Puts}
use Rattle.scode_code.specs.declared.needs.Puts.TheVariants as puts
use Rattle.scode_code.proofs.Verifies.{all_go_to_themselves, goes_to_itself}
use Rattle.scode_whole.proofs.Truths.{no_truth}
use Rattle.scode_ops.specs.declared.op.Op.{Op}
use Rattle.scode_ops.specs.declared.op.Op.TheVariants as op
use Rattle.scode_fine.proofs.Goings.{Goes, Null, Ordered, Same, Under, all_go_append, all_go_drop, all_go_take, goes_over, goes_view, meets_over}
use Rattle.scode_fine.proofs.Walks.{has_all}

-- ---- what an instruction needs

loads_none : (image : Image) (o : Option ImageKind) → needs_of image (option_map_or (λ (k : ImageKind). constant k) o nothing).takes ≡ []
loads_none image None = refl
loads_none image (Some k) = refl

-- by the locals nothing is needed
pub needs_same : (image : Image) (s t : Shape) (i : Op) → needs image s i ≡ needs image t i
needs_same image s t (op.Load n) = loads_none image (slice_get s.locals n) ∙ sym (loads_none image (slice_get t.locals n))
needs_same image s t other = refl

pub has_many : (image : Image) (ns : List Need) (ks : List ImageKind) → has_all image ns ks ≡ true → length ns ≤ length ks
has_many image [] ks h = omega arith
has_many image (n ∷ ns) [] h = no_truth h
has_many image (n ∷ ns) (k ∷ ks) h =
    let rest = has_many image ns ks (and_parts (meets image n k) (has_all image ns ks) h).1 in omega (arith, rest)

pub has_meet : (image : Image) (ns : List Need) (ks : List ImageKind) → has_all image ns ks ≡ true → all_meet image ns ks ≡ true
has_meet image [] ks h = refl
has_meet image (n ∷ ns) [] h = no_truth h
has_meet image (n ∷ ns) (k ∷ ks) h =
    let p = and_parts (meets image n k) (has_all image ns ks) h in
    and_from (meets image n k) (all_meet image ns ks) p.0 (has_meet image ns ks p.1)

module _ (image : Image) (o : Ordered image) where
  pub has_over : (ns : List Need) (ks ls : List ImageKind) → all_go image ks ls ≡ true → has_all image ns ls ≡ true →
      has_all image ns ks ≡ true
  has_over [] ks ls g h = refl
  has_over (n ∷ ns) [] [] g h = h
  has_over (n ∷ ns) [] (l ∷ ls) g h = no_truth g
  has_over (n ∷ ns) (k ∷ ks) [] g h = no_truth g
  has_over (n ∷ ns) (k ∷ ks) (l ∷ ls) g h =
      let p = and_parts (goes_to image k l) (all_go image ks ls) g in
      let q = and_parts (meets image n l) (has_all image ns ls) h in
      and_from (meets image n k) (has_all image ns ks) (meets_over image o n k l p.0 q.0) (has_over ns ks ls p.1 q.1)

  -- ---- what an instruction leaves

  puts_over : (p : Puts) (ks ls : List ImageKind) → all_go image ks ls ≡ true →
      all_go image (cells_of image p ks) (cells_of image p ls) ≡ true
  puts_over puts.Nothing ks ls g = refl
  puts_over (puts.One k) ks ls g = and_from (goes_to image k k) true (goes_to_itself image k) refl
  puts_over puts.Twice ks ls g = all_go_append image ks ls ks ls g g
  puts_over (puts.Answer n) ks ls g =
      all_go_to_themselves image (option_map_or (λ (m : ImageMethod). result_cells m.result) (slice_get image.methods n) [])

  effect_over : (e : Effect) (ks ls : List ImageKind) → all_go image ks ls ≡ true →
      all_go image (after_stack image e ks) (after_stack image e ls) ≡ true
  effect_over e ks ls g =
      let n = length (needs_of image e.takes) in
      all_go_append image (cells_of image e.puts (take n ks)) (cells_of image e.puts (take n ls)) (drop n ks) (drop n ls)
      (puts_over e.puts (take n ks) (take n ls) (all_go_take image n ks ls g)) (all_go_drop image n ks ls g)

  loads_over : (n : ℕ) (ls ms ks js : List ImageKind) → all_go image ls ms ≡ true → all_go image ks js ≡ true →
      all_go image (after_stack image (loads ls n) ks) (after_stack image (loads ms n) js) ≡ true
  loads_over n [] [] ks js g h = effect_over nothing ks js h
  loads_over n [] (m ∷ ms) ks js g h = no_truth g
  loads_over n (l ∷ ls) [] ks js g h = no_truth g
  loads_over zero (l ∷ ls) (m ∷ ms) ks js g h =
      let p = and_parts (goes_to image l m) (all_go image ls ms) g in and_from (goes_to image l m) (all_go image ks js) p.0 h
  loads_over (suc n) (l ∷ ls) (m ∷ ms) ks js g h =
      loads_over n ls ms ks js (and_parts (goes_to image l m) (all_go image ls ms) g).1 h

  pub stack_over : (i : Op) (s t : Shape) → all_go image s.locals t.locals ≡ true → all_go image s.stack t.stack ≡ true →
      all_go image (after image s i).stack (after image t i).stack ≡ true
  stack_over (op.Load n) s t g h = loads_over n s.locals t.locals s.stack t.stack g h
  stack_over other s t g h = effect_over (wants_of image t.locals other) s.stack t.stack h

  with_over : (n : ℕ) (ls ms : List ImageKind) (k j : ImageKind) → all_go image ls ms ≡ true → goes_to image k j ≡ true →
      all_go image (with_kind ls n k) (with_kind ms n j) ≡ true
  with_over n [] [] k j g h = refl
  with_over n [] (m ∷ ms) k j g h = no_truth g
  with_over n (l ∷ ls) [] k j g h = no_truth g
  with_over zero (l ∷ ls) (m ∷ ms) k j g h =
      and_from (goes_to image k j) (all_go image ls ms) h (and_parts (goes_to image l m) (all_go image ls ms) g).1
  with_over (suc n) (l ∷ ls) (m ∷ ms) k j g h =
      let p = and_parts (goes_to image l m) (all_go image ls ms) g in
      and_from (goes_to image l m) (all_go image (with_kind ls n k) (with_kind ms n j)) p.0 (with_over n ls ms k j p.1 h)

  store_over : (n : ℕ) (ls ms ks js : List ImageKind) → all_go image ls ms ≡ true → all_go image ks js ≡ true →
      all_go image (option_map_or (λ (k : ImageKind). with_kind ls n k) (slice_get ks 0) ls)
      (option_map_or (λ (k : ImageKind). with_kind ms n k) (slice_get js 0) ms) ≡ true
  store_over n ls ms [] [] g h = g
  store_over n ls ms [] (j ∷ js) g h = no_truth h
  store_over n ls ms (k ∷ ks) [] g h = no_truth h
  store_over n ls ms (k ∷ ks) (j ∷ js) g h =
      with_over n ls ms k j g (and_parts (goes_to image k j) (all_go image ks js) h).0

  pub locals_over : (i : Op) (s t : Shape) → all_go image s.locals t.locals ≡ true → all_go image s.stack t.stack ≡ true →
      all_go image (locals_after s i) (locals_after t i) ≡ true
  locals_over (op.Store n) s t g h = store_over n s.locals t.locals s.stack t.stack g h
  locals_over other s t g h = g

  -- ---- fields

  has_it : (a b : Bool) → a ≡ false → (not a && not b) ≡ false → b ≡ true
  has_it true b e h = no_truth (sym e)
  has_it false true e h = refl
  has_it false false e h = no_truth (sym h)

  object_is : (l : ImageKind) → l.kind ≡ 6 → l ≡ object l.class
  object_is l e = ap (λ (n : ℕ). (let k : ImageKind = record { kind = n; class = l.class } in k)) e

  no_null : (l : ImageKind) → l.kind ≡ 6 → is_null l ≡ false
  no_null l e = subst (λ (n : ℕ). (n == 5) ≡ false) (sym e) refl

  field_there : (k l : ImageKind) (form offset n : ℕ) → Goes image k l → lacks_field image (Some l) form offset n ≡ false →
      lacks_field image (Some k) form offset n ≡ false
  field_there k l form offset n (Same e) h = subst (λ (x : ImageKind). lacks_field image (Some x) form offset n ≡ false) (sym e) h
  field_there k l form offset n (Null e s) h =
      and_left (not (is_null k)) (not (is_some (field_number (fields_of_kind image k) form offset n)))
      (not_from_true (is_null k) (eq-eqb k.kind 5 e))
  field_there k l form offset n (Under e f g) h =
      let high = has_it (is_null l) (is_some (field_number (fields_of_kind image l) form offset n)) (no_null l f) h in
      let at_object : is_some (field_number (fields_of_kind image (object l.class)) form offset n) ≡ true =
      subst (λ (x : ImageKind). is_some (field_number (fields_of_kind image x) form offset n) ≡ true) (object_is l f) high in
      let low : is_some (field_number (fields_of_kind image k) form offset n) ≡ true =
      subst (λ (x : ImageKind). is_some (field_number (fields_of_kind image x) form offset n) ≡ true) (sym (object_is k e))
      (o.fields l.class k.class form offset n g at_object) in
      and_right (not (is_null k)) (not (is_some (field_number (fields_of_kind image k) form offset n)))
      (not_from_true (is_some (field_number (fields_of_kind image k) form offset n)) low)

  buf_there : (k l : ImageKind) (offset : ℕ) → Goes image k l → lacks_buf image (Some l) offset ≡ false →
      lacks_buf image (Some k) offset ≡ false
  buf_there k l offset (Same e) h = subst (λ (x : ImageKind). lacks_buf image (Some x) offset ≡ false) (sym e) h
  buf_there k l offset (Null e s) h =
      and_left (not (is_null k)) (not (is_some (buf_number (fields_of_kind image k) offset)))
      (not_from_true (is_null k) (eq-eqb k.kind 5 e))
  buf_there k l offset (Under e f g) h =
      let high = has_it (is_null l) (is_some (buf_number (fields_of_kind image l) offset)) (no_null l f) h in
      let at_object : is_some (buf_number (fields_of_kind image (object l.class)) offset) ≡ true =
      subst (λ (x : ImageKind). is_some (buf_number (fields_of_kind image x) offset) ≡ true) (object_is l f) high in
      let low : is_some (buf_number (fields_of_kind image k) offset) ≡ true =
      subst (λ (x : ImageKind). is_some (buf_number (fields_of_kind image x) offset) ≡ true) (sym (object_is k e))
      (o.bufs l.class k.class offset g at_object) in
      and_right (not (is_null k)) (not (is_some (buf_number (fields_of_kind image k) offset)))
      (not_from_true (is_some (buf_number (fields_of_kind image k) offset)) low)

  -- on the stack, so deep
  field_over : (d : ℕ) (ks ls : List ImageKind) (form offset n : ℕ) → all_go image ks ls ≡ true →
      lacks_field image (slice_get ls d) form offset n ≡ false → lacks_field image (slice_get ks d) form offset n ≡ false
  field_over d [] [] form offset n g h = refl
  field_over d [] (l ∷ ls) form offset n g h = no_truth g
  field_over d (k ∷ ks) [] form offset n g h = no_truth g
  field_over zero (k ∷ ks) (l ∷ ls) form offset n g h =
      field_there k l form offset n (goes_view image k l (and_parts (goes_to image k l) (all_go image ks ls) g).0) h
  field_over (suc d) (k ∷ ks) (l ∷ ls) form offset n g h =
      field_over d ks ls form offset n (and_parts (goes_to image k l) (all_go image ks ls) g).1 h

  buf_over : (ks ls : List ImageKind) (offset : ℕ) → all_go image ks ls ≡ true →
      lacks_buf image (slice_get ls 0) offset ≡ false → lacks_buf image (slice_get ks 0) offset ≡ false
  buf_over [] [] offset g h = refl
  buf_over [] (l ∷ ls) offset g h = no_truth g
  buf_over (k ∷ ks) [] offset g h = no_truth g
  buf_over (k ∷ ks) (l ∷ ls) offset g h =
      buf_there k l offset (goes_view image k l (and_parts (goes_to image k l) (all_go image ks ls) g).0) h

  pub fields_over : (i : Op) (ks ls : List ImageKind) → all_go image ks ls ≡ true → field_missing image ls i ≡ false →
      field_missing image ks i ≡ false
  fields_over (op.GetBool offset) ks ls g h = field_over 0 ks ls 1 offset 0 g h
  fields_over (op.GetByte offset) ks ls g h = field_over 0 ks ls 2 offset 0 g h
  fields_over (op.GetShort offset) ks ls g h = field_over 0 ks ls 3 offset 0 g h
  fields_over (op.GetInt offset) ks ls g h = field_over 0 ks ls 4 offset 0 g h
  fields_over (op.GetLong offset) ks ls g h = field_over 0 ks ls 5 offset 0 g h
  fields_over (op.PutBool offset) ks ls g h = field_over 1 ks ls 1 offset 0 g h
  fields_over (op.PutByte offset) ks ls g h = field_over 1 ks ls 2 offset 0 g h
  fields_over (op.PutShort offset) ks ls g h = field_over 1 ks ls 3 offset 0 g h
  fields_over (op.PutInt offset) ks ls g h = field_over 1 ks ls 4 offset 0 g h
  fields_over (op.PutLong offset) ks ls g h = field_over 1 ks ls 5 offset 0 g h
  fields_over (op.Inner offset class) ks ls g h = field_over 0 ks ls 8 offset class g h
  fields_over (op.Str offset size) ks ls g h = field_over 0 ks ls 6 offset size g h
  fields_over (op.BufSize offset) ks ls g h = buf_over ks ls offset g h
  fields_over (op.BufGet offset capacity) ks ls g h = field_over 1 ks ls 7 offset capacity g h
  fields_over (op.ArrayGetBool offset count) ks ls g h = field_over 1 ks ls 9 offset count g h
  fields_over (op.ArrayGetByte offset count) ks ls g h = field_over 1 ks ls 10 offset count g h
  fields_over (op.ArrayGetShort offset count) ks ls g h = field_over 1 ks ls 11 offset count g h
  fields_over (op.ArrayGetInt offset count) ks ls g h = field_over 1 ks ls 12 offset count g h
  fields_over (op.ArrayGetLong offset count) ks ls g h = field_over 1 ks ls 13 offset count g h
  fields_over (op.ArrayPutBool offset count) ks ls g h = field_over 2 ks ls 9 offset count g h
  fields_over (op.ArrayPutByte offset count) ks ls g h = field_over 2 ks ls 10 offset count g h
  fields_over (op.ArrayPutShort offset count) ks ls g h = field_over 2 ks ls 11 offset count g h
  fields_over (op.ArrayPutInt offset count) ks ls g h = field_over 2 ks ls 12 offset count g h
  fields_over (op.ArrayPutLong offset count) ks ls g h = field_over 2 ks ls 13 offset count g h
  fields_over other ks ls g h = refl

  -- ---- results

  returned : (m : ImageMethod) (ks ls : List ImageKind) (b : Bool) → all_go image ks ls ≡ true →
      (b || not (option_map_or (λ (k : ImageKind). goes_to image k m.result) (slice_get ls 0) true)) ≡ false →
      (b || not (option_map_or (λ (k : ImageKind). goes_to image k m.result) (slice_get ks 0) true)) ≡ false
  returned m ks ls true g h = h
  returned m [] [] false g h = h
  returned m [] (l ∷ ls) false g h = no_truth g
  returned m (k ∷ ks) [] false g h = no_truth g
  returned m (k ∷ ks) (l ∷ ls) false g h =
      ap not (goes_over image o k l m.result (and_parts (goes_to image k l) (all_go image ks ls) g).0 (not-false (goes_to image l m.result) h))

  pub result_over : (i : Op) (m : ImageMethod) (s t : Shape) → all_go image s.stack t.stack ≡ true →
      result_differs image m t i ≡ false → result_differs image m s i ≡ false
  result_over op.ReturnValue m s t g h = returned m s.stack t.stack (m.result.kind == 0) g h
  result_over op.Return m s t g h = h
  result_over other m s t g h = refl
