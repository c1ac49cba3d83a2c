-- Fields of objects, and elements of their arrays.
use Rattle.std.proofs.Common.{◌≡◌, ◌<◌, ◌≤◌, ◌==◌, ◌&&◌, ◌||◌, not, nat_le, nat_lt, ℕ, Bool, true, false, if◌then◌else◌, List, [], ◌∷◌, ◌++◌, length, drop, Option, Some, None, refl, sym, ap, subst, ◌∙◌, arith, inl, inr, ◌⊎◌}
use Rattle.std.specs.Prelude.{is_some, position, slice_get, slice_index, pos}
use Rattle.std.specs.Option.{option_map}
use Rattle.std.proofs.lemmas.Option.{slice_get_within}
use Rattle.std.proofs.lemmas.Bool.{and_parts, eqb-true, leb-true, ltb-true}
use Rattle.sed_value.specs.declared.slot_type.Primitive.{Primitive}
use Rattle.sed_value.specs.declared.slot_type.Primitive.TheVariants as prim
use Rattle.sed_value.specs.Value.{are_bytes}
use Rattle.sed_typed.specs.declared.kind.Kind.TheVariants as kind
use Rattle.sed_typed.specs.declared.program.FieldForm.{FieldForm}
use Rattle.sed_typed.specs.declared.program.FieldForm.TheVariants as form
use Rattle.sed_typed.specs.Contents.{Path}
use Rattle.sed_typed.specs.Kinds.{read_kind}
use Rattle.sed_typed.specs.Objects.{class_in, form_class}
use Rattle.sed_engine.specs.Places.{element_spot}
use Rattle.sed_engine.specs.State.{State, gives, answers, then_do}
use Rattle.sed_engine.specs.Steps.{inside, read_bytes, read_spot, write_spot}
use Rattle.sed_engine.specs.Stops.{there}
use Rattle.sed_engine.specs.Texts.{index_of}
use Rattle.sed_engine.specs.Values.{Val, Nothing, Truth, Int, Long, Null, At, Literal, Base, Component, Statics, Spot, read_as, spot_of, stored_as}
use Rattle.sed_engine.proofs.Below.{Below, Itself, Based, IsPassed, below_of, position_passes}
use Rattle.sed_engine.proofs.CallSteps.{weaker}
use Rattle.sed_engine.proofs.Kinded as language
use Rattle.sed_engine.proofs.Positions.{found_before}
use Rattle.sed_engine.proofs.Ranges.{Sound, small}
use Rattle.sed_engine.proofs.Ready.{Holds, then_holds, gives_it, answers_it}
use Rattle.scode_ops.specs.declared.op.Op.{Op}
use Rattle.scode_image.specs.declared.image.ImageField.{ImageField}
use Rattle.scode_image.specs.declared.image.ImageKind.{ImageKind}
use Rattle.scode_code.specs.CodeRules.{fields_of_kind, is_end, lacks_buf, lacks_field}
use Rattle.scode_code.specs.Effect.{array_get, array_number, array_put, buf_get, buf_size, cell_for, form_number, get, int_cell, no_push, part, push, put}
use Rattle.scode_code.specs.Fields.{Setting, buf_at, class_of, field_at, fields_at, fields_from}
use Rattle.scode_code.specs.Kinds.{int, is_null, is_object, is_statics, object, str}
use Rattle.scode_code.specs.Machine.{Move, Onward}
use Rattle.scode_code.specs.Tables.{class_fields, form_of, is_field}
use Rattle.scode_code.specs.declared.needs.Need.TheVariants.{AnyObject, Goes}
use Rattle.scode_whole.proofs.Bases.{follows}
use Rattle.scode_whole.proofs.Kits.{classes_most}
use Rattle.scode_whole.proofs.Truths.{either, no_truth, no_value, three}
use Rattle.scode_sound.specs.Cells.{Block, Concrete, HasKind, LeadsTo, Object, Text, class_from, form_from}
use Rattle.scode_sound.proofs.Rules.{Tables}
use Rattle.scode_sound.proofs.Cells.{an_object, classes_of, goes}
use Rattle.scode_sound.proofs.Spots.{form_at_is, form_further, class_further, form_in_object, static_form, static_class, good}
use Rattle.sed_engine.proofs.StrBytes.{byte_at}
use Rattle.scode_sound.proofs.Members.{fields_grow}
use Rattle.scode_sound.proofs.Keeping.{Now, load_holds, store_holds, read_buf_holds}
use Rattle.scode_sound.proofs.Plain.{IsOf, cell_is, image_kind, nothing, plain_read, sound_from, to_plain}
use Rattle.scode_sound.proofs.Stacks.{Cell, Lands, Takes, one_off, two_off, three_off, push_it, no_push_it}
use Rattle.scode_sound.proofs.Booleans.{not_none}

-- what stands at a place: a form, and an object's class
pub record StandsAt (w : Setting) (spot : Spot) (f : FieldForm) : Type 0 where
  pub form_is : form_from w spot.base spot.path ≡ Some f
  pub class_is : class_from w spot.base spot.path ≡ form_class f

-- a field that passes a test stands at its place in an object
record FieldThere (w : Setting) (spot : Spot) (test : ImageField → Bool) : Type 0 where
  number : ℕ
  field : ImageField
  found : position test (fields_at w spot) ≡ Some number
  passes : test field ≡ true
  stands : StandsAt w (inside spot number) (form_of field)

pub class_is : (w : Setting) (base : Base) (path : Path)
    → class_of w (record { base = base; path = path }) ≡ class_from w base path
class_is w Component path = refl
class_is w Statics path = refl

fields_are : (w : Setting) (base : Base) (path : Path) (at : ℕ) → class_from w base path ≡ Some at
    → fields_at w (record { base = base; path = path }) ≡ class_fields w.image at
fields_are w Component path at e =
    ap (λ (o : Option ℕ). fields_from w Component path o) (class_is w Component path ∙ e)
fields_are w Statics [] at e = no_value at e
fields_are w Statics (j ∷ path) at e =
    ap (λ (o : Option ℕ). fields_from w Statics (j ∷ path) o) (class_is w Statics (j ∷ path) ∙ e)

same_forms : (form offset n : ℕ) (f : ImageField) → is_field form offset n f ≡ true
    → form_of f ≡ form_of (record { offset = offset; form = form; n = n })
same_forms form offset n f h =
    let p = three (f.form == form) (f.offset == offset) (f.n == n) h in
    ap (λ (k : ℕ). form_of (record { offset = f.offset; form = k; n = f.n })) (eqb-true f.form form p.0)
    ∙ ap (λ (k : ℕ). form_of (record { offset = k; form = form; n = f.n })) (eqb-true f.offset offset p.1)
    ∙ ap (λ (k : ℕ). form_of (record { offset = offset; form = form; n = k })) (eqb-true f.n n p.2)

same_buf : (offset : ℕ) (f : ImageField) → ((f.form == 7) && (f.offset == offset)) ≡ true → form_of f ≡ form.Buf f.n
same_buf offset f h =
    ap (λ (k : ℕ). form_of (record { offset = f.offset; form = k; n = f.n }))
    (eqb-true f.form 7 (and_parts (f.form == 7) (f.offset == offset) h).0)

form_prim : (p : Primitive) (offset : ℕ)
    → form_of (record { offset = offset; form = form_number p; n = 0 }) ≡ form.Prim p
form_prim prim.Bool offset = refl
form_prim prim.Byte offset = refl
form_prim prim.Short offset = refl
form_prim prim.Int offset = refl
form_prim prim.Long offset = refl

form_array : (p : Primitive) (offset n : ℕ)
    → form_of (record { offset = offset; form = array_number p; n = n }) ≡ form.Array p n
form_array prim.Bool offset n = refl
form_array prim.Byte offset n = refl
form_array prim.Short offset n = refl
form_array prim.Int offset n = refl
form_array prim.Long offset n = refl

module _ (w : Setting) (is : Tables w.image) where
  in_object : (test : ImageField → Bool) (k : ImageKind) (base : Base) (path : Path) (at i : ℕ)
      → (rest : List ImageField) × (class_fields w.image at ≡ class_fields w.image k.class ++ rest)
      → class_from w base path ≡ Some at → position test (class_fields w.image k.class) ≡ Some i
      → FieldThere w (record { base = base; path = path }) test
  in_object test k base path at i grown e found =
      let own : position test (class_fields w.image at) ≡ Some i =
      ap (position test) grown.1 ∙ found_before test (class_fields w.image k.class) grown.0 i found in
      let p : IsPassed test (class_fields w.image at) i = position_passes test (class_fields w.image at) i own in
      record {
        number = i;
        field = p.value;
        found = ap (position test) (fields_are w base path at e) ∙ own;
        passes = p.passes;
        stands = record {
          form_is = form_in_object w base path i at e ∙ form_at_is (class_fields w.image at) i
              ∙ ap (option_map form_of) p.is;
          class_is = class_further w base path i at e ∙ ap (class_in form_of) p.is;
        };
      }

  in_statics : (test : ImageField → Bool) (i : ℕ) → position test w.image.static_fields ≡ Some i
      → FieldThere w (record { base = Statics; path = [] }) test
  in_statics test i found =
      let p : IsPassed test w.image.static_fields i = position_passes test w.image.static_fields i found in
      record {
        number = i;
        field = p.value;
        found = found;
        passes = p.passes;
        stands = record { form_is = static_form w i p.value p.is; class_is = static_class w i p.value p.is };
      }

  -- a class below another is not the smaller one
  low_above : (above class : ℕ) → class < 0xffff → Below (classes_of w.image) above class → above < 0xffff
  low_above above class low Itself = low
  low_above above class low (Based base c b rest) =
      let before : base < class = (follows w.image is.whole class base b).before in
      low_above above base (omega (arith, before, low)) rest

  low_class : (class at : ℕ) → Concrete w.image at → Below (classes_of w.image) class at → class < 0xffff
  low_class class at c b =
      let inside = slice_get_within w.image.classes at c.info c.stands in
      let few = classes_most w.image is.whole in
      low_above class at (omega (arith, inside, few)) b

  block_is : (k : ImageKind) → k.kind ≡ 6 → k.class ≡ 0xffff → is_statics k ≡ true
  block_is k e c = rw (e, c) refl

  field_there : (test : ImageField → Bool) (k : ImageKind) (spot : Spot) (i : ℕ) → k.kind ≡ 6 → LeadsTo w k spot
      → position test (fields_of_kind w.image k) ≡ Some i → FieldThere w spot test
  field_there test k spot i e h found = by_statics (is_statics k) refl h found
    where
      by_statics : (b : Bool) → is_statics k ≡ b → LeadsTo w k spot
          → position test (if b then w.image.static_fields else class_fields w.image k.class) ≡ Some i
          → FieldThere w spot test
      by_statics b s (Text f n x) found = absurd (omega (arith, e, f))
      by_statics true s (Block f c same) found =
          subst (λ (x : Spot). FieldThere w x test) (sym same) (in_statics test i found)
      by_statics false s (Block f c same) found = no_truth (sym s ∙ block_is k f c)
      by_statics true s (Object f at x c b) found =
          let low = low_class k.class at c (below_of (classes_of w.image) k.class at b) in
          let class_is : k.class ≡ 0xffff =
          eqb-true k.class 0xffff (and_parts (is_object k) (k.class == 0xffff) s).1 in
          absurd (omega (arith, low, class_is))
      by_statics false s (Object f at x c b) found =
          in_object test k spot.base spot.path at i
          (fields_grow w.image is k.class at (below_of (classes_of w.image) k.class at b)) x found

lacks_nothing : (a b : Bool) → a ≡ false → (not a && not b) ≡ false → b ≡ true
lacks_nothing true b e h = no_truth (sym e)
lacks_nothing false true e h = refl
lacks_nothing false false e h = no_truth (sym h)

not_null : (k : ImageKind) → k.kind ≡ 6 → is_null k ≡ false
not_null k e = rw e refl

sort_of : (k : ImageKind) → (is_object k || is_null k) ≡ true → (k.kind ≡ 6) ⊎ (k.kind ≡ 5)
sort_of k h = go (either (is_object k) (is_null k) h)
  where
    go : (is_object k ≡ true) ⊎ (is_null k ≡ true) → (k.kind ≡ 6) ⊎ (k.kind ≡ 5)
    go (inl e) = inl (eqb-true k.kind 6 e)
    go (inr e) = inr (eqb-true k.kind 5 e)

high_sort : (k : ImageKind) → (is_object k || is_null k) ≡ true → 5 ≤ k.kind
high_sort k h = go (sort_of k h)
  where
    go : (k.kind ≡ 6) ⊎ (k.kind ≡ 5) → 5 ≤ k.kind
    go (inl e) = omega (arith, e)
    go (inr e) = omega (arith, e)

no_null : (w : Setting) (k : ImageKind) (spot : Spot) → k.kind ≡ 5 → LeadsTo w k spot → ⊥
no_null w k spot e (Text f n x) = omega (arith, e, f)
no_null w k spot e (Block f c s) = omega (arith, e, f)
no_null w k spot e (Object f at c d b) = omega (arith, e, f)

some_is : {X : Type 0} (F : Option X → Bool) (o : Option X) (x : X) → o ≡ Some x → F o ≡ false → F (Some x) ≡ false
some_is F o x e h = ap F (sym e) ∙ h

module _ (w : Setting) (is : Tables w.image) (own : Concrete w.image w.class) (given turns : ℕ)
    (locals : List Val) where
  abbrev pub G : State → Type 0
  G s = Now w given turns locals s

  abbrev Has : ImageKind → Val → Type 0
  Has k v = HasKind w k v

  -- null traps; else the field is there
  abbrev At_field : (ImageField → Bool) → Spot → Type 0
  At_field test spot = (f : ImageField) × (test f ≡ true) × StandsAt w spot (form_of f)

  reached : (test : ImageField → Bool) (spot : Spot) → FieldThere w spot test
      → Holds G Spot (At_field test)
      (λ s. then_do (answers (there (position test (fields_at w spot))) s) (λ i s1. gives (inside spot i) s1))
  reached test spot t = record {
    holds = λ s g.
        subst (λ (o : Option ℕ).
        G (then_do (answers (there o) s) (λ i s1. gives (inside spot i) s1)).state
        × Sound (At_field test) (then_do (answers (there o) s) (λ i s1. gives (inside spot i) s1)).result)
        (sym t.found) (g, (t.field, t.passes, t.stands));
  }

  reaches : (test : ImageField → Bool) (k : ImageKind) (v : Val) → (is_object k || is_null k) ≡ true
      → (not (is_null k) && not (is_some (position test (fields_of_kind w.image k)))) ≡ false → Has k v
      → Holds G Spot (At_field test)
      (λ s. then_do (answers (spot_of v) s) (λ spot s1.
      then_do (answers (there (position test (fields_at w spot))) s1) (λ i s2. gives (inside spot i) s2)))
  reaches test k Nothing o l h = absurd h
  reaches test k (Truth t) o l h = let high = high_sort k o in absurd (omega (arith, high, h.0))
  reaches test k (Int n) o l h = let high = high_sort k o in absurd (omega (arith, high, h.0))
  reaches test k (Long n) o l h = let high = high_sort k o in absurd (omega (arith, high, h.0))
  reaches test k Null o l h = record { holds = λ s g. (g, tt) }
  reaches test k (At spot) o l h = by_sort (sort_of k o)
    where
      by_sort : (k.kind ≡ 6) ⊎ (k.kind ≡ 5)
          → Holds G Spot (At_field test)
          (λ s. then_do (answers (there (position test (fields_at w spot))) s) (λ i s1. gives (inside spot i) s1))
      by_sort (inl e) =
          let some = lacks_nothing (is_null k) (is_some (position test (fields_of_kind w.image k))) (not_null k e) l in
          let i = not_none (position test (fields_of_kind w.image k)) some in
          reached test spot (field_there w is test k spot i.0 e h i.1)
      by_sort (inr e) = absurd (no_null w k spot e h)
  reaches test k (Literal n) o l h = let high = high_sort k o in absurd (omega (arith, high, h.0))

  pub object_field : (o : Option ImageKind) (v : Val) (form offset n : ℕ) → Cell w AnyObject o v
      → lacks_field w.image o form offset n ≡ false
      → Holds G Spot (λ spot. StandsAt w spot (form_of (record { offset = offset; form = form; n = n })))
      (field_at w v form offset n)
  object_field o v form offset n c l =
      weaker (reaches (is_field form offset n) c.kind v c.meets_it
      (some_is (λ (x : Option ImageKind). lacks_field w.image x form offset n) o c.kind c.is l) c.has)
      (λ spot p. subst (λ (f : FieldForm). StandsAt w spot f) (same_forms form offset n p.0 p.1) p.2)

  pub object_buf : (o : Option ImageKind) (v : Val) (offset : ℕ) → Cell w AnyObject o v
      → lacks_buf w.image o offset ≡ false
      → Holds G Spot (λ spot. (n : ℕ) × StandsAt w spot (form.Buf n)) (buf_at w v offset)
  object_buf o v offset c l =
      weaker (reaches (λ f. (f.form == 7) && (f.offset == offset)) c.kind v c.meets_it
      (some_is (λ (x : Option ImageKind). lacks_buf w.image x offset) o c.kind c.is l) c.has)
      (λ spot p. (p.0.n, subst (λ (f : FieldForm). StandsAt w spot f) (same_buf offset p.0 p.1) p.2))

  -- ---- reads and writes

  read_it : (spot : Spot) (p : Primitive) → form_from w spot.base spot.path ≡ Some (form.Prim p)
      → Holds G Val (Has (image_kind (read_kind p))) (read_spot spot)
  read_it spot p e =
      then_holds (load_holds w is own given turns locals spot (form.Prim p) e tt)
      (λ v k. answers_it (read_as v)
      (sound_from w (read_kind p) (read_as v) (plain_read p) (language.read_is nothing 0 p v k)))

  write_it : (spot : Spot) (p : Primitive) (v : Val) → form_from w spot.base spot.path ≡ Some (form.Prim p)
      → IsOf (read_kind p) v → Holds G Val (IsOf (read_kind p)) (write_spot p spot v)
  write_it spot p v e h =
      then_holds (answers_it (stored_as p v) (language.stored_is nothing 0 p v h))
      (λ new k. then_holds (store_holds w is own given turns locals spot (form.Prim p) new e tt tt k)
      (λ _ _. answers_it (read_as new) (language.read_is nothing 0 p new k)))

  -- a cell that goes to the kind of a field, and an int
  pub field_cell : (p : Primitive) (o : Option ImageKind) (v : Val) → Cell w (Goes (image_kind (read_kind p))) o v
      → Holds G Val (IsOf (read_kind p)) (answers (cell_for p v))
  field_cell p o v c =
      answers_it (cell_for p v)
      (cell_is p v (to_plain w (read_kind p) v (plain_read p)
      (goes w is c.kind (image_kind (read_kind p)) v c.meets_it c.has)))

  pub index_cell : (o : Option ImageKind) (v : Val) → Cell w (Goes int) o v
      → Holds G Val (IsOf kind.Int) (answers (int_cell v))
  index_cell o v c = field_cell prim.Int o v c

  element : (spot : Spot) (p : Primitive) (n i : ℕ) → form_from w spot.base spot.path ≡ Some (form.Array p n)
      → nat_lt i n ≡ true → form_from w spot.base (spot.path ++ i ∷ []) ≡ Some (form.Prim p)
  element spot p n i e less =
      form_further w spot.base spot.path i (form.Array p n) e
      ∙ ap (λ (b : Bool). if b then Some (form.Prim p) else None) less

  element_it : (p : Primitive) (n : ℕ) (spot : Spot) (index : Val)
      → form_from w spot.base spot.path ≡ Some (form.Array p n) → IsOf kind.Int index
      → Holds G Spot (λ at. form_from w at.base at.path ≡ Some (form.Prim p)) (element_spot n spot index)
  element_it p n spot index e x =
      then_holds (answers_it (index_of n index) (language.index_is nothing 0 n index x))
      (λ i less. gives_it (inside spot i) (element spot p n i e less))

  pub get_it : (p : Primitive) (offset : ℕ) (i : Op) (ks : List ImageKind) (stack : List Val) → is_end i ≡ false
      → Takes w (AnyObject ∷ []) ks stack → lacks_field w.image (slice_get ks 0) (form_number p) offset 0 ≡ false
      → Holds G Move (Lands w i (image_kind (read_kind p) ∷ drop 1 ks)) (get w p offset stack)
  get_it p offset i ks stack on t l =
      one_off w G (λ ls. Lands w i (image_kind (read_kind p) ∷ ls)) AnyObject ks stack
      (λ object rest s1. then_do (field_at w object (form_number p) offset 0 s1)
      (λ spot s2. push rest (read_spot spot s2))) t
      (λ v ls rest c fit.
      then_holds (object_field (slice_get ks 0) v (form_number p) offset 0 c l)
      (λ spot s. push_it w G i (image_kind (read_kind p)) ls rest (read_spot spot) on fit
      (read_it spot p (s.form_is ∙ ap (λ (f : FieldForm). Some f) (form_prim p offset)))))

  pub put_it : (p : Primitive) (offset : ℕ) (i : Op) (ks : List ImageKind) (stack : List Val) → is_end i ≡ false
      → Takes w (Goes (image_kind (read_kind p)) ∷ AnyObject ∷ []) ks stack
      → lacks_field w.image (slice_get ks 1) (form_number p) offset 0 ≡ false
      → Holds G Move (Lands w i (drop 2 ks)) (put w p offset stack)
  put_it p offset i ks stack on t l =
      two_off w G (λ ls. Lands w i ls) (Goes (image_kind (read_kind p))) AnyObject ks stack
      (λ object v rest s1. then_do (answers (cell_for p v) s1)
      (λ x s2. then_do (field_at w object (form_number p) offset 0 s2)
      (λ spot s3. no_push rest (write_spot p spot x s3)))) t
      (λ a b ls rest c d fit.
      then_holds (field_cell p (slice_get ks 0) b d)
      (λ x h. then_holds (object_field (slice_get ks 1) a (form_number p) offset 0 c l)
      (λ spot s. no_push_it w G i (IsOf (read_kind p)) ls rest (write_spot p spot x) on fit
      (write_it spot p x (s.form_is ∙ ap (λ (f : FieldForm). Some f) (form_prim p offset)) h))))

  pub array_get_it : (p : Primitive) (offset count : ℕ) (i : Op) (ks : List ImageKind) (stack : List Val)
      → is_end i ≡ false → Takes w (Goes int ∷ AnyObject ∷ []) ks stack
      → lacks_field w.image (slice_get ks 1) (array_number p) offset count ≡ false
      → Holds G Move (Lands w i (image_kind (read_kind p) ∷ drop 2 ks)) (array_get w p offset count stack)
  array_get_it p offset count i ks stack on t l =
      two_off w G (λ ls. Lands w i (image_kind (read_kind p) ∷ ls)) (Goes int) AnyObject ks stack
      (λ object index rest s1. then_do (answers (int_cell index) s1)
      (λ i s2. then_do (field_at w object (array_number p) offset count s2)
      (λ array s3. then_do (element_spot count array i s3) (λ spot s4. push rest (read_spot spot s4))))) t
      (λ a b ls rest c d fit.
      then_holds (index_cell (slice_get ks 0) b d)
      (λ x h. then_holds (object_field (slice_get ks 1) a (array_number p) offset count c l)
      (λ array s. then_holds (element_it p count array x
      (s.form_is ∙ ap (λ (f : FieldForm). Some f) (form_array p offset count)) h)
      (λ spot e. push_it w G i (image_kind (read_kind p)) ls rest (read_spot spot) on fit (read_it spot p e)))))

  pub array_put_it : (p : Primitive) (offset count : ℕ) (i : Op) (ks : List ImageKind) (stack : List Val)
      → is_end i ≡ false → Takes w (Goes (image_kind (read_kind p)) ∷ Goes int ∷ AnyObject ∷ []) ks stack
      → lacks_field w.image (slice_get ks 2) (array_number p) offset count ≡ false
      → Holds G Move (Lands w i (drop 3 ks)) (array_put w p offset count stack)
  array_put_it p offset count i ks stack on t l =
      three_off w G (λ ls. Lands w i ls) (Goes (image_kind (read_kind p))) (Goes int) AnyObject ks stack
      (λ object index v rest s1. then_do (answers (cell_for p v) s1)
      (λ x s2. then_do (answers (int_cell index) s2)
      (λ i s3. then_do (field_at w object (array_number p) offset count s3)
      (λ array s4. then_do (element_spot count array i s4) (λ spot s5. no_push rest (write_spot p spot x s5)))))) t
      (λ a b v ls rest c d e fit.
      then_holds (field_cell p (slice_get ks 0) v e)
      (λ x h. then_holds (index_cell (slice_get ks 1) b d)
      (λ n g. then_holds (object_field (slice_get ks 2) a (array_number p) offset count c l)
      (λ array s. then_holds (element_it p count array n
      (s.form_is ∙ ap (λ (f : FieldForm). Some f) (form_array p offset count)) g)
      (λ spot f. no_push_it w G i (IsOf (read_kind p)) ls rest (write_spot p spot x) on fit (write_it spot p x f h))))))

  -- ---- objects and Strs inside objects

  pub inner_it : (offset class : ℕ) (i : Op) (ks : List ImageKind) (stack : List Val) → is_end i ≡ false
      → Takes w (AnyObject ∷ []) ks stack → lacks_field w.image (slice_get ks 0) 8 offset class ≡ false
      → Holds G Move (Lands w i (object class ∷ drop 1 ks)) (part w 8 offset class stack)
  inner_it offset class i ks stack on t l =
      one_off w G (λ ls. Lands w i (object class ∷ ls)) AnyObject ks stack
      (λ object rest s1. then_do (field_at w object 8 offset class s1)
      (λ spot s2. gives (Onward (At spot ∷ rest)) s2)) t
      (λ v ls rest c fit.
      then_holds (object_field (slice_get ks 0) v 8 offset class c l)
      (λ spot s. gives_it (Onward (At spot ∷ rest)) (
        on,
        (
          an_object w is (object class) spot refl class s.class_is
              (good w is spot.base spot.path (form.Object (record { 0 = class })) s.form_is) Itself,
          fit,
        ),
      )))

  pub str_it : (offset size : ℕ) (i : Op) (ks : List ImageKind) (stack : List Val) → is_end i ≡ false
      → Takes w (AnyObject ∷ []) ks stack → lacks_field w.image (slice_get ks 0) 6 offset size ≡ false
      → Holds G Move (Lands w i (str ∷ drop 1 ks)) (part w 6 offset size stack)
  str_it offset size i ks stack on t l =
      one_off w G (λ ls. Lands w i (str ∷ ls)) AnyObject ks stack
      (λ object rest s1. then_do (field_at w object 6 offset size s1) (λ spot s2. gives (Onward (At spot ∷ rest)) s2)) t
      (λ v ls rest c fit.
      then_holds (object_field (slice_get ks 0) v 6 offset size c l)
      (λ spot s. gives_it (Onward (At spot ∷ rest)) (on, (Text refl size s.form_is, fit))))

  -- ---- Bufs

  -- the bytes that a Buf has
  abbrev BufBytes : List ℕ → Type 0
  BufBytes bytes = (are_bytes bytes ≡ true) × (length bytes ≤ 128)

  buf_bytes : (spot : Spot) (n : ℕ) → form_from w spot.base spot.path ≡ Some (form.Buf n)
      → Holds G (List ℕ) BufBytes (read_bytes spot)
  buf_bytes spot n e =
      weaker (read_buf_holds w is own given turns locals spot n e)
      (λ bytes k.
      let most : n ≤ 128 = good w is spot.base spot.path (form.Buf n) e in
      let p = and_parts (are_bytes bytes) (nat_le (length bytes) n) k in
      let few : length bytes ≤ n = leb-true (length bytes) n p.1 in
      (p.0, omega (arith, most, few)))

  pub small_int : (n : ℕ) → n ≤ 256 → Has int (Int (pos n))
  small_int n h = (refl, small n (omega (arith, h)))

  pub byte_int : (bytes : List ℕ) (i : ℕ) → are_bytes bytes ≡ true → Has int (Int (pos (slice_index bytes i)))
  byte_int bytes i h =
      let below : slice_index bytes i < 256 = ltb-true (slice_index bytes i) 256 (byte_at bytes i h) in
      small_int (slice_index bytes i) (omega (arith, below))

  pub buf_size_it : (offset : ℕ) (i : Op) (ks : List ImageKind) (stack : List Val) → is_end i ≡ false
      → Takes w (AnyObject ∷ []) ks stack → lacks_buf w.image (slice_get ks 0) offset ≡ false
      → Holds G Move (Lands w i (int ∷ drop 1 ks)) (buf_size w offset stack)
  buf_size_it offset i ks stack on t l =
      one_off w G (λ ls. Lands w i (int ∷ ls)) AnyObject ks stack
      (λ object rest s1. then_do (buf_at w object offset s1)
      (λ spot s2. then_do (read_bytes spot s2) (λ bytes s3. gives (Onward (Int (pos (length bytes)) ∷ rest)) s3))) t
      (λ v ls rest c fit.
      then_holds (object_buf (slice_get ks 0) v offset c l)
      (λ spot s. then_holds (buf_bytes spot s.0 s.1.form_is)
      (λ bytes b. gives_it (Onward (Int (pos (length bytes)) ∷ rest))
      (on, (small_int (length bytes) (let few = b.1 in omega (arith, few)), fit)))))

  pub buf_get_it : (offset capacity : ℕ) (i : Op) (ks : List ImageKind) (stack : List Val) → is_end i ≡ false
      → Takes w (Goes int ∷ AnyObject ∷ []) ks stack → lacks_field w.image (slice_get ks 1) 7 offset capacity ≡ false
      → Holds G Move (Lands w i (int ∷ drop 2 ks)) (buf_get w offset capacity stack)
  buf_get_it offset capacity i ks stack on t l =
      two_off w G (λ ls. Lands w i (int ∷ ls)) (Goes int) AnyObject ks stack
      (λ object index rest s1. then_do (answers (int_cell index) s1)
      (λ i s2. then_do (field_at w object 7 offset capacity s2)
      (λ spot s3. then_do (read_bytes spot s3)
      (λ bytes s4. then_do (answers (index_of (length bytes) i) s4)
      (λ at s5. gives (Onward (Int (pos (slice_index bytes at)) ∷ rest)) s5))))) t
      (λ a b ls rest c d fit.
      then_holds (index_cell (slice_get ks 0) b d)
      (λ x h. then_holds (object_field (slice_get ks 1) a 7 offset capacity c l)
      (λ spot s. then_holds (buf_bytes spot capacity s.form_is)
      (λ bytes y. then_holds (answers_it (index_of (length bytes) x) (language.index_is nothing 0 (length bytes) x h))
      (λ at _. gives_it (Onward (Int (pos (slice_index bytes at)) ∷ rest)) (on, (byte_int bytes at y.0, fit)))))))
