-- The instructions on Strs.
use Rattle.std.proofs.Common.{◌≡◌, ◌<◌, ◌≤◌, ◌-◌, nat_le, ℕ, Bool, true, false, if◌then◌else◌, List, [], ◌∷◌, length, drop, Option, Some, Ok, Err, sym, subst, arith}
use Rattle.std.specs.Prelude.{slice_get, slice_index, pos}
use Rattle.std.specs.Str.{bytes_eq}
use Rattle.std.proofs.lemmas.Bool.{and_parts, leb-true, ltb-true}
use Rattle.sed_value.specs.declared.value.Value.TheVariants as kept
use Rattle.sed_typed.specs.declared.kind.Kind.TheVariants as kind
use Rattle.sed_typed.specs.declared.operators.TextCall.TheVariants as text
use Rattle.sed_typed.specs.declared.operators.Width.TheVariants as width
use Rattle.sed_typed.specs.declared.program.FieldForm.TheVariants as form
use Rattle.sed_engine.specs.Expressions.{text_bytes}
use Rattle.sed_engine.specs.Fits.{keeps}
use Rattle.sed_engine.specs.State.{State, answers, then_do}
use Rattle.sed_engine.specs.Stops.{Untyped, map_ok, there}
use Rattle.sed_engine.specs.Texts.{characters, filled, index_of, literal_bytes, with_character}
use Rattle.sed_engine.specs.Values.{Val, Nothing, Truth, Int, Long, Null, At, Literal, Spot, are_bytes, is_reference, truth, whole}
use Rattle.sed_engine.proofs.CallSteps.{weaker}
use Rattle.sed_engine.proofs.Kinded as language
use Rattle.sed_engine.proofs.Ranges.{Sound}
use Rattle.sed_engine.proofs.Ready.{Holds, then_holds, gives_it, answers_it}
use Rattle.sed_engine.proofs.TextSteps.{StrBytes, TextBytes, str_of}
use Rattle.scode_ops.specs.declared.op.Op.{Op}
use Rattle.scode_image.specs.declared.image.ImageKind.{ImageKind}
use Rattle.scode_code.specs.Calls.{str_copy, str_equal, str_get, str_length, str_set, text_call}
use Rattle.scode_code.specs.CodeRules.{is_end}
use Rattle.scode_code.specs.Effect.{int_cell, no_push, push, reference_cell}
use Rattle.scode_code.specs.Fields.{Setting}
use Rattle.scode_code.specs.Kinds.{bool, int, str}
use Rattle.scode_code.specs.Machine.{Move}
use Rattle.scode_code.specs.declared.needs.Need.TheVariants.{Goes}
use Rattle.scode_sound.specs.Cells.{Block, Concrete, HasKind, Object, Text, form_from}
use Rattle.scode_sound.proofs.Rules.{Tables, stands_at, text_rule}
use Rattle.scode_sound.proofs.Cells.{goes}
use Rattle.scode_sound.proofs.Spots.{good}
use Rattle.scode_sound.proofs.Keeping.{Now, read_str_holds, write_str_holds}
use Rattle.scode_sound.proofs.Plain.{IsOf, nothing, reference_is, truth_is}
use Rattle.scode_sound.proofs.Stacks.{Cell, Lands, Takes, one_off, two_off, three_off, push_it, no_push_it}
use Rattle.scode_sound.proofs.Objects.{byte_int, index_cell, small_int}
use Rattle.sed_engine.proofs.StrBytes.{chars_of, filled_str, literal_text, set_str, str_from}

module _ (w : Setting) (is : Tables w.image) (own : Concrete w.image w.class) (given turns : ℕ)
    (locals : List Val) where
  abbrev pub G : State → Type 0
  G s = Now w given turns locals s

  abbrev Has : ImageKind → Val → Type 0
  Has k v = HasKind w k v

  literal_at : (n : ℕ) → n < length w.image.texts
      → Sound TextBytes (map_ok literal_bytes (there (slice_get w.image.texts n)))
  literal_at n h =
      let t = stands_at w.image.texts n h in
      let p = and_parts (are_bytes t.0) (nat_le (length t.0) 255) (text_rule w.image is n t.0 t.1) in
      subst (λ (o : Option (List ℕ)). Sound TextBytes (map_ok literal_bytes (there o))) (sym t.1)
      (literal_text t.0 (p.0, leb-true (length t.0) 255 p.1))

  str_text : (spot : Spot) (n : ℕ) (e : form_from w spot.base spot.path ≡ Some (form.Str n)) (bytes : List ℕ)
      → keeps (form.Str n) (kept.Buf bytes) ≡ true → TextBytes bytes
  str_text spot n e bytes k =
      let s : StrBytes n bytes = str_of n bytes k in
      let most : n ≤ 255 = good w is spot.base spot.path (form.Str n) e in
      let long = s.long in
      (s.bytes_are, omega (arith, long, most))

  text_holds : (v : Val) → Has str v → Holds G (List ℕ) TextBytes (text_bytes w.image.texts v)
  text_holds Nothing h = absurd h
  text_holds (Truth t) h = absurd (omega (arith, h.0))
  text_holds (Int n) h = absurd (omega (arith, h.0))
  text_holds (Long n) h = absurd (omega (arith, h.0))
  text_holds Null h = record { holds = λ s g. (g, tt) }
  text_holds (Literal n) h = answers_it (map_ok literal_bytes (there (slice_get w.image.texts n))) (literal_at n h.1)
  text_holds (At spot) (Text e n x) =
      weaker (read_str_holds w is own given turns locals spot n x) (λ bytes k. str_text spot n x bytes k)
  text_holds (At spot) (Block e c s) = absurd (omega (arith, e))
  text_holds (At spot) (Object e at c d b) = absurd (omega (arith, e))

  str_cell : (o : Option ImageKind) (v : Val) → Cell w (Goes str) o v → Has str v
  str_cell o v c = goes w is c.kind str v c.meets_it c.has

  other_cell : (o : Option ImageKind) (v : Val) → Cell w (Goes str) o v
      → Holds G Val (Has str) (answers (reference_cell v))
  other_cell o v c =
      let h : Has str v = str_cell o v c in
      answers_it (reference_cell v) (go (is_reference v) (reference_is w str v (omega arith) h) h)
    where
      go : (b : Bool) → b ≡ true → Has str v → Sound (Has str) (if b then Ok v else Err Untyped)
      go true e h = h
      go false e h = let never : ⊥ = cc in absurd never

  length_holds : (v : Val) → Has str v → Holds G Val (Has int) (text_call w text.Length v [])
  length_holds v h =
      then_holds (text_holds v h)
      (λ bytes t. gives_it (Int (pos (length (characters bytes))))
      (small_int w is own given turns locals (length (characters bytes)) (chars_of bytes t).1))

  get_holds : (v i : Val) → Has str v → IsOf kind.Int i → Holds G Val (Has int) (text_call w text.Get v (i ∷ []))
  get_holds v i h x =
      then_holds (text_holds v h)
      (λ bytes t. then_holds (answers_it (index_of (length bytes) i) (language.index_is nothing 0 (length bytes) i x))
      (λ at _. gives_it (Int (pos (slice_index bytes at))) (byte_int w is own given turns locals bytes at t.0)))

  equal_holds : (a b : Val) → Has str a → Has str b → Holds G Val (Has bool) (text_call w text.Equals a (b ∷ []))
  equal_holds a b h g =
      then_holds (text_holds a h)
      (λ x _. then_holds (text_holds b g)
      (λ y _. gives_it (truth (bytes_eq (characters x) (characters y)))
      (truth_is w (bytes_eq (characters x) (characters y)))))

  set_holds : (v i c : Val) → Has str v → IsOf kind.Int i → IsOf kind.Int c
      → Holds G Val (λ x. x ≡ Nothing) (text_call w text.Set v (i ∷ c ∷ []))
  set_holds Nothing i c h x y = absurd h
  set_holds (Truth t) i c h x y = absurd (omega (arith, h.0))
  set_holds (Int n) i c h x y = absurd (omega (arith, h.0))
  set_holds (Long n) i c h x y = absurd (omega (arith, h.0))
  set_holds Null i c h x y = record { holds = λ s g. (g, tt) }
  set_holds (Literal n) i c h x y = record { holds = λ s g. (g, tt) }
  set_holds (At spot) i c (Block e d s) x y = absurd (omega (arith, e))
  set_holds (At spot) i c (Object e at d f b) x y = absurd (omega (arith, e))
  set_holds (At spot) i c (Text e n f) x y =
      then_holds (read_str_holds w is own given turns locals spot n f)
      (λ bytes k. then_holds
      (answers_it (index_of (length bytes - 1) i) (language.index_is nothing 0 (length bytes - 1) i x))
      (λ at less. then_holds (answers_it (whole width.Int c) (language.whole_int nothing 0 c y))
      (λ z _. write_str_holds w is own given turns locals spot n (with_character bytes at z) f
      (str_from n (with_character bytes at z)
      (set_str n bytes at z (str_of n bytes k) (ltb-true at (length bytes - 1) less))))))

  copy_holds : (v b : Val) → Has str v → Has str b → Holds G Val (λ x. x ≡ Nothing) (text_call w text.Copy v (b ∷ []))
  copy_holds Nothing b h g = absurd h
  copy_holds (Truth t) b h g = absurd (omega (arith, h.0))
  copy_holds (Int n) b h g = absurd (omega (arith, h.0))
  copy_holds (Long n) b h g = absurd (omega (arith, h.0))
  copy_holds Null b h g = record { holds = λ s g. (g, tt) }
  copy_holds (Literal n) b h g =
      then_holds (text_holds (Literal n) h)
      (λ old _. then_holds (text_holds b g) (λ new _. record { holds = λ s g. (g, tt) }))
  copy_holds (At spot) b (Block e d s) g = absurd (omega (arith, e))
  copy_holds (At spot) b (Object e at d f c) g = absurd (omega (arith, e))
  copy_holds (At spot) b (Text e n f) g =
      then_holds (read_str_holds w is own given turns locals spot n f)
      (λ old k. then_holds (text_holds b g)
      (λ new t.
      let long : length old ≡ n = (str_of n old k).long in
      write_str_holds w is own given turns locals spot n (filled (length old) (characters new)) f
      (str_from n (filled (length old) (characters new))
      (subst (λ (m : ℕ). StrBytes m (filled (length old) (characters new))) long
      (filled_str (length old) (characters new) (chars_of new t).0)))))

  -- ---- the instructions

  pub length_it : (i : Op) (ks : List ImageKind) (stack : List Val) → is_end i ≡ false → Takes w
      (Goes str ∷ []) ks stack
      → Holds G Move (Lands w i (int ∷ drop 1 ks)) (str_length w stack)
  length_it i ks stack on t =
      one_off w G (λ ls. Lands w i (int ∷ ls)) (Goes str) ks stack
      (λ v rest s1. push rest (text_call w text.Length v [] s1)) t
      (λ v ls rest c fit. push_it w G i int ls rest (text_call w text.Length v []) on fit
      (length_holds v (str_cell (slice_get ks 0) v c)))

  pub get_it : (i : Op) (ks : List ImageKind) (stack : List Val) → is_end i ≡ false
      → Takes w (Goes int ∷ Goes str ∷ []) ks stack → Holds G Move (Lands w i (int ∷ drop 2 ks)) (str_get w stack)
  get_it i ks stack on t =
      two_off w G (λ ls. Lands w i (int ∷ ls)) (Goes int) (Goes str) ks stack
      (λ v index rest s1. then_do (answers (int_cell index) s1)
      (λ i s2. push rest (text_call w text.Get v (i ∷ []) s2))) t
      (λ a b ls rest c d fit.
      then_holds (index_cell w is own given turns locals (slice_get ks 0) b d)
      (λ x h. push_it w G i int ls rest (text_call w text.Get a (x ∷ [])) on fit
      (get_holds a x (str_cell (slice_get ks 1) a c) h)))

  pub set_it : (i : Op) (ks : List ImageKind) (stack : List Val) → is_end i ≡ false
      → Takes w (Goes int ∷ Goes int ∷ Goes str ∷ []) ks stack → Holds G Move (Lands w i (drop 3 ks)) (str_set w stack)
  set_it i ks stack on t =
      three_off w G (λ ls. Lands w i ls) (Goes int) (Goes int) (Goes str) ks stack
      (λ v index c rest s1. then_do (answers (int_cell index) s1)
      (λ i s2. then_do (answers (int_cell c) s2)
      (λ x s3. no_push rest (text_call w text.Set v (i ∷ x ∷ []) s3)))) t
      (λ a b v ls rest c d e fit.
      then_holds (index_cell w is own given turns locals (slice_get ks 1) b d)
      (λ x h. then_holds (index_cell w is own given turns locals (slice_get ks 0) v e)
      (λ y g. no_push_it w G i (λ z. z ≡ Nothing) ls rest (text_call w text.Set a (x ∷ y ∷ [])) on fit
      (set_holds a x y (str_cell (slice_get ks 2) a c) h g))))

  pub equal_it : (i : Op) (ks : List ImageKind) (stack : List Val) → is_end i ≡ false
      → Takes w (Goes str ∷ Goes str ∷ []) ks stack → Holds G Move (Lands w i (bool ∷ drop 2 ks)) (str_equal w stack)
  equal_it i ks stack on t =
      two_off w G (λ ls. Lands w i (bool ∷ ls)) (Goes str) (Goes str) ks stack
      (λ a b rest s1. then_do (answers (reference_cell b) s1)
      (λ x s2. push rest (text_call w text.Equals a (x ∷ []) s2))) t
      (λ a b ls rest c d fit.
      then_holds (other_cell (slice_get ks 0) b d)
      (λ x h. push_it w G i bool ls rest (text_call w text.Equals a (x ∷ [])) on fit
      (equal_holds a x (str_cell (slice_get ks 1) a c) h)))

  pub copy_it : (i : Op) (ks : List ImageKind) (stack : List Val) → is_end i ≡ false
      → Takes w (Goes str ∷ Goes str ∷ []) ks stack → Holds G Move (Lands w i (drop 2 ks)) (str_copy w stack)
  copy_it i ks stack on t =
      two_off w G (λ ls. Lands w i ls) (Goes str) (Goes str) ks stack
      (λ a b rest s1. then_do (answers (reference_cell b) s1)
      (λ x s2. no_push rest (text_call w text.Copy a (x ∷ []) s2))) t
      (λ a b ls rest c d fit.
      then_holds (other_cell (slice_get ks 0) b d)
      (λ x h. no_push_it w G i (λ z. z ≡ Nothing) ls rest (text_call w text.Copy a (x ∷ [])) on fit
      (copy_holds a x (str_cell (slice_get ks 1) a c) h)))
