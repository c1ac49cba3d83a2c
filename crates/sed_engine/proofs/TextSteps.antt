-- Calls of Strs and Bufs in typed methods.
use Rattle.std.proofs.Common.{◌≡◌, ◌<◌, ◌≤◌, ◌-◌, ℕ, pos, true, List, [], ◌∷◌, length, get_or, replicate, Option, Some, refl, sym, subst, arith, lit≤}
use Rattle.std.specs.Prelude.{nat_le, slice_get, slice_index}
use Rattle.std.specs.Str.{bytes_eq}
use Rattle.std.proofs.lemmas.Bool.{and_parts, ltb-true, leb-true}
use Rattle.std.proofs.lemmas.Option.{slice_get-get_or}
use Rattle.sed_value.specs.declared.value.Value.TheVariants as kept
use Rattle.sed_typed.specs.declared.kind.Kind.{Kind}
use Rattle.sed_typed.specs.declared.kind.Kind.TheVariants as kind
use Rattle.sed_typed.specs.declared.operators.TextCall.{TextCall}
use Rattle.sed_typed.specs.declared.operators.TextCall.TheVariants as text
use Rattle.sed_typed.specs.declared.operators.Width.TheVariants as width
use Rattle.sed_typed.specs.declared.program.FieldForm.TheVariants as form
use Rattle.sed_typed.specs.declared.program.Program.{Program}
use Rattle.sed_typed.specs.Kinds.{text_kind}
use Rattle.sed_typed.specs.Typed.{Typed, IsText}
use Rattle.sed_typed.specs.TypedExpr.{AllGoTo, IsBuf, field_form, text_kinds}
use Rattle.sed_engine.specs.Stops.{there, map_ok}
use Rattle.sed_engine.specs.Values.{Val, Nothing, Int, Null, At, Literal, Spot, whole, truth, are_bytes}
use Rattle.sed_engine.specs.Fits.{keeps}
use Rattle.sed_engine.specs.State.{State, End, then_do}
use Rattle.sed_engine.specs.Steps.{read_bytes}
use Rattle.sed_engine.specs.Texts.{index_of, characters, literal_bytes, with_character, filled}
use Rattle.sed_engine.specs.Expressions.{Setting, Calls, put_all, text_bytes, operand, text_call, buf_bytes, buf_size, buf_byte}
use Rattle.sed_engine.proofs.Below.{absent, at_place}
use Rattle.sed_engine.proofs.CallSteps.{ArgsHold, args_put, weaker}
use Rattle.sed_engine.proofs.Frames.{FrameHas, no_locals}
use Rattle.sed_engine.proofs.Kinded.{form_from, HasKind, whole_int, truth_is, index_is}
use Rattle.sed_engine.proofs.Parts.{field_holds}
use Rattle.sed_engine.proofs.Ranges.{Sound, small}
use Rattle.sed_engine.proofs.Ready.{Ready, Frame, Holds, then_holds, gives_it, answers_it, read_str_holds, read_buf_holds, write_str_holds}
use Rattle.sed_engine.proofs.Spots.{Concrete, good}
use Rattle.sed_engine.proofs.StrBytes.{byte_at, str_from, set_str, filled_str, chars_of, literal_text}
pub use Rattle.sed_engine.proofs.StrBytes.{StrBytes, TextBytes, str_of}

module _ (program : Program) (typed : Typed program) (class : ℕ) (component : Concrete program class) (m : Frame) (calls : Calls) where
  abbrev pub G : State → Type 0
  G s = Ready program class m.own m.static m.locals s

  abbrev Has : Kind → Val → Type 0
  Has k v = HasKind program class k v

  abbrev w : Setting
  w = record { program = program; class = class; calls = calls }

  literal_at : (n : ℕ) → n < length program.texts → Sound TextBytes (map_ok literal_bytes (there (slice_get program.texts n)))
  literal_at n h =
      let e : slice_get program.texts n ≡ Some (get_or program.texts n []) = slice_get-get_or program.texts n [] h in
      subst (λ (o : Option (List ℕ)). Sound TextBytes (map_ok literal_bytes (there o))) (sym e) (literal_text (get_or program.texts n []) (at_place IsText program.texts n (get_or program.texts n []) typed.texts e))

  str_text : (spot : Spot) (n : ℕ) (e : form_from program class spot.base spot.path ≡ Some (form.Str n)) (bytes : List ℕ) → keeps (form.Str n) (kept.Buf bytes) ≡ true → TextBytes bytes
  str_text spot n e bytes k =
      let s : StrBytes n bytes = str_of n bytes k in
      let most : n ≤ 255 = good program typed class spot.base spot.path (form.Str n) e in
      (s.bytes_are, omega (arith, s.long, most))

  text_holds : (v : Val) → Has kind.Text v → Holds G (List ℕ) TextBytes (text_bytes program.texts v)
  text_holds Null h = record { holds = λ s g. (g, tt) }
  text_holds (Literal n) h = answers_it (map_ok literal_bytes (there (slice_get program.texts n))) (literal_at n h)
  text_holds (At spot) h = weaker (read_str_holds program typed class component m spot h.0 h.1) (λ bytes k. str_text spot h.0 h.1 bytes k)
  text_holds v h = absurd h

  int_of : (n : ℕ) → n ≤ 256 → Has kind.Int (Int (pos n))
  int_of n h = small n (omega (arith, h))

  byte_of : (bytes : List ℕ) (i : ℕ) → are_bytes bytes ≡ true → Has kind.Int (Int (pos (slice_index bytes i)))
  byte_of bytes i h = int_of (slice_index bytes i) (let below : slice_index bytes i < 256 = ltb-true (slice_index bytes i) 256 (byte_at bytes i h) in omega (arith, below))

  -- an operand by its place
  first_operand : (k : Kind) (ks : List Kind) (args : List Val) → FrameHas program class (k ∷ ks) args → Has k (operand args 0)
  first_operand k ks [] h = absurd h
  first_operand k ks (v ∷ vs) h = h.0

  second_operand : (j k : Kind) (ks : List Kind) (args : List Val) → FrameHas program class (j ∷ k ∷ ks) args → Has k (operand args 1)
  second_operand j k ks [] h = absurd h
  second_operand j k ks (u ∷ []) h = absurd h.1
  second_operand j k ks (u ∷ v ∷ vs) h = h.1.0

  set_holds : (v : Val) (args : List Val) → Has kind.Text v → FrameHas program class (text_kinds text.Set) args → Holds G Val (λ _. Unit {0}) (text_call program.texts text.Set v args)
  set_holds Null args h a = record { holds = λ s g. (g, tt) }
  set_holds (Literal n) args h a = record { holds = λ s g. (g, tt) }
  set_holds (At spot) args h a =
      then_holds (read_str_holds program typed class component m spot h.0 h.1) (λ bytes k.
      then_holds (answers_it (index_of (length bytes - 1) (operand args 0)) (index_is program class (length bytes - 1) (operand args 0) (first_operand kind.Int (kind.Int ∷ []) args a))) (λ i less.
      then_holds (answers_it (whole width.Int (operand args 1)) (whole_int program class (operand args 1) (second_operand kind.Int kind.Int [] args a))) (λ c _.
      write_str_holds program typed class component m spot h.0 (with_character bytes i c) h.1
      (str_from h.0 (with_character bytes i c) (set_str h.0 bytes i c (str_of h.0 bytes k) (ltb-true i (length bytes - 1) less))))))
  set_holds v args h a = absurd h

  copy_holds : (v : Val) (args : List Val) → Has kind.Text v → FrameHas program class (text_kinds text.Copy) args → Holds G Val (λ _. Unit {0}) (text_call program.texts text.Copy v args)
  copy_holds Null args h a = record { holds = λ s g. (g, tt) }
  copy_holds (Literal n) args h a =
      then_holds (text_holds (Literal n) h) (λ old _. then_holds (text_holds (operand args 0) (first_operand kind.Text [] args a)) (λ new _. record { holds = λ s g. (g, tt) }))
  copy_holds (At spot) args h a =
      then_holds (read_str_holds program typed class component m spot h.0 h.1) (λ old k.
      then_holds (text_holds (operand args 0) (first_operand kind.Text [] args a)) (λ new t.
      let long : length old ≡ h.0 = (str_of h.0 old k).long in
      write_str_holds program typed class component m spot h.0 (filled (length old) (characters new)) h.1
      (str_from h.0 (filled (length old) (characters new)) (subst (λ (n : ℕ). StrBytes n (filled (length old) (characters new))) long (filled_str (length old) (characters new) (chars_of new t).0)))))
  copy_holds v args h a = absurd h

  called_holds : (op : TextCall) (v : Val) (args : List Val) → Has kind.Text v → FrameHas program class (text_kinds op) args → Holds G Val (Has (text_kind op)) (text_call program.texts op v args)
  called_holds text.Length v args h a = then_holds (text_holds v h) (λ bytes t. gives_it (Int (pos (length (characters bytes)))) (int_of (length (characters bytes)) (chars_of bytes t).1))
  called_holds text.Get v args h a =
      then_holds (text_holds v h) (λ bytes t.
      then_holds (answers_it (index_of (length bytes) (operand args 0)) (index_is program class (length bytes) (operand args 0) (first_operand kind.Int [] args a))) (λ i _.
      gives_it (Int (pos (slice_index bytes i))) (byte_of bytes i t.0)))
  called_holds text.Set v args h a = set_holds v args h a
  called_holds text.Equals v args h a =
      then_holds (text_holds v h) (λ x _. then_holds (text_holds (operand args 0) (first_operand kind.Text [] args a)) (λ y _. gives_it (truth (bytes_eq (characters x) (characters y))) (truth_is program class (bytes_eq (characters x) (characters y)))))
  called_holds text.Copy v args h a = copy_holds v args h a

  themselves : (op : TextCall) → AllGoTo program (text_kinds op) (text_kinds op)
  themselves text.Length = tt
  themselves text.Get = (refl, tt)
  themselves text.Set = (refl, (refl, tt))
  themselves text.Equals = (refl, tt)
  themselves text.Copy = (refl, tt)

  most_two : (op : TextCall) → length (text_kinds op) ≤ 2
  most_two text.Length = lit≤ tt
  most_two text.Get = lit≤ tt
  most_two text.Set = lit≤ tt
  most_two text.Equals = lit≤ tt
  most_two text.Copy = lit≤ tt

  pub text_call_holds : (op : TextCall) (v : Val) (ks : List Kind) (fs : List (State → End Val)) → ArgsHold G Has ks fs → Has kind.Text v → ks ≡ text_kinds op →
      Holds G Val (Has (text_kind op)) (λ s. then_do (put_all 0 fs (replicate 2 Nothing) s) (λ args s1. text_call program.texts op v args s1))
  text_call_holds op v ks fs args h e =
      then_holds (args_put program typed class component m [] ks (text_kinds op) fs (replicate 2 Nothing) args (subst (λ (all : List Kind). AllGoTo program all (text_kinds op)) (sym e) (themselves op)) (no_locals program class 2) (most_two op))
      (λ out p. called_holds op v out h p.0)

  -- ---- Bufs

  buf_of : (n : ℕ) (bytes : List ℕ) → keeps (form.Buf n) (kept.Buf bytes) ≡ true → (are_bytes bytes ≡ true) × (length bytes ≤ n)
  buf_of n bytes k = let parts = and_parts (are_bytes bytes) (nat_le (length bytes) n) k in (parts.0, leb-true (length bytes) n parts.1)

  -- the bytes that a Buf has
  abbrev BufBytes : List ℕ → Type 0
  BufBytes bytes = (are_bytes bytes ≡ true) × (length bytes ≤ 128)

  buf_at : (spot : Spot) (n : ℕ) → form_from program class spot.base spot.path ≡ Some (form.Buf n) → Holds G (List ℕ) BufBytes (read_bytes spot)
  buf_at spot n e = weaker (read_buf_holds program typed class component m spot n e) (λ bytes k.
      let most : n ≤ 128 = good program typed class spot.base spot.path (form.Buf n) e in
      let parts : (are_bytes bytes ≡ true) × (length bytes ≤ n) = buf_of n bytes k in
      (parts.0, omega (arith, most, parts.1)))

  buf_holds : (k : Kind) (v : Val) (i : ℕ) → Has k v → IsBuf (field_form program k i) → Holds G (List ℕ) BufBytes (buf_bytes v i)
  buf_holds (kind.Object d) v i h b = then_holds (field_holds program typed class component m d v i (form.Buf b.0) h b.1) (λ spot s. buf_at spot b.0 s.form)
  buf_holds k v i h b = absent (form.Buf b.0) b.1

  pub size_holds : (k : Kind) (v : Val) (i : ℕ) → Has k v → IsBuf (field_form program k i) → Holds G Val (Has kind.Int) (buf_size v i)
  size_holds k v i h b = then_holds (buf_holds k v i h b) (λ bytes is. gives_it (Int (pos (length bytes))) (int_of (length bytes) (omega (arith, is.1))))

  pub byte_holds : (k : Kind) (v : Val) (i : ℕ) (index : Val) → Has k v → IsBuf (field_form program k i) → Has kind.Int index → Holds G Val (Has kind.Int) (buf_byte v i index)
  byte_holds k v i index h b x =
      then_holds (buf_holds k v i h b) (λ bytes is.
      then_holds (answers_it (index_of (length bytes) index) (index_is program class (length bytes) index x)) (λ at _. gives_it (Int (pos (slice_index bytes at))) (byte_of bytes at is.0)))
