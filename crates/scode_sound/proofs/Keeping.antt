-- What every step of the machine leaves: contents and statics that fit.
use Rattle.std.proofs.Common.{◌≡◌, ◌≤◌, ◌==◌, ◌&&◌, ◌||◌, not, ℕ, Bool, true, false, if◌then◌else◌, List, length, Option, Some, Err, refl, sym, subst, ◌∙◌, arith}
use Rattle.std.specs.Int.{w64}
use Rattle.std.proofs.lemmas.Bool.{and_parts, and_from}
use Rattle.std.proofs.lemmas.Bool.Decides.{nat_tests}
use Rattle.sed_value.specs.Value.{is_signed}
use Rattle.sed_value.specs.declared.value.Value.{Value}
use Rattle.sed_value.specs.declared.value.Value.TheVariants as kept
use Rattle.sed_value.specs.declared.slot_type.Primitive.TheVariants as prim
use Rattle.sed_typed.specs.declared.program.FieldForm.{FieldForm}
use Rattle.sed_typed.specs.declared.program.FieldForm.TheVariants as form
use Rattle.sed_typed.specs.Contents.{Path, value_at}
use Rattle.sed_engine.specs.Fits.{is_kept, keeps}
use Rattle.sed_engine.specs.State.{Shared, State, answers}
use Rattle.sed_engine.specs.Steps.{contents_of, load, read_bytes, replace, store, write_bytes, written_at, turn_taken}
use Rattle.sed_engine.specs.Stops.{Untyped, there}
use Rattle.sed_engine.specs.Values.{Val, Nothing, Base, Component, Statics, Spot, are_alike, are_bytes, bytes_of, is_alike, last_byte}
use Rattle.sed_engine.proofs.FirstPaths.{IsLeaf, has_same, value_there}
use Rattle.sed_engine.proofs.KeepsFit.{Forms, FitsNow, form_at_base, written_fits, loaded}
use Rattle.sed_engine.proofs.Ranges.{Sound}
use Rattle.sed_engine.proofs.Ready.{Holds, KeptAt, IsStored, then_holds, gives_it, answers_it}
use Rattle.sed_engine.proofs.Within.{Within, written_within}
use Rattle.scode_code.specs.Contents.{initial, initial_statics}
use Rattle.scode_code.specs.Fields.{Setting}
use Rattle.scode_whole.proofs.Truths.{no_truth}
use Rattle.scode_sound.specs.Cells.{Concrete, form_from}
use Rattle.scode_sound.specs.Fine.{Fitting}
use Rattle.scode_sound.proofs.Rules.{Tables}
use Rattle.scode_sound.proofs.FirstValues.{initial_has, statics_have}
use Rattle.scode_sound.proofs.Booleans.{or_right}

abbrev pub forms_of : Setting → Forms
forms_of w = record { contents = form_from w Component; statics = form_from w Statics }

form_of_base : (w : Setting) (base : Base) (path : Path) → form_at_base (forms_of w) base path ≡ form_from w base path
form_of_base w Component path = refl
form_of_base w Statics path = refl

fits_now : (w : Setting) (given : ℕ) (s : Shared) → Fitting w given s → FitsNow (forms_of w) s
fits_now w given s f = record { contents = f.contents.values; statics = f.statics.values }

-- ---- what is kept at a place

kept_as : (f : FieldForm) (v : Value) (o : Option FieldForm) → o ≡ Some f → is_kept o v ≡ true → keeps f v ≡ true
kept_as f v o e h = subst (λ (x : Option FieldForm). is_kept x v ≡ true) e h

kept_there : (w : Setting) → Tables w.image → Concrete w.image w.class → (given : ℕ) (base : Base) (path : Path)
    (f : FieldForm) (s : Shared) → Fitting w given s → form_from w base path ≡ Some f → IsLeaf f → KeptAt f base path s
kept_there w is own given base path f s fitting e leaf =
    let v : (v : Value) × (value_at (contents_of base s) path ≡ Some v) = value base e in
    record {
      value = v.0;
      is = v.1;
      keeps_it = kept_as f v.0 (form_at_base (forms_of w) base path) (form_of_base w base path ∙ e)
          (loaded (forms_of w) base path s v.0 (fits_now w given s fitting) v.1);
    }
  where
    value : (base : Base) → form_from w base path ≡ Some f
        → (v : Value) × (value_at (contents_of base s) path ≡ Some v)
    value Component e =
        value_there s.contents path
        (has_same s.contents (initial w.image w.class) path fitting.contents.paths (initial_has w is own path f leaf e))
    value Statics e =
        value_there s.statics path
        (has_same s.statics (initial_statics w.image) path fitting.statics.paths (statics_have w is path f leaf e))

lengths : (a b n : ℕ) → (a == n) ≡ true → (b == n) ≡ true → (b == a) ≡ true
lengths a b n h k = grind (arith, nat_tests)

str_alike : (n : ℕ) (old new : List ℕ) → keeps (form.Str n) (kept.Buf old) ≡ true
    → keeps (form.Str n) (kept.Buf new) ≡ true → are_alike old (kept.Buf new) ≡ true
str_alike n old new h k =
    let a = and_parts (are_bytes old && (length old == n)) (last_byte old == 0) h in
    let b = and_parts (are_bytes new && (length new == n)) (last_byte new == 0) k in
    let c = and_parts (are_bytes old) (length old == n) a.0 in
    let d = and_parts (are_bytes new) (length new == n) b.0 in
    and_from (are_bytes new && (length new == length old)) (not (last_byte old == 0) || (last_byte new == 0))
    (and_from (are_bytes new) (length new == length old) d.0 (lengths (length old) (length new) n c.1 d.1))
    (or_right (not (last_byte old == 0)) (last_byte new == 0) b.1)

-- it is of the type of what stood there
alike : (f : FieldForm) → IsStored f → (old new : Value) → keeps f old ≡ true → keeps f new ≡ true
    → is_alike old new ≡ true
alike (form.Prim prim.Bool) st (kept.Bool t) new h k = k
alike (form.Prim prim.Byte) st (kept.Byte n) new h k = k
alike (form.Prim prim.Short) st (kept.Short n) new h k = k
alike (form.Prim prim.Int) st (kept.Int n) new h k = k
alike (form.Prim prim.Long) st (kept.Long n) new h k = k
alike (form.Prim p) st old new h k = no_truth h
alike (form.Str n) st (kept.Buf old) (kept.Buf new) h k = str_alike n old new h k
alike (form.Str n) st (kept.Buf old) new h k = no_truth k
alike (form.Str n) st old new h k = no_truth h
alike f st old new h k = absurd st

written_fitting : (w : Setting) (given : ℕ) (base : Base) (path : Path) (f : FieldForm) (new : Value) (s : Shared)
    → Fitting w given s → form_from w base path ≡ Some f → keeps f new ≡ true
    → Fitting w given (written_at base path new s)
written_fitting w given base path f new s fitting e k =
    let within : Within s (written_at base path new s) = written_within base path new s in
    let now : FitsNow (forms_of w) (written_at base path new s) =
    written_fits (forms_of w) base path new s (fits_now w given s fitting)
    (subst (λ (x : Option FieldForm). is_kept x new ≡ true) (sym (form_of_base w base path ∙ e)) k) in
    let few : s.turns ≤ given = fitting.turns in
    record {
      contents = record { paths = within.contents ∙ fitting.contents.paths; values = now.contents };
      statics = record { paths = within.statics ∙ fitting.statics.paths; values = now.statics };
      moment = same_moment base fitting.moment;
      turns = let less = within.turns in omega (arith, less, few);
    }
  where
    same_moment : (base : Base) → is_signed w64 s.moment ≡ true
        → is_signed w64 (written_at base path new s).moment ≡ true
    same_moment Component h = h
    same_moment Statics h = h

written_turns : (base : Base) (path : Path) (new : Value) (s : Shared) → (written_at base path new s).turns ≡ s.turns
written_turns Component path new s = refl
written_turns Statics path new s = refl

pub turn_fitting : (w : Setting) (given : ℕ) (s : Shared) → Fitting w given s → Fitting w given (turn_taken s)
turn_fitting w given s f = record {
  contents = f.contents;
  statics = f.statics;
  moment = f.moment;
  turns = let few : s.turns ≤ given = f.turns in omega (arith, few);
}

-- ---- single steps

-- a state with so many turns and these locals
pub record Now (w : Setting) (given turns : ℕ) (locals : List Val) (s : State) : Type 0 where
  pub fitting : Fitting w given s.shared
  pub turns_are : s.shared.turns ≡ turns
  pub locals_are : s.locals ≡ locals

module _ (w : Setting) (is : Tables w.image) (own : Concrete w.image w.class) (given turns : ℕ)
    (locals : List Val) where
  abbrev pub G : State → Type 0
  G s = Now w given turns locals s

  abbrev Stands : Spot → FieldForm → Type 0
  Stands spot f = form_from w spot.base spot.path ≡ Some f

  pub load_holds : (spot : Spot) (f : FieldForm) → Stands spot f → IsLeaf f
      → Holds G Value (λ v. keeps f v ≡ true) (load spot)
  load_holds spot f e leaf = record {
    holds = λ s g. let k : KeptAt f spot.base spot.path s.shared =
        kept_there w is own given spot.base spot.path f s.shared g.fitting e leaf in
        (g, subst (λ (o : Option Value). Sound (λ v. keeps f v ≡ true) (there o)) (sym k.is) k.keeps_it);
  }

  replaced : (spot : Spot) (f : FieldForm) (new : Value) (b : Bool) → Stands spot f → keeps f new ≡ true → b ≡ true
      → Holds G (Unit {0}) (λ _. Unit {0}) (if b then replace spot new else answers (Err Untyped))
  replaced spot f new true e k h = record {
    holds = λ s g. (
      record {
        fitting = written_fitting w given spot.base spot.path f new s.shared g.fitting e k;
        turns_are = written_turns spot.base spot.path new s.shared ∙ g.turns_are;
        locals_are = g.locals_are;
      },
      tt,
    );
  }
  replaced spot f new false e k h = no_truth h

  pub store_holds : (spot : Spot) (f : FieldForm) (new : Value) → Stands spot f → IsLeaf f → IsStored f
      → keeps f new ≡ true → Holds G (Unit {0}) (λ _. Unit {0}) (store spot new)
  store_holds spot f new e leaf st k =
      then_holds (load_holds spot f e leaf)
      (λ old h. replaced spot f new (is_alike old new) e k (alike f st old new h k))

  str_bytes : (n : ℕ) (v : Value) → keeps (form.Str n) v ≡ true
      → Sound (λ (bytes : List ℕ). keeps (form.Str n) (kept.Buf bytes) ≡ true) (bytes_of v)
  str_bytes n (kept.Buf bytes) k = k
  str_bytes n v k = no_truth k

  buf_bytes : (n : ℕ) (v : Value) → keeps (form.Buf n) v ≡ true
      → Sound (λ (bytes : List ℕ). keeps (form.Buf n) (kept.Buf bytes) ≡ true) (bytes_of v)
  buf_bytes n (kept.Buf bytes) k = k
  buf_bytes n v k = no_truth k

  pub read_str_holds : (spot : Spot) (n : ℕ) → Stands spot (form.Str n)
      → Holds G (List ℕ) (λ bytes. keeps (form.Str n) (kept.Buf bytes) ≡ true) (read_bytes spot)
  read_str_holds spot n e = then_holds (load_holds spot (form.Str n) e tt)
      (λ v k. answers_it (bytes_of v) (str_bytes n v k))

  pub read_buf_holds : (spot : Spot) (n : ℕ) → Stands spot (form.Buf n)
      → Holds G (List ℕ) (λ bytes. keeps (form.Buf n) (kept.Buf bytes) ≡ true) (read_bytes spot)
  read_buf_holds spot n e = then_holds (load_holds spot (form.Buf n) e tt)
      (λ v k. answers_it (bytes_of v) (buf_bytes n v k))

  pub write_str_holds : (spot : Spot) (n : ℕ) (bytes : List ℕ) → Stands spot (form.Str n)
      → keeps (form.Str n) (kept.Buf bytes) ≡ true → Holds G Val (λ v. v ≡ Nothing) (write_bytes spot bytes)
  write_str_holds spot n bytes e k =
      then_holds (store_holds spot (form.Str n) (kept.Buf bytes) e tt tt k) (λ _ _. gives_it Nothing refl)
