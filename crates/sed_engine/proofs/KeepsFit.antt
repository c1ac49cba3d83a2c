-- What a call leaves fits, where what it was given fits.
use Rattle.std.proofs.Common.{◌≡◌, ℕ, zero, suc, ◌==◌, ◌&&◌, ◌||◌, not, Bool, true, false, if◌then◌else◌, List, [], ◌∷◌, length, Option, Some, None, Result, Ok, Err, slice_get, refl, sym, subst, arith}
use Rattle.std.specs.Prelude.{nat_le}
use Rattle.std.specs.Str.{bytes_eq}
use Rattle.std.proofs.lemmas.Bool.Decides.{nat_tests}
use Rattle.sed_value.specs.Value.{is_of_type}
use Rattle.sed_value.specs.declared.value.Value.{Value}
use Rattle.sed_value.specs.declared.value.Value.TheVariants as kept
use Rattle.sed_value.specs.declared.slot_type.Primitive.{Primitive}
use Rattle.sed_value.specs.declared.slot_type.Primitive.TheVariants as prim
use Rattle.sed_value.specs.declared.slot_type.SlotType.TheVariants as slot
use Rattle.sed_typed.specs.declared.kind.Kind.{Kind}
use Rattle.sed_typed.specs.declared.program.FieldForm.{FieldForm}
use Rattle.sed_typed.specs.declared.program.FieldForm.TheVariants as form
use Rattle.sed_typed.specs.declared.program.Method.{Method}
use Rattle.sed_typed.specs.declared.program.Program.{Program}
use Rattle.sed_typed.specs.declared.statement.Stmt.{Stmt}
use Rattle.sed_typed.specs.Contents.{Contents, Path, value_at, with_value}
use Rattle.sed_engine.specs.Stops.{Stop, Untyped, there}
use Rattle.sed_engine.specs.Values.{Val, Base, Component, Statics, Spot, are_bytes, last_byte, are_alike, is_alike}
use Rattle.sed_engine.specs.Fits.{keeps, is_kept, all_kept}
use Rattle.sed_engine.specs.State.{Shared, State, End, answers, after, then_do}
use Rattle.sed_engine.specs.Steps.{contents_of, replace, store_over, written_at}
use Rattle.sed_engine.specs.Expressions.{Setting, Calls}
use Rattle.sed_engine.specs.Statements.{Flow, Round, Again, Over, Answer, after_round, loop}
use Rattle.sed_engine.specs.Root.{run_body, run_method, calls_with}
use Rattle.sed_engine.proofs.Related.{Closed, of_stmt}
use Rattle.std.proofs.lemmas.Bool.{and_from as both}
use Rattle.sed_value.proofs.Truths.{and_left as first_of_both, and_right as second_of_both}
use Rattle.sed_value.proofs.Lists.{same_bytes as bytes_equal}

some_is : (x y : Value) → Some x ≡ Some y → x ≡ y
some_is x y e = cc

no_value : {P : Type 0} → false ≡ true → P
no_value h = let never : ⊥ = cc in absurd never

prim_over : (p : Primitive) (new old : Value) → is_of_type (slot.Prim p) old ≡ true → is_alike old new ≡ true → is_of_type (slot.Prim p) new ≡ true
prim_over prim.Bool new (kept.Bool t) h k = k
prim_over prim.Byte new (kept.Byte n) h k = k
prim_over prim.Short new (kept.Short n) h k = k
prim_over prim.Int new (kept.Int n) h k = k
prim_over prim.Long new (kept.Long n) h k = k
prim_over p new old h k = no_value h

or_after : (a b : Bool) → a ≡ true → (not a || b) ≡ true → b ≡ true
or_after true b h k = k
or_after false b h k = no_value h

equal_after : (a b n : ℕ) → (b == n) ≡ true → (a == b) ≡ true → (a == n) ≡ true
equal_after a b n h k = grind (arith, nat_tests)

at_most_after : (a b n : ℕ) → nat_le b n ≡ true → (a == b) ≡ true → nat_le a n ≡ true
at_most_after a b n h k = grind (arith, nat_tests)

str_bytes : (n : ℕ) (old new : List ℕ) → keeps (form.Str n) (kept.Buf old) ≡ true → are_alike old (kept.Buf new) ≡ true → keeps (form.Str n) (kept.Buf new) ≡ true
str_bytes n old new h k =
    let front : (are_bytes old && (length old == n)) ≡ true = first_of_both (are_bytes old && (length old == n)) (last_byte old == 0) h in
    let zero_last : (last_byte old == 0) ≡ true = second_of_both (are_bytes old && (length old == n)) (last_byte old == 0) h in
    let alike : (are_bytes new && (length new == length old)) ≡ true = first_of_both (are_bytes new && (length new == length old)) (not (last_byte old == 0) || (last_byte new == 0)) k in
    let stays : (not (last_byte old == 0) || (last_byte new == 0)) ≡ true = second_of_both (are_bytes new && (length new == length old)) (not (last_byte old == 0) || (last_byte new == 0)) k in
    both (are_bytes new && (length new == n)) (last_byte new == 0)
    (both (are_bytes new) (length new == n) (first_of_both (are_bytes new) (length new == length old) alike)
    (equal_after (length new) (length old) n (second_of_both (are_bytes old) (length old == n) front) (second_of_both (are_bytes new) (length new == length old) alike)))
    (or_after (last_byte old == 0) (last_byte new == 0) zero_last stays)

buf_bytes : (n : ℕ) (old new : List ℕ) → keeps (form.Buf n) (kept.Buf old) ≡ true → are_alike old (kept.Buf new) ≡ true → keeps (form.Buf n) (kept.Buf new) ≡ true
buf_bytes n old new h k =
    let alike : (are_bytes new && (length new == length old)) ≡ true = first_of_both (are_bytes new && (length new == length old)) (not (last_byte old == 0) || (last_byte new == 0)) k in
    both (are_bytes new) (nat_le (length new) n) (first_of_both (are_bytes new) (length new == length old) alike)
    (at_most_after (length new) (length old) n (second_of_both (are_bytes old) (nat_le (length old) n) h) (second_of_both (are_bytes new) (length new == length old) alike))

-- what may stand where another value stood is of the form that this was of
form_over : (f : FieldForm) (new old : Value) → keeps f old ≡ true → is_alike old new ≡ true → keeps f new ≡ true
form_over (form.Prim p) new old h k = prim_over p new old h k
form_over (form.Str n) (kept.Buf new) (kept.Buf old) h k = str_bytes n old new h k
form_over (form.Str n) new (kept.Buf old) h k = no_value k
form_over (form.Str n) new old h k = no_value h
form_over (form.Buf n) (kept.Buf new) (kept.Buf old) h k = buf_bytes n old new h k
form_over (form.Buf n) new (kept.Buf old) h k = no_value k
form_over (form.Buf n) new old h k = no_value h
form_over (form.Array p n) new old h k = no_value h
form_over (form.Object t) new old h k = no_value h

pub kept_over : (f : Option FieldForm) (new old : Value) → is_kept f old ≡ true → is_alike old new ≡ true → is_kept f new ≡ true
kept_over None new old h k = no_value h
kept_over (Some f) new old h k = form_over f new old h k

-- what is kept at a path is of the form there
at_path : (form : Path → Option FieldForm) (e : Path × Value) (path : Path) → is_kept (form e.0) e.1 ≡ true → bytes_eq e.0 path ≡ true → is_kept (form path) e.1 ≡ true
at_path form e path h same = subst (λ (p : Path). is_kept (form p) e.1 ≡ true) (bytes_equal e.0 path same) h

pub kept_at : (form : Path → Option FieldForm) (m : Contents) (path : Path) (old : Value) → all_kept form m ≡ true → value_at m path ≡ Some old → is_kept (form path) old ≡ true
kept_at form [] path old h e = let never : ⊥ = cc in absurd never
kept_at form (e ∷ es) path old h found =
    go (kept_at form es path old (second_of_both (is_kept (form e.0) e.1) (all_kept form es) h)) (bytes_eq e.0 path) refl found
  where
    go : (value_at es path ≡ Some old → is_kept (form path) old ≡ true) → (b : Bool) → bytes_eq e.0 path ≡ b → (if b then Some e.1 else value_at es path) ≡ Some old → is_kept (form path) old ≡ true
    go later true same is = subst (λ (v : Value). is_kept (form path) v ≡ true) (some_is e.1 old is) (at_path form e path (first_of_both (is_kept (form e.0) e.1) (all_kept form es) h) same)
    go later false other is = later is

changed_keeps : (form : Path → Option FieldForm) (e : Path × Value) (path : Path) (new : Value) (b : Bool) → bytes_eq e.0 path ≡ b →
    is_kept (form e.0) e.1 ≡ true → is_kept (form path) new ≡ true → is_kept (form e.0) (if b then new else e.1) ≡ true
changed_keeps form e path new true same h k = subst (λ (p : Path). is_kept (form p) new ≡ true) (sym (bytes_equal e.0 path same)) k
changed_keeps form e path new false other h k = h

pub all_kept-with_value : (form : Path → Option FieldForm) (m : Contents) (path : Path) (new : Value) → all_kept form m ≡ true → is_kept (form path) new ≡ true → all_kept form (with_value m path new) ≡ true
all_kept-with_value form [] path new h k = h
all_kept-with_value form (e ∷ es) path new h k =
    both _ _ (changed_keeps form e path new (bytes_eq e.0 path) refl (first_of_both (is_kept (form e.0) e.1) (all_kept form es) h) k)
    (all_kept-with_value form es path new (second_of_both (is_kept (form e.0) e.1) (all_kept form es) h) k)

-- the forms at the paths of the component and of the statics
pub record Forms : Type 0 where
  pub contents : Path → Option FieldForm
  pub statics : Path → Option FieldForm

pub record FitsNow (forms : Forms) (s : Shared) : Type 0 where
  pub contents : all_kept forms.contents s.contents ≡ true
  pub statics : all_kept forms.statics s.statics ≡ true

pub record KeepsFit (forms : Forms) (A : Type 0) (f : State → End A) : Type 0 where
  pub keeps : (s : State) → FitsNow forms s.shared → FitsNow forms (f s).state.shared

after_fits : {A B : Type 0} (forms : Forms) (r : Result A Stop) (t : State) (h : A → State → End B) → ((a : A) → KeepsFit forms B (h a)) → FitsNow forms t.shared → FitsNow forms (after r t h).state.shared
after_fits forms (Ok v) t h each fits = (each v).keeps t fits
after_fits forms (Err x) t h each fits = fits

then_fits : {forms : Forms} {A B : Type 0} {f : State → End A} {h : A → State → End B} → KeepsFit forms A f → ((a : A) → KeepsFit forms B (h a)) → KeepsFit forms B (λ s. then_do (f s) h)
then_fits {forms} {A} {B} {f} {h} first rest = record { keeps = λ s fits. after_fits forms (f s).result (f s).state h rest (first.keeps s fits) }

abbrev pub form_at_base : Forms → Base → Path → Option FieldForm
form_at_base forms Component = forms.contents
form_at_base forms Statics = forms.statics

pub written_fits : (forms : Forms) (base : Base) (path : Path) (new : Value) (s : Shared) → FitsNow forms s → is_kept (form_at_base forms base path) new ≡ true → FitsNow forms (written_at base path new s)
written_fits forms Component path new s fits k = record { contents = all_kept-with_value forms.contents s.contents path new fits.contents k; statics = fits.statics }
written_fits forms Statics path new s fits k = record { contents = fits.contents; statics = all_kept-with_value forms.statics s.statics path new fits.statics k }

pub loaded : (forms : Forms) (base : Base) (path : Path) (s : Shared) (old : Value) → FitsNow forms s → value_at (contents_of base s) path ≡ Some old → is_kept (form_at_base forms base path) old ≡ true
loaded forms Component path s old fits e = kept_at forms.contents s.contents path old fits.contents e
loaded forms Statics path s old fits e = kept_at forms.statics s.statics path old fits.statics e

stored_fits : (forms : Forms) (r : Option Value) (spot : Spot) (new : Value) (s : State) → value_at (contents_of spot.base s.shared) spot.path ≡ r → FitsNow forms s.shared →
    FitsNow forms (then_do (answers (there r) s) (λ o s1. store_over spot new o s1)).state.shared
stored_fits forms None spot new s e fits = fits
stored_fits forms (Some old) spot new s e fits = go (is_alike old new) refl
  where
    go : (b : Bool) → is_alike old new ≡ b → FitsNow forms ((if b then replace spot new else answers (Err Untyped)) s).state.shared
    go true alike = written_fits forms spot.base spot.path new s.shared fits (kept_over (form_at_base forms spot.base spot.path) new old (loaded forms spot.base spot.path s.shared old fits e) alike)
    go false other = fits

pub record CallsFit (forms : Forms) (c : Calls) : Type 0 where
  pub keeps : (m : ℕ) (frame : List Val) (s : Shared) → FitsNow forms s → FitsNow forms (c m frame s).shared

round_fits : {forms : Forms} (r : Round) (f : State → End Flow) → KeepsFit forms Flow f → KeepsFit forms Flow (after_round r f)
round_fits Again f one = one
round_fits Over f one = record { keeps = λ s fits. fits }
round_fits (Answer v) f one = record { keeps = λ s fits. fits }

loop_fits : {forms : Forms} {one : State → End Round} → KeepsFit forms Round one → (n : ℕ) → KeepsFit forms Flow (loop one n)
unfolding loop
loop_fits one zero = record { keeps = λ s fits. fits }
loop_fits {one = f} one (suc n) = then_fits one (λ r. round_fits r (loop f n) (loop_fits one n))

closed : (forms : Forms) (w : Setting) → CallsFit forms w.calls → Closed (KeepsFit forms) w
closed forms w calls = record {
  follow = then_fits;
  answer = λ r. record { keeps = λ s fits. fits };
  of_locals = λ f. record { keeps = λ s fits. fits };
  of_new_locals = λ v locals. record { keeps = λ s fits. fits };
  of_load = λ spot. record { keeps = λ s fits. fits };
  of_store = λ spot new. record { keeps = λ s fits. stored_fits forms (value_at (contents_of spot.base s.shared) spot.path) spot new s refl fits };
  of_moment = record { keeps = λ s fits. fits };
  of_turn = record { keeps = λ s fits. record { contents = fits.contents; statics = fits.statics } };
  of_calls = λ m frame. record { keeps = λ s fits. calls.keeps m frame s.shared fits };
  of_rounds = λ one. record { keeps = λ s fits. (loop_fits one (suc s.shared.turns)).keeps s fits };
}

body_fits : (forms : Forms) (w : Setting) → CallsFit forms w.calls → (kind : Kind) (body : Option Stmt) (frame : List Val) (s : Shared) → FitsNow forms s → FitsNow forms (run_body w kind body frame s).shared
body_fits forms w calls kind None frame s fits = fits
body_fits forms w calls kind (Some x) frame s fits = (of_stmt (KeepsFit forms) w (closed forms w calls) x).keeps (record { shared = s; locals = frame }) fits

method_fits : (forms : Forms) (w : Setting) → CallsFit forms w.calls → (m : Option Method) (frame : List Val) (s : Shared) → FitsNow forms s → FitsNow forms (run_method w m frame s).shared
method_fits forms w calls None frame s fits = fits
method_fits forms w calls (Some m) frame s fits = body_fits forms w calls m.result m.body frame s fits

-- calls leave what fits, where what they were given fits
pub calls_fit : (forms : Forms) (program : Program) (class frames : ℕ) → CallsFit forms (calls_with program class frames)
unfolding calls_with
calls_fit forms program class zero = record { keeps = λ m frame s fits. fits }
calls_fit forms program class (suc n) = record {
  keeps = λ m frame s fits. method_fits forms (record { program = program; class = class; calls = calls_with program class n }) (calls_fit forms program class n) (slice_get program.methods m) frame s fits;
}
