-- What every step of a typed method leaves: contents and statics that fit, and locals that hold values of their kinds.
use Rattle.std.proofs.Common.{◌≡◌, ◌==◌, ◌&&◌, ◌||◌, not, ℕ, zero, suc, Bool, true, false, if◌then◌else◌, List, [], ◌∷◌, length, map, Option, Some, Result, Ok, Err, refl, sym, subst, ◌∙◌, arith}
use Rattle.std.specs.Prelude.{slice_get, slice_set}
use Rattle.std.specs.Int.{w64}
use Rattle.std.proofs.lemmas.Bool.{and_parts, and_from}
use Rattle.std.proofs.lemmas.Bool.Decides.{nat_tests}
use Rattle.std.proofs.lemmas.Option.{same_Some}
use Rattle.sed_value.specs.Value.{is_signed}
use Rattle.sed_value.specs.declared.value.Value.{Value}
use Rattle.sed_value.specs.declared.value.Value.TheVariants as kept
use Rattle.sed_value.specs.declared.slot_type.Primitive.{Primitive}
use Rattle.sed_value.specs.declared.slot_type.Primitive.TheVariants as prim
use Rattle.sed_typed.specs.declared.kind.Kind.{Kind}
use Rattle.sed_typed.specs.declared.kind.Kind.TheVariants as kind
use Rattle.sed_typed.specs.declared.number.TypeNo.{TypeNo}
use Rattle.sed_typed.specs.declared.program.FieldForm.{FieldForm}
use Rattle.sed_typed.specs.declared.program.FieldForm.TheVariants as form
use Rattle.sed_typed.specs.declared.program.Program.{Program}
use Rattle.sed_typed.specs.Contents.{Path, value_at}
use Rattle.sed_typed.specs.Initial.{initial, initial_statics}
use Rattle.sed_typed.specs.Kinds.{read_kind}
use Rattle.sed_typed.specs.Typed.{Typed}
use Rattle.sed_engine.specs.declared.trap.Trap.TheVariants.{TurnsSpent}
use Rattle.sed_engine.specs.Stops.{Stop, Traps, Untyped, there, map_ok}
use Rattle.sed_engine.specs.Values.{Val, Nothing, Null, At, Base, Component, Statics, Spot, is_met, is_alike, are_alike, are_bytes, last_byte, read_as, stored_as, bytes_of, begun, receiver}
use Rattle.sed_engine.specs.Fits.{keeps, is_kept}
use Rattle.sed_engine.specs.State.{Shared, State, End, gives, answers, after, then_do}
use Rattle.sed_engine.specs.Steps.{contents_of, written_at, choose, load, replace, store, read_spot, write_spot, read_bytes, write_bytes, read_local, read_this, write_local, read_moment, take_turn}
use Rattle.sed_engine.proofs.Below.{no, absent}
use Rattle.sed_engine.proofs.FirstPaths.{IsLeaf, initial_has, statics_have, has_same, value_there}
use Rattle.sed_engine.proofs.Frames.{FrameHolds, local_held, local_set}
use Rattle.sed_engine.proofs.KeepsFit.{Forms, FitsNow, form_at_base, written_fits, loaded}
use Rattle.sed_engine.proofs.Kinded.{form_from, HasKind, Held, held, met_of, read_is, stored_is}
use Rattle.sed_engine.proofs.Ranges.{Sound}
use Rattle.sed_engine.proofs.Spots.{Concrete}
use Rattle.sed_engine.proofs.Within.{Within, written_within}
use Rattle.sed_value.proofs.Truths.{either_true}

abbrev pub forms_of : Program → ℕ → Forms
forms_of program class = record { contents = form_from program class Component; statics = form_from program class Statics }

-- contents and statics have their first paths, and fit; the moment is a long
pub record Fitting (program : Program) (class : ℕ) (s : Shared) : Type 0 where
  pub fits : FitsNow (forms_of program class) s
  pub contents : map (λ e. e.0) s.contents ≡ map (λ e. e.0) (initial program class)
  pub statics : map (λ e. e.0) s.statics ≡ map (λ e. e.0) (initial_statics program)
  pub moment : is_signed w64 s.moment ≡ true

-- ---- what is kept at a place

form_of_base : (program : Program) (class : ℕ) (base : Base) (path : Path) → form_at_base (forms_of program class) base path ≡ form_from program class base path
form_of_base program class Component path = refl
form_of_base program class Statics path = refl

kept_as : (f : FieldForm) (v : Value) (o : Option FieldForm) → o ≡ Some f → is_kept o v ≡ true → keeps f v ≡ true
kept_as f v o e h = subst (λ (x : Option FieldForm). is_kept x v ≡ true) e h

-- a value of the form at a place
pub record KeptAt (f : FieldForm) (base : Base) (path : Path) (s : Shared) : Type 0 where
  pub value : Value
  pub is : value_at (contents_of base s) path ≡ Some value
  pub keeps_it : keeps f value ≡ true

pub kept_there : (program : Program) → Typed program → (class : ℕ) → Concrete program class → (base : Base) (path : Path) (f : FieldForm) (s : Shared) → Fitting program class s →
    form_from program class base path ≡ Some f → IsLeaf f → KeptAt f base path s
kept_there program typed class own base path f s fitting e leaf =
    let v : (v : Value) × (value_at (contents_of base s) path ≡ Some v) = value base e in
    record {
      value = v.0;
      is = v.1;
      keeps_it = kept_as f v.0 (form_at_base (forms_of program class) base path) (form_of_base program class base path ∙ e) (loaded (forms_of program class) base path s v.0 fitting.fits v.1);
    }
  where
    value : (base : Base) → form_from program class base path ≡ Some f → (v : Value) × (value_at (contents_of base s) path ≡ Some v)
    value Component e = value_there s.contents path (has_same s.contents (initial program class) path fitting.contents (initial_has program typed class own.0 path f leaf e))
    value Statics e = value_there s.statics path (has_same s.statics (initial_statics program) path fitting.statics (statics_have program typed path f leaf e))

-- a value that may be stored at a place of a form: of a primitive or a Str
abbrev pub IsStored : FieldForm → Type 0
IsStored (form.Prim p) = Unit {0}
IsStored (form.Str n) = Unit {0}
IsStored f = ⊥

lengths : (a b n : ℕ) → (a == n) ≡ true → (b == n) ≡ true → (b == a) ≡ true
lengths a b n h k = grind (arith, nat_tests)

str_alike : (n : ℕ) (old new : List ℕ) → keeps (form.Str n) (kept.Buf old) ≡ true → keeps (form.Str n) (kept.Buf new) ≡ true → are_alike old (kept.Buf new) ≡ true
str_alike n old new h k =
    let a : ((are_bytes old && (length old == n)) ≡ true) × ((last_byte old == 0) ≡ true) = and_parts (are_bytes old && (length old == n)) (last_byte old == 0) h in
    let b : ((are_bytes new && (length new == n)) ≡ true) × ((last_byte new == 0) ≡ true) = and_parts (are_bytes new && (length new == n)) (last_byte new == 0) k in
    let c : (are_bytes old ≡ true) × ((length old == n) ≡ true) = and_parts (are_bytes old) (length old == n) a.0 in
    let d : (are_bytes new ≡ true) × ((length new == n) ≡ true) = and_parts (are_bytes new) (length new == n) b.0 in
    and_from (are_bytes new && (length new == length old)) (not (last_byte old == 0) || (last_byte new == 0))
    (and_from (are_bytes new) (length new == length old) d.0 (lengths (length old) (length new) n c.1 d.1))
    (either_true (not (last_byte old == 0)) (last_byte new == 0) b.1)

-- it is of the type of what stood there
alike : (f : FieldForm) → IsStored f → (old new : Value) → keeps f old ≡ true → keeps f new ≡ true → is_alike old new ≡ true
alike (form.Prim prim.Bool) st (kept.Bool t) new h k = k
alike (form.Prim prim.Byte) st (kept.Byte n) new h k = k
alike (form.Prim prim.Short) st (kept.Short n) new h k = k
alike (form.Prim prim.Int) st (kept.Int n) new h k = k
alike (form.Prim prim.Long) st (kept.Long n) new h k = k
alike (form.Prim p) st old new h k = no h
alike (form.Str n) st (kept.Buf old) (kept.Buf new) h k = str_alike n old new h k
alike (form.Str n) st (kept.Buf old) new h k = no k
alike (form.Str n) st old new h k = no h
alike f st old new h k = absurd st

written_fitting : (program : Program) (class : ℕ) (base : Base) (path : Path) (f : FieldForm) (new : Value) (s : Shared) → Fitting program class s → form_from program class base path ≡ Some f → keeps f new ≡ true →
    Fitting program class (written_at base path new s)
written_fitting program class base path f new s fitting e k =
    let w : Within s (written_at base path new s) = written_within base path new s in
    record {
      fits = written_fits (forms_of program class) base path new s fitting.fits (subst (λ (x : Option FieldForm). is_kept x new ≡ true) (sym (form_of_base program class base path ∙ e)) k);
      contents = w.contents ∙ fitting.contents;
      statics = w.statics ∙ fitting.statics;
      moment = same_moment base fitting.moment;
    }
  where
    same_moment : (base : Base) → is_signed w64 s.moment ≡ true → is_signed w64 (written_at base path new s).moment ≡ true
    same_moment Component h = h
    same_moment Statics h = h

-- ---- steps

-- from each state of a sort a step leaves one of the sort, and comes to a value with a property or to a trap
pub record Holds (G : State → Type 0) (A : Type 0) (P : A → Type 0) (f : State → End A) : Type 0 where
  pub holds : (s : State) → G s → G (f s).state × Sound P (f s).result

module _ {G : State → Type 0} where
  after_holds : {A B : Type 0} {P : A → Type 0} {Q : B → Type 0} (r : Result A Stop) (t : State) (h : A → State → End B) → ((a : A) → P a → Holds G B Q (h a)) → G t → Sound P r →
      G (after r t h).state × Sound Q (after r t h).result
  after_holds (Ok v) t h each g p = (each v p).holds t g
  after_holds (Err (Traps trap)) t h each g p = (g, tt)
  after_holds (Err Untyped) t h each g p = absurd p

  pub then_holds : {A B : Type 0} {P : A → Type 0} {Q : B → Type 0} {f : State → End A} {h : A → State → End B} → Holds G A P f → ((a : A) → P a → Holds G B Q (h a)) → Holds G B Q (λ s. then_do (f s) h)
  then_holds {A} {B} {P} {Q} {f} {h} first rest = record { holds = λ s g. let one = first.holds s g in after_holds (f s).result (f s).state h rest one.0 one.1 }

  pub gives_it : {A : Type 0} {P : A → Type 0} (v : A) → P v → Holds G A P (gives v)
  gives_it v p = record { holds = λ s g. (g, p) }

  pub answers_it : {A : Type 0} {P : A → Type 0} (r : Result A Stop) → Sound P r → Holds G A P (answers r)
  answers_it r p = record { holds = λ s g. (g, p) }

  pick : {A : Type 0} {P : A → Type 0} {f g : State → End A} (b : Bool) → Holds G A P f → Holds G A P g → Holds G A P (if b then f else g)
  pick true x y = x
  pick false x y = y

  pub chooses : (program : Program) (class : ℕ) {A : Type 0} {P : A → Type 0} {f g : State → End A} (v : Val) → HasKind program class kind.Bool v → Holds G A P f → Holds G A P g → Holds G A P (choose v f g)
  chooses program class v h x y = then_holds (answers_it (is_met v) (met_of program class v h)) (λ b _. pick b x y)

-- a state in which a typed method runs
pub record Ready (program : Program) (class : ℕ) (own : TypeNo) (static : Bool) (locals : List Kind) (s : State) : Type 0 where
  pub fitting : Fitting program class s.shared
  pub holds : FrameHolds program class locals s.locals
  pub this : static ≡ false → (v : Val) × (slice_get s.locals 0 ≡ Some v) × HasKind program class (kind.Object own) v

-- a method of a typed program as its steps see it: its class, and the kinds of its locals, the receiver's first
pub record Frame : Type 0 where
  pub own : TypeNo
  pub static : Bool
  pub locals : List Kind
  pub first : static ≡ false → slice_get locals 0 ≡ Some (kind.Object own)

module _ (program : Program) (typed : Typed program) (class : ℕ) (component : Concrete program class) (m : Frame) where
  abbrev pub G : State → Type 0
  G s = Ready program class m.own m.static m.locals s

  abbrev Stands : Spot → FieldForm → Type 0
  Stands spot f = form_from program class spot.base spot.path ≡ Some f

  pub load_holds : (spot : Spot) (f : FieldForm) → Stands spot f → IsLeaf f → Holds G Value (λ v. keeps f v ≡ true) (load spot)
  load_holds spot f e leaf = record {
    holds = λ s g. let k : KeptAt f spot.base spot.path s.shared = kept_there program typed class component spot.base spot.path f s.shared g.fitting e leaf in
        (g, subst (λ (o : Option Value). Sound (λ v. keeps f v ≡ true) (there o)) (sym k.is) k.keeps_it);
  }

  replaced : (spot : Spot) (f : FieldForm) (new : Value) (b : Bool) → Stands spot f → keeps f new ≡ true → b ≡ true → Holds G (Unit {0}) (λ _. Unit {0}) (if b then replace spot new else answers (Err Untyped))
  replaced spot f new true e k h = record {
    holds = λ s g. (record { fitting = written_fitting program class spot.base spot.path f new s.shared g.fitting e k; holds = g.holds; this = g.this }, tt);
  }
  replaced spot f new false e k h = no h

  pub store_holds : (spot : Spot) (f : FieldForm) (new : Value) → Stands spot f → IsLeaf f → IsStored f → keeps f new ≡ true → Holds G (Unit {0}) (λ _. Unit {0}) (store spot new)
  store_holds spot f new e leaf st k = then_holds (load_holds spot f e leaf) (λ old h. replaced spot f new (is_alike old new) e k (alike f st old new h k))

  pub read_holds : (spot : Spot) (p : Primitive) → Stands spot (form.Prim p) → Holds G Val (HasKind program class (read_kind p)) (read_spot spot)
  read_holds spot p e = then_holds (load_holds spot (form.Prim p) e tt) (λ v k. answers_it (read_as v) (read_is program class p v k))

  pub write_holds : (spot : Spot) (p : Primitive) (v : Val) → Stands spot (form.Prim p) → HasKind program class (read_kind p) v → Holds G Val (HasKind program class (read_kind p)) (write_spot p spot v)
  write_holds spot p v e h =
      then_holds (answers_it (stored_as p v) (stored_is program class p v h)) (λ new k. then_holds (store_holds spot (form.Prim p) new e tt tt k) (λ _ _. answers_it (read_as new) (read_is program class p new k)))

  str_bytes : (n : ℕ) (v : Value) → keeps (form.Str n) v ≡ true → Sound (λ (bytes : List ℕ). keeps (form.Str n) (kept.Buf bytes) ≡ true) (bytes_of v)
  str_bytes n (kept.Buf bytes) k = k
  str_bytes n v k = no k

  buf_bytes : (n : ℕ) (v : Value) → keeps (form.Buf n) v ≡ true → Sound (λ (bytes : List ℕ). keeps (form.Buf n) (kept.Buf bytes) ≡ true) (bytes_of v)
  buf_bytes n (kept.Buf bytes) k = k
  buf_bytes n v k = no k

  pub read_str_holds : (spot : Spot) (n : ℕ) → Stands spot (form.Str n) → Holds G (List ℕ) (λ bytes. keeps (form.Str n) (kept.Buf bytes) ≡ true) (read_bytes spot)
  read_str_holds spot n e = then_holds (load_holds spot (form.Str n) e tt) (λ v k. answers_it (bytes_of v) (str_bytes n v k))

  pub read_buf_holds : (spot : Spot) (n : ℕ) → Stands spot (form.Buf n) → Holds G (List ℕ) (λ bytes. keeps (form.Buf n) (kept.Buf bytes) ≡ true) (read_bytes spot)
  read_buf_holds spot n e = then_holds (load_holds spot (form.Buf n) e tt) (λ v k. answers_it (bytes_of v) (buf_bytes n v k))

  pub write_str_holds : (spot : Spot) (n : ℕ) (bytes : List ℕ) → Stands spot (form.Str n) → keeps (form.Str n) (kept.Buf bytes) ≡ true → Holds G Val (λ _. Unit {0}) (write_bytes spot bytes)
  write_str_holds spot n bytes e k = then_holds (store_holds spot (form.Str n) (kept.Buf bytes) e tt tt k) (λ _ _. gives_it Nothing tt)

  pub read_local_holds : (i : ℕ) (k : Kind) → slice_get m.locals i ≡ Some k → Holds G Val (HasKind program class k) (read_local k i)
  read_local_holds i k e = record {
    holds = λ s g. let v : (v : Val) × (slice_get s.locals i ≡ Some v) × Held program class k v = local_held program class m.locals s.locals i k g.holds e in
        subst (λ (o : Option Val). G (then_do (answers (there o) s) (λ x s1. gives (begun k x) s1)).state × Sound (HasKind program class k) (then_do (answers (there o) s) (λ x s1. gives (begun k x) s1)).result) (sym v.1) (g, v.2);
  }

  received : (v : Val) → HasKind program class (kind.Object m.own) v → Sound (HasKind program class (kind.Object m.own)) (receiver v)
  received Null h = h
  received (At spot) h = h
  received v h = absurd h

  pub this_holds : m.static ≡ false → Holds G Val (HasKind program class (kind.Object m.own)) read_this
  this_holds static = record {
    holds = λ s g. let v : (v : Val) × (slice_get s.locals 0 ≡ Some v) × HasKind program class (kind.Object m.own) v = g.this static in
        subst (λ (o : Option Val). G (then_do (answers (there o) s) (λ x s1. answers (receiver x) s1)).state × Sound (HasKind program class (kind.Object m.own)) (then_do (answers (there o) s) (λ x s1. answers (receiver x) s1)).result) (sym v.1) (g, received v.0 v.2);
  }

  set_first : (vs : List Val) (u v : Val) → slice_get vs 0 ≡ Some u → slice_get (slice_set vs 0 v) 0 ≡ Some v
  set_first [] u v e = absent u e
  set_first (x ∷ xs) u v e = refl

  set_later : (vs : List Val) (i : ℕ) (v : Val) → slice_get (slice_set vs (suc i) v) 0 ≡ slice_get vs 0
  set_later [] i v = refl
  set_later (x ∷ xs) i v = refl

  this_stays : (vs : List Val) (i : ℕ) (k : Kind) (v : Val) → slice_get m.locals i ≡ Some k → HasKind program class k v →
      (m.static ≡ false → (u : Val) × (slice_get vs 0 ≡ Some u) × HasKind program class (kind.Object m.own) u) →
      m.static ≡ false → (u : Val) × (slice_get (slice_set vs i v) 0 ≡ Some u) × HasKind program class (kind.Object m.own) u
  this_stays vs zero k v e h before static =
      let same : k ≡ kind.Object m.own = same_Some k (kind.Object m.own) (sym e ∙ m.first static) in
      (v, set_first vs (before static).0 v (before static).1, subst (λ (x : Kind). HasKind program class x v) same h)
  this_stays vs (suc i) k v e h before static =
      let u : (u : Val) × (slice_get vs 0 ≡ Some u) × HasKind program class (kind.Object m.own) u = before static in
      (u.0, set_later vs i v ∙ u.1, u.2)

  pub write_local_holds : (i : ℕ) (k : Kind) (v : Val) → slice_get m.locals i ≡ Some k → HasKind program class k v → Holds G Val (HasKind program class k) (write_local i v)
  write_local_holds i k v e h = record {
    holds = λ s g. let old : (u : Val) × (slice_get s.locals i ≡ Some u) × Held program class k u = local_held program class m.locals s.locals i k g.holds e in
        subst (λ (o : Option Val).
        G (then_do (answers (map_ok (λ _. slice_set s.locals i v) (there o)) s) (λ all s1. gives v (record { shared = s1.shared; locals = all }))).state
        × Sound (HasKind program class k) (then_do (answers (map_ok (λ _. slice_set s.locals i v) (there o)) s) (λ all s1. gives v (record { shared = s1.shared; locals = all }))).result) (sym old.1) (
          record {
            fitting = g.fitting;
            holds = local_set program class m.locals s.locals i k v g.holds e (held program class k v h);
            this = this_stays s.locals i k v e h g.this;
          },
          h,
        );
  }

  pub moment_holds : Holds G Val (HasKind program class kind.Long) read_moment
  moment_holds = record { holds = λ s g. (g, g.fitting.moment) }

  turn_is : (b : Bool) → Sound (λ _. Unit {0}) (if b then Err (Traps TurnsSpent) else Ok (tt {0}))
  turn_is true = tt
  turn_is false = tt

  pub turn_holds : Holds G (Unit {0}) (λ _. Unit {0}) take_turn
  turn_holds = record {
    holds = λ s g. (
      record {
        fitting = record { fits = record { contents = g.fitting.fits.contents; statics = g.fitting.fits.statics }; contents = g.fitting.contents; statics = g.fitting.statics; moment = g.fitting.moment };
        holds = g.holds;
        this = g.this;
      },
      turn_is (s.shared.turns == 0),
    );
  }
