-- What reads and stores of places that were sought come to.
use Rattle.std.proofs.Common.{◌≡◌, ◌<◌, ◌≤◌, ℕ, ℤ, List, [], ◌∷◌, ◌++◌, length, nat_lt, Bool, true, false, cond, if◌then◌else◌, Option, Some, None, Result, Ok, Err, refl, sym, ap, ◌∙◌, arith}
use Rattle.std.specs.Prelude.{is_some}
use Rattle.std.proofs.lemmas.Bool.Decides.{nat_tests}
use Rattle.sed_value.specs.declared.slot_type.Primitive.{Primitive}
use Rattle.sed_value.specs.declared.value.Value.{Value}
use Rattle.sed_value.specs.declared.value.Value.TheVariants as kept
use Rattle.sed_typed.specs.declared.program.Program.{Program}
use Rattle.sed_typed.specs.declared.program.FieldForm.TheVariants.{Object}
use Rattle.sed_typed.specs.Contents.{Contents, Path, value_at, with_value}
use Rattle.sed_typed.specs.Objects.{class_at, static_class_at}
use Rattle.sed_engine.specs.Stops.{Stop, Untyped, there, map_ok, and_then}
use Rattle.sed_engine.specs.Values.{Val, Nothing, Int, Long, Truth, Null, At, Literal, Base, Spot, Component, Statics, read_as, stored_as, value_of, bytes_of, is_alike, spot_of}
use Rattle.sed_engine.specs.State.{Shared, State, End, gives, answers, then_do}
use Rattle.sed_engine.specs.Steps.{contents_of as contents_in, inside, load, read_spot, write_spot, read_bytes, write_bytes, written_at, store_over, store, with_local, write_local}
use Rattle.sed_engine.specs.Places.{static_spot, field_spot, element_spot, field_element}
use Rattle.sed_engine.specs.Texts.{index_of}
use Rattle.sed_cells.specs.declared.layout.Stands.{Stands}
use Rattle.sed_cells.specs.declared.layout.Stands.TheVariants as stands
use Rattle.sed_cells.specs.Places.{Plan, classes_in, contents_of, place_of, layout_at, climb, class_there, class_under, stands_at}
use Rattle.walk_steps.specs.declared.word.Base.TheVariants as base
use Rattle.walk_steps.specs.Seen.{spot_seen}
use Rattle.walk_steps.specs.Found.{NothingIn, NothingAt}
use Rattle.walk_steps.specs.Stored.{Stored, stepped, shared_of, kept_at, bytes_kept_at, contents_after}

-- place 0 is the whole
pub root-place : (plan : Plan) (top : ℕ) → place_of plan top 0 ≡ []
root-place plan top = go (nat_lt 0 (length (layout_at plan top).nodes))
  where
    go : (b : Bool) → climb (layout_at plan top).nodes (cond b 0 0) (cond b 0 0) [] ≡ []
    go true = refl
    go false = refl

pub static-root : (plan : Plan) (class n : ℕ) → inside (spot_seen plan class base.Statics 0) n ≡ static_spot n
static-root plan class n = ap (λ (p : Path). record { base = Statics; path = p ++ n ∷ [] }) (root-place plan (classes_in plan))

-- ---- bytes

pub bytes-at : (spot : Spot) (s : State) → read_bytes spot s ≡ answers (and_then (there (value_at (contents_in spot.base s.shared) spot.path)) bytes_of) s
bytes-at spot s = go (value_at (contents_in spot.base s.shared) spot.path)
  where
    go : (r : Option Value) → then_do (answers (there r) s) (λ v s1. answers (bytes_of v) s1) ≡ answers (and_then (there r) bytes_of) s
    go None = refl
    go (Some v) = refl

shared-after : Base → Path → Result Value Stop → Shared → Shared
shared-after b path (Ok v) s = written_at b path v s
shared-after b path (Err stop) s = s

put-at : (spot : Spot) (bytes : List ℕ) (s : State) → write_bytes spot bytes s ≡ record {
  result = map_ok (λ _. Nothing) (bytes_kept_at (contents_in spot.base s.shared) spot.path bytes);
  state = record { shared = shared-after spot.base spot.path (bytes_kept_at (contents_in spot.base s.shared) spot.path bytes) s.shared; locals = s.locals };
}
unfolding shared-after
put-at spot bytes s = go (value_at (contents_in spot.base s.shared) spot.path)
  where
    new : Value
    new = kept.Buf bytes

    kept-of : Option Value → Result Value Stop
    kept-of r = and_then (there r) (λ old. if is_alike old new then Ok new else Err Untyped)

    over : (old : Value) (b : Bool) →
        then_do ((if b then (λ (s1 : State). gives (tt {0}) (record { shared = written_at spot.base spot.path new s1.shared; locals = s1.locals })) else answers (Err Untyped)) s) (λ _ s1. gives Nothing s1)
        ≡ record {
          result = map_ok (λ _. Nothing) (if b then Ok new else Err Untyped);
          state = record { shared = shared-after spot.base spot.path (if b then Ok new else Err Untyped) s.shared; locals = s.locals };
        }
    over old true = refl
    over old false = refl

    go : (r : Option Value) → then_do (then_do (answers (there r) s) (λ old s1. store_over spot new old s1)) (λ _ s1. gives Nothing s1)
        ≡ record { result = map_ok (λ _. Nothing) (kept-of r); state = record { shared = shared-after spot.base spot.path (kept-of r) s.shared; locals = s.locals } }
    go None = refl
    go (Some old) = over old (is_alike old new)

pub put-component : (contents statics : Contents) (turns : ℕ) (moment : ℤ) (locals : List Val) (path : Path) (bytes : List ℕ) →
    write_bytes (record { base = Component; path = path }) bytes (record { shared = record { contents = contents; statics = statics; turns = turns; moment = moment }; locals = locals })
    ≡ record {
      result = map_ok (λ _. Nothing) (bytes_kept_at contents path bytes);
      state = record { shared = record { contents = contents_after contents path (bytes_kept_at contents path bytes); statics = statics; turns = turns; moment = moment }; locals = locals };
    }
unfolding shared-after
put-component contents statics turns moment locals path bytes =
    put-at (record { base = Component; path = path }) bytes (record { shared = record { contents = contents; statics = statics; turns = turns; moment = moment }; locals = locals })
    ∙ go (bytes_kept_at contents path bytes)
  where
    go : (r : Result Value Stop) → ◌≡◌ {A = End Val}
        (record { result = map_ok (λ _. Nothing) r; state = record { shared = shared-after Component path r (record { contents = contents; statics = statics; turns = turns; moment = moment }); locals = locals } })
        (record { result = map_ok (λ _. Nothing) r; state = record { shared = record { contents = contents_after contents path r; statics = statics; turns = turns; moment = moment }; locals = locals } })
    go (Ok v) = refl
    go (Err stop) = refl

pub put-statics : (contents statics : Contents) (turns : ℕ) (moment : ℤ) (locals : List Val) (path : Path) (bytes : List ℕ) →
    write_bytes (record { base = Statics; path = path }) bytes (record { shared = record { contents = contents; statics = statics; turns = turns; moment = moment }; locals = locals })
    ≡ record {
      result = map_ok (λ _. Nothing) (bytes_kept_at statics path bytes);
      state = record { shared = record { contents = contents; statics = contents_after statics path (bytes_kept_at statics path bytes); turns = turns; moment = moment }; locals = locals };
    }
unfolding shared-after
put-statics contents statics turns moment locals path bytes =
    put-at (record { base = Statics; path = path }) bytes (record { shared = record { contents = contents; statics = statics; turns = turns; moment = moment }; locals = locals })
    ∙ go (bytes_kept_at statics path bytes)
  where
    go : (r : Result Value Stop) → ◌≡◌ {A = End Val}
        (record { result = map_ok (λ _. Nothing) r; state = record { shared = shared-after Statics path r (record { contents = contents; statics = statics; turns = turns; moment = moment }); locals = locals } })
        (record { result = map_ok (λ _. Nothing) r; state = record { shared = record { contents = contents; statics = contents_after statics path r; turns = turns; moment = moment }; locals = locals } })
    go (Ok v) = refl
    go (Err stop) = refl

-- ---- where nothing is kept

-- nothing is kept at a spot in a state of a store
pub nothing-there : (plan : Plan) (class : ℕ) (s : Stored) (spot : Spot) → NothingIn plan class spot.base spot.path → value_at (contents_in spot.base (shared_of plan class s)) spot.path ≡ None
nothing-there plan class s spot h = go spot.base h
  where
    go : (b : Base) → NothingIn plan class b spot.path → value_at (contents_in b (shared_of plan class s)) spot.path ≡ None
    go Component n = n s.own
    go Statics n = n s.statics

pub bytes-nothing : (plan : Plan) (class : ℕ) (s : Stored) (locals : List Val) (r : Result Spot Stop) → NothingAt plan class r →
    ◌≡◌ {A = End (List ℕ)} (stepped plan class (Err Untyped) s locals) (then_do (answers r (record { shared = shared_of plan class s; locals = locals })) (λ spot s1. read_bytes spot s1))
bytes-nothing plan class s locals (Err stop) h = ap (λ (x : Stop). stepped {A = List ℕ} plan class (Err x) s locals) (sym h)
bytes-nothing plan class s locals (Ok spot) h =
    let here : State = record { shared = shared_of plan class s; locals = locals } in
    ap (λ (o : Option Value). answers (and_then (there o) bytes_of) here) (sym (nothing-there plan class s spot h)) ∙ sym (bytes-at spot here)

-- a value that is not stored is not typed
pub not-stored : (p : Primitive) (v : Val) (next : Value → Result Val Stop) → ((x : Value) → next x ≡ Err Untyped) → and_then (stored_as p v) next ≡ Err Untyped
not-stored p Nothing next h = refl
not-stored p (Truth t) next h = h _
not-stored p (Int n) next h = h _
not-stored p (Long n) next h = h _
not-stored p Null next h = refl
not-stored p (At spot) next h = refl
not-stored p (Literal n) next h = refl

store-nothing : (p : Primitive) (spot : Spot) (v : Val) (s : State) → value_at (contents_in spot.base s.shared) spot.path ≡ None → write_spot p spot v s ≡ answers (Err Untyped) s
store-nothing p spot v s none = go v
  where
    over : (new : Value) → then_do (then_do (answers (there (value_at (contents_in spot.base s.shared) spot.path)) s) (λ old s1. store_over spot new old s1)) (λ _ s2. answers (read_as new) s2) ≡ answers (Err Untyped) s
    over new = ap (λ (o : Option Value). then_do (then_do (answers (there o) s) (λ old s1. store_over spot new old s1)) (λ _ s2. answers (read_as new) s2)) none

    go : (v : Val) → write_spot p spot v s ≡ answers (Err Untyped) s
    go Nothing = refl
    go (Truth t) = over _
    go (Int n) = over _
    go (Long n) = over _
    go Null = refl
    go (At spot) = refl
    go (Literal n) = refl

pub write-nothing : (plan : Plan) (class : ℕ) (s : Stored) (locals : List Val) (r : Result Spot Stop) (p : Primitive) (v : Val) → NothingAt plan class r →
    stepped plan class (Err Untyped) s locals ≡ then_do (answers r (record { shared = shared_of plan class s; locals = locals })) (λ spot s1. write_spot p spot v s1)
write-nothing plan class s locals (Err stop) p v h = ap (λ (x : Stop). stepped {A = Val} plan class (Err x) s locals) (sym h)
write-nothing plan class s locals (Ok spot) p v h =
    sym (store-nothing p spot v (record { shared = shared_of plan class s; locals = locals }) (nothing-there plan class s spot h))

-- ---- the forms of targets

module _ (s : State) (object : Val) (i : ℕ) where
  pub field-is : {A : Type 0} (next : Spot → State → End A) → then_do (field_spot object i s) next ≡ then_do (answers (map_ok (λ spot. inside spot i) (spot_of object)) s) next
  field-is next = go (spot_of object)
    where
      go : (r : Result Spot Stop) → then_do (then_do (answers r s) (λ spot s1. gives (inside spot i) s1)) next ≡ then_do (answers (map_ok (λ spot. inside spot i) r) s) next
      go (Ok spot) = refl
      go (Err stop) = refl

pub element-is : {A : Type 0} (s : State) (count : ℕ) (array : Spot) (index : Val) (next : Spot → State → End A) →
    then_do (element_spot count array index s) next ≡ then_do (answers (map_ok (λ i. inside array i) (index_of count index)) s) next
element-is s count array index next = go (index_of count index)
  where
    go : (r : Result ℕ Stop) → then_do (then_do (answers r s) (λ i s1. gives (inside array i) s1)) next ≡ then_do (answers (map_ok (λ i. inside array i) r) s) next
    go (Ok i) = refl
    go (Err stop) = refl

pub field-element-is : {A : Type 0} (s : State) (count : ℕ) (object : Val) (i : ℕ) (index : Val) (next : Spot → State → End A) →
    then_do (field_element count object i index s) next
    ≡ then_do (answers (and_then (spot_of object) (λ spot. map_ok (λ k. inside (inside spot i) k) (index_of count index))) s) next
field-element-is s count object i index next = go (spot_of object) (index_of count index)
  where
    go : (r : Result Spot Stop) (q : Result ℕ Stop) →
        then_do (then_do (then_do (answers r s) (λ spot s1. gives (inside spot i) s1)) (λ array s1. then_do (answers q s1) (λ k s2. gives (inside array k) s2))) next
        ≡ then_do (answers (and_then r (λ spot. map_ok (λ k. inside (inside spot i) k) q)) s) next
    go (Ok spot) (Ok k) = refl
    go (Ok spot) (Err stop) = refl
    go (Err stop) q = refl

-- ---- classes

stands-class : (program : Program) (class : ℕ) → class < length program.schema.classes → stands_at program class ≡ stands.Part (Object (record { 0 = class }))
stands-class program class h = let e : nat_lt class (length program.schema.classes) ≡ true = grind (arith, nat_tests) in ap (λ (b : Bool). if b then stands.Part (Object (record { 0 = class })) else stands.Statics) e

stands-statics : (program : Program) → stands_at program (length program.schema.classes) ≡ stands.Statics
stands-statics program = let e : nat_lt (length program.schema.classes) (length program.schema.classes) ≡ false = grind (arith, nat_tests) in ap (λ (b : Bool). if b then stands.Part (Object (record { 0 = length program.schema.classes })) else stands.Statics) e

pub class-component : (program : Program) (class : ℕ) (path : Path) → class < length program.schema.classes → class_there program class path ≡ class_at program path class
class-component program class path h = ap (λ (t : Stands). class_under program t path) (stands-class program class h)

pub class-statics : (program : Program) (path : Path) → class_there program (length program.schema.classes) path ≡ static_class_at program path
class-statics program path = ap (λ (t : Stands). class_under program t path) (stands-statics program)

-- an object that stands at a place
pub object-part : (spot : Spot) (s : State) (o : Option ℕ) (r : Result Val Stop) → r ≡ map_ok (λ _. At spot) (there o) →
    answers r s ≡ then_do (answers (there o) s) (λ _ s1. gives (At spot) s1)
object-part spot s None r e = ap (λ (x : Result Val Stop). answers x s) e
object-part spot s (Some class) r e = ap (λ (x : Result Val Stop). answers x s) e

-- ---- locals

pub local-put : (s : Shared) (old new : List Val) (i : ℕ) (v : Val) → Ok new ≡ with_local old i v →
    record { result = Ok v; state = record { shared = s; locals = new } } ≡ write_local i v (record { shared = s; locals = old })
local-put s old new i v e = ap (λ (r : Result (List Val) Stop). then_do (answers r (record { shared = s; locals = old })) (λ locals s1. gives v (record { shared = s1.shared; locals = locals }))) e

pub local-not-put : (s : Shared) (old : List Val) (i : ℕ) (v : Val) (stop : Stop) → Err stop ≡ with_local old i v →
    record { result = Err stop; state = record { shared = s; locals = old } } ≡ write_local i v (record { shared = s; locals = old })
local-not-put s old i v stop e = ap (λ (r : Result (List Val) Stop). then_do (answers r (record { shared = s; locals = old })) (λ locals s1. gives v (record { shared = s1.shared; locals = locals }))) e
