-- What a read and a write of a place come to.
use Rattle.std.proofs.Common.{◌≡◌, ◌<◌, ◌≤◌, ℕ, zero, suc, ℤ, List, [], ◌∷◌, length, map, slice_index_or, Bool, true, false, if◌then◌else◌, Option, Some, None, Result, Ok, Err, refl, sym, ap, ◌∙◌, arith}
use Rattle.std.specs.Prelude.{slice_get}
use Rattle.std.proofs.Math.ListN.{set}
use Rattle.std.proofs.lemmas.List.{map-set}
use Rattle.sed_value.specs.declared.slot_type.Primitive.{Primitive}
use Rattle.sed_value.specs.declared.value.Value.{Value}
use Rattle.sed_typed.specs.Contents.{Contents, Path, value_at}
use Rattle.sed_engine.specs.Stops.{Stop, Untyped, there, map_ok, and_then}
use Rattle.sed_cells.specs.Places.{Plan, classes_in, contents_of}
use Rattle.sed_engine.specs.Values.{Val, Base, Spot, Component, Statics, read_as, stored_as, is_alike}
use Rattle.sed_engine.specs.State.{State, gives, answers, then_do}
use Rattle.sed_engine.specs.Steps.{read_spot, write_spot, written_at, store_over, store}
use Rattle.walk_steps.specs.Found.{NothingIn, NothingAt}
use Rattle.walk_steps.specs.Stored.{Stored, stepped, shared_of, kept_at, contents_after}

module _ (contents statics : Contents) (turns : ℕ) (moment : ℤ) (locals : List Val) where
  abbrev here : State
  here = record { shared = record { contents = contents; statics = statics; turns = turns; moment = moment }; locals = locals }

  pub read-component : (path : Path) → read_spot (record { base = Component; path = path }) here ≡ record { result = and_then (there (value_at contents path)) read_as; state = here }
  read-component path = go (value_at contents path)
    where
      go : (r : Option Value) → then_do (answers (there r) here) (λ v s1. answers (read_as v) s1) ≡ record { result = and_then (there r) read_as; state = here }
      go None = refl
      go (Some v) = refl

  pub read-statics : (path : Path) → read_spot (record { base = Statics; path = path }) here ≡ record { result = and_then (there (value_at statics path)) read_as; state = here }
  read-statics path = go (value_at statics path)
    where
      go : (r : Option Value) → then_do (answers (there r) here) (λ v s1. answers (read_as v) s1) ≡ record { result = and_then (there r) read_as; state = here }
      go None = refl
      go (Some v) = refl

  pub write-component : (p : Primitive) (path : Path) (v : Val) → write_spot p (record { base = Component; path = path }) v here
      ≡ record {
        result = and_then (kept_at contents path p v) read_as;
        state = record { shared = record { contents = contents_after contents path (kept_at contents path p v); statics = statics; turns = turns; moment = moment }; locals = locals };
      }
  write-component p path v = new (stored_as p v)
    where
      kept_of : Result Value Stop → Option Value → Result Value Stop
      kept_of r old = and_then r (λ n. and_then (there old) (λ o. if is_alike o n then Ok n else Err Untyped))

      over : (n o : Value) (b : Bool) →
          then_do ((if b then (λ s. gives (tt {0}) (record { shared = written_at Component path n s.shared; locals = s.locals })) else answers (Err Untyped)) here) (λ _ s2. answers (read_as n) s2)
          ≡ record {
            result = and_then (if b then Ok n else Err Untyped) read_as;
            state = record { shared = record { contents = contents_after contents path (if b then Ok n else Err Untyped); statics = statics; turns = turns; moment = moment }; locals = locals };
          }
      over n o true = refl
      over n o false = refl

      old : (n : Value) (r : Option Value) →
          then_do (then_do (answers (there r) here) (λ o s1. store_over (record { base = Component; path = path }) n o s1)) (λ _ s2. answers (read_as n) s2)
          ≡ record {
            result = and_then (kept_of (Ok n) r) read_as;
            state = record { shared = record { contents = contents_after contents path (kept_of (Ok n) r); statics = statics; turns = turns; moment = moment }; locals = locals };
          }
      old n None = refl
      old n (Some o) = over n o (is_alike o n)

      new : (r : Result Value Stop) →
          then_do (answers r here) (λ n s1. then_do (store (record { base = Component; path = path }) n s1) (λ _ s2. answers (read_as n) s2))
          ≡ record {
            result = and_then (kept_of r (value_at contents path)) read_as;
            state = record { shared = record { contents = contents_after contents path (kept_of r (value_at contents path)); statics = statics; turns = turns; moment = moment }; locals = locals };
          }
      new (Err stop) = refl
      new (Ok n) = old n (value_at contents path)

  pub write-statics : (p : Primitive) (path : Path) (v : Val) → write_spot p (record { base = Statics; path = path }) v here
      ≡ record {
        result = and_then (kept_at statics path p v) read_as;
        state = record { shared = record { contents = contents; statics = contents_after statics path (kept_at statics path p v); turns = turns; moment = moment }; locals = locals };
      }
  write-statics p path v = new (stored_as p v)
    where
      kept_of : Result Value Stop → Option Value → Result Value Stop
      kept_of r old = and_then r (λ n. and_then (there old) (λ o. if is_alike o n then Ok n else Err Untyped))

      over : (n o : Value) (b : Bool) →
          then_do ((if b then (λ s. gives (tt {0}) (record { shared = written_at Statics path n s.shared; locals = s.locals })) else answers (Err Untyped)) here) (λ _ s2. answers (read_as n) s2)
          ≡ record {
            result = and_then (if b then Ok n else Err Untyped) read_as;
            state = record { shared = record { contents = contents; statics = contents_after statics path (if b then Ok n else Err Untyped); turns = turns; moment = moment }; locals = locals };
          }
      over n o true = refl
      over n o false = refl

      old : (n : Value) (r : Option Value) →
          then_do (then_do (answers (there r) here) (λ o s1. store_over (record { base = Statics; path = path }) n o s1)) (λ _ s2. answers (read_as n) s2)
          ≡ record {
            result = and_then (kept_of (Ok n) r) read_as;
            state = record { shared = record { contents = contents; statics = contents_after statics path (kept_of (Ok n) r); turns = turns; moment = moment }; locals = locals };
          }
      old n None = refl
      old n (Some o) = over n o (is_alike o n)

      new : (r : Result Value Stop) →
          then_do (answers r here) (λ n s1. then_do (store (record { base = Statics; path = path }) n s1) (λ _ s2. answers (read_as n) s2))
          ≡ record {
            result = and_then (kept_of r (value_at statics path)) read_as;
            state = record { shared = record { contents = contents; statics = contents_after statics path (kept_of r (value_at statics path)); turns = turns; moment = moment }; locals = locals };
          }
      new (Err stop) = refl
      new (Ok n) = old n (value_at statics path)

-- what is kept, where what is stored and what stands there are known
pub kept-is : (contents : Contents) (path : Path) (p : Primitive) (v : Val) (r : Result Value Stop) (o : Option Value) → stored_as p v ≡ r → value_at contents path ≡ o →
    kept_at contents path p v ≡ and_then r (λ new. and_then (there o) (λ old. if is_alike old new then Ok new else Err Untyped))
kept-is contents path p v r o er eo =
    ap (λ (x : Option Value). and_then (stored_as p v) (λ new. and_then (there x) (λ old. if is_alike old new then Ok new else Err Untyped))) eo
    ∙ ap (λ (x : Result Value Stop). and_then x (λ new. and_then (there o) (λ old. if is_alike old new then Ok new else Err Untyped))) er

-- what a look-up by number tells
pub past_get : {X : Type 0} (xs : List X) (n : ℕ) (d : X) → slice_get xs n ≡ None → slice_index_or xs n d ≡ d
past_get [] n d e = refl
past_get (x ∷ xs) zero d e = absurd (let never : Some x ≡ None = e in let no : ⊥ = cc in no)
past_get (x ∷ xs) (suc n) d e = past_get xs n d e

pub local-written : {X : Type 0} (f : X → Val) (xs : List X) (n : ℕ) (v : X) → n < length xs → ◌≡◌ {A = Result (List Val) Stop} (Ok (map f (set xs n v))) (map_ok (λ _. set (map f xs) n (f v)) (there (slice_get (map f xs) n)))
local-written {X = X} f xs n v h = ap (λ (ys : List Val). Ok ys) (map-set f xs n v) ∙ go xs n h
  where
    go : (ys : List X) (k : ℕ) → k < length ys → ◌≡◌ {A = Result (List Val) Stop} (Ok (set (map f xs) n (f v))) (map_ok (λ _. set (map f xs) n (f v)) (there (slice_get (map f ys) k)))
    go [] k lt = absurd (omega arith)
    go (y ∷ ys) zero lt = refl
    go (y ∷ ys) (suc k) lt = go ys k (omega arith)

pub local-missing : {X : Type 0} (f : X → Val) (xs : List X) (n : ℕ) (v : Val) → length xs ≤ n → ◌≡◌ {A = Result (List Val) Stop} (Err Untyped) (map_ok (λ _. set (map f xs) n v) (there (slice_get (map f xs) n)))
local-missing {X = X} f xs n v h = go xs n h
  where
    go : (ys : List X) (k : ℕ) → length ys ≤ k → ◌≡◌ {A = Result (List Val) Stop} (Err Untyped) (map_ok (λ _. set (map f xs) n v) (there (slice_get (map f ys) k)))
    go [] k le = refl
    go (y ∷ ys) zero le = absurd (omega arith)
    go (y ∷ ys) (suc k) le = go ys k (omega arith)

-- a step that comes to no place
pub read-nothing : (plan : Plan) (class : ℕ) (s : Stored) (locals : List Val) (r : Result Spot Stop) → NothingAt plan class r →
    stepped plan class (Err Untyped) s locals ≡ then_do (answers r (record { shared = shared_of plan class s; locals = locals })) (λ spot s1. read_spot spot s1)
read-nothing plan class s locals (Err stop) h = ap (λ (x : Stop). stepped plan class (Err x) s locals) (sym h)
read-nothing plan class s locals (Ok spot) h = go spot.base refl h
  where
    state : State
    state = record { shared = shared_of plan class s; locals = locals }

    go : (b : Base) → spot.base ≡ b → NothingIn plan class b spot.path → stepped plan class (Err Untyped) s locals ≡ read_spot spot state
    go Component e n =
        ap (λ (o : Option Value). record { result = and_then (there o) read_as; state = state }) (sym (n s.own))
        ∙ sym (read-component (contents_of plan class s.own) (contents_of plan (classes_in plan) s.statics) s.turns s.moment locals spot.path)
        ∙ ap (λ (b : Base). read_spot (record { base = b; path = spot.path }) state) (sym e)
    go Statics e n =
        ap (λ (o : Option Value). record { result = and_then (there o) read_as; state = state }) (sym (n s.statics))
        ∙ sym (read-statics (contents_of plan class s.own) (contents_of plan (classes_in plan) s.statics) s.turns s.moment locals spot.path)
        ∙ ap (λ (b : Base). read_spot (record { base = b; path = spot.path }) state) (sym e)
