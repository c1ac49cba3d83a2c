-- What an engine does, call by call, as its trait says it: for two engines that are asked the same.
use Rattle.std.specs.Prelude.{◌≡◌, ◌↔◌, ◌+◌, ◌<◌, ◌≤◌, ℕ, ℤ, IsTrue, IfOk, OnErr, IfSome, IsSome, IsSomeAnd, List, []}
use Rattle.std.specs.Prelude.{◌∷◌, None, Result, Ok, Err}
use Rattle.std.specs.FinMap as map
use Rattle.sed_value.specs.declared.value.Value.{Value}
use Rattle.sed_typed.specs.Contents.{Contents}
use Rattle.sed_engine.specs.declared.call.AddRefusal.{AddRefusal}
use Rattle.sed_engine.specs.declared.call.AddRefusal.TheVariants.{DataFull, Memory}
use Rattle.sed_engine.specs.declared.call.CallEnd.{CallEnd}
use Rattle.sed_engine.specs.declared.call.Place.{Place}
use Rattle.sed_engine.specs.declared.call.Root.{Root}
use Rattle.sed_engine.specs.declared.engine.Engine.{Ghosts}
use Rattle.sed_engine.specs.Code.{Meaning, Places, called, data_of, is_creatable, is_property, may_call, may_store}
use Rattle.sed_engine.specs.Code.{new_object, root_of, slot_value, with_slot}

-- an engine, as its trait sees it: what its code means, the live places with the object at each, the statics, and the
-- greatest sum of data sizes. Whether it may want memory is no part of this.
pub record State : Type 0 where
  pub meaning : Meaning
  pub live : Places
  pub statics : Contents
  pub limit : ℕ

-- that of an engine of any type
abbrev pub state_of : {E : Type 0} → Ghosts E → E → State
state_of g e = record { meaning = g.meaning e; live = g.live e; statics = g.statics e; limit = g.limit e }

-- the state with these parts
abbrev pub keeping : Meaning → Places → Contents → ℕ → State
keeping m live statics limit = record { meaning = m; live = live; statics = statics; limit = limit }

-- a call of an engine
pub data Step : Type 0 where
  add : (class : ℕ) → Step
  remove : (place : ℕ) → Step
  get : (place slot : ℕ) → Step
  set : (place slot : ℕ) (value : Value) → Step
  call : (place : ℕ) (which : Root) (argument : Value) (turns : ℕ) (moment : ℤ) → Step

-- what it gives: the place of a new object or why there is none, a value, or how a root call ended
pub data Gave : Type 0 where
  place_or : Result Place AddRefusal → Gave
  nothing : Gave
  this_value : Value → Gave
  this_end : CallEnd → Gave

-- ---- one call: first what it asks of its caller, then what it leaves

pub record Adds (class : ℕ) (result : Result Place AddRefusal) (old new : State) : Type 0 where
  pub creatable : IsTrue (is_creatable old.meaning class)
  pub few : map.len old.live < 4096
  pub fresh : IfOk result (λ p. map.get old.live p.0 ≡ None)
  pub added : IfOk result (λ p. new.live ≡ map.insert old.live p.0 (new_object old.meaning class))
  pub refused : OnErr result (new.live ≡ old.live)
  pub full : (result ≡ Err DataFull) ↔ (old.limit < data_of old.meaning old.live + old.meaning.data_size class)
  pub meaning : new.meaning ≡ old.meaning
  pub statics : new.statics ≡ old.statics
  pub limit : new.limit ≡ old.limit

pub record Removes (p : ℕ) (old new : State) : Type 0 where
  pub live : IsSome (map.get old.live p)
  pub removed : new.live ≡ map.remove old.live p
  pub meaning : new.meaning ≡ old.meaning
  pub statics : new.statics ≡ old.statics
  pub limit : new.limit ≡ old.limit

pub record Gets (p s : ℕ) (out : Value) (old new : State) : Type 0 where
  pub property : IsSomeAnd (map.get old.live p) (λ o. IsTrue (is_property old.meaning o.class s))
  pub value : IfSome (map.get old.live p) (λ o. out ≡ slot_value old.meaning o s)
  pub same : new ≡ old

pub record Sets (p s : ℕ) (v : Value) (old new : State) : Type 0 where
  pub storable : IsSomeAnd (map.get old.live p) (λ o. IsTrue (may_store old.meaning o.class s v))
  pub written : IfSome (map.get old.live p) (λ o.
      new.live ≡ map.insert old.live p (with_slot old.meaning o s v))
  pub meaning : new.meaning ≡ old.meaning
  pub statics : new.statics ≡ old.statics
  pub limit : new.limit ≡ old.limit

pub record Calls (p : ℕ) (r : Root) (arg : Value) (turns : ℕ) (ticks : ℤ) (result : CallEnd) (old new : State)
    : Type 0 where
  pub live : IsSomeAnd (map.get old.live p) (λ o. IsTrue (may_call old.meaning o.class r arg))
  pub some_turns : 1 ≤ turns
  pub most_turns : turns ≤ 1000000
  pub end : IfSome (map.get old.live p) (λ o. result
      ≡ (root_of old.meaning o old.statics r arg turns ticks).end)
  pub left : IfSome (map.get old.live p) (λ o. new.live
      ≡ map.insert old.live p (called o (root_of old.meaning o old.statics r arg turns ticks)))
  pub statics : IfSome (map.get old.live p) (λ o.
      new.statics ≡ (root_of old.meaning o old.statics r arg turns ticks).statics)
  pub meaning : new.meaning ≡ old.meaning
  pub limit : new.limit ≡ old.limit

-- ---- calls, one after another

-- An engine in this state may be asked this step; it gives this, and is left in that state.
abbrev pub IsStep : Step → Gave → State → State → Type 0
IsStep (add class) (place_or result) old new = Adds class result old new
IsStep (remove place) nothing old new = Removes place old new
IsStep (get place slot) (this_value value) old new = Gets place slot value old new
IsStep (set place slot value) nothing old new = Sets place slot value old new
IsStep (call place which argument turns moment) (this_end end) old new =
    Calls place which argument turns moment end old new
IsStep step gave old new = ⊥

abbrev pub AreSteps : List Step → List Gave → State → State → Type 0
AreSteps [] [] old new = new ≡ old
AreSteps (step ∷ steps) (gave ∷ more) old new =
    (next : State) × IsStep step gave old next × AreSteps steps more next new
AreSteps steps gave old new = ⊥

-- ---- two engines

-- memory was had for it
abbrev pub HadMemory : Gave → Type 0
HadMemory (place_or (Err Memory)) = ⊥
HadMemory gave = Unit {0}

-- where both made an object, both made it at this place
abbrev pub AtOnePlace : Gave → Gave → Type 0
AtOnePlace (place_or (Ok p)) (place_or (Ok q)) = p ≡ q
AtOnePlace gave given = Unit {0}

-- What an engine is free in: where it makes a new object, and whether it wants memory for it. Two are alike in that, as
-- far as both have come.
abbrev pub ChooseAlike : List Gave → List Gave → Type 0
ChooseAlike (gave ∷ more) (given ∷ others) =
    HadMemory gave × HadMemory given × AtOnePlace gave given × ChooseAlike more others
ChooseAlike more others = Unit {0}
