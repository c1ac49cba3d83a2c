-- What a component that ran prints.
use Rattle.std.proofs.Common.{◌≡◌, ℕ, List, sym, Some, Result, Ok, Err, IfOk}
use Rattle.sed_typed.specs.Contents.{Contents}
use Rattle.sed_engine.specs.Code.{Meaning}
use Rattle.sed_engine.specs.Runnable.{first_class}
use Rattle.sed_cycles.specs.Alone.{Alone, after_cycles, begun, component_text}
use Rattle.sed_cycles.specs.Cycles.{component_after, printed, text_after, turns}

-- The meaning is the same before and behind each call.
pub printed_as : (m m1 m2 : Meaning) (class cycles fault : ℕ) (s : Contents) (a : Alone) (text : List ℕ)
    → m1 ≡ m → m2 ≡ m1 → s ≡ m.initial_statics
    → a ≡ after_cycles m1 turns cycles (begun m class s) → fault ≡ a.fault
    → text ≡ component_text m2 a.object fault
    → text ≡ printed m (component_after m cycles class)
printed_as m m1 m2 class cycles fault s a text e1 e2 es ea ef et = cc

-- The text is that of the first class where this is its number.
pub after_first : (m : Meaning) (cycles number place : ℕ) (text : List ℕ)
    → first_class m.schema ≡ Some place → number ≡ place
    → text ≡ printed m (component_after m cycles number)
    → text ≡ text_after m cycles
after_first m cycles number place text first same is = rw (first, sym same) is

pub in_ok : {T E : Type 0} (P Q : T → Type 0) (r : Result T E) → ((t : T) → P t → Q t) → IfOk r P → IfOk r Q
in_ok P Q (Ok t) f p = f t p
in_ok P Q (Err e) f p = tt
