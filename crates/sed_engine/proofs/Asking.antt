-- The parts of what may be asked.
use Rattle.std.proofs.Common.{◌≡◌, ℕ, true, List, refl}
use Rattle.std.proofs.lemmas.Bool.{leb-true, le-leb, and_parts, and_from}
use Rattle.std.proofs.lemmas.Slice.Eq.{slice_eq-Decides, bytes_eq-Decides}
use Rattle.sed_typed.specs.Contents.{Contents, Shape}
pub use Rattle.sed_engine.specs.Asked.{Asked}
use Rattle.sed_engine.specs.Asked.{MayAsk, may_ask, do_fit, masked}
use Rattle.sed_engine.specs.Code.{Meaning, Question}
use Rattle.sed_engine.specs.Fits.{Fits}

told : (fields : ℕ → List Shape) (shapes : List Shape) (first contents : Contents) → do_fit fields shapes first contents ≡ true → Fits fields shapes first contents
told fields shapes first contents h = let parts = and_parts _ _ h in record { paths = (slice_eq-Decides bytes_eq-Decides _ _ _ refl).0 parts.0; values = parts.1 }

tells : (fields : ℕ → List Shape) (shapes : List Shape) (first contents : Contents) → Fits fields shapes first contents → do_fit fields shapes first contents ≡ true
tells fields shapes first contents h = and_from _ _ ((slice_eq-Decides bytes_eq-Decides _ _ _ refl).1 h.paths) h.values

pub may_from : (m : Meaning) (q : Question) → MayAsk m q → Asked m q
unfolding may_ask
may_from m q h =
    let a = and_parts _ _ h in
    let b = and_parts _ _ a.1 in
    let c = and_parts _ _ b.1 in
    let d = and_parts _ _ c.1 in
    let e = and_parts _ _ d.1 in
    let f = and_parts _ _ e.1 in
    record {
      creatable = a.0;
      contents = told _ _ _ _ b.0;
      statics = told _ _ _ _ c.0;
      argument = d.0;
      some_turns = leb-true 1 q.turns e.0;
      most_turns = leb-true q.turns 1000000 f.0;
      moment = f.1;
    }

pub may_then : (m : Meaning) (q : Question) → Asked m q → MayAsk m q
unfolding may_ask
may_then m q h =
    and_from _ _ h.creatable
    (and_from _ _ (tells _ _ _ _ h.contents)
    (and_from _ _ (tells _ _ _ _ h.statics)
    (and_from _ _ h.argument
    (and_from _ _ (le-leb 1 q.turns h.some_turns)
    (and_from _ _ (le-leb q.turns 1000000 h.most_turns) h.moment)))))

-- a code that is masked may be asked the same
pub masked_asks : (m : Meaning) (q : Question) → may_ask (masked m) q ≡ may_ask m q
unfolding may_ask
masked_asks m q = refl
