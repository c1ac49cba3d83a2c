use Rattle.std.proofs.Common.{subst}
use Rattle.std.specs.Prelude.{IsTrue, IsSomeAnd}
use Rattle.std.specs.FinMap as finite
use Rattle.std.proofs.lemmas.Bool.{lt-ltb}
use Rattle.sed_engine.specs.Code.{may_call}
use Rattle.tiny_engine.specs.Tiny.{Held, code_of, live_of, meaning_of}
use Rattle.tiny_engine.specs.contracts.tiny.Tiny.{the_view}
use Rattle.tiny_engine.proofs.TinyLemmas.{DoesNothing, call_leaves}
use Rattle.tiny_engine.proofs.tiny.TinyEngine.call.Goals as goal

-- the call, as the object is seen
leaves : (c : goal.After-self) → DoesNothing c.args.self.now.schema (live_of c.args.self.now.one) c.args._p.0 c.args._r c.args._arg.now c.args.turns c.args._ticks
leaves c =
    subst (λ (h : Held). IsSomeAnd (finite.get (live_of h.one) c.args._p.0) (λ x. IsTrue (may_call (meaning_of h.schema) x.class c.args._r c.args._arg.now)) → DoesNothing h.schema (live_of h.one) c.args._p.0 c.args._r c.args._arg.now c.args.turns c.args._ticks) c.self.view_is
    (call_leaves (the_view c.self.inside) (λ q. c.masked_codes_answer.ensures (code_of c.self.inside.schema) q) c.self.invariant.0 c.self.invariant.1 c.self.invariant.2 c.args._p.0 c.args._r c.args._arg.now c.args.turns c.args._ticks
    c.requires.some_turns c.requires.most_turns (lt-ltb _ _ c.ranges._ticks.sfits))
    c.requires.live

pub returns-clause-end : goal.returns-clause-end
returns-clause-end c = (leaves c).end

pub returns-clause-left : goal.returns-clause-left
returns-clause-left c = (leaves c).left

pub returns-clause-statics : goal.returns-clause-statics
returns-clause-statics c = (leaves c).statics
