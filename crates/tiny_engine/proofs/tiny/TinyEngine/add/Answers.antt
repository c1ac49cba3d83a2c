use Rattle.std.proofs.Common.{◌≡◌, None, subst, sym, ap, ◌∙◌}
use Rattle.std.specs.FinMap as finite
use Rattle.tiny_engine.specs.Tiny.{Held, live_of}
use Rattle.tiny_engine.proofs.TinyLemmas.{get_none, none_of, is_some_map}
use Rattle.tiny_engine.proofs.tiny.TinyEngine.add.Goals as goal

pub returns-clause-fresh : goal.returns-clause-fresh
returns-clause-fresh c =
    subst (λ (h : Held). finite.get (live_of h.one) 0 ≡ None) c.self.view_is
    (ap (λ one. finite.get (live_of one) 0) (none_of _ (is_some_map _ c.self.inside.one ∙ sym c.is_some.ensures ∙ c.if-is_some.false)) ∙ get_none 0)
