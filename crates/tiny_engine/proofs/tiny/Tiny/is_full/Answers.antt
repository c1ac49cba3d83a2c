use Rattle.std.proofs.Common.{◌≡◌, ◌+◌, nat_lt, Bool, true, ap, sym, ◌∙◌, subst, if◌then◌else◌, ℕ}
use Rattle.sed_engine.specs.Code.{data_of, is_creatable}
use Rattle.tiny_engine.specs.Tiny.{Held, meaning_of, live_of}
use Rattle.tiny_engine.specs.contracts.tiny.Tiny.{the_view}
use Rattle.tiny_engine.proofs.TinyLemmas.{full_is, is_some_map}
use Rattle.tiny_engine.proofs.tiny.Tiny.is_full.Goals as goal

pub returns : goal.returns
returns c =
    subst (λ (h : Held). is_creatable (meaning_of h.schema) c.args._t.0 ≡ true → nat_lt c.self.inside.limit (c.used.result + 4) ≡ nat_lt h.limit (data_of (meaning_of h.schema) (live_of h.one) + (meaning_of h.schema).data_size c.args._t.0)) c.self.view_is
    (λ may. ap (λ (u : ℕ). nat_lt c.self.inside.limit (u + 4)) (c.used.ensures ∙ ap (λ (b : Bool). if b then 4 else 0) (sym (is_some_map _ c.self.inside.one)))
    ∙ full_is (the_view c.self.inside) c.self.invariant.0 c.self.invariant.1 c.args._t.0 may)
    c.requires
