use Rattle.std.proofs.Common.{◌∙◌, ap, sym}
use Rattle.std.specs.Prelude.{is_some}
use Rattle.std.specs.FinMap as map
use Rattle.sed_engine.specs.Program.{meaning_of}
use Rattle.sed_cells.specs.Places.{Plan}
use Rattle.sed_walker.specs.Held.{Held}
use Rattle.sed_walker.proofs.Changes.{held-removed, none_at, removed, size_there, size_within}
use Rattle.sed_walker.proofs.walker.WalkerEngine.remove.Goals as goal

pub overflow_sub-self : goal.overflow_sub-self
overflow_sub-self c =
    let w = c.self.inside in
    let same = size_there w.slots c.program.result.now c.in-Some.component.class c.size_of.result c.self.invariant.whole (c.program.ensures ∙ ap (λ (p : Plan). p.program) c.plan.ensures) c.size_of.ensures in
    size_within w.slots w.components w.statics w.limit w.used c.self.invariant c.try_remove.new.self c.args.p.0 c.size_of.result c.in-Some.component (sym c.in-Some.ensures.value) c.in-Some.ensures.updates same

pub invariant_of-self : goal.invariant_of-self
invariant_of-self c =
    let w = c.self.inside in
    let same = size_there w.slots c.program.result.now c.in-Some.component.class c.size_of.result c.self.invariant.whole (c.program.ensures ∙ ap (λ (p : Plan). p.program) c.plan.ensures) c.size_of.ensures in
    held-removed w.slots w.components w.statics w.limit w.used c.self.invariant c.try_remove.new.self c.args.p.0 c.size_of.result c.in-Some.component (sym c.in-Some.ensures.value) c.in-Some.ensures.updates same

pub returns-in-Some-clause-removed : goal.returns-in-Some-clause-removed
returns-in-Some-clause-removed c =
    let w = c.self.inside in
    removed w.slots w.components w.statics w.limit w.used c.self.invariant c.try_remove.new.self c.args.p.0 c.size_of.result c.in-Some.component (sym c.in-Some.ensures.value) c.in-Some.ensures.updates
    ∙ ap (λ (h : Held). map.remove h.live c.args.p.0) c.self.view_is

pub returns-in-Some-clause-meaning : goal.returns-in-Some-clause-meaning
returns-in-Some-clause-meaning c = ap (λ (h : Held). meaning_of h.program) c.self.view_is

pub returns-in_default-clause-removed : goal.returns-in_default-clause-removed
returns-in_default-clause-removed c =
    let w = c.self.inside in
    absurd
    (let none = ap is_some (sym (none_at w.slots w.components c.args.p.0 (sym c.in_default.ensures.value)) ∙ ap (λ (h : Held). map.get h.live c.args.p.0) c.self.view_is) in
    let there = c.requires in
    cc)
