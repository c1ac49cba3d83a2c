use Rattle.std.proofs.Common.{◌≡◌, ◌∙◌, ◌<◌, ◌≤◌, ◌+◌, ℕ, List, ap, sym, subst, arith}
use Rattle.std.specs.Prelude.{IsTrue}
use Rattle.std.specs.FinMap as map
use Rattle.sed_value.specs.declared.value.Value.{Value}
use Rattle.sed_typed.specs.Initial.{initial}
use Rattle.sed_engine.specs.Code.{data_of, is_creatable, new_object}
use Rattle.sed_engine.specs.Program.{meaning_of}
use Rattle.sed_cells.specs.Places.{Plan, classes_in, contents_of, first_at}
use Rattle.sed_walker.specs.Held.{Held, held_of}
use Rattle.sed_walker.proofs.Keeping.{creatable_class, first-class}
use Rattle.sed_walker.proofs.Changes.{added, held-added, none_at, size_there}
use Rattle.sed_walker.proofs.walker.WalkerEngine.add.Goals as goal

-- first contents of a class, in the plan that is lent
begins : (lent plan : Plan) (top class : ℕ) (cells : List Value) → lent ≡ plan → top ≡ class → class < classes_in plan
    → contents_of lent top cells ≡ first_at lent.program top → contents_of plan class cells ≡ initial plan.program class
begins lent plan top class cells e is lt h =
    subst (λ (p : Plan). contents_of p class cells ≡ first_at p.program class) e (subst (λ (k : ℕ). contents_of lent k cells ≡ first_at lent.program k) is h)
    ∙ first-class plan.program class lt

-- where the new object's bytes are within what is left, the limit is not passed
not_full : (h g : Held) (used size class : ℕ) → h ≡ g → used ≡ data_of (meaning_of h.program) h.live → size ≡ (meaning_of h.program).data_size class → used + size ≤ h.limit
    → g.limit < data_of (meaning_of g.program) g.live + (meaning_of g.program).data_size class → ⊥
not_full h g used size class view counted same fits full =
    let there : h.limit < data_of (meaning_of h.program) h.live + (meaning_of h.program).data_size class =
    subst (λ (h : Held). h.limit < data_of (meaning_of h.program) h.live + (meaning_of h.program).data_size class) (sym view) full in
    omega arith

pub invariant_of-self : goal.invariant_of-self
invariant_of-self c =
    let w = c.self.inside in
    let same = size_there w.slots c.program.result.now c.args.t.0 c.size_of-size.result c.self.invariant.whole (c.program.ensures ∙ ap (λ (p : Plan). p.program) c.plan.ensures) c.size_of-size.ensures in
    let creatable = subst (λ (h : Held). IsTrue (is_creatable (meaning_of h.program) c.args.t.0)) (sym c.self.view_is) c.requires.creatable in
    let first = begins c.plan-2.result.now w.slots c.from.result c.args.t.0 c.in-Ok.cells c.plan-2.ensures c.from.ensures (creatable_class (meaning_of w.slots.program) c.args.t.0 creatable) c.in-Ok.ensures in
    let made = c.what_is_kept_fits.ensures.new (meaning_of w.slots.program) c.args.t.0 c.self.invariant.whole creatable in
    let left = c.if-size-self.false in
    let within = c.self.invariant.within in
    held-added w.slots w.components w.statics w.limit w.used c.self.invariant c.put_new.new.components c.in-Ok-put_new.place.0 c.size_of-size.result c.args.t.0 c.in-Ok.cells first made
    c.in-Ok-put_new.ensures.fresh c.in-Ok-put_new.ensures.put same (omega (arith, left, within))

pub returns-in-Ok-put_new-clause-fresh : goal.returns-in-Ok-put_new-clause-fresh
returns-in-Ok-put_new-clause-fresh c =
    let w = c.self.inside in
    ap (λ (h : Held). map.get h.live c.in-Ok-put_new.place.0) (sym c.self.view_is) ∙ none_at w.slots w.components c.in-Ok-put_new.place.0 c.in-Ok-put_new.ensures.fresh

pub returns-in-Ok-put_new-clause-added : goal.returns-in-Ok-put_new-clause-added
returns-in-Ok-put_new-clause-added c =
    let w = c.self.inside in
    let creatable = subst (λ (h : Held). IsTrue (is_creatable (meaning_of h.program) c.args.t.0)) (sym c.self.view_is) c.requires.creatable in
    let first = begins c.plan-2.result.now w.slots c.from.result c.args.t.0 c.in-Ok.cells c.plan-2.ensures c.from.ensures (creatable_class (meaning_of w.slots.program) c.args.t.0 creatable) c.in-Ok.ensures in
    let made = c.what_is_kept_fits.ensures.new (meaning_of w.slots.program) c.args.t.0 c.self.invariant.whole creatable in
    added w.slots w.components w.statics w.limit w.used c.self.invariant c.put_new.new.components c.in-Ok-put_new.place.0 c.size_of-size.result c.args.t.0 c.in-Ok.cells first made
    c.in-Ok-put_new.ensures.fresh c.in-Ok-put_new.ensures.put
    ∙ ap (λ (h : Held). map.insert h.live c.in-Ok-put_new.place.0 (new_object (meaning_of h.program) c.args.t.0)) c.self.view_is

pub returns-in-Err-clause-full : goal.returns-in-Err-clause-full
returns-in-Err-clause-full c =
    let w = c.self.inside in
    let same = size_there w.slots c.program.result.now c.args.t.0 c.size_of-size.result c.self.invariant.whole (c.program.ensures ∙ ap (λ (p : Plan). p.program) c.plan.ensures) c.size_of-size.ensures in
    let left = c.if-size-self.false in
    let within = c.self.invariant.within in (
      λ e. absurd (let never = e in cc),
      λ full. absurd (not_full (held_of w.slots w.components w.statics w.limit) c.args.self.now w.used c.size_of-size.result c.args.t.0 c.self.view_is c.self.invariant.counted same (omega (arith, left, within)) full),
    )

pub returns-in-Ok-put_new-clause-full : goal.returns-in-Ok-put_new-clause-full
returns-in-Ok-put_new-clause-full c =
    let w = c.self.inside in
    let same = size_there w.slots c.program.result.now c.args.t.0 c.size_of-size.result c.self.invariant.whole (c.program.ensures ∙ ap (λ (p : Plan). p.program) c.plan.ensures) c.size_of-size.ensures in
    let left = c.if-size-self.false in
    let within = c.self.invariant.within in (
      λ e. absurd (let never = e in cc),
      λ full. absurd (not_full (held_of w.slots w.components w.statics w.limit) c.args.self.now w.used c.size_of-size.result c.args.t.0 c.self.view_is c.self.invariant.counted same (omega (arith, left, within)) full),
    )

pub returns-in-Err-put_new-clause-full : goal.returns-in-Err-put_new-clause-full
returns-in-Err-put_new-clause-full c =
    let w = c.self.inside in
    let same = size_there w.slots c.program.result.now c.args.t.0 c.size_of-size.result c.self.invariant.whole (c.program.ensures ∙ ap (λ (p : Plan). p.program) c.plan.ensures) c.size_of-size.ensures in
    let left = c.if-size-self.false in
    let within = c.self.invariant.within in (
      λ e. absurd (let never = e in cc),
      λ full. absurd (not_full (held_of w.slots w.components w.statics w.limit) c.args.self.now w.used c.size_of-size.result c.args.t.0 c.self.view_is c.self.invariant.counted same (omega (arith, left, within)) full),
    )
