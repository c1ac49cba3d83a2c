use Rattle.std.proofs.Common.{◌≡◌, ◌∙◌, ℕ, Result, sym, ap, subst}
use Rattle.sed_typed.specs.Contents.{Contents}
use Rattle.sed_engine.specs.Stops.{Stop, and_then}
use Rattle.sed_engine.specs.Values.{Val, Component, Statics, read_as}
use Rattle.sed_engine.specs.State.{End}
use Rattle.sed_engine.specs.Steps.{write_spot}
use Rattle.sed_cells.specs.Places.{classes_in, contents_of, place_of}
use Rattle.walk_steps.specs.declared.word.Base.{Base}
use Rattle.walk_steps.specs.Seen.{seen, ends, spot_seen}
use Rattle.walk_steps.specs.Stored.{Stored, shared_of, kept_at, contents_after}
use Rattle.walk_steps.proofs.Writes.{write-component, write-statics}
use Rattle.walk_steps.proofs.store.Store.write.Goals as goal

pub returns-in-Component-clause-end : goal.returns-in-Component-clause-end
returns-in-Component-clause-end c = λ locals.
    let p = c.args.plan.now in
    let class = c.args.class in
    let s = c.self.inside in
    let path = place_of p class c.args.place in
    let v = seen p class c.args.word in
    let end : Result Val Stop → Contents → End Val = λ r contents.
    record { result = r; state = record { shared = record { contents = contents; statics = contents_of p (classes_in p) s.statics; turns = s.turns; moment = s.moment }; locals = locals } } in
    let got : end (ends p class c.write_in.result) (contents_of p class c.write_in.new.cells) ≡ write_spot c.args.prim (record { base = Component; path = path }) v (record { shared = shared_of p class (record { own = s.own; statics = s.statics; turns = s.turns; moment = s.moment }); locals = locals }) =
    ap (λ (r : Result Val Stop). end r (contents_of p class c.write_in.new.cells)) (c.write_in.ensures.end class)
    ∙ ap (λ (contents : Contents). end (and_then (kept_at (contents_of p class s.own) path c.args.prim v) read_as) contents) (c.write_in.ensures.left class)
    ∙ sym (write-component (contents_of p class s.own) (contents_of p (classes_in p) s.statics) s.turns s.moment locals c.args.prim path v) in
    subst (λ (q : Stored). end (ends p class c.write_in.result) (contents_of p class c.write_in.new.cells) ≡ write_spot c.args.prim (record { base = Component; path = path }) v (record { shared = shared_of p class q; locals = locals })) c.self.view_is got
    ∙ ap (λ (b : Base). write_spot c.args.prim (spot_seen p class b c.args.place) v (record { shared = shared_of p class c.args.self.now; locals = locals })) (sym c.in-Component.is)

pub returns-in-Statics-clause-end : goal.returns-in-Statics-clause-end
returns-in-Statics-clause-end c = λ locals.
    let p = c.args.plan.now in
    let class = c.args.class in
    let s = c.self.inside in
    let top = c.statics.result in
    let all : top ≡ classes_in p = c.statics.ensures in
    let path = place_of p (classes_in p) c.args.place in
    let v = seen p class c.args.word in
    let w = c.write_in-in-Statics in
    let end : Result Val Stop → Contents → End Val = λ r contents.
    record { result = r; state = record { shared = record { contents = contents_of p class s.own; statics = contents; turns = s.turns; moment = s.moment }; locals = locals } } in
    let ended : ends p class w.result ≡ and_then (kept_at (contents_of p (classes_in p) s.statics) path c.args.prim v) read_as =
    w.ensures.end class ∙ ap (λ (t : ℕ). and_then (kept_at (contents_of p t s.statics) (place_of p t c.args.place) c.args.prim v) read_as) all in
    let left : contents_of p (classes_in p) w.new.cells ≡ contents_after (contents_of p (classes_in p) s.statics) path (kept_at (contents_of p (classes_in p) s.statics) path c.args.prim v) =
    ap (λ (t : ℕ). contents_of p t w.new.cells) (sym all) ∙ w.ensures.left class
    ∙ ap (λ (t : ℕ). contents_after (contents_of p t s.statics) (place_of p t c.args.place) (kept_at (contents_of p t s.statics) (place_of p t c.args.place) c.args.prim v)) all in
    let got : end (ends p class w.result) (contents_of p (classes_in p) w.new.cells) ≡ write_spot c.args.prim (record { base = Statics; path = path }) v (record { shared = shared_of p class (record { own = s.own; statics = s.statics; turns = s.turns; moment = s.moment }); locals = locals }) =
    ap (λ (r : Result Val Stop). end r (contents_of p (classes_in p) w.new.cells)) ended
    ∙ ap (λ (contents : Contents). end (and_then (kept_at (contents_of p (classes_in p) s.statics) path c.args.prim v) read_as) contents) left
    ∙ sym (write-statics (contents_of p class s.own) (contents_of p (classes_in p) s.statics) s.turns s.moment locals c.args.prim path v) in
    subst (λ (q : Stored). end (ends p class w.result) (contents_of p (classes_in p) w.new.cells) ≡ write_spot c.args.prim (record { base = Statics; path = path }) v (record { shared = shared_of p class q; locals = locals })) c.self.view_is got
    ∙ ap (λ (b : Base). write_spot c.args.prim (spot_seen p class b c.args.place) v (record { shared = shared_of p class c.args.self.now; locals = locals })) (sym c.in-Statics.is)
