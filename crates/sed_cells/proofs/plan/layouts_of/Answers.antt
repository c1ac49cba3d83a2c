use Rattle.std.proofs.Common.{◌≡◌, ◌≤◌, ◌<◌, ◌+◌, ap, sym, subst, refl, arith, ℕ, List, [], ◌∷◌, ◌++◌, length, get_or}
use Rattle.std.proofs.lemmas.List.{length_push}
use Rattle.sed_cells.specs.declared.layout.Stands.{Stands}
use Rattle.sed_cells.specs.Layouts.{Layout, IsLayout}
use Rattle.sed_cells.specs.Places.{stands_at, no_layout}
use Rattle.sed_cells.proofs.Plans.{stands-class, stands-statics, one-more}
use Rattle.sed_cells.proofs.plan.layouts_of.Goals as goal

pub loop-top-preserved : goal.loop-top-preserved
loop-top-preserved c =
    let program = c.args.program.now in
    let xs = c.loop-top.layouts.items in
    let x : Layout = c.in_ok-of.field-0 in
    let i = c.loop-top.invariant in
    let few : c.loop-top.top < length program.schema.classes = omega (arith, c.len-top-end.ensures) in
    let ok : IsLayout program (stands_at program c.loop-top.top) x = subst (λ (s : Stands). IsLayout program s x) (stands-class program c.loop-top.top c.loop-top.top few refl) c.in_ok-of.ensures in
    let new : c.push.new.self.items ≡ xs ++ x ∷ [] = c.in_ok-push.ensures.items in (
      omega (arith, ap length new, length_push xs x, i.0),
      subst (λ (ys : List Layout). (k : ℕ) → k < c.loop-top.top + 1 → IsLayout program (stands_at program k) (get_or ys k no_layout)) (sym new) (one-more program xs x c.loop-top.top i.0 i.1 ok),
    )

pub returns : goal.returns
returns c =
    let program = c.args.program.now in
    let xs = c.loop-top.layouts.items in
    let x : Layout = c.in_ok-of-2.field-0 in
    let i = c.loop-top.invariant in
    let all : c.loop-top.top ≡ length program.schema.classes = omega (arith, c.len-top-end.ensures) in
    let past : length program.schema.classes ≤ c.loop-top.top = omega arith in
    let ok : IsLayout program (stands_at program c.loop-top.top) x = subst (λ (s : Stands). IsLayout program s x) (stands-statics program c.loop-top.top past) c.in_ok-of-2.ensures in
    let new : c.push-2.new.self.items ≡ xs ++ x ∷ [] = c.in_ok-push-2.ensures.items in
    record {
      layouts = omega (arith, ap length new, length_push xs x, i.0, all);
      each = λ k h. subst (λ (ys : List Layout). IsLayout program (stands_at program k) (get_or ys k no_layout)) (sym new) (one-more program xs x c.loop-top.top i.0 i.1 ok k (omega (arith, all)));
    }
