-- What a new component stands for, and one that was executed.
use Rattle.std.proofs.Common.{◌≡◌, ℕ, ℤ, ◌==◌, if◌then◌else◌, Bool, cond, Option, Some, None, sym, ap, subst, ◌∙◌}
use Rattle.std.specs.Prelude.{IfSome, IsSomeAnd}
use Rattle.std.specs.FinMap as map
use Rattle.std.specs.Cmp.{nat_cmp_total}
use Rattle.sed_value.specs.declared.value.Value.{Value}
use Rattle.sed_value.specs.declared.value.Value.TheVariants.{Nothing}
use Rattle.sed_typed.specs.Contents.{Contents}
use Rattle.sed_engine.specs.declared.call.CallEnd.{CallEnd}
use Rattle.sed_engine.specs.declared.call.Root.TheVariants.{Execute}
use Rattle.sed_engine.specs.Code.{Meaning, Object, Places, called, root_of}
use Rattle.sed_engine.specs.Root.{RootEnd}
use Rattle.sed_cycles.specs.declared.component.Component.{Component}
use Rattle.sed_cycles.specs.Alone.{Alone, executed, fault_by, left_by}
use Rattle.sed_cycles.specs.Standing.{StandsFor}
use Rattle.sed_value.proofs.Orders.{tied_same}

-- what was put at a place is there
pub there : (before after : Places) (p : ℕ) (o : Object) → after ≡ map.insert before p o → map.get after p ≡ Some o
there before after p o e =
    ap (λ (m : Places). map.get m p) e ∙ map.get-insert nat_cmp_total before p o p ∙ ap (λ (b : Bool). cond b (Some o) (map.get before p)) (tied_same p)

of_some : (P : Object → Type 0) (r : Option Object) (o : Object) → r ≡ Some o → IfSome r P → P o
of_some P (Some x) o e h = subst P (let same : x ≡ o = cc in same) h
of_some P None o e h = absurd (let no : ◌≡◌ {A = Option Object} None (Some o) = e in cc)

-- where something is there, what holds of it does
pub at_place : (P : Object → Type 0) (r : Option Object) (o : Object) → r ≡ Some o → P o → IsSomeAnd r P
at_place P r o e h = subst (λ (x : Option Object). IsSomeAnd x P) (sym e) h

-- a root call's answer, told of what is at the place
abbrev pub Answered : Meaning → Places → Places → Contents → Contents → CallEnd → ℕ → ℕ → ℤ → Object → Type 0
Answered m live live2 statics statics2 end place turns moment o =
    (live2 ≡ map.insert live place (called o (root_of m o statics Execute Nothing turns moment)))
    × (statics2 ≡ (root_of m o statics Execute Nothing turns moment).statics)
    × (end ≡ (root_of m o statics Execute Nothing turns moment).end)

run_on : (m : Meaning) (turns : ℕ) (moment : ℤ) (a : Alone) → a.fault ≡ 0 →
    executed m turns moment a ≡ left_by a (root_of m a.object a.statics Execute Nothing turns moment)
run_on m turns moment a e =
    ap (λ (n : ℕ). if n == 0 then left_by a (root_of m a.object a.statics Execute Nothing turns moment) else a) e

pub stands_on : (m : Meaning) (live live2 : Places) (statics statics2 : Contents) (end : CallEnd) (turns : ℕ) (moment : ℤ) (c d : Component) (a : Alone) →
    StandsFor live statics c a → c.fault ≡ 0 → Answered m live live2 statics statics2 end c.place.0 turns moment a.object →
    d.place ≡ c.place → d.class ≡ c.class → d.fault ≡ fault_by end → StandsFor live2 statics2 d (executed m turns moment a)
stands_on m live live2 statics statics2 end turns moment c d a s none h place class fault =
    subst (StandsFor live2 statics2 d) (sym (run_on m turns moment a (sym s.fault ∙ none))) (record {
      object = ap (λ (p : ℕ). map.get live2 p) (ap (λ p. p.0) place) ∙ there live live2 c.place.0 _ h.0 ∙ same (λ (r : Contents). Some (called a.object (root_of m a.object r Execute Nothing turns moment)));
      statics_are = h.1 ∙ same (λ (r : Contents). (root_of m a.object r Execute Nothing turns moment).statics);
      class = ap (λ t. t.0) class ∙ s.class;
      fault = fault ∙ ap fault_by h.2 ∙ same (λ (r : Contents). fault_by (root_of m a.object r Execute Nothing turns moment).end);
    })
  where
    same : {X : Type 0} (f : Contents → X) → f statics ≡ f a.statics
    same f = ap f s.statics_are

-- the answers of a root call without an argument, told of whatever is at the place
pub answered_at : (m : Meaning) (live live2 : Places) (statics statics2 : Contents) (end : CallEnd) (place turns : ℕ) (moment near : ℤ) (v : Value) (o : Object) →
    map.get live place ≡ Some o → near ≡ moment → v ≡ Nothing →
    IfSome (map.get live place) (λ x. live2 ≡ map.insert live place (called x (root_of m x statics Execute v turns near))) →
    IfSome (map.get live place) (λ x. statics2 ≡ (root_of m x statics Execute v turns near).statics) →
    IfSome (map.get live place) (λ x. end ≡ (root_of m x statics Execute v turns near).end) →
    Answered m live live2 statics statics2 end place turns moment o
answered_at m live live2 statics statics2 end place turns moment near v o at e none left kept ended =
    let P : ℤ → Value → Type 0 = λ n w.
    (live2 ≡ map.insert live place (called o (root_of m o statics Execute w turns n)))
    × (statics2 ≡ (root_of m o statics Execute w turns n).statics)
    × (end ≡ (root_of m o statics Execute w turns n).end) in
    subst (λ (n : ℤ). P n Nothing) e (subst (λ (w : Value). P near w) none (
      of_some (λ x. live2 ≡ map.insert live place (called x (root_of m x statics Execute v turns near))) _ o at left,
      of_some (λ x. statics2 ≡ (root_of m x statics Execute v turns near).statics) _ o at kept,
      of_some (λ x. end ≡ (root_of m x statics Execute v turns near).end) _ o at ended,
    ))

-- a component whose contents are put anew is there as before, and of its class
pub stays_live : (live live2 : Places) (place class : ℕ) (f : Object → RootEnd) → IsSomeAnd (map.get live place) (λ o. o.class ≡ class) →
    IfSome (map.get live place) (λ o. live2 ≡ map.insert live place (called o (f o))) → IsSomeAnd (map.get live2 place) (λ o. o.class ≡ class)
stays_live live live2 place class f = by_case (map.get live place)
  where
    by_case : (r : Option Object) → IsSomeAnd r (λ o. o.class ≡ class) → IfSome r (λ o. live2 ≡ map.insert live place (called o (f o))) →
        IsSomeAnd (map.get live2 place) (λ o. o.class ≡ class)
    by_case (Some o) h e = at_place (λ x. x.class ≡ class) (map.get live2 place) (called o (f o)) (there live live2 place (called o (f o)) e) h
    by_case None h e = absurd h
