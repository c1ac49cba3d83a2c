-- What stands at a place that is no local, read and stored by its instructions.
use Rattle.std.proofs.Common.{◌≡◌, ℕ, ℤ, ◌+◌, ◌<◌, ◌≤◌, List, [], ◌∷◌, length, Some, Result, Ok, Err, slice_get, slice_set, refl, sym, ap, ◌∙◌, subst, arith}
use Rattle.sed_value.specs.declared.slot_type.Primitive.{Primitive}
use Rattle.sed_value.specs.declared.slot_type.Primitive.TheVariants as prim
use Rattle.sed_value.specs.declared.value.Value.{Value}
use Rattle.sed_value.specs.declared.value.Value.TheVariants as kept
use Rattle.sed_typed.specs.declared.kind.Kind.{Kind}
use Rattle.sed_typed.specs.Kinds.{read_kind}
use Rattle.sed_engine.specs.State.{Shared, State, End, gives, answers, after, then_do}
use Rattle.sed_engine.specs.Steps.{read_spot, load}
use Rattle.sed_engine.specs.Stops.{Stop, Traps, Untyped}
use Rattle.std.specs.Prelude.{pos}
use Rattle.sed_engine.specs.Values.{Val, Truth, Int, Long, Spot, read_as}
use Rattle.scode_ops.specs.declared.op.Op.{Op}
use Rattle.scode_ops.specs.declared.op.Op.TheVariants as op
use Rattle.scode_ops.specs.Decoding.{size_of}
use Rattle.scode_code.specs.Effect.{push}
use Rattle.scode_code.specs.Fields.{Setting}
use Rattle.scode_code.specs.Machine.{Point, Onward, moves}
use Rattle.scode_code.specs.Steps.{effect, instruction_at}
use Rattle.scode_emit.specs.Site.{Site, waiting, waiting_index}
use Rattle.scode_sim.proofs.Apart.{Apart, with_locals, state, stays}
use Rattle.scode_sim.proofs.Comes.{Comes, here}
use Rattle.scode_sim.proofs.Frames.{Running, Agree, IsCell, IsSolid, pushed_is, there_is, get_set, get_other}
use Rattle.scode_sim.proofs.Follows.{Ends, frame, point, Pushed, not_void, HasAt, by_op_to, by_load, by_store, Sim, extend, push_sim}
use Rattle.scode_sim.proofs.Stores.{read_solid}
use Rattle.scode_sim.proofs.Waiting.{waits_behind, waits_within, wait_stays, wait_there, reads_apart}

-- a value that is read has a cell
pub ok_same : (v u : Val) → ◌≡◌ {A = Result Val Stop} (Ok v) (Ok u) → v ≡ u
ok_same v u e = cc

read_cell : (v : Value) (u : Val) → read_as v ≡ Ok u → IsCell u
read_cell (kept.Bool t) u e = subst IsCell (ok_same (Truth t) u e) tt
read_cell (kept.Byte n) u e = subst IsCell (ok_same (Int (pos n)) u e) tt
read_cell (kept.Short n) u e = subst IsCell (ok_same (Int (pos n)) u e) tt
read_cell (kept.Int n) u e = subst IsCell (ok_same (Int n) u e) tt
read_cell (kept.Long n) u e = subst IsCell (ok_same (Long n) u e) tt
read_cell (kept.Buf bytes) u e = let never : ⊥ = cc in absurd never
read_cell kept.Nothing u e = let never : ⊥ = cc in absurd never

pub after_gives : {A B : Type 0} (P : B → Type 0) (h : A → State → End B) → ((a : A) (s : State) (v : B) → (h a s).result ≡ Ok v → P v) →
    (r : Result A Stop) (t : State) (v : B) → (after r t h).result ≡ Ok v → P v
after_gives P h each (Ok a) t v e = each a t v e
after_gives P h each (Err stop) t v e = let never : ⊥ = cc in absurd never

abbrev pub reads : (State → End Spot) → State → End Val
reads spot_at s = then_do (spot_at s) (λ spot s1. read_spot spot s1)

pub reads_cell : (spot_at : State → End Spot) (s : State) (u : Val) → (reads spot_at s).result ≡ Ok u → IsCell u
reads_cell spot_at s u e =
    after_gives IsCell (λ spot s1. read_spot spot s1) (λ spot t v e1. after_gives IsCell (λ x s1. answers (read_as x) s1) (λ x t2 v2 e2. read_cell x v2 e2) (load spot t).result (load spot t).state v e1) (spot_at s).result (spot_at s).state u e

-- a value is on the stack, and waits in a local of the compiler's
pub record Waits (x : Running) (n place i : ℕ) (stack : List Val) (v : Val) (s : State) (q : Point) : Type 0 where
  pub locals : List Val
  pub agree : Agree x s.locals locals
  pub turns : s.shared.turns ≤ n
  pub cell : IsCell v
  pub held : slice_get locals i ≡ Some v
  pub is : q ≡ point x place locals (v ∷ stack) s.shared

pub waits_pushed : (x : Running) (n place i : ℕ) (k : Kind) (stack : List Val) (v : Val) (s : State) (q : Point) → IsSolid k → Waits x n place i stack v s q → Pushed x n k place stack v s q
waits_pushed x n place i k stack v s q solid h = record {
  void = not_void k v solid;
  stands = record { locals = h.locals; agree = h.agree; turns = h.turns; is = h.is ∙ ap (λ st. point x place h.locals st s.shared) (sym (pushed_is v stack h.cell)) };
}

module _ (w : Setting) where
  pub by_dup : (x : Running) (place : ℕ) (v : Val) (rest ms : List Val) (sh : Shared) (Q : Point → Type 0) → instruction_at w.image x.method place ≡ Some op.Dup →
      Comes w (point x (place + 1) ms (v ∷ v ∷ rest) sh) Q → Comes w (point x place ms (v ∷ rest) sh) Q
  by_dup x place v rest ms sh Q has c =
      by_op_to w x place (place + 1) op.Dup (v ∷ rest) ms sh (gives (Onward (v ∷ v ∷ rest)) (state sh ms)) Q has refl refl c

  module _ (G : State → Type 0) where
    -- a field is read, and its object stays below
    pub fetch_field_sim : (x : Running) (n at : ℕ) (p : Primitive) (get : Op) (o : Val) (st : List Val) (spot_at : State → End Spot) → size_of get ≡ 3 → Apart Spot spot_at →
        ((rest : List Val) (s : State) → effect w get (o ∷ rest) s ≡ push rest (reads spot_at s)) →
        HasAt w x.method at (op.Dup ∷ get ∷ []) →
        Sim w G x n Val (reads spot_at) at (o ∷ st) (Pushed x n (read_kind p) (at + 4) (o ∷ st))
    fetch_field_sim x n at p get o st spot_at sized apart gets has = record {
      comes = λ s ms g a t.
          let one = push_sim w G x n (read_kind p) (reads spot_at) (at + 1) (at + 4) get (o ∷ o ∷ st) (o ∷ st) has.1.0 (let z : at + 1 + size_of get ≡ at + 4 = omega (arith, sized) in z) (read_solid p) (reads_apart apart) (gets (o ∷ st)) in
          by_dup x at o st ms s.shared _ has.0 (one.comes s ms g a t);
    }

    -- an element is read, and its value waits too: the index waits, then the value while the index comes below it
    element_ends : (x : Running) (n : ℕ) (p : Primitive) (place next last i j : ℕ) (o : Val) (index : ℤ) (st rest ms vs : List Val) → Agree x vs ms → length x.kinds ≤ j → j < length ms → (j ≡ i → ⊥) → slice_get ms i ≡ Some (Int index) →
        HasAt w x.method next (op.Store j ∷ op.Load i ∷ op.Load j ∷ []) → next + 6 ≡ last →
        (r : Result Val Stop) → ((u : Val) → r ≡ Ok u → IsCell u) → (t : State) → t.locals ≡ vs → t.shared.turns ≤ n →
        (let e = push (o ∷ st) (record { result = r; state = state t.shared ms }) in
        Comes w (moves (frame x place ms rest) x.below next e.result e.state) (Ends (Waits x n last j (Int index ∷ o ∷ st)) r t))
    element_ends x n p place next last i j o index st rest ms vs a behind within apart is has end (Ok u) cells t stay le =
        let cell = cells u refl in
        let old = there_is ms j within in
        let ms1 = slice_set ms j u in
        let a1 = wait_stays x vs ms j u behind a in
        let P : List Val → Type 0 = λ stack. Comes w (point x next ms stack t.shared) (Ends (Waits x n last j (Int index ∷ o ∷ st)) (Ok u) t) in
        subst P (sym (pushed_is u (o ∷ st) cell))
        (by_store w x next j old.0 u (o ∷ st) ms t.shared _ has.0 old.1
        (by_load w x (next + 2) i (Int index) (o ∷ st) ms1 t.shared _ has.1.0 (get_other ms j i u apart ∙ is) tt
        (by_load w x (next + 2 + 2) j u (Int index ∷ o ∷ st) ms1 t.shared _ has.1.1.0 (get_set ms j u within) cell
        (here (record {
          locals = ms1;
          agree = subst (λ ls. Agree x ls ms1) (sym stay) a1;
          turns = le;
          cell = cell;
          held = get_set ms j u within;
          is = ap (λ at. point x at ms1 (u ∷ Int index ∷ o ∷ st) t.shared) (let z : next + 2 + 2 + 2 ≡ last = omega (arith, end) in z);
        })))))
    element_ends x n p place next last i j o index st rest ms vs a behind within apart is has end (Err (Traps trap)) cells t stay le = here refl
    element_ends x n p place next last i j o index st rest ms vs a behind within apart is has end (Err Untyped) cells t stay le = here tt

    pub wait_element_sim : (x : Running) (n at : ℕ) (site : Site) (p : Primitive) (get : Op) (o : Val) (index : ℤ) (st : List Val) (spot_at : State → End Spot) → site.locals ≡ length x.kinds → size_of get ≡ 5 → Apart Spot spot_at →
        ((rest : List Val) (s : State) → effect w get (Int index ∷ o ∷ rest) s ≡ push rest (reads spot_at s)) →
        HasAt w x.method at (op.Store (waiting_index site) ∷ op.Dup ∷ op.Load (waiting_index site) ∷ get ∷ op.Store (waiting site p) ∷ op.Load (waiting_index site) ∷ op.Load (waiting site p) ∷ []) →
        Sim w G x n Val (reads spot_at) at (Int index ∷ o ∷ st) (Waits x n (at + 16) (waiting site p) (Int index ∷ o ∷ st))
    wait_element_sim x n at site p get o index st spot_at many sized apart gets has =
        let i = waiting_index site in
        let j = waiting site p in
        let next = at + 10 in
        let read = reads_apart apart in
        record {
          comes = λ s ms g a t.
              let lt = wait_there x s.locals ms i (let z : site.locals + 3 < length x.kinds + 4 = omega (arith, many) in z) a in
              let old = there_is ms i lt in
              let ms1 = slice_set ms i (Int index) in
              let a1 = wait_stays x s.locals ms i (Int index) (let z : length x.kinds ≤ site.locals + 3 = omega (arith, many) in z) a in
              let lt1 = wait_there x s.locals ms1 j (let b = waits_within site p in omega (arith, b, many)) a1 in
              let e = reads spot_at s in
              let has_get = has.1.1.1.0 in
              let rest = subst (λ place. HasAt w x.method place (op.Store j ∷ op.Load i ∷ op.Load j ∷ [])) (let z : at + 2 + 1 + 2 + size_of get ≡ next = omega (arith, sized) in z) has.1.1.1.1 in
              by_store w x at i old.0 (Int index) (o ∷ st) ms s.shared _ has.0 old.1
              (by_dup x (at + 2) o st ms1 s.shared _ has.1.0
              (by_load w x (at + 2 + 1) i (Int index) (o ∷ o ∷ st) ms1 s.shared _ has.1.1.0 (get_set ms i (Int index) lt) tt
              (by_op_to w x (at + 2 + 1 + 2) next get (Int index ∷ o ∷ o ∷ st) ms1 s.shared (push (o ∷ st) (with_locals ms1 e)) _ has_get (let z : at + 2 + 1 + 2 + size_of get ≡ next = omega (arith, sized) in z)
              (gets (o ∷ st) (state s.shared ms1) ∙ ap (push (o ∷ st)) (read.alike s.shared s.locals ms1))
              (element_ends x n p (at + 2 + 1 + 2) next (at + 16) i j o index st (Int index ∷ o ∷ o ∷ st) ms1 s.locals a1 (let b = waits_behind site p in omega (arith, b, many)) lt1 (other site p) (get_set ms i (Int index) lt) rest (let z : at + 10 + 6 ≡ at + 16 = omega arith in z)
              e.result (λ u r. reads_cell spot_at s u r) e.state (stays read s) (let b = read.turns s in omega (arith, b, t))))));
        }
      where
        other : (site : Site) (p : Primitive) → waiting site p ≡ waiting_index site → ⊥
        other site prim.Bool e = omega (arith, e)
        other site prim.Byte e = omega (arith, e)
        other site prim.Short e = omega (arith, e)
        other site prim.Int e = omega (arith, e)
        other site prim.Long e = omega (arith, e)

    pub fetch_element_sim : (x : Running) (n at : ℕ) (site : Site) (p : Primitive) (get : Op) (o : Val) (index : ℤ) (st : List Val) (spot_at : State → End Spot) → site.locals ≡ length x.kinds → size_of get ≡ 5 → Apart Spot spot_at →
        ((rest : List Val) (s : State) → effect w get (Int index ∷ o ∷ rest) s ≡ push rest (reads spot_at s)) →
        HasAt w x.method at (op.Store (waiting_index site) ∷ op.Dup ∷ op.Load (waiting_index site) ∷ get ∷ op.Store (waiting site p) ∷ op.Load (waiting_index site) ∷ op.Load (waiting site p) ∷ []) →
        Sim w G x n Val (reads spot_at) at (Int index ∷ o ∷ st) (Pushed x n (read_kind p) (at + 16) (Int index ∷ o ∷ st))
    fetch_element_sim x n at site p get o index st spot_at many sized apart gets has =
        extend w G (wait_element_sim x n at site p get o index st spot_at many sized apart gets has) (λ v s q h. here (waits_pushed x n (at + 16) (waiting site p) (read_kind p) (Int index ∷ o ∷ st) v s q (read_solid p) h))

    -- a field is read, and its value waits
    wait_ends : (x : Running) (n place next last j : ℕ) (o : Val) (st rest ms vs : List Val) → Agree x vs ms → length x.kinds ≤ j → j < length ms → HasAt w x.method next (op.Store j ∷ op.Load j ∷ []) → next + 4 ≡ last →
        (r : Result Val Stop) → ((u : Val) → r ≡ Ok u → IsCell u) → (t : State) → t.locals ≡ vs → t.shared.turns ≤ n →
        (let e = push (o ∷ st) (record { result = r; state = state t.shared ms }) in Comes w (moves (frame x place ms rest) x.below next e.result e.state) (Ends (Waits x n last j (o ∷ st)) r t))
    wait_ends x n place next last j o st rest ms vs a behind within has end (Ok u) cells t stay le =
        let cell = cells u refl in
        let old = there_is ms j within in
        let ms1 = slice_set ms j u in
        let P : List Val → Type 0 = λ stack. Comes w (point x next ms stack t.shared) (Ends (Waits x n last j (o ∷ st)) (Ok u) t) in
        subst P (sym (pushed_is u (o ∷ st) cell))
        (by_store w x next j old.0 u (o ∷ st) ms t.shared _ has.0 old.1
        (by_load w x (next + 2) j u (o ∷ st) ms1 t.shared _ has.1.0 (get_set ms j u within) cell
        (here (record {
          locals = ms1;
          agree = subst (λ ls. Agree x ls ms1) (sym stay) (wait_stays x vs ms j u behind a);
          turns = le;
          cell = cell;
          held = get_set ms j u within;
          is = ap (λ at. point x at ms1 (u ∷ o ∷ st) t.shared) (let z : next + 2 + 2 ≡ last = omega (arith, end) in z);
        }))))
    wait_ends x n place next last j o st rest ms vs a behind within has end (Err (Traps trap)) cells t stay le = here refl
    wait_ends x n place next last j o st rest ms vs a behind within has end (Err Untyped) cells t stay le = here tt

    pub wait_field_sim : (x : Running) (n at : ℕ) (site : Site) (p : Primitive) (get : Op) (o : Val) (st : List Val) (spot_at : State → End Spot) → site.locals ≡ length x.kinds → size_of get ≡ 3 → Apart Spot spot_at →
        ((rest : List Val) (s : State) → effect w get (o ∷ rest) s ≡ push rest (reads spot_at s)) →
        HasAt w x.method at (op.Dup ∷ get ∷ op.Store (waiting site p) ∷ op.Load (waiting site p) ∷ []) →
        Sim w G x n Val (reads spot_at) at (o ∷ st) (Waits x n (at + 8) (waiting site p) (o ∷ st))
    wait_field_sim x n at site p get o st spot_at many sized apart gets has =
        let j = waiting site p in
        let read = reads_apart apart in
        record {
          comes = λ s ms g a t.
              let lt = wait_there x s.locals ms j (let b = waits_within site p in omega (arith, b, many)) a in
              let e = reads spot_at s in
              let rest = subst (λ place. HasAt w x.method place (op.Store j ∷ op.Load j ∷ [])) (let z : at + 1 + size_of get ≡ at + 4 = omega (arith, sized) in z) has.1.1 in
              by_dup x at o st ms s.shared _ has.0
              (by_op_to w x (at + 1) (at + 4) get (o ∷ o ∷ st) ms s.shared (push (o ∷ st) (with_locals ms e)) _ has.1.0 (let z : at + 1 + size_of get ≡ at + 4 = omega (arith, sized) in z)
              (gets (o ∷ st) (state s.shared ms) ∙ ap (push (o ∷ st)) (read.alike s.shared s.locals ms))
              (wait_ends x n (at + 1) (at + 4) (at + 8) j o st (o ∷ o ∷ st) ms s.locals a (let b = waits_behind site p in omega (arith, b, many)) lt rest (let z : at + 4 + 4 ≡ at + 8 = omega arith in z)
              e.result (λ u r. reads_cell spot_at s u r) e.state (stays read s) (let b = read.turns s in omega (arith, b, t))));
        }
