-- Values that wait in the compiler's locals while an instruction stores or reads another.
use Rattle.std.proofs.Common.{◌≡◌, ℕ, ◌+◌, ◌<◌, ◌≤◌, List, [], ◌∷◌, ◌++◌, length, Some, Result, Ok, Err, slice_get, slice_set, refl, sym, ap, ◌∙◌, subst, arith}
use Rattle.sed_value.specs.declared.slot_type.Primitive.{Primitive}
use Rattle.sed_value.specs.declared.slot_type.Primitive.TheVariants as prim
use Rattle.sed_value.specs.declared.value.Value.{Value}
use Rattle.sed_typed.specs.Kinds.{read_kind}
use Rattle.sed_engine.specs.State.{Shared, State, End, gives, then_do}
use Rattle.sed_engine.specs.Steps.{read_spot}
use Rattle.sed_engine.specs.Stops.{Stop, Traps, Untyped}
use Rattle.sed_engine.specs.Values.{Val, Int, Spot}
use Rattle.scode_ops.specs.declared.op.Op.{Op}
use Rattle.scode_ops.specs.declared.op.Op.TheVariants as op
use Rattle.scode_ops.specs.Decoding.{size_of}
use Rattle.scode_code.specs.Effect.{no_push}
use Rattle.scode_code.specs.Fields.{Setting}
use Rattle.scode_code.specs.Machine.{Point, Onward, moves, pushed}
use Rattle.scode_code.specs.Steps.{effect, instruction_at}
use Rattle.scode_emit.specs.Site.{Site, waiting}
use Rattle.scode_emit.specs.Instructions.{narrow_code, narrow_size, around}
use Rattle.scode_sim.proofs.Apart.{Apart, with_locals, state, stays, apart_then, store_apart, read_apart, write_apart}
use Rattle.scode_sim.proofs.Comes.{Comes, here}
use Rattle.scode_sim.proofs.Frames.{Running, Agree, IsCell, pushed_is, wait_agrees, agree_length, there_is, get_set}
use Rattle.scode_sim.proofs.Follows.{Ends, frame, point, Pushed, not_void, HasAt, at_place, by_op_to, by_load, by_store, Sim, same_sim}
use Rattle.scode_sim.proofs.Operations.{IsFor}
use Rattle.scode_sim.proofs.Stores.{narrowed, stored, stores, writes, writes_is, writes_again, read_solid}

-- a local of the compiler's is behind the source's
pub waits_behind : (site : Site) (p : Primitive) → site.locals ≤ waiting site p
waits_behind site prim.Bool = omega arith
waits_behind site prim.Byte = omega arith
waits_behind site prim.Short = omega arith
waits_behind site prim.Int = omega arith
waits_behind site prim.Long = omega arith

pub waits_within : (site : Site) (p : Primitive) → waiting site p < site.locals + 4
waits_within site prim.Bool = omega arith
waits_within site prim.Byte = omega arith
waits_within site prim.Short = omega arith
waits_within site prim.Int = omega arith
waits_within site prim.Long = omega arith

pub wait_stays : (x : Running) (vs ms : List Val) (i : ℕ) (v : Val) → length x.kinds ≤ i → Agree x vs ms → Agree x vs (slice_set ms i v)
wait_stays x vs ms i v le a = record { each = wait_agrees x.kinds vs ms a.each i le v; this = a.this }

pub wait_there : (x : Running) (vs ms : List Val) (i : ℕ) → i < length x.kinds + 4 → Agree x vs ms → i < length ms
wait_there x vs ms i lt a = let e = agree_length x.kinds vs ms a.each in omega (arith, lt, e)

pub stores_apart : {spot_at : State → End Spot} → Apart Spot spot_at → (new : Value) → Apart (Unit {0}) (stores spot_at new)
stores_apart a new = apart_then a (λ spot. store_apart spot new)

pub reads_apart : {spot_at : State → End Spot} → Apart Spot spot_at → Apart Val (λ s. then_do (spot_at s) (λ spot s1. read_spot spot s1))
reads_apart a = apart_then a (λ spot. read_apart spot)

pub writes_apart : {spot_at : State → End Spot} → Apart Spot spot_at → (p : Primitive) (v : Val) → Apart Val (writes p spot_at v)
writes_apart a p v = apart_then a (λ spot. write_apart p spot v)

module _ (w : Setting) where
  -- the value on top is narrowed
  pub by_narrow : (x : Running) (place : ℕ) (p : Primitive) (v : Val) (rest ms : List Val) (sh : Shared) (Q : Point → Type 0) → IsFor p v → HasAt w x.method place (narrow_code p) →
      Comes w (point x (place + narrow_size p) ms (narrowed p v ∷ rest) sh) Q → Comes w (point x place ms (v ∷ rest) sh) Q
  by_narrow x place prim.Byte (Int n) rest ms sh Q h has c =
      by_op_to w x place (place + 1) op.IntToByte (Int n ∷ rest) ms sh (gives (Onward (narrowed prim.Byte (Int n) ∷ rest)) (state sh ms)) Q has.0 refl refl c
  by_narrow x place prim.Short (Int n) rest ms sh Q h has c =
      by_op_to w x place (place + 1) op.IntToShort (Int n ∷ rest) ms sh (gives (Onward (narrowed prim.Short (Int n) ∷ rest)) (state sh ms)) Q has.0 refl refl c
  by_narrow x place prim.Bool v rest ms sh Q h has c = let e : place + 0 ≡ place = omega arith in subst (λ at. Comes w (point x at ms (v ∷ rest) sh) Q) e c
  by_narrow x place prim.Int v rest ms sh Q h has c = let e : place + 0 ≡ place = omega arith in subst (λ at. Comes w (point x at ms (v ∷ rest) sh) Q) e c
  by_narrow x place prim.Long v rest ms sh Q h has c = let e : place + 0 ≡ place = omega arith in subst (λ at. Comes w (point x at ms (v ∷ rest) sh) Q) e c
  by_narrow x place prim.Byte v rest ms sh Q h has c = absurd h
  by_narrow x place prim.Short v rest ms sh Q h has c = absurd h

  -- the value on top is kept in a local, and stands there again
  pub by_wait : (x : Running) (place i : ℕ) (v : Val) (rest ms : List Val) (sh : Shared) (Q : Point → Type 0) → i < length ms → IsCell v →
      HasAt w x.method place (op.Store i ∷ op.Load i ∷ []) →
      Comes w (point x (place + 4) (slice_set ms i v) (v ∷ rest) sh) Q → Comes w (point x place ms (v ∷ rest) sh) Q
  by_wait x place i v rest ms sh Q lt cell has c =
      let old = there_is ms i lt in
      let e : place + 4 ≡ place + 2 + 2 = omega arith in
      by_store w x place i old.0 v rest ms sh Q has.0 old.1
      (by_load w x (place + 2) i v rest (slice_set ms i v) sh Q has.1.0 (get_set ms i v lt) cell
      (subst (λ at. Comes w (point x at (slice_set ms i v) (v ∷ rest) sh) Q) e c))

  module _ (G : State → Type 0) where
    -- a store that is over, and the waiting value again
    kept_ends : (x : Running) (n : ℕ) (p : Primitive) (place next last i : ℕ) (v : Val) (st rest ms vs : List Val) → Agree x vs ms → slice_get ms i ≡ Some v → IsCell v → next + 2 ≡ last → instruction_at w.image x.method next ≡ Some (op.Load i) →
        (r : Result (Unit {0}) Stop) (t : State) → t.locals ≡ vs → t.shared.turns ≤ n →
        (let f = then_do (record { result = r; state = t }) (λ _ s2. gives v s2) in
        let e = no_push st (then_do (record { result = r; state = state t.shared ms }) (λ _ s2. gives v s2)) in
        Comes w (moves (frame x place ms rest) x.below next e.result e.state) (Ends (Pushed x n (read_kind p) last st) f.result f.state))
    kept_ends x n p place next last i v st rest ms vs a is cell end has (Ok u) t stay le =
        by_load w x next i v st ms t.shared _ has is cell
        (here (record {
          void = not_void (read_kind p) v (read_solid p);
          stands = record {
            locals = ms;
            agree = subst (λ ls. Agree x ls ms) (sym stay) a;
            turns = le;
            is = ap (λ stack. point x (next + 2) ms stack t.shared) (sym (pushed_is v st cell)) ∙ ap (λ at. point x at ms (pushed v st) t.shared) end;
          };
        }))
    kept_ends x n p place next last i v st rest ms vs a is cell end has (Err (Traps trap)) t stay le = here refl
    kept_ends x n p place next last i v st rest ms vs a is cell end has (Err Untyped) t stay le = here tt

    -- an assignment's store whose value stands there afterwards
    pub around_sim : (x : Running) (n at size : ℕ) (site : Site) (p : Primitive) (put : Op) (v : Val) (rest st : List Val) (spot_at : State → End Spot) → site.locals ≡ length x.kinds → size_of put ≡ size →
        Apart Spot spot_at → IsFor p v →
        ((u : Val) → IsFor p u → (s : State) → effect w put (u ∷ rest) s ≡ no_push st (writes p spot_at u s)) →
        HasAt w x.method at (around site p put) →
        Sim w G x n Val (writes p spot_at v) at (v ∷ rest) (Pushed x n (read_kind p) (at + (narrow_size p + (size + 6))) st)
    around_sim x n at size site p put v rest st spot_at many sized apart h puts has =
        let k = stored p v h in
        let i = waiting site p in
        let u = narrowed p v in
        let at1 = at + narrow_size p in
        let tail = op.Store i ∷ op.Load i ∷ put ∷ op.Load i ∷ [] in
        let has1 = behind at p tail has in
        let next = at1 + 4 + size in
        let end : next + 2 ≡ at + (narrow_size p + (size + 6)) = omega arith in
        same_sim w G (λ s. sym (writes_is p spot_at v h s)) (record {
          comes = λ s ms g a t.
              let lt = wait_there x s.locals ms i (let b = waits_within site p in omega (arith, b, many)) a in
              let ms1 = slice_set ms i u in
              let a1 = wait_stays x s.locals ms i u (let b = waits_behind site p in omega (arith, b, many)) a in
              let store = stores_apart apart k.new in
              let e = stores spot_at k.new s in
              let made : effect w put (u ∷ rest) (state s.shared ms1) ≡ no_push st (then_do (with_locals ms1 e) (λ _ s2. gives u s2)) =
              puts u k.fits (state s.shared ms1) ∙ ap (no_push st) (writes_again p spot_at v h (state s.shared ms1)) ∙ ap (λ d. no_push st (then_do d (λ _ s2. gives u s2))) (store.alike s.shared s.locals ms1) in
              let place4 : at1 + 4 ≡ at1 + 2 + 2 = omega arith in
              let has_put = subst (λ place. instruction_at w.image x.method place ≡ Some put) (sym place4) has1.1.1.0 in
              let has_load = subst (λ place. instruction_at w.image x.method place ≡ Some (op.Load i)) (let z : at1 + 2 + 2 + size_of put ≡ next = omega (arith, sized) in z) has1.1.1.1.0 in
              by_narrow x at p v rest ms s.shared _ h (front at p tail has)
              (by_wait x at1 i u rest ms s.shared _ lt k.cell (has1.0, (has1.1.0, tt))
              (by_op_to w x (at1 + 4) next put (u ∷ rest) ms1 s.shared (no_push st (then_do (with_locals ms1 e) (λ _ s2. gives u s2))) _ has_put (let z : at1 + 4 + size_of put ≡ next = omega (arith, sized) in z) made
              (kept_ends x n p (at1 + 4) next (at + (narrow_size p + (size + 6))) i u st (u ∷ rest) ms1 s.locals a1 (get_set ms i u lt) k.cell end has_load e.result e.state (stays store s) (let b = store.turns s in omega (arith, b, t)))));
        })
      where
        behind : (at : ℕ) (p : Primitive) (tail : List Op) → HasAt w x.method at (narrow_code p ++ tail) → HasAt w x.method (at + narrow_size p) tail
        behind at prim.Byte tail h = h.1
        behind at prim.Short tail h = h.1
        behind at prim.Bool tail h = at_place w x.method at (at + 0) tail (omega arith) h
        behind at prim.Int tail h = at_place w x.method at (at + 0) tail (omega arith) h
        behind at prim.Long tail h = at_place w x.method at (at + 0) tail (omega arith) h

        front : (at : ℕ) (p : Primitive) (tail : List Op) → HasAt w x.method at (narrow_code p ++ tail) → HasAt w x.method at (narrow_code p)
        front at prim.Byte tail h = (h.0, tt)
        front at prim.Short tail h = (h.0, tt)
        front at prim.Bool tail h = tt
        front at prim.Int tail h = tt
        front at prim.Long tail h = tt
