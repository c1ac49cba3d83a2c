-- Assignments that give the value before: `x++` and `x--`.
use Rattle.std.proofs.Common.{◌≡◌, ℕ, ◌+◌, ◌≤◌, false, List, [], ◌∷◌, ◌++◌, Some, Result, Ok, Err, slice_get, refl, sym, ap, ◌∙◌, subst, arith}
use Rattle.std.specs.Prelude.{pos}
use Rattle.sed_value.specs.declared.slot_type.Primitive.{Primitive}
use Rattle.sed_typed.specs.declared.kind.Kind.{Kind}
use Rattle.sed_typed.specs.declared.operators.Arithmetic.{Arithmetic}
use Rattle.sed_typed.specs.declared.operators.Width.{Width}
use Rattle.sed_typed.specs.declared.operators.Width.TheVariants as width
use Rattle.sed_typed.specs.declared.program.Program.{Program}
use Rattle.sed_typed.specs.Kinds.{read_kind, width_kind}
use Rattle.sed_typed.specs.TypedExpr.{right_kind}
use Rattle.sed_engine.specs.Operators.{arithmetic_of}
use Rattle.sed_engine.specs.Places.{Target, OfLocal, fetch, put}
use Rattle.sed_engine.specs.State.{State, End, gives, answers, then_do}
use Rattle.sed_engine.specs.Stops.{Stop, Traps, Untyped}
use Rattle.sed_engine.specs.Values.{Val, Int, Long, Spot}
use Rattle.sed_engine.proofs.Kinded.{HasKind, arithmetic_is}
use Rattle.sed_engine.proofs.Parts.{TargetHas, fetch_holds, put_holds}
use Rattle.sed_engine.proofs.Ranges.{Sound}
use Rattle.sed_engine.proofs.Ready.{answers_it, gives_it}
use Rattle.scode_ops.specs.declared.op.Op.{Op}
use Rattle.scode_ops.specs.declared.op.Op.TheVariants as op
use Rattle.scode_ops.specs.Decoding.{size_of}
use Rattle.scode_image.specs.declared.image.Image.{Image}
use Rattle.scode_code.specs.Effect.{push, no_push}
use Rattle.scode_code.specs.Fields.{Setting}
use Rattle.scode_code.specs.Machine.{Point, Onward, moves, pushed}
use Rattle.scode_code.specs.Steps.{effect, instruction_at}
use Rattle.scode_emit.specs.declared.storage.Storage.{Storage}
use Rattle.scode_emit.specs.declared.storage.Storage.TheVariants.{InLocal, InField, InElement}
use Rattle.scode_emit.specs.Site.{Site, Layout, waiting, waiting_index}
use Rattle.scode_emit.specs.Instructions.{arithmetic_op, get_op, put_op, get_element_op, put_element_op, fetch_old_code, fetch_old_size, put_old_code, put_old_size}
use Rattle.scode_emit.proofs.Counts.{arithmetic_sized, put_sized, put_element_sized, get_sized, get_element_sized}
use Rattle.scode_sim.proofs.Apart.{Apart, with_locals, state, stays}
use Rattle.scode_sim.proofs.Comes.{Comes, here}
use Rattle.scode_sim.proofs.Context.{Known, Body, running, site, machine, runs}
use Rattle.scode_sim.proofs.Follows.{Ends, frame, point, Stands, Pushed, not_void, HasAt, by_op_to, by_load, Sim, from_stands, then_sim, cell_then, extend_held, same_sim}
use Rattle.scode_sim.proofs.Frames.{Running, Agree, IsCell, IsSolid, pushed_is}
use Rattle.scode_sim.proofs.Keeping.{by_dup, Waits, wait_field_sim, wait_element_sim}
use Rattle.scode_sim.proofs.Leaves.{constant_sim}
use Rattle.scode_sim.proofs.Located.{LocatedAs, put_sim}
use Rattle.scode_sim.proofs.NamedReads.{local_sim}
use Rattle.scode_sim.proofs.Operations.{then_same, IsFor, element_of, arithmetic_effect, get_effect, put_effect, array_get_effect, array_put_effect}
use Rattle.scode_sim.proofs.Stores.{width_solid, narrowed, stored, stores, writes, writes_is, for_kind, cell_of_kind}
use Rattle.scode_sim.proofs.Updates.{arithmetic_sim}
use Rattle.scode_sim.proofs.Waiting.{stores_apart}

-- the 1 of a width
abbrev pub one : Width → Val
one width.Int = Int (pos 1)
one width.Long = Long (pos 1)

abbrev pub one_op : Width → Op
one_op width.Int = op.Int (pos 1)
one_op width.Long = op.Long (pos 1)

abbrev pub one_size : Width → ℕ
one_size width.Int = 5
one_size width.Long = 9

one_sized : (k : Width) → size_of (one_op k) ≡ one_size k
one_sized width.Int = refl
one_sized width.Long = refl

module _ (program : Program) (layout : Layout) (image : Image) (class : ℕ) (known : Known program layout image class) (b : Body) where
  abbrev w : Setting
  w = machine image class

  abbrev x : Running
  x = running b

  abbrev S : Site
  S = site program layout b

  abbrev G : State → Type 0
  G s = runs program class b s

  abbrev Has : Kind → Val → Type 0
  Has k v = HasKind program class k v

  one_effect : (k : Width) (st : List Val) (s : State) → effect w (one_op k) st s ≡ gives (Onward (one k ∷ st)) s
  one_effect width.Int st s = refl
  one_effect width.Long st s = refl

  pushes : (k : Width) (st : List Val) (s : State) → gives (Onward (one k ∷ st)) s ≡ push st (gives (one k) s)
  pushes width.Int st s = refl
  pushes width.Long st s = refl

  one_cell : (k : Width) → IsCell (one k)
  one_cell width.Int = tt
  one_cell width.Long = tt

  -- what follows the value before
  abbrev pub adds : Arithmetic → Width → (Val → State → End Val) → Val → State → End Val
  adds a k store old s2 = then_do (gives (one k) s2) (λ y s3. then_do (answers (arithmetic_of a k old y) s3) (λ v s4. then_do (store v s4) (λ new s5. gives old s5)))

  -- ---- what is stored in no local

  old_stored : (n place next last j : ℕ) (kd : Kind) (u y : Val) (st all ms vs : List Val) → Agree x vs ms → slice_get ms j ≡ Some u → IsCell u → IsSolid kd → next + 2 ≡ last → instruction_at image x.method next ≡ Some (op.Load j) →
      (r : Result (Unit {0}) Stop) (t : State) → t.locals ≡ vs → t.shared.turns ≤ n →
      (let f = then_do (then_do (record { result = r; state = t }) (λ _ s2. gives y s2)) (λ new s5. gives u s5) in
      let e = no_push st (then_do (record { result = r; state = state t.shared ms }) (λ _ s2. gives y s2)) in
      Comes w (moves (frame x place ms all) x.below next e.result e.state) (Ends (Pushed x n kd last st) f.result f.state))
  old_stored n place next last j kd u y st all ms vs a held cell solid end has (Ok z) t stay le =
      by_load w x next j u st ms t.shared _ has held cell
      (here (record {
        void = not_void kd u solid;
        stands = record {
          locals = ms;
          agree = subst (λ ls. Agree x ls ms) (sym stay) a;
          turns = le;
          is = ap (λ stack. point x (next + 2) ms stack t.shared) (sym (pushed_is u st cell)) ∙ ap (λ at. point x at ms (pushed u st) t.shared) end;
        };
      }))
  old_stored n place next last j kd u y st all ms vs a held cell solid end has (Err (Traps trap)) t stay le = here refl
  old_stored n place next last j kd u y st all ms vs a held cell solid end has (Err Untyped) t stay le = here tt

  old_computed : (n place next size j : ℕ) (p : Primitive) (kd : Kind) (store : Op) (u : Val) (rest st all ms : List Val) (spot_at : State → End Spot) → read_kind p ≡ kd → size_of store ≡ size → Apart Spot spot_at →
      ((v : Val) → IsFor p v → (s : State) → effect w store (v ∷ rest) s ≡ no_push st (writes p spot_at v s)) →
      (s : State) → Agree x s.locals ms → slice_get ms j ≡ Some u → IsCell u → IsSolid kd → HasAt w x.method next (store ∷ op.Load j ∷ []) → s.shared.turns ≤ n → (r : Result Val Stop) → Sound (Has kd) r →
      (let f = then_do (answers r s) (λ v s4. then_do (writes p spot_at v s4) (λ new s5. gives u s5)) in
      let e = push rest (answers r (state s.shared ms)) in
      Comes w (moves (frame x place ms all) x.below next e.result e.state) (Ends (Pushed x n kd (next + (size + 2)) st) f.result f.state))
  old_computed n place next size j p kd store u rest st all ms spot_at pk sized apart puts s a held cell solid has le (Ok y) hy =
      let fits = for_kind program class p y (subst (λ k. Has k y) (sym pk) hy) in
      let k = stored p y fits in
      let stores_it = stores_apart apart k.new in
      let e = stores spot_at k.new s in
      let u1 = narrowed p y in
      let P : List Val → Type 0 = λ stack. (let f = then_do (writes p spot_at y s) (λ new s5. gives u s5) in Comes w (point x next ms stack s.shared) (Ends (Pushed x n kd (next + (size + 2)) st) f.result f.state)) in
      let F : End Val → Type 0 = λ d. (let f = then_do d (λ new s5. gives u s5) in Comes w (point x next ms (y ∷ rest) s.shared) (Ends (Pushed x n kd (next + (size + 2)) st) f.result f.state)) in
      subst P (sym (pushed_is y rest (cell_of_kind program class kd y solid hy)))
      (subst F (sym (writes_is p spot_at y fits s))
      (by_op_to w x next (next + size) store (y ∷ rest) ms s.shared (no_push st (then_do (with_locals ms e) (λ _ s2. gives u1 s2))) _ has.0 (ap (λ m. next + m) sized)
      (puts y fits (state s.shared ms) ∙ ap (no_push st) (writes_is p spot_at y fits (state s.shared ms)) ∙ ap (λ d. no_push st (then_do d (λ _ s2. gives u1 s2))) (stores_it.alike s.shared s.locals ms))
      (old_stored n next (next + size) (next + (size + 2)) j kd u u1 st (y ∷ rest) ms s.locals a held cell solid (let z : next + size + 2 ≡ next + (size + 2) = omega arith in z) (subst (λ m. instruction_at image x.method (next + m) ≡ Some (op.Load j)) sized has.1.0)
      e.result e.state (stays stores_it s) (let t = stores_it.turns s in omega (arith, t, le)))))
  old_computed n place next size j p kd store u rest st all ms spot_at pk sized apart puts s a held cell solid has le (Err (Traps trap)) hy = here refl
  old_computed n place next size j p kd store u rest st all ms spot_at pk sized apart puts s a held cell solid has le (Err Untyped) hy = absurd hy

  -- from the value before, which waits, to its end
  old_tail : (n at size j : ℕ) (a : Arithmetic) (k : Width) (p : Primitive) (kd : Kind) (store : Op) (rest st : List Val) (spot_at : State → End Spot) → kd ≡ width_kind k → Has (right_kind a k) (one k) → read_kind p ≡ kd → size_of store ≡ size → Apart Spot spot_at →
      ((v : Val) → IsFor p v → (s : State) → effect w store (v ∷ rest) s ≡ no_push st (writes p spot_at v s)) → HasAt w x.method at (one_op k ∷ arithmetic_op a k ∷ store ∷ op.Load j ∷ []) →
      (u : Val) → Has kd u → (s : State) (q : Point) → G s → Waits x n at j rest u s q →
      (let f = adds a k (writes p spot_at) u s in Comes w q (Ends (Pushed x n kd (at + (one_size k + 1 + (size + 2))) st) f.result f.state))
  old_tail n at size j a k p kd store rest st spot_at same right pk sized apart puts has u hu s q g h =
      let f = adds a k (writes p spot_at) u s in
      let ms = h.locals in
      let next1 = at + one_size k in
      let next2 = next1 + 1 in
      let last : next2 + (size + 2) ≡ at + (one_size k + 1 + (size + 2)) = omega arith in
      let has1 = subst (λ m. HasAt w x.method (at + m) (arithmetic_op a k ∷ store ∷ op.Load j ∷ [])) (one_sized k) has.1 in
      let has2 = subst (λ m. HasAt w x.method (next1 + m) (store ∷ op.Load j ∷ [])) (arithmetic_sized a k) has1.1 in
      let hw = subst (λ k. Has k u) same hu in
      let sound : Sound (Has kd) (arithmetic_of a k u (one k)) = subst (λ kd. Sound (Has kd) (arithmetic_of a k u (one k))) (sym same) (arithmetic_is program class a k u (one k) hw right) in
      let solid = subst IsSolid (sym same) (width_solid k) in
      let R : ℕ → Type 0 = λ last. Comes w (point x at ms (u ∷ rest) s.shared) (Ends (Pushed x n kd last st) f.result f.state) in
      subst (λ q. Comes w q (Ends (Pushed x n kd (at + (one_size k + 1 + (size + 2))) st) f.result f.state)) (sym h.is)
      (subst R last
      (by_op_to w x at next1 (one_op k) (u ∷ rest) ms s.shared (gives (Onward (one k ∷ u ∷ rest)) (state s.shared ms)) _ has.0 (ap (λ m. at + m) (one_sized k)) (one_effect k (u ∷ rest) (state s.shared ms))
      (by_op_to w x next1 next2 (arithmetic_op a k) (one k ∷ u ∷ rest) ms s.shared (push rest (answers (arithmetic_of a k u (one k)) (state s.shared ms))) _ has1.0 (ap (λ m. next1 + m) (arithmetic_sized a k)) (arithmetic_effect w a k (one k ∷ u ∷ rest) (state s.shared ms))
      (old_computed n next1 next2 size j p kd store u rest st (one k ∷ u ∷ rest) ms spot_at pk sized apart puts s h.agree h.held h.cell solid has2 h.turns (arithmetic_of a k u (one k)) sound))))

  adds_same : (a : Arithmetic) (k : Width) (f g : Val → State → End Val) (old : Val) (s : State) → ((v : Val) (s : State) → f v s ≡ g v s) → adds a k f old s ≡ adds a k g old s
  adds_same a k f g old s same =
      then_same (answers (arithmetic_of a k old (one k)) s) (λ v s4. then_do (f v s4) (λ new s5. gives old s5)) (λ v s4. then_do (g v s4) (λ new s5. gives old s5)) (λ v s4. ap (λ d. then_do d (λ new s5. gives old s5)) (same v s4))

  -- ---- a local: the value before stays on the stack

  local_old : (n q i : ℕ) (a : Arithmetic) (k : Width) (kd : Kind) (t : Target) (st : List Val) → t ≡ OfLocal kd i → slice_get b.frame.locals i ≡ Some kd → (b.frame.static ≡ false → i ≡ 0 → ⊥) → TargetHas program known.typed class known.component b.frame kd t → kd ≡ width_kind k → Has (right_kind a k) (one k) →
      HasAt w x.method q (op.Load i ∷ op.Dup ∷ one_op k ∷ arithmetic_op a k ∷ op.Store i ∷ []) →
      Sim w G x n Val (λ s. then_do (fetch t s) (λ old s2. adds a k (put t) old s2)) q st (Pushed x n kd (q + (3 + (one_size k + 1 + 2))) st)
  local_old n q i a k kd t st is there_is apart th same right has =
      let solid = b.solid i kd there_is in
      let r = q + 3 + one_size k in
      let has1 = subst (λ place. HasAt w x.method place (one_op k ∷ arithmetic_op a k ∷ op.Store i ∷ [])) (let z : q + 2 + 1 ≡ q + 3 = omega arith in z) has.1.1 in
      let has2 = subst (λ m. HasAt w x.method (q + 3 + m) (arithmetic_op a k ∷ op.Store i ∷ [])) (one_sized k) has1.1 in
      let has3 = subst (λ m. HasAt w x.method (r + m) (op.Store i ∷ [])) (arithmetic_sized a k) has2.1 in
      let end : r + 1 + 2 ≡ q + (3 + (one_size k + 1 + 2)) = omega arith in
      let held = fetch_holds program known.typed class known.component b.frame kd t th in
      let load : Sim w G x n Val (fetch t) q st (Pushed x n kd (q + 2) st) = subst (λ (t : Target). Sim w G x n Val (fetch t) q st (Pushed x n kd (q + 2) st)) (sym is) (local_sim program layout image class known b n i q kd st there_is (has.0, tt)) in
      let twice : Sim w G x n Val (fetch t) q st (λ v s p. Stands x n (q + 3) (v ∷ v ∷ st) s p) =
      extend_held w G load held (λ v hv s p g e. dup q st n kd v (cell_of_kind program class kd v solid hv) s p has.1.0 e.stands) in
      then_sim w G twice held (record {
        each = λ old ho s p g stands.
            let cell = cell_of_kind program class kd old solid ho in
            let Goal : Val → Type 0 = λ y. Sim w G x n Val (λ s3. then_do (answers (arithmetic_of a k old y) s3) (λ v s4. then_do (put t v s4) (λ new s5. gives old s5))) r (y ∷ old ∷ old ∷ st) (Pushed x n kd (q + (3 + (one_size k + 1 + 2))) st) in
            from_stands w G
            (cell_then w G (constant_sim w G x n (width_kind k) (one k) (q + 3) r (one_op k) (old ∷ old ∷ st) has1.0 (ap (λ m. q + 3 + m) (one_sized k)) (width_solid k) (λ s. one_effect k (old ∷ old ∷ st) s ∙ pushes k (old ∷ old ∷ st) s)) (gives_it {P = λ y. y ≡ one k} (one k) refl) (λ y e. subst IsCell (sym e) (one_cell k))
            (λ y e. subst Goal (sym e)
            (cell_then w G (arithmetic_sim program layout image class known b n r a k old (one k) (old ∷ st) has2.0)
            (answers_it (arithmetic_of a k old (one k)) (arithmetic_is program class a k old (one k) (subst (λ k. Has k old) same ho) right)) (λ v hv. cell_of_kind program class (width_kind k) v (width_solid k) hv)
            (λ v hv.
            let hd = subst (λ k. Has k v) (sym same) hv in
            then_sim w G (put_sim program layout image class known b n (r + 1) kd (InLocal i) t (old ∷ st) (old ∷ st) v (is, refl, there_is, apart) hd has3) (put_holds program known.typed class known.component b.frame kd t v th hd)
            (record {
              each = λ new hn s p g stands. here (record {
                void = not_void kd old solid;
                stands = subst (λ stack. Stands x n (q + (3 + (one_size k + 1 + 2))) stack s p) (sym (pushed_is old st cell)) (subst (λ place. Stands x n place (old ∷ st) s p) end stands);
              });
            }))))) s p g stands;
      })
    where
      dup : (q : ℕ) (st : List Val) (n : ℕ) (kd : Kind) (v : Val) → IsCell v → (s : State) (p : Point) → instruction_at image x.method (q + 2) ≡ Some op.Dup → Stands x n (q + 2) (pushed v st) s p → Comes w p (Stands x n (q + 3) (v ∷ v ∷ st) s)
      dup q st n kd v cell s p at stands =
          subst (λ p. Comes w p (Stands x n (q + 3) (v ∷ v ∷ st) s)) (sym (stands.is ∙ ap (λ stack. point x (q + 2) stands.locals stack s.shared) (pushed_is v st cell)))
          (by_dup w x (q + 2) v st stands.locals s.shared _ at (here (record {
            locals = stands.locals;
            agree = stands.agree;
            turns = stands.turns;
            is = ap (λ place. point x place stands.locals (v ∷ v ∷ st) s.shared) (let z : q + 2 + 1 ≡ q + 3 = omega arith in z);
          })))

  -- ---- all

  pub old_sim : (n q : ℕ) (a : Arithmetic) (k : Width) (kd : Kind) (sg : Storage) (t : Target) (st all : List Val) → LocatedAs program layout image class known b kd sg t st all → TargetHas program known.typed class known.component b.frame kd t → kd ≡ width_kind k → Has (right_kind a k) (one k) →
      HasAt w x.method q (fetch_old_code S sg ++ (one_op k ∷ arithmetic_op a k ∷ put_old_code S sg)) →
      Sim w G x n Val (λ s. then_do (fetch t s) (λ old s2. adds a k (put t) old s2)) q all (Pushed x n kd (q + (fetch_old_size sg + (one_size k + 1 + put_old_size sg))) st)
  old_sim n q a k kd (InLocal i) t st all l th same right has =
      subst (λ (all : List Val). Sim w G x n Val (λ s. then_do (fetch t s) (λ old s2. adds a k (put t) old s2)) q all (Pushed x n kd (q + (3 + (one_size k + 1 + 2))) st)) (sym l.1)
      (local_old n q i a k kd t st l.0 l.2 l.3 th same right has)
  old_sim n q a k kd (InField p offset) t st all l th same right has =
      let f = l.3 in
      let j = waiting S p in
      let tail = one_op k ∷ arithmetic_op a k ∷ put_op p offset ∷ op.Load j ∷ [] in
      let get = get_op p offset in
      let has_tail = subst (λ place. HasAt w x.method place tail) (let size = get_sized p offset in let z : q + 1 + size_of get + 2 + 2 ≡ q + 8 = omega (arith, size) in z) has.1.1.1.1 in
      let wait = wait_field_sim w G x n q S p get l.0 st f.base refl (get_sized p offset) f.apart (get_effect w p offset l.0 f.base f.is) (has.0, (has.1.0, (has.1.1.0, (has.1.1.1.0, tt)))) in
      let end : q + 8 + (one_size k + 1 + (3 + 2)) ≡ q + (8 + (one_size k + 1 + 5)) = omega arith in
      subst (λ (all : List Val). Sim w G x n Val (λ s. then_do (fetch t s) (λ old s2. adds a k (put t) old s2)) q all (Pushed x n kd (q + (8 + (one_size k + 1 + 5))) st)) (sym l.1)
      (subst (λ last. Sim w G x n Val (λ s. then_do (fetch t s) (λ old s2. adds a k (put t) old s2)) q (l.0 ∷ st) (Pushed x n kd last st)) end
      (then_sim w G (same_sim w G (λ s. sym (f.fetch_is s)) wait) (fetch_holds program known.typed class known.component b.frame kd t th) (record {
        each = λ old ho s p2 g h.
            let done = old_tail n (q + 8) 3 j a k p kd (put_op p offset) (l.0 ∷ st) st f.base same right l.2 (put_sized p offset) f.apart (λ v fv s. put_effect w p offset l.0 v f.base f.is fv st s) has_tail old ho s p2 g h in
            subst (λ (d : End Val). Comes w p2 (Ends (Pushed x n kd (q + 8 + (one_size k + 1 + (3 + 2))) st) d.result d.state)) (sym (adds_same a k (put t) (writes p f.base) old s f.put_is)) done;
      })))
  old_sim n q a k kd (InElement p offset count) t st all l th same right has =
      let f = l.4 in
      let i = waiting_index S in
      let j = waiting S p in
      let spot_at = element_of count l.1 f.base in
      let tail = one_op k ∷ arithmetic_op a k ∷ put_element_op p offset count ∷ op.Load j ∷ [] in
      let get = get_element_op p offset count in
      let has_tail = subst (λ place. HasAt w x.method place tail) (let size = get_element_sized p offset count in let z : q + 2 + 1 + 2 + size_of get + 2 + 2 + 2 ≡ q + 16 = omega (arith, size) in z) has.1.1.1.1.1.1.1 in
      let wait = wait_element_sim w G x n q S p get l.0 l.1 st spot_at refl (get_element_sized p offset count) f.apart (array_get_effect w p offset count l.0 l.1 f.base f.is)
      (has.0, (has.1.0, (has.1.1.0, (has.1.1.1.0, (has.1.1.1.1.0, (has.1.1.1.1.1.0, (has.1.1.1.1.1.1.0, tt))))))) in
      let end : q + 16 + (one_size k + 1 + (5 + 2)) ≡ q + (16 + (one_size k + 1 + 7)) = omega arith in
      subst (λ (all : List Val). Sim w G x n Val (λ s. then_do (fetch t s) (λ old s2. adds a k (put t) old s2)) q all (Pushed x n kd (q + (16 + (one_size k + 1 + 7))) st)) (sym l.2)
      (subst (λ last. Sim w G x n Val (λ s. then_do (fetch t s) (λ old s2. adds a k (put t) old s2)) q (Int l.1 ∷ l.0 ∷ st) (Pushed x n kd last st)) end
      (then_sim w G (same_sim w G (λ s. sym (f.fetch_is s)) wait) (fetch_holds program known.typed class known.component b.frame kd t th) (record {
        each = λ old ho s p2 g h.
            let done = old_tail n (q + 16) 5 j a k p kd (put_element_op p offset count) (Int l.1 ∷ l.0 ∷ st) st spot_at same right l.3 (put_element_sized p offset count) f.apart (λ v fv s. array_put_effect w p offset count l.0 v l.1 f.base f.is fv st s) has_tail old ho s p2 g h in
            subst (λ (d : End Val). Comes w p2 (Ends (Pushed x n kd (q + 16 + (one_size k + 1 + (5 + 2))) st) d.result d.state)) (sym (adds_same a k (put t) (writes p spot_at) old s f.put_is)) done;
      })))
