-- Assignments that compute.
use Rattle.std.proofs.Common.{◌≡◌, ℕ, ◌+◌, List, ◌∷◌, Some, sym, ap, subst}
use Rattle.sed_typed.specs.declared.kind.Kind.{Kind}
use Rattle.sed_typed.specs.declared.operators.Arithmetic.{Arithmetic}
use Rattle.sed_typed.specs.declared.operators.Gives.{Gives}
use Rattle.sed_typed.specs.declared.operators.Gives.TheVariants.{New}
use Rattle.sed_typed.specs.declared.operators.Width.{Width}
use Rattle.sed_typed.specs.declared.operators.Width.TheVariants as width
use Rattle.sed_typed.specs.declared.program.Program.{Program}
use Rattle.sed_typed.specs.Kinds.{width_kind}
use Rattle.sed_typed.specs.TypedExpr.{right_kind}
use Rattle.sed_engine.specs.Operators.{arithmetic_of, given}
use Rattle.sed_engine.specs.Places.{Target, fetch, put}
use Rattle.sed_engine.specs.State.{State, End, gives, answers, then_do}
use Rattle.sed_engine.specs.Values.{Val}
use Rattle.sed_engine.proofs.Kinded.{HasKind, arithmetic_is}
use Rattle.sed_engine.proofs.Parts.{TargetHas, fetch_holds, put_holds}
use Rattle.sed_engine.proofs.Ready.{Holds, answers_it}
use Rattle.scode_image.specs.declared.image.Image.{Image}
use Rattle.scode_code.specs.Fields.{Setting}
use Rattle.scode_code.specs.Machine.{Point}
use Rattle.scode_code.specs.Steps.{instruction_at}
use Rattle.scode_emit.specs.declared.storage.Storage.{Storage}
use Rattle.scode_emit.specs.Site.{Site, Layout}
use Rattle.scode_emit.specs.Instructions.{arithmetic_op, put_code, put_size, keep_code, keep_size, fetch_code, fetch_size}
use Rattle.scode_emit.proofs.Counts.{arithmetic_sized}
use Rattle.scode_sim.proofs.Comes.{here}
use Rattle.scode_sim.proofs.Context.{Known, Body, running, site, machine, runs}
use Rattle.scode_sim.proofs.Follows.{Stands, Pushed, HasAt, Sim, then_sim, val_then, cell_then, none_sim}
use Rattle.scode_sim.proofs.Frames.{Running, IsCell, IsSolid}
use Rattle.scode_sim.proofs.Leaves.{answer_sim}
use Rattle.scode_sim.proofs.Located.{LocatedAs, located_solid, fetch_sim, put_sim, keep_sim}
use Rattle.scode_sim.proofs.Operations.{arithmetic_effect}
use Rattle.scode_sim.proofs.Stores.{width_solid, cell_of_kind}

module _ (program : Program) (layout : Layout) (image : Image) (class : ℕ) (known : Known program layout image class) (b : Body) where
  abbrev w : Setting
  w = machine image class

  abbrev x : Running
  x = running b

  abbrev S : Site
  S = site program layout b

  abbrev G : State → Type 0
  G s = runs program class b s

  abbrev Has : Kind → Val → Type 0
  Has k v = HasKind program class k v

  cells : (k : Kind) → IsSolid k → (v : Val) → Has k v → IsCell v
  cells k solid v h = cell_of_kind program class k v solid h

  pub arithmetic_sim : (n place : ℕ) (a : Arithmetic) (k : Width) (u v : Val) (st : List Val) → instruction_at image x.method place ≡ Some (arithmetic_op a k) →
      Sim w G x n Val (answers (arithmetic_of a k u v)) place (v ∷ u ∷ st) (Pushed x n (width_kind k) (place + 1) st)
  arithmetic_sim n place a k u v st at =
      answer_sim w G x n (width_kind k) (arithmetic_of a k u v) place (place + 1) (arithmetic_op a k) (v ∷ u ∷ st) st at (ap (λ m. place + m) (arithmetic_sized a k)) (width_solid k) (λ s. arithmetic_effect w a k (v ∷ u ∷ st) s)

  -- the value before, the operand, and what is computed of both; and then what is done with it
  computed_sim : {B : Type 0} {R : B → State → Point → Type 0} (n q r : ℕ) (a : Arithmetic) (k : Width) (kd : Kind) (sg : Storage) (t : Target) (st all : List Val) (operand : State → End Val) (j : Kind) (h : Val → Val → State → End B) →
      LocatedAs program layout image class known b kd sg t st all → TargetHas program known.typed class known.component b.frame kd t → kd ≡ width_kind k → j ≡ right_kind a k → IsSolid j → Holds G Val (Has j) operand → HasAt w x.method q (fetch_code S sg) →
      ((stack : List Val) → Sim w G x n Val operand (q + fetch_size sg) stack (Pushed x n j r stack)) → instruction_at image x.method r ≡ Some (arithmetic_op a k) →
      ((old v : Val) → Has kd v → Sim w G x n B (h old v) (r + 1) (v ∷ all) R) →
      Sim w G x n B (λ s. then_do (fetch t s) (λ old s2. then_do (operand s2) (λ y s3. then_do (answers (arithmetic_of a k old y) s3) (λ v s4. h old v s4)))) q all R
  computed_sim n q r a k kd sg t st all operand j h l th same js solid holds has sim_e at rest =
      let located = located_solid program layout image class known b kd sg t st all l in
      cell_then w G (fetch_sim program layout image class known b n q kd sg t st all l has) (fetch_holds program known.typed class known.component b.frame kd t th) (cells kd located)
      (λ old ho. cell_then w G (sim_e (old ∷ all)) holds (cells j solid)
      (λ y hy. cell_then w G (arithmetic_sim n r a k old y all at) (answers_it (arithmetic_of a k old y) (arithmetic_is program class a k old y (subst (λ k. Has k old) same ho) (subst (λ k. Has k y) js hy))) (cells (width_kind k) (width_solid k))
      (λ v hv. rest old v (subst (λ k. Has k v) (sym same) hv))))

  -- the stored value is given
  pub update_new_sim : (n q r : ℕ) (a : Arithmetic) (k : Width) (kd : Kind) (sg : Storage) (t : Target) (st all : List Val) (operand : State → End Val) (j : Kind) →
      LocatedAs program layout image class known b kd sg t st all → TargetHas program known.typed class known.component b.frame kd t → kd ≡ width_kind k → j ≡ right_kind a k → IsSolid j → Holds G Val (Has j) operand → HasAt w x.method q (fetch_code S sg) →
      ((stack : List Val) → Sim w G x n Val operand (q + fetch_size sg) stack (Pushed x n j r stack)) → HasAt w x.method r (arithmetic_op a k ∷ keep_code S sg) →
      Sim w G x n Val (λ s. then_do (fetch t s) (λ old s2. then_do (operand s2) (λ y s3. then_do (answers (arithmetic_of a k old y) s3) (λ v s4. then_do (put t v s4) (λ new s5. gives (given New old new) s5))))) q all (Pushed x n kd (r + 1 + keep_size sg) st)
  update_new_sim n q r a k kd sg t st all operand j l th same js solid holds has sim_e tail =
      let keep = subst (λ m. HasAt w x.method (r + m) (keep_code S sg)) (arithmetic_sized a k) tail.1 in
      computed_sim n q r a k kd sg t st all operand j (λ old v s4. then_do (put t v s4) (λ new s5. gives (given New old new) s5)) l th same js solid holds has sim_e tail.0
      (λ old v hv. val_then w G (keep_sim program layout image class known b n (r + 1) kd sg t st all v l hv keep) (put_holds program known.typed class known.component b.frame kd t v th hv)
      (λ new hn void. none_sim w G (λ s q stands. record { void = void; stands = stands })))

  -- no value is wanted
  pub update_drop_sim : (g : Gives) (n q r : ℕ) (a : Arithmetic) (k : Width) (kd : Kind) (sg : Storage) (t : Target) (st all : List Val) (operand : State → End Val) (j : Kind) →
      LocatedAs program layout image class known b kd sg t st all → TargetHas program known.typed class known.component b.frame kd t → kd ≡ width_kind k → j ≡ right_kind a k → IsSolid j → Holds G Val (Has j) operand → HasAt w x.method q (fetch_code S sg) →
      ((stack : List Val) → Sim w G x n Val operand (q + fetch_size sg) stack (Pushed x n j r stack)) → HasAt w x.method r (arithmetic_op a k ∷ put_code sg) →
      Sim w G x n Val (λ s. then_do (fetch t s) (λ old s2. then_do (operand s2) (λ y s3. then_do (answers (arithmetic_of a k old y) s3) (λ v s4. then_do (put t v s4) (λ new s5. gives (given g old new) s5))))) q all (λ u s p. Stands x n (r + 1 + put_size sg) st s p)
  update_drop_sim g n q r a k kd sg t st all operand j l th same js solid holds has sim_e tail =
      let store = subst (λ m. HasAt w x.method (r + m) (put_code sg)) (arithmetic_sized a k) tail.1 in
      computed_sim n q r a k kd sg t st all operand j (λ old v s4. then_do (put t v s4) (λ new s5. gives (given g old new) s5)) l th same js solid holds has sim_e tail.0
      (λ old v hv. then_sim w G (put_sim program layout image class known b n (r + 1) kd sg t st all v l hv store) (put_holds program known.typed class known.component b.frame kd t v th hv)
      (record { each = λ new hn s p gs stands. here stands }))
