-- How calls, loops, arguments, chains and blocks go on.
use Rattle.std.specs.Prelude.{slice_get}
use Rattle.std.proofs.Common.{◌≡◌, ℕ, zero, suc, ◌+◌, ◌-◌, ◌<◌, List, ◌∷◌, drop, length, map, get_or, ℤ, Option, Some, None, Result, Ok, Err, refl, sym, ap, ◌∙◌, arith}
use Rattle.std.proofs.lemmas.List.{drop_more}
use Rattle.sed_typed.specs.declared.kind.Kind.{Kind}
use Rattle.sed_typed.specs.declared.operators.Width.TheVariants.{Int as IntWidth}
use Rattle.sed_typed.specs.declared.operators.Update.{Update}
use Rattle.sed_typed.specs.declared.program.Method.{Method}
use Rattle.sed_typed.specs.declared.program.Program.{Program}
use Rattle.sed_typed.specs.declared.statement.Label.{Label}
use Rattle.sed_typed.specs.declared.statement.Stmt.{Stmt}
use Rattle.sed_typed.specs.declared.tree.Expr.{Expr}
use Rattle.sed_typed.specs.declared.tree.Link.{Link}
use Rattle.sed_engine.specs.declared.trap.Trap.TheVariants.{TooDeep}
use Rattle.sed_engine.specs.Stops.{Stop, Traps, map_ok, there}
use Rattle.sed_engine.specs.Values.{Val, begun, whole}
use Rattle.sed_engine.specs.State.{Shared, State, End, gives, answers, then_do}
use Rattle.sed_engine.specs.Steps.{with_local, read_local, write_local}
use Rattle.sed_engine.specs.Operators.{arithmetic_of, given}
use Rattle.sed_engine.specs.Places.{OfLocal, put}
use Rattle.sed_engine.specs.Expressions.{Setting, eval, put_all, in_chain}
use Rattle.sed_engine.specs.Statements.{Flow, Next, Return, Round, Again, Over, Answer, after_round, follows, in_order, loop, exec, switch, label_of, leaves}
use Rattle.sed_engine.specs.Root.{calls_with, run_method, run_body, called}
use Rattle.sed_walk.specs.Forms.{put_computed, update_local_with}

-- ---- calls

pub calls_out : (program : Program) (class n m : ℕ) (f : List Val) (s : Shared) → n ≡ 0 → calls_with program class n m f s ≡ record { result = Err (Traps TooDeep); shared = s }
unfolding calls_with
calls_out program class zero m f s h = refl
calls_out program class (suc n) m f s h = absurd (omega arith)

pub calls_in : (program : Program) (class n m : ℕ) (f : List Val) (s : Shared) → 0 < n →
    calls_with program class n m f s ≡ run_method (record { program = program; class = class; calls = calls_with program class (n - 1) }) (slice_get program.methods m) f s
unfolding calls_with
calls_in program class zero m f s h = absurd (omega arith)
calls_in program class (suc n) m f s h =
    let e : n ≡ suc n - 1 = omega arith in
    ap (λ (j : ℕ). run_method (record { program = program; class = class; calls = calls_with program class j }) (slice_get program.methods m) f s) e

-- the body of a method on a frame
pub body-runs : (w : Setting) (m : Method) (f : List Val) (s : Shared) (body : Stmt) (e : End Flow) → m.body ≡ Some body → e ≡ exec w body (record { shared = s; locals = f }) →
    called m.result e ≡ run_method w (Some m) f s
body-runs w m f s body e here ends =
    ap (called m.result) ends
    ∙ ap (λ (o : Option Stmt). run_body w m.result o f s) (sym here)

-- ---- switch

pub switch-goes : (value : State → End Val) (labels : List Label) (all : List (State → End Flow)) (s t : State) (v : Val) (i : ℕ) (e : End Flow) →
    gives v t ≡ value s → Ok i ≡ map_ok (λ n. label_of labels n) (whole IntWidth v) → e ≡ in_order (drop i all) t →
    then_do e (λ flow s3. gives (leaves flow) s3) ≡ switch value labels all s
switch-goes value labels all s t v i e first second third =
    ap (λ (r : End Flow). then_do r (λ flow s3. gives (leaves flow) s3)) third
    ∙ from (whole IntWidth v) second
    ∙ ap (λ (r : End Val). then_do r (λ v s1. then_do (answers (whole IntWidth v) s1) (λ n s2. then_do (in_order (drop (label_of labels n) all) s2) (λ flow s3. gives (leaves flow) s3)))) first
  where
    from : (r : Result ℤ Stop) → Ok i ≡ map_ok (λ n. label_of labels n) r →
        then_do (in_order (drop i all) t) (λ flow s3. gives (leaves flow) s3)
        ≡ then_do (answers r t) (λ n s2. then_do (in_order (drop (label_of labels n) all) s2) (λ flow s3. gives (leaves flow) s3))
    from (Ok n) h =
        let same : i ≡ label_of labels n = cc in
        ap (λ (k : ℕ). then_do (in_order (drop k all) t) (λ flow s3. gives (leaves flow) s3)) same
    from (Err stop) h = absurd (let no : ⊥ = cc in no)

-- ---- loops

pub loop-again : (one : State → End Round) (n : ℕ) (s t : State) → 0 < n → gives Again t ≡ one s → loop one n s ≡ loop one (n - 1) t
unfolding loop
loop-again one zero s t h e = absurd (omega arith)
loop-again one (suc n) s t h e = let q : n ≡ suc n - 1 = omega arith in ap (λ (r : End Round). then_do r (λ r s1. after_round r (loop one n) s1)) (sym e) ∙ ap (λ (m : ℕ). loop one m t) q

pub loop-answer : (one : State → End Round) (n : ℕ) (s t : State) (v : Val) → 0 < n → gives (Answer v) t ≡ one s → loop one n s ≡ gives (Return v) t
unfolding loop
loop-answer one zero s t v h e = absurd (omega arith)
loop-answer one (suc n) s t v h e = ap (λ (r : End Round). then_do r (λ r s1. after_round r (loop one n) s1)) (sym e)

pub loop-over : (one : State → End Round) (n : ℕ) (s t : State) → 0 < n → gives Over t ≡ one s → loop one n s ≡ gives Next t
unfolding loop
loop-over one zero s t h e = absurd (omega arith)
loop-over one (suc n) s t h e = ap (λ (r : End Round). then_do r (λ r s1. after_round r (loop one n) s1)) (sym e)

pub loop-stop : (one : State → End Round) (n : ℕ) (s t : State) (x : Stop) → 0 < n → record { result = Err x; state = t } ≡ one s → loop one n s ≡ record { result = Err x; state = t }
unfolding loop
loop-stop one zero s t x h e = absurd (omega arith)
loop-stop one (suc n) s t x h e = ap (λ (r : End Round). then_do r (λ r s1. after_round r (loop one n) s1)) (sym e)

-- ---- rows

-- the rest of a list from a place on
pub rest-is : {X : Type 0} (xs : List X) (i : ℕ) (x : X) → i < length xs → x ≡ get_or xs i x → drop i xs ≡ x ∷ drop (i + 1) xs
rest-is xs i x h at = drop_more xs i x h ∙ ap (λ (y : _). y ∷ drop (i + 1) xs) (sym at)

-- ---- locals

-- a local that is read
local-read : (kind : Kind) (i : ℕ) (v : Val) (s : State) → Ok v ≡ map_ok (λ x. begun kind x) (there (slice_get s.locals i)) → gives v s ≡ read_local kind i s
local-read kind i v s = go (slice_get s.locals i)
  where
    go : (o : Option Val) → Ok v ≡ map_ok (λ x. begun kind x) (there o) → gives v s ≡ then_do (answers (there o) s) (λ x s1. gives (begun kind x) s1)
    go (Some x) h = ap (λ (r : Result Val Stop). answers r s) h
    go None h = absurd (let no : ⊥ = cc in no)

-- a compound assignment to a local, of which the old value is read
module _ (w : Setting) (u : Update) (kind : Kind) (i n : ℕ) (is : n ≡ i) (e : Expr) (v : Val) (s : State) (read : Ok v ≡ map_ok (λ x. begun kind x) (there (slice_get s.locals n))) where
  -- the operand ends so
  pub update-goes : (r : End Val) → r ≡ eval w e s → then_do r (λ x s1. put_computed u (OfLocal kind i) v x s1) ≡ update_local_with w u kind i e s
  update-goes r ends =
      ap (λ (q : End Val). then_do q (λ x s1. put_computed u (OfLocal kind i) v x s1)) ends
      ∙ ap (λ (q : End Val). then_do q (λ old s1. then_do (eval w e s1) (λ x s2. put_computed u (OfLocal kind i) old x s2))) (local-read kind n v s read ∙ ap (λ (j : ℕ). read_local kind j s) is)

  -- the operand has a value, of which another is computed, and the store of that ends so
  pub update-stores : (x y : Val) (t : State) (m : ℕ) → m ≡ i → gives x t ≡ eval w e s → Ok y ≡ arithmetic_of u.arithmetic u.width v x → (r : End Val) → r ≡ write_local m y t →
      then_do r (λ new s1. gives (given u.gives v new) s1) ≡ update_local_with w u kind i e s
  update-stores x y t m at ends computes r writes =
      let finish : End Val → End Val = λ q. then_do q (λ new s1. gives (given u.gives v new) s1) in
      ap finish (writes ∙ ap (λ (j : ℕ). write_local j y t) at)
      ∙ ap (λ (q : Result Val Stop). then_do (answers q t) (λ z s1. finish (put (OfLocal kind i) z s1))) computes
      ∙ update-goes (gives x t) ends

-- ---- arguments

module _ (f : Expr → State → End Val) (xs : List Expr) (i : ℕ) (x : Expr) (h : i < length xs) (at : x ≡ get_or xs i x) (n : ℕ) (frame : List Val) (s t : State) where
  put-goes : (r : Result Val Stop) → record { result = r; state = t } ≡ f x s →
      put_all n (map f (drop i xs)) frame s ≡ then_do (record { result = r; state = t }) (λ v s1. then_do (answers (with_local frame n v) s1) (λ more s2. put_all (n + 1) (map f (drop (i + 1) xs)) more s2))
  put-goes r e =
      ap (λ (ys : List Expr). put_all n (map f ys) frame s) (rest-is xs i x h at)
      ∙ ap (λ (q : End Val). then_do q (λ v s1. then_do (answers (with_local frame n v) s1) (λ more s2. put_all (n + 1) (map f (drop (i + 1) xs)) more s2))) (sym e)

  pub put-next : (v : Val) (more : List Val) (k : ℕ) → gives v t ≡ f x s → with_local frame n v ≡ Ok more → k ≡ n + 1 →
      put_all n (map f (drop i xs)) frame s ≡ put_all k (map f (drop (i + 1) xs)) more t
  put-next v more k e w same =
      put-goes (Ok v) e
      ∙ ap (λ (r : Result (List Val) Stop). then_do (answers r t) (λ more s2. put_all (n + 1) (map f (drop (i + 1) xs)) more s2)) w
      ∙ ap (λ (m : ℕ). put_all m (map f (drop (i + 1) xs)) more t) (sym same)

  pub put-full : (v : Val) (stop : Stop) → gives v t ≡ f x s → with_local frame n v ≡ Err stop →
      put_all n (map f (drop i xs)) frame s ≡ record { result = Err stop; state = t }
  put-full v stop e w =
      put-goes (Ok v) e
      ∙ ap (λ (r : Result (List Val) Stop). then_do (answers r t) (λ more s2. put_all (n + 1) (map f (drop (i + 1) xs)) more s2)) w

  pub put-stop : (stop : Stop) → record { result = Err stop; state = t } ≡ f x s → put_all n (map f (drop i xs)) frame s ≡ record { result = Err stop; state = t }
  put-stop stop e = put-goes (Err stop) e

-- ---- chains

module _ (f : Link → Val → State → End Val) (xs : List Link) (i : ℕ) (x : Link) (h : i < length xs) (at : x ≡ get_or xs i x) (v : Val) (s t : State) where
  pub chain-goes : (r : Result Val Stop) → record { result = r; state = t } ≡ f x v s →
      in_chain (map f (drop i xs)) v s ≡ then_do (record { result = r; state = t }) (λ w s1. in_chain (map f (drop (i + 1) xs)) w s1)
  chain-goes r e =
      ap (λ (ys : List Link). in_chain (map f ys) v s) (rest-is xs i x h at)
      ∙ ap (λ (q : End Val). then_do q (λ w s1. in_chain (map f (drop (i + 1) xs)) w s1)) (sym e)

-- ---- blocks

module _ (f : Stmt → State → End Flow) (xs : List Stmt) (i : ℕ) (x : Stmt) (h : i < length xs) (at : x ≡ get_or xs i x) (s t : State) where
  pub order-goes : (r : Result Flow Stop) → record { result = r; state = t } ≡ f x s →
      in_order (map f (drop i xs)) s ≡ then_do (record { result = r; state = t }) (λ flow s1. follows flow (in_order (map f (drop (i + 1) xs))) s1)
  order-goes r e =
      ap (λ (ys : List Stmt). in_order (map f ys) s) (rest-is xs i x h at)
      ∙ ap (λ (q : End Flow). then_do q (λ flow s1. follows flow (in_order (map f (drop (i + 1) xs))) s1)) (sym e)
