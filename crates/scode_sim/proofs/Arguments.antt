-- Arguments: on the machine's stack as in the frame that the source makes, and what a call begins with.
use Rattle.std.proofs.Common.{◌≡◌, ℕ, ◌+◌, ◌≤◌, zero, suc, Bool, true, false, if◌then◌else◌, List, [], ◌∷◌, ◌++◌, map, length, drop, replicate, Some, None, Result, Ok, Err, slice_get, slice_set, refl, sym, ap, ◌∙◌, subst, arith, append_assoc, length-append, zero-add}
use Rattle.std.specs.Prelude.{slice_index_or, not}
use Rattle.std.proofs.Math.Seq.{set-append_seam}
use Rattle.sed_typed.specs.declared.kind.Kind.{Kind}
use Rattle.sed_typed.specs.declared.kind.Kind.TheVariants as kind
use Rattle.sed_typed.specs.declared.program.Method.{Method}
use Rattle.sed_typed.specs.declared.program.Program.{Program}
use Rattle.sed_typed.specs.Typed.{locals_of, receiver_of, declared_by}
use Rattle.sed_typed.specs.Locals.{Declared}
use Rattle.sed_engine.specs.Expressions.{put_all}
use Rattle.sed_engine.specs.State.{State, End, answers, then_do}
use Rattle.sed_engine.specs.Steps.{with_local}
use Rattle.sed_engine.specs.Stops.{Stop, Untyped, there, map_ok}
use Rattle.sed_engine.specs.Values.{Val, Nothing, zero_of, begun}
use Rattle.scode_image.specs.declared.image.ImageMethod.{ImageMethod}
use Rattle.scode_code.specs.Calls.{argument_count, is_instance}
use Rattle.scode_code.specs.Calls as machine
use Rattle.scode_code.specs.Effect.{taken}
use Rattle.scode_code.specs.Fields.{Setting}
use Rattle.scode_code.specs.Machine.{Point}
use Rattle.scode_emit.specs.Site.{Layout}
use Rattle.scode_sim.specs.Made.{IsMethodOf}
use Rattle.scode_sim.proofs.Comes.{here}
use Rattle.scode_sim.proofs.Follows.{Stands, Sim}
use Rattle.scode_sim.proofs.Frames.{Running, AgreeOn, IsCell, begun_is}

-- the arguments on the stack, the last on top
abbrev pub push_all : List Val → List Val → List Val
push_all [] stack = stack
push_all (v ∷ vs) stack = push_all vs (v ∷ stack)

pub push_more : (vs : List Val) (v : Val) (stack : List Val) → v ∷ push_all vs stack ≡ push_all (vs ++ v ∷ []) stack
push_more [] v stack = refl
push_more (u ∷ vs) v stack = push_more vs v (u ∷ stack)

taken_more : (vs stack more : List Val) (k : ℕ) → taken (length vs + k) (push_all vs stack) more ≡ taken k stack (vs ++ more)
taken_more [] stack more k = ap (λ n. taken n stack more) (zero-add k)
taken_more (v ∷ vs) stack more k =
    let e : suc (length vs) + k ≡ length vs + suc k = omega arith in
    ap (λ n. taken n (push_all vs (v ∷ stack)) more) e ∙ taken_more vs (v ∷ stack) more (suc k)

append_nothing : (vs : List Val) → vs ++ [] ≡ vs
append_nothing [] = refl
append_nothing (v ∷ vs) = ap (λ l. v ∷ l) (append_nothing vs)

pub taken_all : (vs stack : List Val) (n : ℕ) → length vs ≡ n → taken n (push_all vs stack) [] ≡ Ok (vs, stack)
taken_all vs stack n e =
    let k : n ≡ length vs + 0 = omega (arith, e) in
    ap (λ n. taken n (push_all vs stack) []) k ∙ taken_more vs stack [] 0 ∙ ap (λ l. Ok (l, stack)) (append_nothing vs)

-- ---- the frame

abbrev pub AllCells : List Val → Type 0
AllCells [] = Unit {0}
AllCells (v ∷ vs) = IsCell v × AllCells vs

abbrev pub AllNothing : List Val → Type 0
AllNothing [] = Unit {0}
AllNothing (v ∷ vs) = (v ≡ Nothing) × AllNothing vs

pub nothings : (k : ℕ) → AllNothing (replicate k Nothing)
nothings zero = tt
nothings (suc k) = (refl, nothings k)

pub nothing_tail : (blank : List Val) (b : Val) (bs : List Val) → blank ≡ b ∷ bs → AllNothing blank → AllNothing bs
nothing_tail blank b bs e a = let all : AllNothing (b ∷ bs) = subst AllNothing e a in all.1

-- what is not begun in the source begins in the machine as 0, false or null
rest_agrees : (ks : List Kind) (blank waiting : List Val) → length waiting ≡ 4 → AllNothing blank → length ks ≤ length blank → AgreeOn ks blank (map zero_of ks ++ waiting)
rest_agrees [] blank waiting four a h = four
rest_agrees (k ∷ ks) [] waiting four a h = absurd (omega (arith, h))
rest_agrees (k ∷ ks) (v ∷ vs) waiting four a h = (ap (begun k) a.0, rest_agrees ks vs waiting four a.1 (omega (arith, h)))

pub frame_agrees : (given others : List Kind) (args blank waiting : List Val) → length waiting ≡ 4 → AllCells args → AllNothing blank → length args ≡ length given → length others ≤ length blank →
    AgreeOn (given ++ others) (args ++ blank) (args ++ (map zero_of others ++ waiting))
frame_agrees [] others [] blank waiting four a n e h = rest_agrees others blank waiting four n h
frame_agrees [] others (v ∷ vs) blank waiting four a n e h = absurd (omega (arith, e))
frame_agrees (k ∷ ks) others [] blank waiting four a n e h = absurd (omega (arith, e))
frame_agrees (k ∷ ks) others (v ∷ vs) blank waiting four a n e h = (begun_is k v a.0, frame_agrees ks others vs blank waiting four a.1 n (omega (arith, e)) h)

drop_map : {A B : Type 0} (f : A → B) (n : ℕ) (xs : List A) → map f (drop n xs) ≡ drop n (map f xs)
drop_map f zero xs = refl
drop_map f (suc n) [] = refl
drop_map f (suc n) (x ∷ xs) = drop_map f n xs

drop_given : (given others : List Kind) (waiting : List Val) (n : ℕ) → length given ≡ n → drop n (map zero_of (given ++ others) ++ waiting) ≡ map zero_of others ++ waiting
drop_given [] others waiting zero e = refl
drop_given [] others waiting (suc n) e = absurd (omega (arith, e))
drop_given (k ∷ given) others waiting zero e = absurd (omega (arith, e))
drop_given (k ∷ given) others waiting (suc n) e = drop_given given others waiting n (omega (arith, e))

abbrev pub others_of : Method → List Kind
others_of m = map (λ (d : Declared). d.kind) (declared_by m)

-- the locals of the machine's frame agree with those of the source's
pub locals_agree : (program : Program) (layout : Layout) (m : Method) (y : ImageMethod) (is : IsMethodOf program layout m y) (args blank : List Val) → AllCells args → AllNothing blank → length args ≡ length (receiver_of m ++ m.params) → length (others_of m) ≤ length blank →
    AgreeOn (locals_of m) (args ++ blank) (machine.locals_of y args)
locals_agree program layout m y is args blank cells none long room =
    let given = receiver_of m ++ m.params in
    let e : map machine.zero_of (drop (length args) y.locals) ≡ map zero_of (others_of m) ++ is.waiting =
    drop_map machine.zero_of (length args) y.locals ∙ ap (drop (length args)) is.locals ∙ drop_given given (others_of m) is.waiting (length args) (sym long) in
    subst (λ (ls : List Val). AgreeOn (given ++ others_of m) (args ++ blank) (args ++ ls)) (sym e) (frame_agrees given (others_of m) args blank is.waiting is.four cells none long room)

-- how many cells a call takes
count_of : (b c : Bool) (n : ℕ) → b ≡ not c → (if b then 1 else 0) + n ≡ length {A = Kind} (if c then [] else kind.Void ∷ []) + n
count_of true false n e = refl
count_of false true n e = refl
count_of true true n e = let never : ⊥ = cc in absurd never
count_of false false n e = let never : ⊥ = cc in absurd never

receiver_count : (m : Method) → length (receiver_of m) ≡ length {A = Kind} (if m.is_static then [] else kind.Void ∷ [])
receiver_count m = go m.is_static
  where
    go : (c : Bool) → length (if c then [] else kind.Object m.class ∷ []) ≡ length {A = Kind} (if c then [] else kind.Void ∷ [])
    go true = refl
    go false = refl

pub argument_count_is : (program : Program) (layout : Layout) (m : Method) (y : ImageMethod) → IsMethodOf program layout m y → length (receiver_of m ++ m.params) ≡ argument_count y
argument_count_is program layout m y is =
    let a = length-append (receiver_of m) m.params in
    let r = receiver_count m in
    let c = count_of (is_instance y) m.is_static (length y.params) is.instance in
    let p = is.params in
    omega (arith, a, r, c, p)

-- ---- arguments that are put into a frame one by one

get_seam : {X : Type 0} (xs : List X) (y : X) (ys : List X) → slice_get (xs ++ y ∷ ys) (length xs) ≡ Some y
get_seam [] y ys = refl
get_seam (x ∷ xs) y ys = get_seam xs y ys

get_past : {X : Type 0} (xs : List X) → slice_get (xs ++ []) (length xs) ≡ None
get_past [] = refl
get_past (x ∷ xs) = get_past xs

pub get_front : {X : Type 0} (xs ys : List X) (i : ℕ) (u : X) → slice_get xs i ≡ Some u → slice_get (xs ++ ys) i ≡ Some u
get_front [] ys i u e = let never : ⊥ = cc in absurd never
get_front (x ∷ xs) ys zero u e = e
get_front (x ∷ xs) ys (suc i) u e = get_front xs ys i u e

filled : (args : List Val) (b : Val) (bs : List Val) (i : ℕ) (v : Val) → length args ≡ i → with_local (args ++ b ∷ bs) i v ≡ Ok ((args ++ v ∷ []) ++ bs)
filled args b bs i v e =
    let f = args ++ b ∷ bs in
    ap (λ j. with_local f j v) (sym e)
    ∙ ap (λ o. map_ok (λ _. slice_set f (length args) v) (there o)) (get_seam args b bs)
    ∙ ap (λ l. Ok l) (set-append_seam args b bs v ∙ sym (append_assoc args (v ∷ []) bs))

full : (args : List Val) (i : ℕ) (v : Val) → length args ≡ i → with_local (args ++ []) i v ≡ Err Untyped
full args i v e =
    ap (λ j. with_local (args ++ []) j v) (sym e) ∙ ap (λ o. map_ok (λ _. slice_set (args ++ []) (length args) v) (there o)) (get_past args)

-- a frame with so many arguments, which stand on the stack too; the first of them stay
pub record Built (x : Running) (n place : ℕ) (stack : List Val) (many room : ℕ) (first : List Val) (f : List Val) (s : State) (q : Point) : Type 0 where
  pub args : List Val
  pub blank : List Val
  pub is : f ≡ args ++ blank
  pub cells : AllCells args
  pub nothing : AllNothing blank
  pub long : length args ≡ many
  pub whole : length args + length blank ≡ room
  pub begins : (i : ℕ) (u : Val) → slice_get first i ≡ Some u → slice_get args i ≡ Some u
  pub stands : Stands x n place (push_all args stack) s q

pub grown : (first args : List Val) (v : Val) → ((i : ℕ) (u : Val) → slice_get first i ≡ Some u → slice_get args i ≡ Some u) → (i : ℕ) (u : Val) → slice_get first i ≡ Some u → slice_get (args ++ v ∷ []) i ≡ Some u
grown first args v begins i u e = get_front args (v ∷ []) i u (begins i u e)

pub cells_grown : (args : List Val) (v : Val) → AllCells args → IsCell v → AllCells (args ++ v ∷ [])
cells_grown [] v a c = (c, tt)
cells_grown (u ∷ args) v a c = (a.0, cells_grown args v a.1 c)

-- the first argument is the receiver
pub first_is : (args : List Val) (v : Val) → slice_get args 0 ≡ Some v → slice_index_or args 0 Nothing ≡ v
first_is [] v e = let never : ⊥ = cc in absurd never
first_is (u ∷ us) v e = let same : u ≡ v = cc in same

module _ (w : Setting) (G : State → Type 0) where
  -- the frame has a value more, where it has room
  pub filled_sim : (x : Running) (n p last i : ℕ) (stack args blank first : List Val) (v : Val) (many room : ℕ) (rest : List (State → End Val)) → length args ≡ i →
      ((b : Val) (bs : List Val) → blank ≡ b ∷ bs → Sim w G x n (List Val) (put_all (i + 1) rest ((args ++ v ∷ []) ++ bs)) p (push_all (args ++ v ∷ []) stack) (Built x n last stack many room first)) →
      Sim w G x n (List Val) (λ s. then_do (answers (with_local (args ++ blank) i v) s) (λ more s1. put_all (i + 1) rest more s1)) p (v ∷ push_all args stack) (Built x n last stack many room first)
  filled_sim x n p last i stack args [] first v many room rest e next =
      let P : Result (List Val) Stop → Type 0 = λ r. Sim w G x n (List Val) (λ s. then_do (answers r s) (λ more s1. put_all (i + 1) rest more s1)) p (v ∷ push_all args stack) (Built x n last stack many room first) in
      let none : P (Err Untyped) = record { comes = λ s ms g a t. here tt } in
      subst P (sym (full args i v e)) none
  filled_sim x n p last i stack args (b ∷ bs) first v many room rest e next =
      let P : Result (List Val) Stop → Type 0 = λ r. Sim w G x n (List Val) (λ s. then_do (answers r s) (λ more s1. put_all (i + 1) rest more s1)) p (v ∷ push_all args stack) (Built x n last stack many room first) in
      let S : List Val → Type 0 = λ st. Sim w G x n (List Val) (put_all (i + 1) rest ((args ++ v ∷ []) ++ bs)) p st (Built x n last stack many room first) in
      let one : P (Ok ((args ++ v ∷ []) ++ bs)) = subst S (sym (push_more args v stack)) (next b bs refl) in
      subst P (sym (filled args b bs i v e)) one
