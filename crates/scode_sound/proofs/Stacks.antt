-- Cells that are taken off a stack and put on it, as the kinds say.
use Rattle.std.proofs.Common.{◌≡◌, nat_lt, ℕ, suc, Bool, true, false, List, [], ◌∷◌, length, drop, Option, Some, refl, sym, ◌∙◌, arith, if◌then◌else◌}
use Rattle.std.specs.Prelude.{slice_get}
use Rattle.std.proofs.lemmas.Bool.{and_parts}
use Rattle.std.proofs.lemmas.Bool.Decides.{nat_tests}
use Rattle.sed_engine.specs.State.{State, End}
use Rattle.sed_engine.specs.Steps.{choose}
use Rattle.sed_engine.specs.Values.{Val, Nothing, Truth, Int, Long, Null, At, Literal, is_met}
use Rattle.sed_engine.proofs.Kinded as language
use Rattle.sed_engine.proofs.Ready.{Holds, then_holds, gives_it, answers_it}
use Rattle.scode_ops.specs.declared.op.Op.{Op}
use Rattle.scode_image.specs.declared.image.ImageKind.{ImageKind}
use Rattle.scode_code.specs.CodeRules.{all_meet, is_end, jumps_to}
use Rattle.scode_code.specs.Effect.{on_top, on_two, on_three, push, no_push}
use Rattle.scode_code.specs.Fields.{Setting}
use Rattle.scode_code.specs.Kinds.{bool}
use Rattle.scode_code.specs.Machine.{Move, Onward, Goto, Enter, Leave, pushed}
use Rattle.scode_code.specs.declared.needs.Need.{Need}
use Rattle.scode_code.specs.Wants.{meets}
use Rattle.scode_whole.proofs.Truths.{no_truth}
use Rattle.scode_sound.specs.Cells.{Fit, HasKind}
use Rattle.scode_sound.proofs.Plain.{nothing, to_bool}

-- a cell that meets what is needed, with its kind
pub record Cell (w : Setting) (n : Need) (o : Option ImageKind) (v : Val) : Type 0 where
  pub kind : ImageKind
  pub is : o ≡ Some kind
  pub meets_it : meets w.image n kind ≡ true
  pub has : HasKind w kind v

-- the top cells meet what is needed, and the others are of their kinds
abbrev pub Takes : Setting → List Need → List ImageKind → List Val → Type 0
Takes w [] ks vs = Fit w ks vs
Takes w (n ∷ ns) [] vs = ⊥
Takes w (n ∷ ns) (k ∷ ks) [] = ⊥
Takes w (n ∷ ns) (k ∷ ks) (v ∷ vs) = Cell w n (Some k) v × Takes w ns ks vs

enough : (a b : ℕ) → nat_lt (suc a) (suc b) ≡ false → nat_lt a b ≡ false
enough a b h = grind (arith, nat_tests)

pub takes : (w : Setting) (ns : List Need) (ks : List ImageKind) (vs : List Val)
    → nat_lt (length ks) (length ns) ≡ false → all_meet w.image ns ks ≡ true → Fit w ks vs → Takes w ns ks vs
takes w [] ks vs few all h = h
takes w (n ∷ ns) [] vs few all h = let some : nat_lt 0 (suc (length ns)) ≡ true = grind (arith, nat_tests) in no_truth
    (sym few ∙ some)
takes w (n ∷ ns) (k ∷ ks) [] few all h = absurd h
takes w (n ∷ ns) (k ∷ ks) (v ∷ vs) few all h =
    let p = and_parts (meets w.image n k) (all_meet w.image ns ks) all in (
      record { kind = k; is = refl; meets_it = p.0; has = h.0 },
      takes w ns ks vs (enough (length ks) (length ns) few) p.1 h.1,
    )

-- ---- where an instruction that stays in its method leads: on, or to where it jumps, with cells of these kinds

abbrev pub Lands : Setting → Op → List ImageKind → Move → Type 0
Lands w i ks (Onward stack) = (is_end i ≡ false) × Fit w ks stack
Lands w i ks (Goto place stack) = (jumps_to i ≡ Some place) × Fit w ks stack
Lands w i ks (Enter number locals stack) = ⊥
Lands w i ks (Leave v) = ⊥

module _ (w : Setting) (G : State → Type 0) where
  pub one_off : (Q : List ImageKind → Move → Type 0) (n : Need) (ks : List ImageKind) (stack : List Val)
      (next : Val → List Val → State → End Move) → Takes w (n ∷ []) ks stack
      → ((v : Val) (ls : List ImageKind) (rest : List Val) → Cell w n (slice_get ks 0) v → Fit w ls rest
      → Holds G Move (Q ls) (next v rest))
      → Holds G Move (Q (drop 1 ks)) (on_top stack next)
  one_off Q n [] stack next t each = absurd t
  one_off Q n (k ∷ ks) [] next t each = absurd t
  one_off Q n (k ∷ ks) (v ∷ vs) next t each = each v ks vs t.0 t.1

  pub two_off : (Q : List ImageKind → Move → Type 0) (n m : Need) (ks : List ImageKind) (stack : List Val)
      (next : Val → Val → List Val → State → End Move) → Takes w (n ∷ m ∷ []) ks stack
      → ((a b : Val) (ls : List ImageKind) (rest : List Val) → Cell w m (slice_get ks 1) a
      → Cell w n (slice_get ks 0) b → Fit w ls rest → Holds G Move (Q ls) (next a b rest))
      → Holds G Move (Q (drop 2 ks)) (on_two stack next)
  two_off Q n m [] stack next t each = absurd t
  two_off Q n m (k ∷ ks) [] next t each = absurd t
  two_off Q n m (k ∷ []) (v ∷ vs) next t each = absurd t.1
  two_off Q n m (k ∷ l ∷ ks) (v ∷ []) next t each = absurd t.1
  two_off Q n m (k ∷ l ∷ ks) (v ∷ u ∷ vs) next t each = each u v ks vs t.1.0 t.0 t.1.1

  pub three_off : (Q : List ImageKind → Move → Type 0) (n m o : Need) (ks : List ImageKind) (stack : List Val)
      (next : Val → Val → Val → List Val → State → End Move) → Takes w (n ∷ m ∷ o ∷ []) ks stack
      → ((a b c : Val) (ls : List ImageKind) (rest : List Val) → Cell w o (slice_get ks 2) a
      → Cell w m (slice_get ks 1) b → Cell w n (slice_get ks 0) c → Fit w ls rest
      → Holds G Move (Q ls) (next a b c rest))
      → Holds G Move (Q (drop 3 ks)) (on_three stack next)
  three_off Q n m o [] stack next t each = absurd t
  three_off Q n m o (k ∷ ks) [] next t each = absurd t
  three_off Q n m o (k ∷ []) (v ∷ vs) next t each = absurd t.1
  three_off Q n m o (k ∷ l ∷ ks) (v ∷ []) next t each = absurd t.1
  three_off Q n m o (k ∷ l ∷ []) (v ∷ u ∷ vs) next t each = absurd t.1.1
  three_off Q n m o (k ∷ l ∷ j ∷ ks) (v ∷ u ∷ []) next t each = absurd t.1.1
  three_off Q n m o (k ∷ l ∷ j ∷ ks) (v ∷ u ∷ x ∷ vs) next t each = each x u v ks vs t.1.1.0 t.1.0 t.0 t.1.1.1

  pub pushed_fits : (k : ImageKind) (ks : List ImageKind) (v : Val) (stack : List Val) → HasKind w k v → Fit w ks stack
      → Fit w (k ∷ ks) (pushed v stack)
  pushed_fits k ks Nothing stack h f = absurd h
  pushed_fits k ks (Truth t) stack h f = (h, f)
  pushed_fits k ks (Int n) stack h f = (h, f)
  pushed_fits k ks (Long n) stack h f = (h, f)
  pushed_fits k ks Null stack h f = (h, f)
  pushed_fits k ks (At spot) stack h f = (h, f)
  pushed_fits k ks (Literal n) stack h f = (h, f)

  pub push_it : (i : Op) (k : ImageKind) (ks : List ImageKind) (stack : List Val) (f : State → End Val)
      → is_end i ≡ false → Fit w ks stack → Holds G Val (HasKind w k) f
      → Holds G Move (Lands w i (k ∷ ks)) (λ s. push stack (f s))
  push_it i k ks stack f on fit h =
      then_holds h (λ v p. gives_it (Onward (pushed v stack)) (on, pushed_fits k ks v stack p fit))

  pub no_push_it : (i : Op) (P : Val → Type 0) (ks : List ImageKind) (stack : List Val) (f : State → End Val)
      → is_end i ≡ false → Fit w ks stack → Holds G Val P f → Holds G Move (Lands w i ks) (λ s. no_push stack (f s))
  no_push_it i P ks stack f on fit h = then_holds h (λ v p. gives_it (Onward stack) (on, fit))

  pick : (P : Move → Type 0) (f g : State → End Move) (b : Bool) → Holds G Move P f → Holds G Move P g
      → Holds G Move P (if b then f else g)
  pick P f g true x y = x
  pick P f g false x y = y

  pub chooses : (P : Move → Type 0) (f g : State → End Move) (v : Val) → HasKind w bool v → Holds G Move P f
      → Holds G Move P g → Holds G Move P (choose v f g)
  chooses P f g v h x y =
      then_holds (answers_it (is_met v) (language.met_of nothing 0 v (to_bool w bool v refl h)))
      (λ b _. pick P f g b x y)
