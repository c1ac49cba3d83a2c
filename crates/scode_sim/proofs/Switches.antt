-- The tests of a `switch`: where the code goes on that stands for a label.
use Rattle.std.proofs.Common.{◌≡◌, ℕ, ℤ, ◌+◌, zero, suc, Bool, true, false, if◌then◌else◌, List, [], ◌∷◌, drop, length, Option, Some, None, slice_get, refl, sym, ap, ◌∙◌, subst, arith}
use Rattle.std.specs.Prelude.{position}
use Rattle.std.specs.Option.{option_map_or}
use Rattle.std.specs.Ordering.{int_eq}
use Rattle.std.proofs.Common.{cond}
use Rattle.std.specs.List.{position_from}
use Rattle.std.proofs.lemmas.Bool.Decides.{Decides-int_eq}
use Rattle.std.proofs.lemmas.Iterator.Adapters.{position_from-zero}
use Rattle.sed_typed.specs.declared.statement.Label.{Label}
use Rattle.sed_typed.specs.declared.statement.Label.TheVariants.{Case, Default}
use Rattle.sed_typed.specs.TypedStmt.{is_default}
use Rattle.sed_engine.specs.State.{Shared, gives}
use Rattle.sed_engine.specs.Statements.{is_case, label_of}
use Rattle.sed_engine.specs.Values.{Val, Truth, Int, truth}
use Rattle.scode_ops.specs.declared.op.Op.TheVariants as op
use Rattle.scode_code.specs.Fields.{Setting}
use Rattle.scode_code.specs.Machine.{Point, Onward, Goto}
use Rattle.scode_code.specs.Steps.{instruction_at}
use Rattle.scode_emit.specs.Sizes.{tests_size}
use Rattle.scode_emit.specs.Code.{first_of, tests_code, default_place}
use Rattle.scode_sim.proofs.Apart.{state}
use Rattle.scode_sim.proofs.Comes.{Comes}
use Rattle.scode_sim.proofs.Follows.{point, HasAt, at_place, by_op_to, by_load}
use Rattle.scode_sim.proofs.Frames.{Running}

-- ---- positions, counted from the front

abbrev next_of : Option ℕ → Option ℕ
next_of None = None
next_of (Some i) = Some (suc i)

-- the place of a label among those behind
abbrev pub place_of : ℕ → List ℕ → Option ℕ → ℕ → ℕ
place_of end places None other = other
place_of end places (Some i) other = first_of end (drop i places)

-- the number of the first label that passes a test
abbrev pub found : (Label → Bool) → List Label → Option ℕ
found test [] = None
found test (l ∷ ls) = if test l then Some 0 else next_of (found test ls)

int_eq_sym : (a b : ℤ) → int_eq a b ≡ int_eq b a
int_eq_sym a b = go (int_eq a b) (int_eq b a) refl refl
  where
    go : (x y : Bool) → int_eq a b ≡ x → int_eq b a ≡ y → x ≡ y
    go true true e f = refl
    go false false e f = refl
    go true false e f = let same : int_eq b a ≡ true = (Decides-int_eq b a).1 (sym ((Decides-int_eq a b).0 e)) in let never : ⊥ = cc in absurd never
    go false true e f = let same : int_eq a b ≡ true = (Decides-int_eq a b).1 (sym ((Decides-int_eq b a).0 f)) in let never : ⊥ = cc in absurd never

module _ (w : Setting) where
  -- one test
  pub test_comes : (x : Running) (at local to : ℕ) (c n : ℤ) (ms : List Val) (sh : Shared) (Q : Point → Type 0) → slice_get ms local ≡ Some (Int n) → HasAt w x.method at (op.Load local ∷ op.Int c ∷ op.IntEq ∷ op.JumpTrue to ∷ []) → (m : Bool) → int_eq n c ≡ m →
      Comes w (point x (if m then to else at + 11) ms [] sh) Q → Comes w (point x at ms [] sh) Q
  test_comes x at local to c n ms sh Q held has m is go =
      by_load w x at local (Int n) [] ms sh Q has.0 held tt
      (by_op_to w x (at + 2) (at + 7) (op.Int c) (Int n ∷ []) ms sh (gives (Onward (Int c ∷ Int n ∷ [])) (state sh ms)) Q has.1.0 (let z : at + 2 + 5 ≡ at + 7 = omega arith in z) refl
      (by_op_to w x (at + 7) (at + 8) op.IntEq (Int c ∷ Int n ∷ []) ms sh (gives (Onward (truth m ∷ [])) (state sh ms)) Q (subst (λ p. instruction_at w.image x.method p ≡ Some op.IntEq) (let z : at + 2 + 5 ≡ at + 7 = omega arith in z) has.1.1.0) (let z : at + 7 + 1 ≡ at + 8 = omega arith in z)
      (ap (λ (b : Bool). gives (Onward (truth b ∷ [])) (state sh ms)) is)
      (jumps m go)))
    where
      at8 : instruction_at w.image x.method (at + 8) ≡ Some (op.JumpTrue to)
      at8 = subst (λ p. instruction_at w.image x.method p ≡ Some (op.JumpTrue to)) (let z : at + 2 + 5 + 1 ≡ at + 8 = omega arith in z) has.1.1.1.0

      jumps : (m : Bool) → Comes w (point x (if m then to else at + 11) ms [] sh) Q → Comes w (point x (at + 8) ms (truth m ∷ []) sh) Q
      jumps true go = by_op_to w x (at + 8) (at + 11) (op.JumpTrue to) (Truth 1 ∷ []) ms sh (gives (Goto to []) (state sh ms)) Q at8 (let z : at + 8 + 3 ≡ at + 11 = omega arith in z) refl go
      jumps false go = by_op_to w x (at + 8) (at + 11) (op.JumpTrue to) (Truth 0 ∷ []) ms sh (gives (Onward []) (state sh ms)) Q at8 (let z : at + 8 + 3 ≡ at + 11 = omega arith in z) refl go

  -- all tests: at the first equal case's place, or behind them
  pub tests_come : (x : Running) (at local end : ℕ) (n : ℤ) (labels : List Label) (places : List ℕ) (ms : List Val) (sh : Shared) (Q : Point → Type 0) → slice_get ms local ≡ Some (Int n) → HasAt w x.method at (tests_code local end labels places) →
      Comes w (point x (place_of end places (found (is_case n) labels) (at + tests_size labels)) ms [] sh) Q → Comes w (point x at ms [] sh) Q
  tests_come x at local end n [] places ms sh Q held has go = let e : at + 0 ≡ at = omega arith in subst (λ p. Comes w (point x p ms [] sh) Q) e go
  tests_come x at local end n (Case c ∷ labels) places ms sh Q held has go =
      let rest = at_place w x.method (at + 2 + 5 + 1 + 3) (at + 11) (tests_code local end labels (drop 1 places)) (let z : at + 2 + 5 + 1 + 3 ≡ at + 11 = omega arith in z) has.1.1.1.1 in
      test_comes x at local (first_of end places) c n ms sh Q held (has.0, (has.1.0, (has.1.1.0, (has.1.1.1.0, tt)))) (int_eq c n) (int_eq_sym n c)
      (pick (int_eq c n) refl (λ go2. tests_come x (at + 11) local end n labels (drop 1 places) ms sh Q held rest go2) go)
    where
      drop_suc : (i : ℕ) (ps : List ℕ) → drop (suc i) ps ≡ drop i (drop 1 ps)
      drop_suc zero [] = refl
      drop_suc (suc i) [] = refl
      drop_suc i (p ∷ ps) = refl

      shifted : (o : Option ℕ) → place_of end places (next_of o) (at + (11 + tests_size labels)) ≡ place_of end (drop 1 places) o (at + 11 + tests_size labels)
      shifted None = omega arith
      shifted (Some i) = ap (first_of end) (drop_suc i places)

      pick : (m : Bool) → int_eq c n ≡ m → (Comes w (point x (place_of end (drop 1 places) (found (is_case n) labels) (at + 11 + tests_size labels)) ms [] sh) Q → Comes w (point x (at + 11) ms [] sh) Q) →
          Comes w (point x (place_of end places (if m then Some 0 else next_of (found (is_case n) labels)) (at + (11 + tests_size labels))) ms [] sh) Q → Comes w (point x (if m then first_of end places else at + 11) ms [] sh) Q
      pick true e again go = go
      pick false e again go = again (subst (λ p. Comes w (point x p ms [] sh) Q) (shifted (found (is_case n) labels)) go)
  tests_come x at local end n (Default ∷ labels) places ms sh Q held has go =
      tests_come x at local end n labels (drop 1 places) ms sh Q held has (subst (λ p. Comes w (point x p ms [] sh) Q) (shifted (found (is_case n) labels)) go)
    where
      drop_suc : (i : ℕ) (ps : List ℕ) → drop (suc i) ps ≡ drop i (drop 1 ps)
      drop_suc zero [] = refl
      drop_suc (suc i) [] = refl
      drop_suc i (p ∷ ps) = refl

      shifted : (o : Option ℕ) → place_of end places (next_of o) (at + tests_size labels) ≡ place_of end (drop 1 places) o (at + tests_size labels)
      shifted None = refl
      shifted (Some i) = ap (first_of end) (drop_suc i places)

-- where no case is equal: at the default, or behind all labels
abbrev or_length : List Label → Option ℕ → ℕ
or_length labels None = length labels
or_length labels (Some i) = i

pub default_is : (end : ℕ) (labels : List Label) (places : List ℕ) → default_place end labels places ≡ first_of end (drop (or_length labels (found is_default labels)) places)
default_is end [] places = refl
default_is end (Case c ∷ labels) places = default_is end labels (drop 1 places) ∙ ap (first_of end) (shift (found is_default labels))
  where
    drop_suc : (i : ℕ) (ps : List ℕ) → drop i (drop 1 ps) ≡ drop (suc i) ps
    drop_suc zero [] = refl
    drop_suc (suc i) [] = refl
    drop_suc i (p ∷ ps) = refl

    shift : (o : Option ℕ) → drop (or_length labels o) (drop 1 places) ≡ drop (or_length (Case c ∷ labels) (next_of o)) places
    shift None = drop_suc (length labels) places
    shift (Some i) = drop_suc i places
default_is end (Default ∷ labels) places = refl

-- the label that the language takes
abbrev behind : ℕ → Option ℕ → Option ℕ
behind k None = None
behind k (Some i) = Some (k + i)

behind_if : (k : ℕ) (b : Bool) (o : Option ℕ) → cond b (Some k) (behind (k + 1) o) ≡ behind k (if b then Some 0 else next_of o)
behind_if k true o = ap (λ i. Some i) (let z : k ≡ k + 0 = omega arith in z)
behind_if k false None = refl
behind_if k false (Some i) = ap (λ i. Some i) (let z : k + 1 + i ≡ k + suc i = omega arith in z)

found_from : (test : Label → Bool) (k : ℕ) (labels : List Label) → position_from test k labels ≡ behind k (found test labels)
found_from test k [] = refl
found_from test k (l ∷ ls) = ap (λ (o : Option ℕ). cond (test l) (Some k) o) (found_from test (k + 1) ls) ∙ behind_if k (test l) (found test ls)

behind_none : (o : Option ℕ) → behind 0 o ≡ o
behind_none None = refl
behind_none (Some i) = ap (λ i. Some i) (let z : 0 + i ≡ i = omega arith in z)

pub found_is : (test : Label → Bool) (labels : List Label) → position test labels ≡ found test labels
found_is test labels = position_from-zero test labels ∙ found_from test 0 labels ∙ behind_none (found test labels)

-- where the code goes on for a value
pub label_place : (end : ℕ) (labels : List Label) (places : List ℕ) (n : ℤ) → place_of end places (found (is_case n) labels) (default_place end labels places) ≡ first_of end (drop (label_of labels n) places)
label_place end labels places n =
    pick (found (is_case n) labels)
    ∙ ap (λ (o : Option ℕ). first_of end (drop (option_map_or (λ i. i) o (option_map_or (λ i. i) (found is_default labels) (length labels))) places)) (sym (found_is (is_case n) labels))
    ∙ ap (λ (o : Option ℕ). first_of end (drop (option_map_or (λ i. i) (position (is_case n) labels) (option_map_or (λ i. i) o (length labels))) places)) (sym (found_is is_default labels))
  where
    default_of : (o : Option ℕ) → or_length labels o ≡ option_map_or (λ i. i) o (length labels)
    default_of None = refl
    default_of (Some i) = refl

    pick : (o : Option ℕ) → place_of end places o (default_place end labels places) ≡ first_of end (drop (option_map_or (λ i. i) o (option_map_or (λ i. i) (found is_default labels) (length labels))) places)
    pick None = default_is end labels places ∙ ap (λ i. first_of end (drop i places)) (default_of (found is_default labels))
    pick (Some i) = refl
