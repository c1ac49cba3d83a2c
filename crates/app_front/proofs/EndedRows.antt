-- Things up to a mark that are read one by one, as a loop does: what was read so far, and what is still read.
use Rattle.std.proofs.Common.{◌≡◌, ℕ, suc, ◌+◌, ◌-◌, ◌<◌, ◌≤◌, Bool, true, false, List, [], ◌∷◌, ◌++◌, Err, refl, sym, ◌∙◌, ap, append_assoc, arith}
use Rattle.std.specs.Prelude.{◌==◌}
use Rattle.std.proofs.lemmas.Bool.Decides.{nat_tests}
use Rattle.std.proofs.lemmas.List.{append-nil}
use Rattle.sed_wire.specs.FormReading.{Reading, Found, Stuck, read_on}
use Rattle.sed_wire.specs.Form.{Form, pair_reads}
use Rattle.sed_wire.specs.Leaves.{number}
use Rattle.sed_wire.proofs.Rows.{with_front}
use Rattle.comp_tree.specs.Parts.{no_id}
use Rattle.app_front.specs.Ended.{Begin, ended}
use Rattle.sed_wire.specs.Gives.{Gives}
use Rattle.sed_value.specs.declared.halt.Halt.{Halt}
use Rattle.sed_value.specs.declared.halt.Halt.TheVariants.{Fault, Memory}

is_end : (k : ℕ) → k ≡ no_id → (k == no_id) ≡ true
is_end k is = grind (arith, nat_tests)

is_no_end : (k : ℕ) → (k ≡ no_id → ⊥) → (k == no_id) ≡ false
is_no_end k other = by (k == no_id) refl
  where
    by : (b : Bool) → (k == no_id) ≡ b → b ≡ false
    by true is = absurd (other (grind (arith, nat_tests)))
    by false is = refl

module _ {A : Type 0} (first : A → ℕ) (behind : ℕ → Form A) (begin : Begin first behind) where
  -- what is still to be read, behind the front
  abbrev pub LeftTo : List A → ℕ → List ℕ → Reading (List A) → Type 0
  LeftTo front left bytes all = with_front front ((ended first behind begin left).reads bytes) ≡ all

  moved : (front : List A) (x : A) (k : ℕ) (reading : Reading (List A))
      → with_front front (read_on (pair_reads k (read_on (pair_reads x reading) (λ both rest. Found (both.0 ∷ both.1) rest))) (λ both rest. Found both.1 rest)) ≡ with_front (front ++ x ∷ []) reading
  moved front x k (Found ys r) = ap (λ (xs : List A). Found xs r) (simp append_assoc)
  moved front x k (Stuck r) = refl

  one_more : (front : List A) (n k : ℕ) (bytes middle rest : List ℕ) (x : A) → (number 2).reads bytes ≡ Found k middle → (k == no_id) ≡ false
      → (behind k).reads middle ≡ Found x rest
      → with_front front ((ended first behind begin (suc n)).reads bytes) ≡ with_front (front ++ x ∷ []) ((ended first behind begin n).reads rest)
  one_more front n k bytes middle rest x e is f = rw (e, is, f) (moved front x k ((ended first behind begin n).reads rest))

  pub more_left : (front : List A) (count i k : ℕ) (bytes middle rest : List ℕ) (x : A) (all : Reading (List A)) → i < count
      → (number 2).reads bytes ≡ Found k middle → (k ≡ no_id → ⊥) → (behind k).reads middle ≡ Found x rest
      → LeftTo front (count - i) bytes all → LeftTo (front ++ x ∷ []) (count - (i + 1)) rest all
  more_left front count i k bytes middle rest x all below e other f so_far =
      let is = is_no_end k other in
      let down : count - i ≡ suc (count - (i + 1)) = omega (arith, below) in
      sym (one_more front (count - (i + 1)) k bytes middle rest x e is f) ∙ ap (λ (n : ℕ). with_front front ((ended first behind begin n).reads bytes)) (sym down) ∙ so_far

  pub end_left : (front : List A) (count i k : ℕ) (bytes middle : List ℕ) (all : Reading (List A)) → i < count
      → (number 2).reads bytes ≡ Found k middle → k ≡ no_id → LeftTo front (count - i) bytes all → all ≡ Found front middle
  end_left front count i k bytes middle all below e same so_far =
      let is = is_end k same in
      let down : count - i ≡ suc (count - (i + 1)) = omega (arith, below) in
      let here : with_front front ((ended first behind begin (count - i)).reads bytes) ≡ Found front middle = rw (down, e, is) (ap (λ (xs : List A). Found xs middle) (append-nil front)) in
      sym so_far ∙ here

  pub no_number_left : (front : List A) (count i : ℕ) (bytes behind_it : List ℕ) (halt : Halt) (all : Reading (List A)) → i < count
      → Gives (Err halt) behind_it ((number 2).reads bytes) → LeftTo front (count - i) bytes all → Gives (Err halt) behind_it all
  no_number_left front count i bytes behind_it Fault all below e so_far =
      let down : count - i ≡ suc (count - (i + 1)) = omega (arith, below) in
      let here : with_front front ((ended first behind begin (count - i)).reads bytes) ≡ Stuck behind_it = rw (down, e) refl in
      sym so_far ∙ here
  no_number_left front count i bytes behind_it Memory all below e so_far = tt

  pub none_left : (front : List A) (count i k : ℕ) (bytes middle behind_it : List ℕ) (halt : Halt) (all : Reading (List A)) → i < count
      → (number 2).reads bytes ≡ Found k middle → (k ≡ no_id → ⊥) → Gives (Err halt) behind_it ((behind k).reads middle)
      → LeftTo front (count - i) bytes all → Gives (Err halt) behind_it all
  none_left front count i k bytes middle behind_it Fault all below e other f so_far =
      let is = is_no_end k other in
      let down : count - i ≡ suc (count - (i + 1)) = omega (arith, below) in
      let here : with_front front ((ended first behind begin (count - i)).reads bytes) ≡ Stuck behind_it = rw (down, e, is, f) refl in
      sym so_far ∙ here
  none_left front count i k bytes middle behind_it Memory all below e other f so_far = tt

  pub past_left : (front : List A) (count i : ℕ) (bytes : List ℕ) (all : Reading (List A)) → count ≤ i → LeftTo front (count - i) bytes all → all ≡ Stuck bytes
  past_left front count i bytes all above so_far =
      let none : count - i ≡ 0 = omega (arith, above) in
      let here : with_front front ((ended first behind begin (count - i)).reads bytes) ≡ Stuck bytes = rw none refl in
      sym so_far ∙ here
