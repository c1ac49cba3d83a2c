-- Values that are the same, and pairs that agree.
use Rattle.std.proofs.Common.{◌≡◌, ℕ, ◌<◌, ◌≤◌, ◌+◌, Bool, true, false, IsTrue, List, length, refl, sym, ◌∙◌, ap, arith, eqb-true}
use Rattle.std.specs.Prelude.{Some, ℤ, pos, negsuc, ◌==◌, slice_get}
use Rattle.std.proofs.lemmas.Bool.Decides.{nat_tests}
use Rattle.std.proofs.lemmas.Option.{slice_get_within, same_Some as some_is}
use Rattle.std.proofs.lemmas.Slice.Eq.{bytes_eq-Decides}
use Rattle.sed_value.specs.declared.value.Value.{Value}
use Rattle.sed_value.specs.declared.value.Value.TheVariants.{Bool as Truth, Byte, Short, Int, Long, Buf, Nothing}
use Rattle.sed_engine.specs.Code.{Meaning, is_same_field}
use Rattle.node_table.specs.Same.{is_same_number, is_same_value}
use Rattle.app_reader.specs.Pairs.{Agree, AgreesFrom}

itself : (n : ℕ) → (n == n) ≡ true
itself n = grind (arith, nat_tests)

same_number : (a b : ℤ) → IsTrue (is_same_number a b) → a ≡ b
same_number (pos n) (pos k) is = ap pos (eqb-true n k is)
same_number (negsuc n) (negsuc k) is = ap negsuc (eqb-true n k is)
same_number (pos n) (negsuc k) is = absurd (let no : false ≡ true = is in cc)
same_number (negsuc n) (pos k) is = absurd (let no : false ≡ true = is in cc)

number_itself : (a : ℤ) → is_same_number a a ≡ true
number_itself (pos n) = itself n
number_itself (negsuc n) = itself n

never : {A : Type 0} → IsTrue false → A
never h = absurd (let no : false ≡ true = h in cc)

pub same_value : (v w : Value) → IsTrue (is_same_value v w) → v ≡ w
same_value (Truth a) (Truth b) is = ap Truth (eqb-true a b is)
same_value (Byte a) (Byte b) is = ap Byte (eqb-true a b is)
same_value (Short a) (Short b) is = ap Short (eqb-true a b is)
same_value (Int a) (Int b) is = ap Int (same_number a b is)
same_value (Long a) (Long b) is = ap Long (same_number a b is)
same_value (Buf a) (Buf b) is = ap Buf ((bytes_eq-Decides a b).0 is)
same_value Nothing Nothing is = refl
same_value v w is = cc

pub value_itself : (v : Value) → is_same_value v v ≡ true
value_itself (Truth a) = itself a
value_itself (Byte a) = itself a
value_itself (Short a) = itself a
value_itself (Int a) = number_itself a
value_itself (Long a) = number_itself a
value_itself (Buf a) = (bytes_eq-Decides a a).1 refl
value_itself Nothing = refl

pub are_unlike : (v w : Value) → is_same_value v w ≡ false → v ≡ w → ⊥
are_unlike v w is same =
    let yes : is_same_value v w ≡ true = ap (is_same_value v) (sym same) ∙ value_itself v in
    let no : ◌≡◌ {A = Bool} true false = sym yes ∙ is in
    absurd (cc)

module _ (m : Meaning) (class : ℕ) (numbers : List ℕ) (values : List Value) where
  -- the value at a place agrees with those behind it, as far as this place
  pub AgreesTo : ℕ → ℕ → Type 0
  AgreesTo i n =
      (j a b : ℕ) (v w : Value) → i < j → j < n → slice_get numbers i ≡ Some a → slice_get numbers j ≡ Some b → slice_get values i ≡ Some v → slice_get values j ≡ Some w
      → IsTrue (is_same_field m class a b) → v ≡ w

  pub agrees_none : (i : ℕ) → AgreesTo i (i + 1)
  unfolding AgreesTo
  agrees_none i j a b v w lt below at at' is is' same = absurd (omega (arith, lt, below))

  pub agrees_more : (i n a b : ℕ) (v w : Value) → slice_get numbers i ≡ Some a → slice_get numbers n ≡ Some b → slice_get values i ≡ Some v → slice_get values n ≡ Some w
      → (IsTrue (is_same_field m class a b) → v ≡ w) → AgreesTo i n → AgreesTo i (n + 1)
  unfolding AgreesTo
  agrees_more i n a b v w at at' is is' here to j c d x y lt below at_i at_j is_i is_j same = by_place (j == n) refl
    where
      by_place : (t : Bool) → (j == n) ≡ t → x ≡ y
      by_place true tie =
          let place : j ≡ n = eqb-true j n tie in
          let first : c ≡ a = some_is c a (sym at_i ∙ at) in
          let other : d ≡ b = some_is d b (sym at_j ∙ ap (slice_get numbers) place ∙ at') in
          let one : x ≡ v = some_is x v (sym is_i ∙ is) in
          let two : y ≡ w = some_is y w (sym is_j ∙ ap (slice_get values) place ∙ is') in
          one ∙ here (sym (λ k. is_same_field m class (first k) (other k)) ∙ same) ∙ sym two
      by_place false apart = to j c d x y lt (grind (arith, nat_tests)) at_i at_j is_i is_j same

  pub agrees_all : (i n : ℕ) → length numbers ≤ n → AgreesTo i n → AgreesFrom m class numbers values i
  unfolding AgreesTo
  agrees_all i n over to j a b v w lt at at' is is' same = to j a b v w lt (let within = slice_get_within numbers j b at' in omega (arith, within, over)) at at' is is' same

  -- and each before a place does
  unfoldable pub EachAgrees : ℕ → Type 0
  EachAgrees n = (i : ℕ) → i < n → AgreesFrom m class numbers values i

  pub all_agree : (n : ℕ) → length numbers ≤ n → EachAgrees n → Agree m class numbers values
  unfolding EachAgrees
  all_agree n over each i j a b v w lt at at' is is' same = each i (let within = slice_get_within numbers i a at in omega (arith, within, over)) j a b v w lt at at' is is' same

  pub one_agrees : (i : ℕ) → Agree m class numbers values → AgreesFrom m class numbers values i
  one_agrees i agree j a b v w lt at at' is is' same = agree i j a b v w lt at at' is is' same
