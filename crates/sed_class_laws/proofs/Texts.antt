-- The texts of a program: each once, at most 4,096, of at most 255 bytes.
use Rattle.std.proofs.Common.{◌≡◌, ◌<◌, ◌≤◌, ◌+◌, ◌==◌, ◌&&◌, ◌||◌, ℕ, zero, suc, Bool, true, false, not, nat_lt, if◌then◌else◌, IsTrue, List, [], ◌∷◌, ◌++◌, length, All, Option, Some, None, refl, sym, ap, ◌∙◌, subst, arith}
use Rattle.std.specs.List.{count_by, flat_map, list_all, list_any}
use Rattle.std.specs.Str.{bytes_eq}
use Rattle.std.proofs.lemmas.List.{length-append}
use Rattle.std.proofs.lemmas.List.Elements.{All-nil, All-push}
use Rattle.std.proofs.lemmas.List.Sums.{sum_by_push}
use Rattle.std.proofs.lemmas.Bool.Decides.{nat_tests}
use Rattle.sed_units.specs.declared.leaves.Literal.{Literal}
use Rattle.sed_typed.specs.Typed.{IsText}
use Rattle.sed_first_fault.specs.Texts.{fitting, is_new, text_spelled, with_literal, with_literals, with_text}
use Rattle.sed_classes.specs.declared.kit_units.KitUnits.{KitUnits}
use Rattle.sed_classes.specs.Declarations.{all_classes}
use Rattle.sed_classes.specs.Literals.{text_of}
use Rattle.sed_program.specs.Texts.{literals_of, program_texts}
use Rattle.sed_program.proofs.OrderLists.{count_cons, weight}
use Rattle.sed_class_laws.specs.Texts.{AreBytes, SpellBytes}
use Rattle.sed_class_laws.proofs.Named.{bytes_itself, bytes_same}

-- texts that a program may have so far
pub record Kept (texts : List (List ℕ)) : Type 0 where
  pub once : (text : List ℕ) → count_by (λ t. bytes_eq t text) texts ≤ 1
  pub few : length texts ≤ 4096
  pub short : All (λ t. length t ≤ 255) texts

none_counted : {X : Type 0} (p : X → Bool) (xs : List X) → list_any p xs ≡ false → count_by p xs ≡ 0
none_counted p [] e = refl
none_counted {X} p (x ∷ xs) e = by_test (p x) refl e (λ f. none_counted p xs f)
  where
    by_test : (b : Bool) → p x ≡ b → (b || list_any p xs) ≡ false → (list_any p xs ≡ false → count_by p xs ≡ 0) →
        count_by p (x ∷ xs) ≡ 0
    by_test true t f rest = cc
    by_test false t f rest = omega (arith, count_cons p x xs, ap weight t, rest f)

one_more : (known : List (List ℕ)) (text : List ℕ) → Kept known → length text ≤ 255 →
    nat_lt (length known) 4096 ≡ true →
    list_any (λ t. bytes_eq t text) known ≡ false → Kept (known ++ text ∷ [])
one_more known text k short room new = record {
  once = λ name. omega (
    arith,
    sum_by_push (λ t. weight (bytes_eq t name)) known text,
    by_name name
        (bytes_eq text name) refl,
  );
  few =
      let less : length known < 4096 = grind (arith, nat_tests) in
      omega (arith, length-append known (text ∷ []), less);
  short = All-push (λ t. length t ≤ 255) known text k.short short;
}
  where
    by_name : (name : List ℕ) (b : Bool) → bytes_eq text name ≡ b →
        count_by (λ t. bytes_eq t name) known + weight (bytes_eq text name) ≤ 1
    by_name name false e = omega (arith, ap weight e, k.once name)
    by_name name true e =
        let same : text ≡ name = bytes_same text name e in
        let none : count_by (λ t. bytes_eq t name) known ≡ 0 =
        ap (λ n. count_by (λ t. bytes_eq t n) known) (sym same) ∙ none_counted (λ t. bytes_eq t text) known new in
        omega (arith, ap weight e, none)

with_one : (known : List (List ℕ)) (text : List ℕ) → Kept known → length text ≤ 255 → Kept (with_text known (Some text))
with_one known text k short = by_tests (nat_lt (length known) 4096) (list_any (λ t. bytes_eq t text) known) refl refl
  where
    by_tests : (a b : Bool) → nat_lt (length known) 4096 ≡ a → list_any (λ t. bytes_eq t text) known ≡ b →
        Kept (if (a && not b) then known ++ text ∷ [] else known)
    by_tests true false p q = one_more known text k short p q
    by_tests true true p q = k
    by_tests false b p q = k

with_spelled : (known : List (List ℕ)) (text : List ℕ) → Kept known → Kept (with_text known (fitting text))
with_spelled known text k = by_length (nat_lt 255 (length text)) refl
  where
    by_length : (b : Bool) → nat_lt 255 (length text) ≡ b → Kept (with_text known (if b then None else Some text))
    by_length true e = k
    by_length false e = with_one known text k (grind (arith, nat_tests))

all_kept : (known : List (List ℕ)) (ls : List Literal) → Kept known → Kept (with_literals known ls)
all_kept known [] k = k
all_kept known (l ∷ ls) k = all_kept (with_literal known l.bytes) ls (with_spelled known (text_of l.bytes) k)

none_kept : Kept []
none_kept = record { once = λ text. omega arith; few = omega arith; short = All-nil (λ t. length t ≤ 255) }

pub texts_kept : (units : List KitUnits) → Kept (program_texts units)
texts_kept units = all_kept [] (flat_map literals_of (all_classes units)) none_kept

-- ---- texts of bytes

with_bytes : (known : List (List ℕ)) (text : List ℕ) → All AreBytes known → AreBytes text →
    All AreBytes (with_text known (fitting text))
with_bytes known text a b = by_length (nat_lt 255 (length text))
  where
    by_new : (t : Bool) → All AreBytes (if t then known ++ text ∷ [] else known)
    by_new true = All-push AreBytes known text a b
    by_new false = a

    by_length : (t : Bool) → All AreBytes (with_text known (if t then None else Some text))
    by_length true = a
    by_length false = by_new (is_new known text)

all_bytes : (known : List (List ℕ)) (ls : List Literal) → All AreBytes known → SpellBytes ls →
    All AreBytes (with_literals known ls)
all_bytes known [] a s = a
all_bytes known (l ∷ ls) a s = all_bytes (with_literal known l.bytes) ls (with_bytes known (text_of l.bytes) a s.0) s.1

pub texts_are : (units : List KitUnits) → SpellBytes (flat_map literals_of (all_classes units)) →
    All IsText (program_texts units)
texts_are units s i d h =
    (all_bytes [] (flat_map literals_of (all_classes units)) (All-nil AreBytes) s i d h, (texts_kept units).short i d h)
