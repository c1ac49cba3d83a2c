-- Methods of a program, and the image out of its parts.
use Rattle.std.proofs.Common.{◌≡◌, ◌∙◌, ℕ, suc, ◌+◌, ◌<◌, ◌≤◌, List, [], ◌∷◌, ◌++◌, get_or, length, map, take, drop, Result, Ok, Err, inl, inr, ap, sym, subst, arith, append_assoc}
use Rattle.std.specs.Prelude.{All, IfOk, ◌↔◌, ◌⊎◌}
use Rattle.std.proofs.Math.Seq.{drop-cons}
use Rattle.std.proofs.lemmas.Bool.{cases_lt}
use Rattle.std.proofs.lemmas.List.Elements.{All-more}
use Rattle.sed_typed.specs.declared.program.Method.{Method}
use Rattle.sed_typed.specs.declared.program.Program.{Program}
use Rattle.sed_layout.specs.MethodTables.{table_of}
use Rattle.sed_layout.specs.Offsets.{of_classes}
use Rattle.scode_image.specs.declared.image.ImageField.{ImageField}
use Rattle.scode_emit.specs.Rows.{layout_of}
use Rattle.scode_entries.specs.declared.refusal.EmitRefusal.{EmitRefusal}
use Rattle.scode_entries.specs.declared.refusal.EmitRefusal.TheVariants.{TooLong}
use Rattle.scode_gen.specs.Generated.{IsShort, image_layout}
use Rattle.scode_gen.specs.ImageFields.{class_fields, static_fields}

-- rows that are the program's own say its layout
pub layout_is : (program : Program) (fields : List (List ImageField)) (statics : List ImageField) (tables : List (List ℕ)) →
    fields ≡ of_classes program (class_fields program) → statics ≡ static_fields program → tables ≡ of_classes program (table_of program) →
    layout_of fields statics tables ≡ image_layout program
layout_is program fields statics tables f s t =
    ap (λ (x : List (List ImageField)). layout_of x statics tables) f
    ∙ ap (λ (x : List ImageField). layout_of (of_classes program (class_fields program)) x tables) s
    ∙ ap (λ (x : List (List ℕ)). layout_of (of_classes program (class_fields program)) (static_fields program) x) t

-- what is refused exactly where it is too long is else short
pub short_else : (L : Type 0) (size : ℕ) → (L ↔ (65535 < size)) → (L → ⊥) → size ≤ 65535
short_else L size is never = by_size (cases_lt 65535 size)
  where
    by_size : (65535 < size) ⊎ (size ≤ 65535) → size ≤ 65535
    by_size (inl lt) = absurd (never (is.1 lt))
    by_size (inr le) = le

pub short_made : {A : Type 0} (r : Result A EmitRefusal) (size : ℕ) → ((r ≡ Err TooLong) ↔ (65535 < size)) → IfOk r (λ _. size ≤ 65535)
short_made {A} (Ok x) size is = short_else ((Ok x) ≡ Err TooLong) size is (λ h. let never : ⊥ = cc in never)
short_made (Err refusal) size is = tt

-- one item more is done
pub next_is : {X : Type 0} (xs : List X) (i : ℕ) (x : X) → i < length xs → x ≡ get_or xs i x → x ∷ drop (i + 1) xs ≡ drop i xs
next_is {X} xs i x h at =
    ap (λ (y : X). y ∷ drop (i + 1) xs) at
    ∙ ap (λ (k : ℕ). get_or xs i x ∷ drop k xs) (let e : i + 1 ≡ suc i = omega arith in e)
    ∙ sym (drop-cons xs i x h)

pub mapped_more : {X Y : Type 0} (f : X → Y) (xs : List X) (i : ℕ) (x : X) (old new all : List Y) → i < length xs → x ≡ get_or xs i x → new ≡ old ++ f x ∷ [] →
    old ++ map f (drop i xs) ≡ all → new ++ map f (drop (i + 1) xs) ≡ all
mapped_more {X} {Y} f xs i x old new all h at is so_far =
    ap (λ (ys : List Y). ys ++ map f (drop (i + 1) xs)) is
    ∙ append_assoc old (f x ∷ []) (map f (drop (i + 1) xs))
    ∙ ap (λ (ys : List X). old ++ map f ys) (next_is xs i x h at)
    ∙ so_far

pub one_more_short : (program : Program) (all : List Method) (i : ℕ) (m : Method) → i < length all → m ≡ get_or all i m →
    All (IsShort program) (take i all) → IsShort program m → All (IsShort program) (take (i + 1) all)
one_more_short program all i m h at short this = All-more (IsShort program) all i m h short (subst (IsShort program) at this)
