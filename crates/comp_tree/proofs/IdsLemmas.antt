-- Ids in two bytes each, one read after another.
use Rattle.std.proofs.Common.{ℕ, ◌≡◌, ◌+◌, ◌*◌, ◌<◌, ◌≤◌, List, [], ◌∷◌, ◌++◌, length, refl, sym, ◌∙◌, ap, append_assoc, arith}
use Rattle.std.proofs.lemmas.List.{length-append, append-nil as append_none}
use Rattle.std.specs.Prelude.{Option, Some, None, is_some}
use Rattle.std.specs.Option.{option_map}
use Rattle.sed_wire.specs.Number.{SpellsNumber, number_of}
use Rattle.sed_wire.specs.Reading.{Reads}
use Rattle.comp_tree.specs.Refusals.{ids_of}

-- the ids so far, and what is left
abbrev pub so_far : List ℕ → List ℕ → Option (List ℕ)
so_far ids left = option_map (λ (rest : List ℕ). ids ++ rest) (ids_of left)

two_bytes : (a b : ℕ) → number_of (a ∷ b ∷ []) ≡ a * 256 + b
two_bytes a b = omega arith

spelled : (id : ℕ) (bytes left : List ℕ) → SpellsNumber 2 id bytes → ids_of (bytes ++ left) ≡ option_map (λ (ids : List ℕ). id ∷ ids) (ids_of left)
spelled id [] left s = absurd (let two = s.as_many in omega arith)
spelled id (a ∷ []) left s = absurd (let two = s.as_many in omega arith)
spelled id (a ∷ b ∷ []) left s = ap (λ (n : ℕ). option_map (λ (ids : List ℕ). n ∷ ids) (ids_of left)) (sym (two_bytes a b) ∙ s.is_number)
spelled id (a ∷ b ∷ c ∷ more) left s = absurd (let two = s.as_many in omega arith)

-- an id that was read stands first
pub ids_read : (id : ℕ) (old new : List ℕ) → Reads (SpellsNumber 2) id old new → ids_of old ≡ option_map (λ (ids : List ℕ). id ∷ ids) (ids_of new)
ids_read id old new r = ap ids_of r.front ∙ spelled id r.spelling new r.spelled

pub one_more_id : (ids : List ℕ) (id : ℕ) (old new : List ℕ) (whole : Option (List ℕ)) → Reads (SpellsNumber 2) id old new → so_far ids old ≡ whole → so_far (ids ++ id ∷ []) new ≡ whole
one_more_id ids id old new whole r e =
    by_rest (ids_of new) ∙ ap (option_map (λ (rest : List ℕ). ids ++ rest)) (sym (ids_read id old new r)) ∙ e
  where
    by_rest : (r : Option (List ℕ)) → option_map (λ (rest : List ℕ). (ids ++ id ∷ []) ++ rest) r ≡ option_map (λ (rest : List ℕ). ids ++ rest) (option_map (λ (ids : List ℕ). id ∷ ids) r)
    by_rest None = refl
    by_rest (Some rest) = ap Some (append_assoc ids (id ∷ []) rest)

pub fewer_left : (id : ℕ) (old new : List ℕ) → Reads (SpellsNumber 2) id old new → length new < length old
fewer_left id old new r =
    let long : length old ≡ length r.spelling + length new = ap length r.front ∙ length-append r.spelling new in
    let two = r.spelled.as_many in
    omega arith

some_rest : (left rest : List ℕ) → (left ≡ [] → ⊥) → ids_of left ≡ Some rest → 1 ≤ length rest
some_rest [] rest some e = absurd (some refl)
some_rest (a ∷ []) rest some e = absurd (let never = ap is_some e in cc)
some_rest (a ∷ b ∷ left) rest some e = by_more (ids_of left) e
  where
    by_more : (r : Option (List ℕ)) → option_map (λ (ids : List ℕ). (a * 256 + b) ∷ ids) r ≡ Some rest → 1 ≤ length rest
    by_more None f = absurd (let never = ap is_some f in cc)
    by_more (Some more) f = let same : (a * 256 + b) ∷ more ≡ rest = cc in let long = ap length same in omega arith

-- there are more than so many
pub more_than : (ids left : List ℕ) (k : ℕ) (whole : Option (List ℕ)) → length ids ≡ k → (left ≡ [] → ⊥) → so_far ids left ≡ whole → (some : List ℕ) → whole ≡ Some some → k < length some
more_than ids left k whole many some_left e some is = by_rest (ids_of left) refl (e ∙ is)
  where
    by_rest : (r : Option (List ℕ)) → ids_of left ≡ r → option_map (λ (rest : List ℕ). ids ++ rest) r ≡ Some some → k < length some
    by_rest None f g = absurd (let never = ap is_some g in cc)
    by_rest (Some rest) f g =
        let same : ids ++ rest ≡ some = cc in
        let long : length some ≡ length ids + length rest = ap length (sym same) ∙ length-append ids rest in
        let one = some_rest left rest some_left f in
        omega arith

-- a byte is left over
pub left_over_byte : (ids left : List ℕ) (k : ℕ) (whole : Option (List ℕ)) → (left ≡ [] → ⊥) → length left < 2 → so_far ids left ≡ whole → (some : List ℕ) → whole ≡ Some some → k < length some
left_over_byte ids [] k whole some_left few e some is = absurd (some_left refl)
left_over_byte ids (a ∷ []) k whole some_left few e some is = absurd (let never = ap is_some (e ∙ is) in cc)
left_over_byte ids (a ∷ b ∷ left) k whole some_left few e some is = absurd (omega arith)

pub all_read : (ids left : List ℕ) (whole : Option (List ℕ)) → left ≡ [] → so_far ids left ≡ whole → whole ≡ Some ids
all_read ids left whole none e = sym e ∙ ap (so_far ids) none ∙ ap Some (append_none ids)
