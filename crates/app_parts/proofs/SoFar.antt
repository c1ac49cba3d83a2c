-- A text that is put piece by piece.
use Rattle.std.proofs.Common.{◌≡◌, ℕ, ◌+◌, ◌≤◌, ◌<◌, List, [], ◌++◌, length, drop, get_or, refl, sym, ◌∙◌, ap, subst, append_assoc, length-append, add-one, inl, inr}
use Rattle.std.proofs.Math.Seq.{drop-cons}
use Rattle.std.specs.List.{flat_map}
use Rattle.std.specs.Prelude.{Option, Some, None, slice_get}
use Rattle.std.proofs.Math.ListN.{drop_of_length-le}
use Rattle.std.proofs.lemmas.Option.{get_or_from_slice_get, slice_get_cases, slice_get_within}
use Rattle.sed_wire.specs.declared.writer.Writer.{Writer}
use Rattle.sed_wire.specs.Writing.{Appends}
use Rattle.sed_wire.proofs.WritingLemmas.{appends-none, appends-then}
use Rattle.std.proofs.lemmas.List.{append-nil}

-- of a text the front is put, and this is left to put
pub record SoFar (before now : Writer) (all rest : List ℕ) : Type 0 where
  pub front : List ℕ
  pub put : Appends before now front
  pub parts : front ++ rest ≡ all

abbrev pub none_yet : (w : Writer) (all : List ℕ) → SoFar w w all all
none_yet w all = record { front = []; put = appends-none w; parts = refl }

abbrev pub one_more : (a b c : Writer) (all more piece rest : List ℕ) → SoFar a b all more → Appends b c piece → piece ++ rest ≡ more → SoFar a c all rest
one_more a b c all more piece rest s put is = record {
  front = s.front ++ piece;
  put = appends-then a b c s.front piece s.put put;
  parts = append_assoc s.front piece rest ∙ ap (λ (t : List ℕ). s.front ++ t) is ∙ s.parts;
}

pub all_put : (a b : Writer) (all rest : List ℕ) → SoFar a b all rest → rest ≡ [] → Appends a b all
all_put a b all rest s none =
    subst (Appends a b) (sym (append-nil s.front) ∙ ap (λ (t : List ℕ). s.front ++ t) (sym none) ∙ s.parts) s.put

-- what is put and what is left are the whole
pub length-so_far : (a b : Writer) (all rest : List ℕ) → (s : SoFar a b all rest) → length s.front + length rest ≡ length all
length-so_far a b all rest s = sym (length-append s.front rest) ∙ ap length s.parts

-- ---- of items one after another

module _ {A : Type 0} (f : A → List ℕ) where
  pub flat_map-at : (xs : List A) (n : ℕ) (d : A) → n < length xs → f (get_or xs n d) ++ flat_map f (drop (n + 1) xs) ≡ flat_map f (drop n xs)
  flat_map-at xs n d lt = ap (λ (k : ℕ). f (get_or xs n d) ++ flat_map f (drop k xs)) (add-one n) ∙ ap (flat_map f) (sym (drop-cons xs n d lt))

  pub flat_map-end : (xs : List A) (n : ℕ) → length xs ≤ n → flat_map f (drop n xs) ≡ []
  flat_map-end xs n past = ap (flat_map f) (drop_of_length-le xs past)

-- there are no more than this
pub none_more : {A : Type 0} (xs : List A) (n : ℕ) → None ≡ slice_get xs n → length xs ≤ n
none_more {A} xs n none = elim (slice_get_cases xs n).1 [
  | inl there ↦ absurd (let no : ◌≡◌ {A = Option A} None (Some there.0) = none ∙ there.2 in cc)
  | inr past ↦ past.0
]

-- ---- of one item more

module _ {A : Type 0} (f : A → List ℕ) (a b c : Writer) (xs : List A) (n : ℕ) (x : A) (s : SoFar a b (flat_map f xs) (flat_map f (drop n xs))) (put : Appends b c (f x)) where
  abbrev pub next_item : n < length xs → x ≡ get_or xs n x → SoFar a c (flat_map f xs) (flat_map f (drop (n + 1) xs))
  next_item lt is = one_more a b c (flat_map f xs) (flat_map f (drop n xs)) (f x) (flat_map f (drop (n + 1) xs)) s put
      (ap (λ (y : A). f y ++ flat_map f (drop (n + 1) xs)) is ∙ flat_map-at f xs n x lt)

  abbrev pub next_got : slice_get xs n ≡ Some x → SoFar a c (flat_map f xs) (flat_map f (drop (n + 1) xs))
  next_got at = next_item (slice_get_within xs n x at) (sym (get_or_from_slice_get xs n x x at))
