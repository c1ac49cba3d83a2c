-- Places in their order, and what their entries say.
use Rattle.std.proofs.Common.{◌≡◌, ◌≢◌, ℕ, ◌+◌, ◌<◌, ◌≤◌, List, [], ◌∷◌, ◌++◌, inl, inr, get_or, set, take, length, sym, ◌∙◌, ap, subst, arith}
use Rattle.std.specs.Prelude.{sum_by, AllPairs}
use Rattle.std.proofs.lemmas.Bool.{cases_eq, cases_lt}
use Rattle.std.proofs.lemmas.List.{get_or_append_left, get_or_push, get_or-set_other, get_or-set_same, get_or-take, get_or_default, length-take-le}
use Rattle.std.proofs.lemmas.List.Elements.{All-from_get_or}
use Rattle.scode_mem.specs.declared.entry.Entry.{Entry}
use Rattle.scode_mem.specs.Blocks.{Kept, bytes_at}
use Rattle.scode_mem.specs.Kept.{ArePlaces, Parts, class_at, end_at, entry_at, kept_at, no_entry, size_at, start_at}
use Rattle.scode_mem.proofs.Bytes.{length_range}

-- two of a list, whichever comes first
pub apart_at : (xs : List ℕ) → AllPairs (λ a b. a ≢ b) xs → (i j : ℕ) → i < length xs → j < length xs → i ≢ j → get_or xs i 0 ≢ get_or xs j 0
apart_at xs apart i j first other ne = elim (cases_lt i j) [
  | inl lt ↦ apart i j 0 lt other
  | inr le ↦ λ e. apart j i 0 (omega arith) first (sym e)
]

pub pairs_from : (R : ℕ → ℕ → Type 0) (xs : List ℕ) → ((i j : ℕ) → i < j → j < length xs → R (get_or xs i 0) (get_or xs j 0)) → AllPairs R xs
pairs_from R xs each i j d lt within =
    let P : ℕ → Type 0 = λ a. R a (get_or xs j d) in
    let Q : ℕ → Type 0 = λ b. R (get_or xs i 0) b in
    subst P (get_or_default xs i 0 d (omega arith)) (subst Q (get_or_default xs j 0 d within) (each i j lt within))

pub pairs_front : (R : ℕ → ℕ → Type 0) (n : ℕ) (xs : List ℕ) → n ≤ length xs → AllPairs R xs → AllPairs R (take n xs)
pairs_front R n xs le pairs = pairs_from R (take n xs) each
  where
    each : (i j : ℕ) → i < j → j < length (take n xs) → R (get_or (take n xs) i 0) (get_or (take n xs) j 0)
    each i j lt within =
        let short = length-take-le n xs le in
        let P : ℕ → Type 0 = λ a. R a (get_or (take n xs) j 0) in
        let Q : ℕ → Type 0 = λ b. R (get_or xs i 0) b in
        subst P (sym (get_or-take n xs i 0 (omega arith))) (subst Q (sym (get_or-take n xs j 0 (omega arith))) (pairs i j 0 lt (omega arith)))

pub sums_alike : {X : Type 0} (f g : X → ℕ) (xs : List X) → ((x : X) → f x ≡ g x) → sum_by f xs ≡ sum_by g xs
sums_alike {X} f g xs alike = let one : f ≡ g = λ i x. alike x i in ap (λ (h : X → ℕ). sum_by h xs) one

pub kept_alike : (a b : ℕ) (x y : List ℕ) → a ≡ b → x ≡ y → ◌≡◌ {A = Kept} (record { class = a; bytes = x }) (record { class = b; bytes = y })
kept_alike a b x y p q = λ i. record { class = p i; bytes = q i }

-- a block is told by its class and its bytes
pub same_kept : (p q : Parts) (place : ℕ) → class_at p place ≡ class_at q place
    → bytes_at p.bytes (start_at p place) (size_at p place) ≡ bytes_at q.bytes (start_at q place) (size_at q place) → kept_at p place ≡ kept_at q place
same_kept p q place class bytes = kept_alike _ _ _ _ class bytes

pub size_of_class : (firsts : List (List ℕ)) (p q : Parts) (place : ℕ) → p.firsts ≡ firsts → q.firsts ≡ firsts → class_at p place ≡ class_at q place → size_at p place ≡ size_at q place
size_of_class firsts p q place first other class =
    ap (λ (all : List (List ℕ)). length (get_or all (class_at p place) [])) (first ∙ sym other) ∙ ap (λ c. length (get_or q.firsts c [])) class

-- the entry that was set, and the others
module _ (p : Parts) (bytes : List ℕ) (place : ℕ) (e : Entry) where
  abbrev pub with_entry : Parts
  with_entry = record { firsts = p.firsts; bytes = bytes; directory = set p.directory place e }

  pub entry_set : place < length p.directory → entry_at with_entry place ≡ e
  entry_set within = get_or-set_same p.directory place e no_entry within

  pub entry_beside : (q : ℕ) → q ≢ place → entry_at with_entry q ≡ entry_at p q
  entry_beside q ne = get_or-set_other p.directory place q e no_entry ne

-- how many bytes a block has
pub length-kept : (p : Parts) (place : ℕ) → end_at p place ≤ length p.bytes → length (kept_at p place).bytes ≡ size_at p place
length-kept p place within = length_range p.bytes (start_at p place) (size_at p place) within

-- a list that has each number below 4,096 at its place
pub every_place : (xs : List ℕ) → length xs ≡ 4096 → ((k : ℕ) → k < 4096 → get_or xs k 0 ≡ k) → ArePlaces xs
every_place xs as_many each = record {
  all = as_many;
  apart = pairs_from (λ a b. a ≢ b) xs (λ i j lt within e. (let first = each i (omega arith) in let other = each j (omega arith) in omega arith));
  within = All-from_get_or (λ place. place < 4096) xs 0 (λ i lt. (let here = each i (omega arith) in omega arith));
}

-- one place more at the end of those below it
pub place_more : (xs ys : List ℕ) (n : ℕ) → length xs ≡ n → ys ≡ xs ++ n ∷ [] → ((k : ℕ) → k < n → get_or xs k 0 ≡ k) → (k : ℕ) → k < n + 1 → get_or ys k 0 ≡ k
place_more xs ys n as_many pushed each k lt = ap (λ (zs : List ℕ). get_or zs k 0) pushed ∙ elim (cases_eq k n) [
  | inl is ↦ get_or_push xs n 0 k (as_many ∙ sym is) ∙ sym is
  | inr ne ↦ (let within : k < length xs = omega arith in get_or_append_left xs (n ∷ []) 0 k within ∙ each k (omega arith))
]
