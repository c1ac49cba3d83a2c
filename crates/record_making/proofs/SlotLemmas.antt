-- The slots of a class that are of a sort, one after another.
use Rattle.std.proofs.Common.{◌≡◌, ℕ, ◌+◌, ◌≤◌, ◌<◌, Bool, true, false, List, [], ◌∷◌, ◌++◌, length, drop, map, filter, get_or, refl, sym, ◌∙◌, ap, add-one, append_assoc}
use Rattle.std.specs.Prelude.{if◌then◌else◌}
use Rattle.std.specs.List.{enumerate_from}
use Rattle.std.proofs.Math.Seq.{drop-cons}
use Rattle.std.proofs.Math.ListN.{drop_of_length-le}
use Rattle.std.proofs.lemmas.List.{append-nil}
use Rattle.sed_typed.specs.declared.schema.SlotInfo.{SlotInfo}

-- the numbers of those of which a test holds, where the first has this number
abbrev pub numbers_from : (SlotInfo → Bool) → ℕ → List SlotInfo → List ℕ
numbers_from is n ss = map (λ (e : ℕ × SlotInfo). e.0) (filter (λ (e : ℕ × SlotInfo). is e.1) (enumerate_from n ss))

abbrev pub number_if : (SlotInfo → Bool) → ℕ → SlotInfo → List ℕ
number_if is n s = if is s then n ∷ [] else []

pub numbers_first : (is : SlotInfo → Bool) (n : ℕ) (s : SlotInfo) (ss : List SlotInfo)
    → number_if is n s ++ numbers_from is (n + 1) ss ≡ numbers_from is n (s ∷ ss)
numbers_first is n s ss = by (is s)
  where
    by : (b : Bool) → (if b then n ∷ [] else []) ++ numbers_from is (n + 1) ss
        ≡ map (λ (e : ℕ × SlotInfo). e.0) (if b then (n, s) ∷ filter (λ (e : ℕ × SlotInfo). is e.1) (enumerate_from (n + 1) ss) else filter (λ (e : ℕ × SlotInfo). is e.1) (enumerate_from (n + 1) ss))
    by true = refl
    by false = refl

pub numbers_next : (is : SlotInfo → Bool) (ss : List SlotInfo) (n : ℕ) (s : SlotInfo) → n < length ss → get_or ss n s ≡ s
    → number_if is n s ++ numbers_from is (n + 1) (drop (n + 1) ss) ≡ numbers_from is n (drop n ss)
numbers_next is ss n s within at =
    let front : drop n ss ≡ s ∷ drop (n + 1) ss =
    drop-cons ss n s within ∙ ap (λ (k : ℕ). get_or ss n s ∷ drop k ss) (sym (add-one n)) ∙ ap (λ (x : SlotInfo). x ∷ drop (n + 1) ss) at in
    numbers_first is n s (drop (n + 1) ss) ∙ sym (ap (numbers_from is n) front)

-- one piece more of a whole that is put piece by piece
pub one_more : (old new piece behind rest all : List ℕ) → new ≡ old ++ piece → piece ++ behind ≡ rest → old ++ rest ≡ all → new ++ behind ≡ all
one_more old new piece behind rest all put is whole =
    ap (λ (t : List ℕ). t ++ behind) put ∙ append_assoc old piece behind ∙ ap (λ (t : List ℕ). old ++ t) is ∙ whole

pub all_found : (is : SlotInfo → Bool) (ss : List SlotInfo) (n : ℕ) (found all : List ℕ) → length ss ≤ n
    → found ++ numbers_from is n (drop n ss) ≡ all → found ≡ all
all_found is ss n found all past whole =
    sym (append-nil found) ∙ ap (λ (t : List SlotInfo). found ++ numbers_from is n t) (sym (drop_of_length-le ss past)) ∙ whole
