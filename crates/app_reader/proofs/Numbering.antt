-- Config slots, numbered one after another.
use Rattle.std.proofs.Common.{◌≡◌, ℕ, zero, suc, ◌<◌, ◌+◌, Bool, true, false, List, [], ◌∷◌, ◌++◌, length, take, refl, sym, ◌∙◌, ap, arith, append_assoc}
use Rattle.std.specs.Prelude.{Option, Some, None, if◌then◌else◌, filter, map as map_list, slice_get}
use Rattle.std.specs.Option.{option_map_or}
use Rattle.std.specs.List.{enumerate_from}
use Rattle.sed_typed.specs.declared.schema.SlotInfo.{SlotInfo}
use Rattle.node_table.specs.Properties.{is_config}
use Rattle.node_table.specs.Read.{numbers_in}
use Rattle.app_reader.specs.Numbers.{number_if_config}
use Rattle.sed_value.proofs.Lists.{item_there as some_item}

by_config : (start : ℕ) (s : SlotInfo) (slots : List SlotInfo) (b : Bool)
    → map_list (λ (e : ℕ × SlotInfo). e.0) (if b then (start, s) ∷ filter (λ (e : ℕ × SlotInfo). is_config e.1) (enumerate_from (start + 1) slots) else filter (λ (e : ℕ × SlotInfo). is_config e.1) (enumerate_from (start + 1) slots))
    ≡ (if b then start ∷ [] else []) ++ numbers_in (start + 1) slots
by_config start s slots true = refl
by_config start s slots false = refl

numbers_first : (start : ℕ) (s : SlotInfo) (slots : List SlotInfo) → numbers_in start (s ∷ slots) ≡ (if is_config s then start ∷ [] else []) ++ numbers_in (start + 1) slots
numbers_first start s slots = by_config start s slots (is_config s)

pub numbers_next : (start n : ℕ) (slots : List SlotInfo) (s : SlotInfo) → slice_get slots n ≡ Some s → numbers_in start (take (suc n) slots) ≡ numbers_in start (take n slots) ++ (if is_config s then (start + n) ∷ [] else [])
numbers_next start n [] s at = absurd (let no : ◌≡◌ {A = Option SlotInfo} None (Some s) = at in cc)
numbers_next start zero (x ∷ slots) s at =
    let same : x ≡ s = let both : ◌≡◌ {A = Option SlotInfo} (Some x) (Some s) = at in cc in
    let here : start + 0 ≡ start = omega arith in
    numbers_first start x [] ∙ end_nil (if is_config x then start ∷ [] else [])
    ∙ (λ i. if is_config (same i) then (sym here i) ∷ [] else [])
  where
    end_nil : (xs : List ℕ) → xs ++ [] ≡ xs
    end_nil [] = refl
    end_nil (y ∷ xs) = ap (λ (rest : List ℕ). y ∷ rest) (end_nil xs)
numbers_next start (suc n) (x ∷ slots) s at =
    let step : (start + 1) + n ≡ start + suc n = omega arith in
    let front : List ℕ = if is_config x then start ∷ [] else [] in
    numbers_first start x (take (suc n) slots)
    ∙ ap (λ (rest : List ℕ). front ++ rest) (numbers_next (start + 1) n slots s at)
    ∙ sym (append_assoc front (numbers_in (start + 1) (take n slots)) (if is_config s then ((start + 1) + n) ∷ [] else []))
    ∙ ap (λ (rest : List ℕ). rest ++ (if is_config s then ((start + 1) + n) ∷ [] else [])) (sym (numbers_first start x (take n slots)))
    ∙ ap (λ (k : ℕ). numbers_in start (x ∷ take n slots) ++ (if is_config s then k ∷ [] else [])) step

pub number_next : (n : ℕ) (slots : List SlotInfo) → n < length slots → numbers_in 0 (take (n + 1) slots) ≡ numbers_in 0 (take n slots) ++ number_if_config slots n
number_next n slots lt =
    let there = some_item slots n lt in
    ap (λ (k : ℕ). numbers_in 0 (take k slots)) (let e : n + 1 ≡ suc n = omega arith in e) ∙ numbers_next 0 n slots there.0 there.1
    ∙ ap (λ (k : ℕ). numbers_in 0 (take n slots) ++ (if is_config there.0 then k ∷ [] else [])) (let e : 0 + n ≡ n = omega arith in e)
    ∙ ap (λ (o : Option SlotInfo). numbers_in 0 (take n slots) ++ (if option_map_or is_config o false then n ∷ [] else [])) (sym there.1)
