-- How many virtual methods a class has.
use Rattle.std.proofs.Common.{ℕ, ◌≡◌, ◌+◌, refl, List, [], ◌∷◌, length, filter, reverse, ap, sym, ◌∙◌}
use Rattle.std.specs.List.{sum_by, count_by}
use Rattle.std.proofs.lemmas.List.{length-map}
use Rattle.std.proofs.lemmas.List.Concat.{length-flat_map}
use Rattle.std.proofs.lemmas.List.Sums.{length-filter, sum_by-cons}
use Rattle.std.proofs.lemmas.List.Sorted.{sum_by-IsPermutation, IsPermutation-reverse}
use Rattle.sed_typed.specs.declared.program.Method.{Method}
use Rattle.sed_typed.specs.declared.program.Program.{Program}
use Rattle.sed_typed.specs.Classes.{lineage}
use Rattle.sed_typed.specs.Virtual.{AreCounted, begins_virtual, new_virtual_names}

begun : (program : Program) (class : ℕ) → length (new_virtual_names program class) ≡ count_by (begins_virtual program class) program.methods
begun program class =
    length-map (filter (begins_virtual program class) program.methods) (λ (m : Method). m.name)
    ∙ length-filter (begins_virtual program class) program.methods

same_sums : (f g : ℕ → ℕ) → ((n : ℕ) → f n ≡ g n) → (ns : List ℕ) → sum_by f ns ≡ sum_by g ns
same_sums f g same [] = refl
same_sums f g same (n ∷ ns) =
    sum_by-cons f n ns ∙ ap (λ (k : ℕ). k + sum_by f ns) (same n) ∙ ap (λ (k : ℕ). g n + k) (same_sums f g same ns) ∙ sym (sum_by-cons g n ns)

pub are_counted : AreCounted
are_counted program class =
    let f : ℕ → ℕ = λ c. length (new_virtual_names program c) in
    let g : ℕ → ℕ = λ c. count_by (begins_virtual program c) program.methods in
    let line : List ℕ = lineage program.schema.classes class in
    length-flat_map (new_virtual_names program) (reverse line)
    ∙ sum_by-IsPermutation f line (reverse line) (IsPermutation-reverse line)
    ∙ same_sums f g (begun program) line
