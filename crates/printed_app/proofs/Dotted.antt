-- Four numbers with dots between them.
use Rattle.std.proofs.Common.{◌≡◌, ℕ, List, [], ◌∷◌, ◌++◌, length, map, refl, sym, ap, ◌∙◌, append_assoc, arith}
use Rattle.std.specs.Fmt.{decimal}
use Rattle.std.specs.List.{join_with_byte}
use Rattle.std.proofs.Math.ListN.{get_or}
use Rattle.printed_app.specs.Datagram.{dot}

dotted : (ip : List ℕ) → length ip ≡ 4 → join_with_byte dot (map decimal ip)
    ≡ decimal (get_or ip 0 0)
    ++ (dot ∷ (decimal (get_or ip 1 0) ++ (dot ∷ (decimal (get_or ip 2 0) ++ (dot ∷ decimal (get_or ip 3 0))))))
dotted (a ∷ b ∷ c ∷ d ∷ []) four = refl
dotted [] four = absurd (omega arith)
dotted (a ∷ []) four = absurd (omega arith)
dotted (a ∷ b ∷ []) four = absurd (omega arith)
dotted (a ∷ b ∷ c ∷ []) four = absurd (omega arith)
dotted (a ∷ b ∷ c ∷ d ∷ e ∷ rest) four = absurd (omega arith)

regrouped : (before a b c d : List ℕ) →
    ((((((before ++ a) ++ (dot ∷ [])) ++ b) ++ (dot ∷ [])) ++ c) ++ (dot ∷ [])) ++ d
    ≡ before ++ (a ++ (dot ∷ (b ++ (dot ∷ (c ++ (dot ∷ d))))))
regrouped before a b c d = simp append_assoc

-- what is put part by part is the four with dots between them
pub part_by_part : (ip before s1 s2 s3 s4 s5 s6 s7 : List ℕ) → length ip ≡ 4 →
    s1 ≡ before ++ decimal (get_or ip 0 0) → s2 ≡ s1 ++ (dot ∷ []) → s3 ≡ s2 ++ decimal (get_or ip 1 0) →
    s4 ≡ s3 ++ (dot ∷ []) → s5 ≡ s4 ++ decimal (get_or ip 2 0) → s6 ≡ s5 ++ (dot ∷ []) →
    s7 ≡ s6 ++ decimal (get_or ip 3 0) → s7 ≡ before ++ join_with_byte dot (map decimal ip)
part_by_part ip before s1 s2 s3 s4 s5 s6 s7 four e1 e2 e3 e4 e5 e6 e7 =
    e7 ∙ ap (λ s. s ++ decimal (get_or ip 3 0))
    (e6 ∙ ap (λ s. s ++ (dot ∷ [])) (e5 ∙ ap (λ s. s ++ decimal (get_or ip 2 0))
    (e4 ∙ ap (λ s. s ++ (dot ∷ [])) (e3 ∙ ap (λ s. s ++ decimal (get_or ip 1 0)) (e2 ∙ ap (λ s. s ++ (dot ∷ [])) e1)))))
    ∙ regrouped before (decimal (get_or ip 0 0)) (decimal (get_or ip 1 0)) (decimal (get_or ip 2 0))
    (decimal (get_or ip 3 0))
    ∙ ap (λ l. before ++ l) (sym (dotted ip four))
