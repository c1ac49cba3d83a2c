-- The first place at which two lists of kits differ.
use Rattle.std.proofs.Common.{◌≡◌, ℕ, suc, ◌≤◌, ◌+◌, List, [], ◌∷◌, length, refl, arith}
use Rattle.std.specs.Prelude.{Option, Some, None, slice_get}
use Rattle.sed_value.specs.declared.kit.KitRef.{KitRef}
use Rattle.app_file.specs.Reading.{DifferAt}
use Rattle.app_front.specs.Differing.{AreSameTo, IsFirstDifference}

same_lists : (xs ys : List KitRef) → ((k : ℕ) → k ≤ length xs → slice_get xs k ≡ slice_get ys k) → xs ≡ ys
same_lists [] [] each = refl
same_lists [] (y ∷ ys) each = absurd (let no : ◌≡◌ {A = Option KitRef} None (Some y) = each 0 (omega arith) in cc)
same_lists (x ∷ xs) [] each = absurd (let no : ◌≡◌ {A = Option KitRef} (Some x) None = each 0 (omega arith) in cc)
same_lists (x ∷ xs) (y ∷ ys) each =
    let first : ◌≡◌ {A = Option KitRef} (Some x) (Some y) = each 0 (omega arith) in
    let head : x ≡ y = cc in
    let tail = same_lists xs ys (λ k le. each (suc k) (omega (arith, le))) in
    λ i. head i ∷ tail i

pub same_whole : (file kits : List KitRef) (n : ℕ) → length file + 1 ≤ n → AreSameTo file kits n → file ≡ kits
same_whole file kits n long same = same_lists file kits (λ k le. same k (omega (arith, le, long)))

pub differ_at : (file kits : List KitRef) (place : ℕ) → IsFirstDifference file kits place → DifferAt file kits place (slice_get file place) (slice_get kits place)
differ_at file kits place is = record { before = is.before; file_has = refl; kits_have = refl; differ = is.differ }
