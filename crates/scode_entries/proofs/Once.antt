-- Each place once: entries made one by one are those of the marks that are left.
use Rattle.std.proofs.Common.{◌≡◌, ℕ, zero, suc, ◌-◌, ◌==◌, Bool, true, false, if◌then◌else◌, List, [], ◌∷◌, ◌++◌, map, length, slice_get, refl, sym, ap, ◌∙◌, arith}
use Rattle.std.specs.Option.{option_map_or}
use Rattle.scode_image.specs.declared.image.ImageEntry.{ImageEntry}
use Rattle.scode_image.specs.declared.image.ImageKind.{ImageKind}
use Rattle.scode_entries.specs.declared.marks.Mark.{Mark}
use Rattle.scode_entries.specs.Entries.{with_mark, with_marks, each_once}
use Rattle.scode_entries.specs.EntryLists.{ends_at, with_entry, with_entries}
use Rattle.scode_entries.specs.Method.{entry_of}

under : (b : Bool) (e : ImageEntry) (es fs : List ImageEntry) → e ∷ (if b then es else fs) ≡ (if b then e ∷ es else e ∷ fs)
under true e es fs = refl
under false e es fs = refl

ends_step : (e f : ImageEntry) (es : List ImageEntry) (place : ℕ) → ends_at (e ∷ f ∷ es) place ≡ ends_at (f ∷ es) place
ends_step e f es place =
    let is : ImageEntry → Bool = λ g. g.place == place in
    let one : length (e ∷ f ∷ es) - 1 ≡ suc (length es) = omega arith in
    let two : length es ≡ length (f ∷ es) - 1 = omega arith in
    ap (λ (i : ℕ). option_map_or is (slice_get (e ∷ f ∷ es) i) false) one ∙ ap (λ (i : ℕ). option_map_or is (slice_get (f ∷ es) i) false) two

one_more : (locals : List ImageKind) (told : List Mark) (m : Mark) → map (entry_of locals) (with_mark told m) ≡ with_entry locals (map (entry_of locals) told) m
one_more locals [] m = refl
one_more locals (l ∷ []) m = cases (l.place == m.place)
  where
    cases : (b : Bool) → map (entry_of locals) (if b then l ∷ [] else l ∷ m ∷ []) ≡ (if b then entry_of locals l ∷ [] else entry_of locals l ∷ entry_of locals m ∷ [])
    cases true = refl
    cases false = refl
one_more locals (l ∷ k ∷ told) m =
    let es = map (entry_of locals) (k ∷ told) in
    ap (λ (fs : List ImageEntry). entry_of locals l ∷ fs) (one_more locals (k ∷ told) m)
    ∙ under (ends_at es m.place) (entry_of locals l) es (es ++ entry_of locals m ∷ [])
    ∙ ap (λ (b : Bool). if b then entry_of locals l ∷ es else entry_of locals l ∷ (es ++ entry_of locals m ∷ [])) (sym (ends_step (entry_of locals l) (entry_of locals k) (map (entry_of locals) told) m.place))

all_more : (locals : List ImageKind) (told marks : List Mark) → with_entries locals (map (entry_of locals) told) marks ≡ map (entry_of locals) (with_marks told marks)
all_more locals told [] = refl
all_more locals told (m ∷ marks) =
    ap (λ (es : List ImageEntry). with_entries locals es marks) (sym (one_more locals told m)) ∙ all_more locals (with_mark told m) marks

pub entries_are : (locals : List ImageKind) (marks : List Mark) → with_entries locals [] marks ≡ map (entry_of locals) (each_once marks)
entries_are locals marks = all_more locals [] marks
