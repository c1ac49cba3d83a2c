-- The entries of a method are those of its marks: an entry stands where a mark does, and is one of the marks there.
use Rattle.std.proofs.Common.{◌≡◌, ◌⊎◌, inl, inr, ℕ, zero, suc, ◌==◌, Bool, true, false, cond, if◌then◌else◌, List, [], ◌∷◌, map, Some, refl, sym, ap, subst, ◌∙◌}
use Rattle.std.specs.Prelude.{find, slice_get}
use Rattle.std.proofs.lemmas.Bool.{eq-eqb, eqb-true}
use Rattle.std.proofs.lemmas.List.{reverse-reverse}
use Rattle.scode_image.specs.declared.image.ImageEntry.{ImageEntry}
use Rattle.scode_image.specs.declared.image.ImageKind.{ImageKind}
use Rattle.scode_code.specs.CodeRules.{entry_shape}
use Rattle.scode_code.specs.Kinds.{Shape}
use Rattle.scode_code.proofs.Places.{none_some, some_eq}
use Rattle.scode_whole.proofs.Truths.{no_truth}
use Rattle.scode_entries.specs.declared.marks.Mark.{Mark}
use Rattle.scode_entries.specs.Entries.{each_once, with_mark, with_marks}
use Rattle.scode_entries.specs.Method.{entry_of}
use Rattle.scode_fine.proofs.Clean.{Entered}
use Rattle.scode_fine.proofs.Has.{Has, has_front}
use Rattle.scode_fine.proofs.Walks.{Ground, Stack, here}

-- ---- each place once

kept_with : (told : List Mark) (m k : Mark) → Has told k → Has (with_mark told m) k
kept_with [] m k h = absurd h
kept_with (l ∷ []) m k h = cases (l.place == m.place)
  where
    cases : (b : Bool) → Has (if b then l ∷ [] else l ∷ m ∷ []) k
    cases true = h
    cases false = has_front (l ∷ []) (m ∷ []) k h
kept_with (l ∷ j ∷ told) m k (inl e) = inl e
kept_with (l ∷ j ∷ told) m k (inr h) = inr (kept_with (j ∷ told) m k h)

new_with : (told : List Mark) (m : Mark) → (k : Mark) × Has (with_mark told m) k × (k.place ≡ m.place)
new_with [] m = (m, inl refl, refl)
new_with (l ∷ []) m = cases (l.place == m.place) refl
  where
    cases : (b : Bool) → (l.place == m.place) ≡ b →
        (k : Mark) × Has (if b then l ∷ [] else l ∷ m ∷ []) k × (k.place ≡ m.place)
    cases true e = (l, inl refl, eqb-true l.place m.place e)
    cases false e = (m, inr (inl refl), refl)
new_with (l ∷ j ∷ told) m = let r = new_with (j ∷ told) m in (r.0, inr r.1, r.2)

before_it : (l m k : Mark) (told : List Mark) → Has told k ⊎ (m ≡ k) → Has (l ∷ told) k ⊎ (m ≡ k)
before_it l m k told (inl h) = inl (inr h)
before_it l m k told (inr e) = inr e

from_with : (told : List Mark) (m k : Mark) → Has (with_mark told m) k → Has told k ⊎ (m ≡ k)
from_with [] m k (inl e) = inr e
from_with [] m k (inr h) = absurd h
from_with (l ∷ []) m k h = cases (l.place == m.place) h
  where
    cases : (b : Bool) → Has (if b then l ∷ [] else l ∷ m ∷ []) k → Has (l ∷ []) k ⊎ (m ≡ k)
    cases true g = inl g
    cases false (inl e) = inl (inl e)
    cases false (inr (inl e)) = inr e
    cases false (inr (inr g)) = absurd g
from_with (l ∷ j ∷ told) m k (inl e) = inl (inl e)
from_with (l ∷ j ∷ told) m k (inr h) = before_it l m k (j ∷ told) (from_with (j ∷ told) m k h)

kept_all : (told ms : List Mark) (k : Mark) → Has told k → Has (with_marks told ms) k
kept_all told [] k h = h
kept_all told (m ∷ ms) k h = kept_all (with_mark told m) ms k (kept_with told m k h)

new_all : (told ms : List Mark) (k : Mark) → Has ms k → (j : Mark) × Has (with_marks told ms) j × (j.place ≡ k.place)
new_all told [] k h = absurd h
new_all told (m ∷ ms) k (inl e) =
    let r = new_with told m in
    (r.0, kept_all (with_mark told m) ms r.0 r.1, r.2 ∙ ap (λ (l : Mark). l.place) e)
new_all told (m ∷ ms) k (inr h) = new_all (with_mark told m) ms k h

either_way : (told ms : List Mark) (m k : Mark) → (Has told k ⊎ (m ≡ k)) ⊎ Has ms k → Has told k ⊎ Has (m ∷ ms) k
either_way told ms m k (inl (inl h)) = inl h
either_way told ms m k (inl (inr e)) = inr (inl e)
either_way told ms m k (inr h) = inr (inr h)

first_way : (told : List Mark) (m k : Mark) (ms : List Mark) → Has (with_mark told m) k ⊎ Has ms k → (Has told k ⊎ (m ≡ k)) ⊎ Has ms k
first_way told m k ms (inl h) = inl (from_with told m k h)
first_way told m k ms (inr h) = inr h

from_all : (told ms : List Mark) (k : Mark) → Has (with_marks told ms) k → Has told k ⊎ Has ms k
from_all told [] k h = inl h
from_all told (m ∷ ms) k h =
    either_way told ms m k (first_way told m k ms (from_all (with_mark told m) ms k h))

from_once : (ms : List Mark) (k : Mark) → Has (each_once ms) k → Has ms k
from_once ms k h = by_way (from_all [] ms k h)
  where
    by_way : Has [] k ⊎ Has ms k → Has ms k
    by_way (inl none) = absurd none
    by_way (inr g) = g

-- ---- entries

abbrev at_it : ℕ → ImageEntry → Bool
at_it place e = e.place == place

found_mark : (locals : List ImageKind) (place : ℕ) (ms : List Mark) (e : ImageEntry) → find (at_it place) (map (entry_of locals) ms) ≡ Some e →
    (k : Mark) × Has ms k × (k.place ≡ place) × (e ≡ entry_of locals k)
found_mark locals place [] e h = absurd (none_some e h)
found_mark locals place (m ∷ ms) e h =
    by_test (m.place == place) refl h (λ g. found_mark locals place ms e g)
  where
    by_test : (b : Bool) → (m.place == place) ≡ b →
        cond b (Some (entry_of locals m)) (find (at_it place) (map (entry_of locals) ms)) ≡ Some e →
        (find (at_it place) (map (entry_of locals) ms) ≡ Some e → (k : Mark) × Has ms k × (k.place ≡ place) × (e ≡ entry_of locals k)) →
        (k : Mark) × Has (m ∷ ms) k × (k.place ≡ place) × (e ≡ entry_of locals k)
    by_test true is g rest = (m, inl refl, eqb-true m.place place is, sym (some_eq (entry_of locals m) e g))
    by_test false is g rest = let r = rest g in (r.0, inr r.1, r.2, r.3)

is_found : (locals : List ImageKind) (place : ℕ) (ms : List Mark) (k : Mark) → Has ms k → k.place ≡ place →
    (e : ImageEntry) × (find (at_it place) (map (entry_of locals) ms) ≡ Some e)
is_found locals place [] k h at = absurd h
is_found locals place (m ∷ ms) k h at =
    by_test (m.place == place) refl h (λ g. is_found locals place ms k g at)
  where
    by_test : (b : Bool) → (m.place == place) ≡ b → Has (m ∷ ms) k →
        (Has ms k → (e : ImageEntry) × (find (at_it place) (map (entry_of locals) ms) ≡ Some e)) →
        (e : ImageEntry) × (cond b (Some (entry_of locals m)) (find (at_it place) (map (entry_of locals) ms)) ≡ Some e)
    by_test true is g rest = (entry_of locals m, refl)
    by_test false is (inl e) rest =
        no_truth (sym is ∙ eq-eqb m.place place (ap (λ (l : Mark). l.place) e ∙ at))
    by_test false is (inr g) rest = rest g

at_mark : (locals : List ImageKind) (ms : List Mark) (n : ℕ) (e : ImageEntry) → slice_get (map (entry_of locals) ms) n ≡ Some e →
    (k : Mark) × Has ms k × (k.place ≡ e.place)
at_mark locals [] n e h = absurd (none_some e h)
at_mark locals (m ∷ ms) zero e h =
    (m, inl refl, ap (λ (x : ImageEntry). x.place) (some_eq (entry_of locals m) e h))
at_mark locals (m ∷ ms) (suc n) e h = let r = at_mark locals ms n e h in (r.0, inr r.1, r.2)

pub marks_enter : (g : Ground) (all : List Mark) → g.m.entries ≡ map (entry_of g.m.locals) (each_once all) → Entered g all
marks_enter g all is = record {
  from = λ place e there.
      let k = found_mark g.m.locals place (each_once all) e
      (subst (λ (es : List ImageEntry). find (at_it place) es ≡ Some e) is there) in
      let shape : entry_shape e ≡ here g k.0.stack =
      ap (λ (x : ImageEntry). entry_shape x) k.3
      ∙ ap (λ (s : Stack). (let t : Shape = record { locals = g.m.locals; stack = s } in t)) (reverse-reverse k.0.stack) in
      (k.0, from_once all k.0 k.1, k.2, shape);
  there = λ k h.
      let j = new_all [] all k h in
      let e = is_found g.m.locals k.place (each_once all) j.0 j.1 j.2 in
      (e.0, subst (λ (es : List ImageEntry). find (at_it k.place) es ≡ Some e.0) (sym is) e.1);
  each = λ n e there.
      let k = at_mark g.m.locals (each_once all) n e
      (subst (λ (es : List ImageEntry). slice_get es n ≡ Some e) is there) in
      (k.0, from_once all k.0 k.1, k.2);
}
