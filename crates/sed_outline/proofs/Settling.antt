-- One class more is settled.
use Rattle.std.proofs.Common.{◌≡◌, ◌<◌, ◌≤◌, ℕ, zero, suc, ◌==◌, ◌||◌, ◌&&◌, Bool, true, false, List, [], ◌∷◌, length, replicate, slice_set, inl, inr, refl, sym, ap, ◌∙◌, ne_eqb}
use Rattle.std.specs.List.{filter_map, flat_map, list_all, list_any}
use Rattle.std.proofs.lemmas.Bool.{cases_eq}
use Rattle.sed_classes.specs.declared.kit_units.KitUnits.{KitUnits}
use Rattle.sed_classes.specs.Declarations.{all_classes}
use Rattle.sed_classes.specs.Bases.{lineage}
use Rattle.sed_classes.specs.Members.{kit_of}
use Rattle.sed_classes.specs.Objects.{holds_within}
use Rattle.sed_outline.specs.Rounds.{inline_in, inline_of, inline_own, item, row_of}
use Rattle.sed_outline.specs.Settled.{Settles}
use Rattle.sed_outline.proofs.Inside.{held_classes}
use Rattle.sed_outline.proofs.Rounds.{item_is, lineage_behind, members_behind, put_elsewhere, same_everywhere}

-- ---- what stands in a class

inline_behind : (units : List KitUnits) (h : ℕ) → length (all_classes units) ≤ h → inline_in units h ≡ []
inline_behind units h le =
    ap (flat_map (inline_own units)) (lineage_behind units h le)
    ∙ ap
    (λ ms. flat_map (λ (c : ℕ). filter_map (inline_of units (kit_of units h)) ms) (h ∷ []))
    (members_behind units h le)

inside_at : (units : List KitUnits) (inside : List (List ℕ)) (class : ℕ) → inside ≡ row_of units (inline_in units) →
    item [] inside class ≡ inline_in units class
inside_at units inside class is =
    ap (λ rows. item [] rows class) is ∙ item_is units (inline_in units) [] (inline_behind units) class

-- ---- settled

none_is_known : (n class : ℕ) → item false (replicate n false) class ≡ true → ⊥
none_is_known n class is = let no : ◌≡◌ {A = Bool} true false = sym is ∙ same_everywhere false n class in cc

pub settles_none : (units : List KitUnits) (n : ℕ) → Settles units (replicate n false)
settles_none units n = record {
  inside = λ class inner depth is not. absurd (none_is_known n class is);
  apart = λ class depth is. absurd (none_is_known n class is);
}

module _ (units : List KitUnits) (known : List Bool) (settles : Settles units known) where
  -- a class is the one that is sought, or has it inside, at most so deep
  abbrev is_or_holds : ℕ → ℕ → ℕ → Bool
  is_or_holds inner depth h = (h == inner) || holds_within units depth inner h

  -- none of those that are known is one that is not, or holds it
  none_among : (inner depth : ℕ) → item false known inner ≡ false → (classes : List ℕ) →
      list_all (item false known) classes ≡ true → list_any (is_or_holds inner depth) classes ≡ false
  none_among inner depth not [] all = refl
  none_among inner depth not (h ∷ hs) all = by_test (item false known h) refl (none_among inner depth not hs) all
    where
      by_test : (b : Bool) → item false known h ≡ b →
          (list_all (item false known) hs ≡ true → list_any (is_or_holds inner depth) hs ≡ false) →
          (b && list_all (item false known) hs) ≡ true →
          (is_or_holds inner depth h || list_any (is_or_holds inner depth) hs) ≡ false
      by_test false is rest both = absurd (let no : ◌≡◌ {A = Bool} false true = both in cc)
      by_test true is rest both =
          let apart : (h == inner) ≡ false = elim (cases_eq h inner) [
            | inl same ↦
                absurd (let no : ◌≡◌ {A = Bool} true false = sym is ∙ ap (item false known) same ∙ not in cc)
            | inr ne ↦ ne_eqb h inner ne
          ] in
          rw (apart, settles.inside h inner depth is not, rest both) refl

  -- a class that holds none but those that are known
  holds_none : (class : ℕ) → list_all (item false known) (inline_in units class) ≡ true →
      (inner depth : ℕ) → item false known inner ≡ false → holds_within units depth inner class ≡ false
  holds_none class all inner zero not = refl
  holds_none class all inner (suc depth) not =
      held_classes (is_or_holds inner depth) units (lineage units class)
      ∙ none_among inner depth not (inline_in units class) all

  pub settles_more : (inside : List (List ℕ)) (class : ℕ) → inside ≡ row_of units (inline_in units) →
      class < length known → item false known class ≡ false →
      list_all (item false known) (item [] inside class) ≡ true → Settles units (slice_set known class true)
  settles_more inside class is within new all =
      let held : list_all (item false known) (inline_in units class) ≡ true =
      ap (list_all (item false known)) (sym (inside_at units inside class is)) ∙ all in
      let was_not : (inner : ℕ) → item false (slice_set known class true) inner ≡ false →
      item false known inner ≡ false =
      λ inner not. elim (cases_eq inner class) [
        | inl same ↦ ap (item false known) same ∙ new
        | inr ne ↦ sym (put_elsewhere false true known class inner ne) ∙ not
      ] in
      record {
        inside = λ c inner depth there not. elim (cases_eq c class) [
          | inl same ↦ ap (holds_within units depth inner) same ∙ holds_none class held inner depth (was_not inner not)
          | inr ne ↦ settles.inside c inner depth (sym (put_elsewhere false true known class c ne) ∙ there) (was_not inner not)
        ];
        apart = λ c depth there. elim (cases_eq c class) [
          | inl same ↦ ap (λ (q : ℕ). holds_within units depth q q) same ∙ holds_none class held class depth new
          | inr ne ↦ settles.apart c depth (sym (put_elsewhere false true known class c ne) ∙ there)
        ];
      }
