-- Parts that are passed, one after another, and an event that is given then.
use Rattle.std.proofs.Common.{ℕ, ◌≡◌, ◌⊎◌, inl, inr, Bool, true, false, cond, List, Option, refl, sym, ◌∙◌, ap, subst}
use Rattle.std.specs.Prelude.{◌==◌, ◌&&◌, ◌||◌, not, nat_eq, is_some}
use Rattle.std.specs.Option.{option_map_or}
use Rattle.std.specs.FinMap as map
use Rattle.std.specs.Cmp.Lexicographic.{pointwise}
use Rattle.sed_engine.specs.declared.engine.Engine.{Ghosts}
use Rattle.sed_engine.specs.Code.{Meaning}
use Rattle.comp_tree.specs.Application.{Application}
use Rattle.comp_tree.specs.Held.{components_of}
use Rattle.comp_tree.specs.Marks.{part_at, Part as TreePart}
use Rattle.comp_tree.specs.Parts.{link_part}
use Rattle.link_prop.specs.Linked.{Linked, application_of}
use Rattle.sub_table.specs.declared.part.Part.{Part}
use Rattle.sub_table.specs.declared.part.Part.TheVariants.{Tree, Config, Runtime, Links}
use Rattle.sub_table.specs.Table.{Subscriptions, with_event}
use Rattle.sox_msg.specs.Reply.{Puts, event_bytes}
use Rattle.sox_events.specs.Due.{Gives, Passes, Those, bytes_of, none_of_them, is_due, is_watched, letter_of, lives, marked, only}

-- ---- what stays

module _ {E : Type 0} (g : Ghosts E) where
  pub lives_on : (a b : Linked E) → application_of g b ≡ application_of g a → (id : ℕ) → lives g b id ≡ lives g a id
  lives_on a b stays id = ap (λ (x : Application). map.contains_key x.components.by_id id) stays

  tree_bytes_on : (a b : Linked E) → application_of g b ≡ application_of g a → g.meaning b.tree.engine ≡ g.meaning a.tree.engine → (id : ℕ) (part : TreePart)
      → part_at (g.meaning b.tree.engine) (components_of g b.tree).by_id id part ≡ part_at (g.meaning a.tree.engine) (components_of g a.tree).by_id id part
  tree_bytes_on a b stays meaning id part =
      ap (λ (m : Meaning). part_at m (components_of g b.tree).by_id id part) meaning
      ∙ ap (λ (x : Application). part_at (g.meaning a.tree.engine) x.components.by_id id part) stays

  pub bytes_on : (a b : Linked E) → application_of g b ≡ application_of g a → g.meaning b.tree.engine ≡ g.meaning a.tree.engine → (id : ℕ) (part : Part)
      → bytes_of g b id part ≡ bytes_of g a id part
  bytes_on a b stays meaning id Tree = tree_bytes_on a b stays meaning id TreePart.Tree
  bytes_on a b stays meaning id Config = tree_bytes_on a b stays meaning id TreePart.Config
  bytes_on a b stays meaning id Runtime = tree_bytes_on a b stays meaning id TreePart.Runtime
  bytes_on a b stays meaning id Links = ap (λ (x : Application). link_part id x.links) stays

  watched_on : (a b : Linked E) (subs : Subscriptions) → application_of g b ≡ application_of g a → (place id : ℕ) (part : Part)
      → is_watched g b subs place id part ≡ is_watched g a subs place id part
  watched_on a b subs stays place id part = ap (λ (l : Bool). is_some (subs place id part) && l) (lives_on a b stays id)

  due_on : (a b : Linked E) (subs : Subscriptions) → application_of g b ≡ application_of g a → g.meaning b.tree.engine ≡ g.meaning a.tree.engine → (place id : ℕ) (part : Part)
      → marked b place id part ≡ marked a place id part → is_due g b subs place id part ≡ is_due g a subs place id part
  due_on a b subs stays meaning place id part em =
      ap (λ (l : Bool). verdict l (marked b place id part) (bytes_of g b id part)) (lives_on a b stays id)
      ∙ ap (λ (m : Bool). verdict (lives g a id) m (bytes_of g b id part)) em
      ∙ ap (λ (bytes : List ℕ). verdict (lives g a id) (marked a place id part) bytes) (bytes_on a b stays meaning id part)
    where
      verdict : Bool → Bool → List ℕ → Bool
      verdict l m now = option_map_or (λ (last : Option (List ℕ)). l && option_map_or (λ (bytes : List ℕ). m && not (pointwise nat_eq bytes now)) last true) (subs place id part) false

-- ---- one after another

set_true : (s t : Bool) → (s || t) ≡ true → (s ≡ true) ⊎ ((s ≡ false) × (t ≡ true))
set_true true t e = inl refl
set_true false t e = inr (refl, e)

marks_add : (p s t w m : Bool) → cond ((p && t) && w) false (cond ((p && s) && w) false m) ≡ cond ((p && (s || t)) && w) false m
marks_add false s t w m = refl
marks_add true false t w m = refl
marks_add true true false w m = refl
marks_add true true true true m = refl
marks_add true true true false m = refl

marks_more : (p s t o w m : Bool) → cond ((p && (t || o)) && w) false (cond ((p && s) && w) false m) ≡ cond ((p && ((s || t) || o)) && w) false m
marks_more false s t o w m = refl
marks_more true false t o w m = refl
marks_more true true false false w m = refl
marks_more true true true o true m = refl
marks_more true true true o false m = refl
marks_more true true false true true m = refl
marks_more true true false true false m = refl

pub unmarked_here : (p s w m : Bool) → s ≡ false → cond ((p && s) && w) false m ≡ m
unmarked_here true s w m e = ap (λ (b : Bool). cond (b && w) false m) e
unmarked_here false s w m e = refl

module _ {E : Type 0} (g : Ghosts E) (a b c : Linked E) (subs : Subscriptions) (place : ℕ) where
  same_due : (s : Those) → Passes g a b subs place s → (id : ℕ) (part : Part) → s id part ≡ false → is_due g b subs place id part ≡ is_due g a subs place id part
  same_due s w id part out =
      due_on g a b subs w.stays w.meaning place id part
      (w.marks place id part ∙ unmarked_here (place == place) (s id part) (is_watched g a subs place id part) (marked a place id part) out)

  later_marks : (x : Bool) (s : Those) → Passes g a b subs place s → (p id : ℕ) (part : Part) → marked c p id part ≡ cond ((p == place && x) && is_watched g b subs place id part) false (marked b p id part)
      → marked c p id part ≡ cond ((p == place && x) && is_watched g a subs place id part) false (cond ((p == place && s id part) && is_watched g a subs place id part) false (marked a p id part))
  later_marks x s w p id part e =
      e ∙ ap (λ (v : Bool). cond ((p == place && x) && v) false (marked b p id part)) (watched_on g a b subs w.stays place id part)
      ∙ ap (λ (m : Bool). cond ((p == place && x) && is_watched g a subs place id part) false m) (w.marks p id part)

  -- what is passed and then what is passed besides
  pub passes_more : (s t u : Those) → Passes g a b subs place s → Passes g b c subs place t → ((id : ℕ) (part : Part) → (s id part || t id part) ≡ u id part)
      → Passes g a c subs place u
  passes_more s t u w v same = record {
    stays = v.stays ∙ w.stays;
    meaning = v.meaning ∙ w.meaning;
    steady = v.steady ∙ w.steady;
    none = λ id part inside. elim (set_true (s id part) (t id part) (same id part ∙ inside)) [
      | inl first ↦ w.none id part first
      | inr later ↦ sym (same_due s w id part later.0) ∙ v.none id part later.1
    ];
    marks = λ p id part.
        later_marks (t id part) s w p id part (v.marks p id part)
        ∙ marks_add (p == place) (s id part) (t id part) (is_watched g a subs place id part) (marked a p id part)
        ∙ ap (λ (k : Bool). cond ((p == place && k) && is_watched g a subs place id part) false (marked a p id part)) (same id part);
  }

  -- what is passed and then an event
  pub gives_later : (s t u : Those) (after : Subscriptions) (id : ℕ) (part : Part) (count : ℕ) (into now : List ℕ)
      → Passes g a b subs place s → Gives g b c subs after place t id part count into now → s id part ≡ false
      → ((i : ℕ) (q : Part) → (s i q || t i q) ≡ u i q) → Gives g a c subs after place u id part count into now
  gives_later s t u after id part count into now w v out same =
      let here = bytes_on g a b w.stays w.meaning id part in
      record {
        stays = v.stays ∙ w.stays;
        meaning = v.meaning ∙ w.meaning;
        steady = v.steady ∙ w.steady;
        due = sym (same_due s w id part out) ∙ v.due;
        none = λ i q inside. elim (set_true (s i q) (t i q) (same i q ∙ inside)) [
          | inl first ↦ w.none i q first
          | inr later ↦ sym (same_due s w i q later.0) ∙ v.none i q later.1
        ];
        marks = λ p i q.
            later_marks (t i q || only id part i q) s w p i q (v.marks p i q)
            ∙ marks_more (p == place) (s i q) (t i q) (only id part i q) (is_watched g a subs place i q) (marked a p i q)
            ∙ ap (λ (k : Bool). cond ((p == place && (k || only id part i q)) && is_watched g a subs place i q) false (marked a p i q)) (same i q);
        posted = λ p i q. v.posted p i q ∙ ap (λ (bytes : List ℕ). with_event place id part bytes subs p i q) here;
        text = subst (λ (bytes : List ℕ). Puts (event_bytes id (letter_of part) bytes) count into now) here v.text;
      }

-- ---- no other parts

no_marks_change : (p w m : Bool) → m ≡ cond ((p && false) && w) false m
no_marks_change true w m = refl
no_marks_change false w m = refl

module _ {E : Type 0} (g : Ghosts E) (place : ℕ) where
  pub passes_same : (a b : Linked E) (subs : Subscriptions) (s u : Those) → ((i : ℕ) (q : Part) → s i q ≡ u i q) → Passes g a b subs place s → Passes g a b subs place u
  passes_same a b subs s u same w = record {
    stays = w.stays;
    meaning = w.meaning;
    steady = w.steady;
    none = λ i q inside. w.none i q (same i q ∙ inside);
    marks = λ p i q. w.marks p i q ∙ ap (λ (k : Bool). cond ((p == place && k) && is_watched g a subs place i q) false (marked a p i q)) (same i q);
  }

  pub passes_none : (a : Linked E) (subs : Subscriptions) → Passes g a a subs place none_of_them
  passes_none a subs = record {
    stays = refl;
    meaning = refl;
    steady = refl;
    none = λ i q inside. absurd (let wrong : false ≡ true = inside in cc);
    marks = λ p i q. no_marks_change (p == place) (is_watched g a subs place i q) (marked a p i q);
  }
