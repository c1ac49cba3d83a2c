-- The marks agree with the subscriptions after parts were passed and after an event was given.
use Rattle.std.proofs.Common.{ℕ, ◌≡◌, inl, inr, Bool, true, false, cond, List, Option, Some, None, refl, sym, ◌∙◌, ap}
use Rattle.std.proofs.lemmas.Bool.{and_parts, cases_Bool, eqb-true, eq-eqb}
use Rattle.std.proofs.lemmas.Cmp.{nat_list_eq_equiv}
use Rattle.std.specs.Prelude.{◌==◌, ◌&&◌, ◌||◌, not, nat_eq, is_some}
use Rattle.std.specs.Option.{option_map_or}
use Rattle.std.specs.Cmp.Lexicographic.{pointwise, same_text}
use Rattle.sed_engine.specs.declared.engine.Engine.{Ghosts}
use Rattle.link_prop.specs.Linked.{Linked}
use Rattle.sub_table.specs.declared.part.Part.{Part}
use Rattle.sub_table.specs.Parts.{is_part}
use Rattle.sub_table.specs.Table.{Subscriptions, is_at}
use Rattle.sox_events.specs.Due.{AllMarksAgree, Gives, MarksAgree, Passes, Those, bytes_of, differs, is_due, is_due_after, is_watched, lives, marked, only}
use Rattle.sox_events.proofs.OnePart.{meant}
use Rattle.sox_events.proofs.Passing.{bytes_on}

-- ---- what agrees

not_false : (b : Bool) → not b ≡ false → b ≡ true
not_false true e = refl
not_false false e = absurd (let wrong : true ≡ false = e in cc)

walked : (c m n : Bool) → n ≡ cond c false m → m ≡ true → n ≡ false → c ≡ true
walked true m n e em en = refl
walked false m n e em en = absurd (let wrong : true ≡ false = sym em ∙ sym e ∙ en in cc)

same_bytes : (l m : Bool) (bytes now : List ℕ) → l ≡ true → m ≡ true → (l && (m && not (pointwise nat_eq bytes now))) ≡ false → now ≡ bytes
same_bytes l m bytes now el em e =
    let apart : not (pointwise nat_eq bytes now) ≡ false =
    sym (ap (λ (b : Bool). b && (m && not (pointwise nat_eq bytes now))) el ∙ ap (λ (b : Bool). b && not (pointwise nat_eq bytes now)) em) ∙ e in
    sym (same_text bytes now (sym (not_false (pointwise nat_eq bytes now) apart)))

module _ {E : Type 0} (g : Ghosts E) (a b : Linked E) (subs : Subscriptions) (place : ℕ) where
  -- a part with a last event and no mark now: it had none before, or it was passed, so it was not due
  agrees_here : (k : Bool) (i : ℕ) (q : Part) (bytes : List ℕ) → AllMarksAgree g a subs → subs place i q ≡ Some (Some bytes)
      → marked b place i q ≡ cond (k && is_watched g a subs place i q) false (marked a place i q)
      → (k ≡ true → is_due g a subs place i q ≡ false) → marked b place i q ≡ false → bytes_of g a i q ≡ bytes
  agrees_here k i q bytes agree e em passed clear = elim (cases_Bool (marked a place i q)) [
    | inr before ↦ agree place i q bytes e before
    | inl set ↦
        let both = and_parts k (is_watched g a subs place i q) (walked (k && is_watched g a subs place i q) (marked a place i q) (marked b place i q) em set clear) in
        let live = and_parts (is_some (subs place i q)) (lives g a i) both.1 in
        same_bytes (lives g a i) (marked a place i q) bytes (bytes_of g a i q) live.1 set
        (sym (ap (λ (o : Option (Option (List ℕ))). option_map_or (is_due_after g a place i q) o false) e) ∙ passed both.0)
  ]

  agrees_still : (k : ℕ → Bool) (p i : ℕ) (q : Part) (bytes : List ℕ) → AllMarksAgree g a subs → subs p i q ≡ Some (Some bytes)
      → marked b p i q ≡ cond ((p == place && k p) && is_watched g a subs place i q) false (marked a p i q)
      → (p ≡ place → k p ≡ true → is_due g a subs place i q ≡ false) → marked b p i q ≡ false → bytes_of g a i q ≡ bytes
  agrees_still k p i q bytes agree e em passed clear = elim (cases_Bool (p == place)) [
    | inl same ↦
        let here : p ≡ place = eqb-true p place same in
        agrees_here (p == place && k p) i q bytes agree
        (ap (λ (n : ℕ). subs n i q) (sym here) ∙ e)
        (ap (λ (n : ℕ). marked b n i q) (sym here) ∙ em ∙ ap (λ (n : ℕ). cond ((p == place && k p) && is_watched g a subs place i q) false (marked a n i q)) here)
        (λ both. passed here (and_parts (p == place) (k p) both).1)
        (ap (λ (n : ℕ). marked b n i q) (sym here) ∙ clear)
    | inr other ↦
        agree p i q bytes e
        (sym (em ∙ ap (λ (t : Bool). cond ((t && k p) && is_watched g a subs place i q) false (marked a p i q)) other) ∙ clear)
  ]

  pub passing_agrees : (passed : Those) → Passes g a b subs place passed → AllMarksAgree g a subs → AllMarksAgree g b subs
  passing_agrees passed w agree p i q bytes e clear =
      bytes_on g a b w.stays w.meaning i q
      ∙ agrees_still (λ n. passed i q) p i q bytes agree e (w.marks p i q) (λ here inside. w.none i q inside) clear

some_last : (a b : List ℕ) → Some (Some a) ≡ Some (Some b) → a ≡ b
some_last a b e = cc

not_given : (p e o : Bool) → ((p && e) && o) ≡ false → p ≡ true → (e && o) ≡ false
not_given p e o out ep = sym (ap (λ (b : Bool). (b && e) && o) ep) ∙ out

passed_then : (s o : Bool) → (s || o) ≡ true → o ≡ false → s ≡ true
passed_then true o e out = refl
passed_then false o e out = absurd (let wrong : true ≡ false = sym e ∙ out in cc)

module _ {E : Type 0} (g : Ghosts E) (a b : Linked E) (subs after : Subscriptions) (place : ℕ) (passed : Those) (id : ℕ) (part : Part) (count : ℕ) (into now : List ℕ)
    (w : Gives g a b subs after place passed id part count into now) where
  pub giving_agrees : AllMarksAgree g a subs → AllMarksAgree g b after
  giving_agrees agree p i q bytes e clear =
      bytes_on g a b w.stays w.meaning i q ∙ elim (cases_Bool (is_at place id p i && is_part part q)) [
        | inl given ↦
            let both = and_parts (is_at place id p i) (is_part part q) given in
            let there = and_parts (p == place) (i == id) both.0 in
            ap (λ (n : ℕ). bytes_of g a n q) (eqb-true i id there.1) ∙ ap (λ (x : Part). bytes_of g a id x) (sym (meant part q both.1))
            ∙ some_last (bytes_of g a id part) bytes
            (sym (w.posted p i q ∙ ap (λ (t : Bool). cond t (Some (Some (bytes_of g a id part))) (subs p i q)) given) ∙ e)
        | inr other ↦
            agrees_still g a b subs place (λ n. passed i q || only id part i q) p i q bytes agree
            (sym (w.posted p i q ∙ ap (λ (t : Bool). cond t (Some (Some (bytes_of g a id part))) (subs p i q)) other) ∙ e)
            (w.marks p i q)
            (λ here inside. w.none i q (passed_then (passed i q) (only id part i q) inside
            (not_given (p == place) (i == id) (is_part part q) other (eq-eqb p place here))))
            clear
      ]

-- ---- what differs

same_verdict : (o : Option (Option (List ℕ))) (l m : Bool) (now : List ℕ) → ((bytes : List ℕ) → l ≡ true → o ≡ Some (Some bytes) → m ≡ false → now ≡ bytes)
    → option_map_or (λ (last : Option (List ℕ)). l && option_map_or (λ (b : List ℕ). m && not (pointwise nat_eq b now)) last true) o false
    ≡ option_map_or (λ (last : Option (List ℕ)). l && option_map_or (λ (b : List ℕ). not (pointwise nat_eq b now)) last true) o false
same_verdict None l m now agree = refl
same_verdict (Some None) l m now agree = refl
same_verdict (Some (Some bytes)) false m now agree = refl
same_verdict (Some (Some bytes)) true true now agree = refl
same_verdict (Some (Some bytes)) true false now agree =
    ap (λ (b : Bool). true && b) (sym (ap (λ (b : List ℕ). not (pointwise nat_eq bytes b)) (agree bytes refl refl refl) ∙ ap not (itself bytes)))
  where
    itself : (bytes : List ℕ) → pointwise nat_eq bytes bytes ≡ true
    itself bytes = nat_list_eq_equiv.refl bytes

module _ {E : Type 0} (g : Ghosts E) (a b : Linked E) (subs : Subscriptions) (place : ℕ) (agree : MarksAgree g a subs) where
  pub due_differs : (i : ℕ) (q : Part) → is_due g a subs place i q ≡ differs g a subs place i q
  due_differs i q = same_verdict (subs place i q) (lives g a i) (marked a place i q) (bytes_of g a i q) (λ bytes live e clear. agree place i q bytes live e clear)

  pub passed_same : (passed : Those) → Passes g a b subs place passed → (i : ℕ) (q : Part) → passed i q ≡ true → differs g a subs place i q ≡ false
  passed_same passed w i q inside = sym (due_differs i q) ∙ w.none i q inside

  pub given_first : (after : Subscriptions) (passed : Those) (id : ℕ) (part : Part) (count : ℕ) (into now : List ℕ) → Gives g a b subs after place passed id part count into now
      → (differs g a subs place id part ≡ true) × ((i : ℕ) (q : Part) → passed i q ≡ true → differs g a subs place i q ≡ false)
  given_first after passed id part count into now w = (sym (due_differs id part) ∙ w.due, λ i q inside. sym (due_differs i q) ∙ w.none i q inside)
