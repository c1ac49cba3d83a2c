-- One part is passed, or its event is given.
use Rattle.std.proofs.Common.{ℕ, ◌≡◌, Bool, true, false, cond, List, Option, Some, None, refl, sym, ◌∙◌, ap, subst, eq-eqb, ◌<◌, inl, inr}
use Rattle.std.proofs.lemmas.Bool.{and_parts, eqb-true, cases_Bool}
use Rattle.std.specs.Prelude.{◌==◌, ◌&&◌, not, nat_eq, if◌then◌else◌, is_some}
use Rattle.std.specs.Option.{option_map_or}
use Rattle.std.specs.Cmp.Lexicographic.{pointwise}
use Rattle.sed_engine.specs.declared.engine.Engine.{Ghosts}
use Rattle.link_prop.specs.Linked.{Linked, application_of}
use Rattle.link_prop.specs.Marks.{AppPart, is_in_mask, is_marked}
use Rattle.sub_table.specs.declared.part.Part.{Part}
use Rattle.sub_table.specs.declared.part.Part.TheVariants.{Tree, Config, Runtime, Links}
use Rattle.sub_table.specs.Parts.{is_part}
use Rattle.sub_table.specs.Table.{Subscriptions, with_event}
use Rattle.sox_msg.specs.Reply.{Puts, event_bytes}
use Rattle.sox_events.specs.Due.{Gives, Passes, app_part, bit_of, bytes_of, has_event, is_last, may_be_due, none_of_them, is_due, is_watched, letter_of, lives, marked, only}
use Rattle.link_prop.specs.Linked.{one_if}
use Rattle.sox_events.specs.Compared.{Counts, risen, was_compared}
use Rattle.sox_events.proofs.Counting.{count_only, unmoved}
use Rattle.sox_events.proofs.Passing.{unmarked_here}
pub use Rattle.sub_table.proofs.TableLemmas.{meant}

bit_is : (part other : Part) → is_in_mask (bit_of part) (app_part other) ≡ is_part part other
bit_is Tree Tree = refl
bit_is Tree Config = refl
bit_is Tree Runtime = refl
bit_is Tree Links = refl
bit_is Config Tree = refl
bit_is Config Config = refl
bit_is Config Runtime = refl
bit_is Config Links = refl
bit_is Runtime Tree = refl
bit_is Runtime Config = refl
bit_is Runtime Runtime = refl
bit_is Runtime Links = refl
bit_is Links Tree = refl
bit_is Links Config = refl
bit_is Links Runtime = refl
bit_is Links Links = refl

settled_marks : (e p o w m : Bool) → (e ≡ true → o ≡ true → w ≡ true) → cond ((e && p) && o) false m ≡ cond ((p && (e && o)) && w) false m
settled_marks false false o w m k = refl
settled_marks false true o w m k = refl
settled_marks true false o w m k = refl
settled_marks true true false w m k = refl
settled_marks true true true w m k = sym (ap (λ (b : Bool). cond b false m) (k refl refl))

verdict_is : (o : Option (Option (List ℕ))) (l m v : Bool) (bytes now : List ℕ) → l ≡ true → bytes ≡ now → may_be_due o m ≡ true → is_last bytes o ≡ v
    → option_map_or (λ (last : Option (List ℕ)). l && option_map_or (λ (b : List ℕ). m && not (pointwise nat_eq b now)) last true) o false ≡ not v
verdict_is None l m v bytes now el eb may ev = absurd (let wrong : false ≡ true = may in cc)
verdict_is (Some None) l m v bytes now el eb may ev = ap (λ (b : Bool). b && true) el ∙ ap not ev
verdict_is (Some (Some last)) l m v bytes now el eb may ev =
    ap (λ (b : Bool). b && (m && not (pointwise nat_eq last now))) el ∙ ap (λ (b : Bool). b && not (pointwise nat_eq last now)) may
    ∙ ap (λ (b : List ℕ). not (pointwise nat_eq last b)) (sym eb) ∙ ap not ev

has_some : (o : Option (Option (List ℕ))) (m : Bool) → may_be_due o m ≡ true → is_some o ≡ true
has_some None m may = absurd (let wrong : false ≡ true = may in cc)
has_some (Some last) m may = refl

module _ {E : Type 0} (g : Ghosts E) (a b : Linked E) (subs : Subscriptions) (place id : ℕ) (part : Part) (bit : ℕ) (live : lives g a id ≡ true)
    (may : may_be_due (subs place id part) (marked a place id part) ≡ true) (eb : bit ≡ bit_of part)
    (marks : (other at : ℕ) (q : AppPart) → is_marked b other at q ≡ (if ((other == id) && (at == place)) && is_in_mask bit q then false else is_marked a other at q)) where
  watched_here : (i : ℕ) (q : Part) → (i == id) ≡ true → is_part part q ≡ true → is_watched g a subs place i q ≡ true
  watched_here i q ei eq' =
      ap (λ (k : ℕ). is_watched g a subs place k q) (eqb-true i id ei) ∙ ap (λ (k : Part). is_watched g a subs place id k) (sym (meant part q eq'))
      ∙ ap (λ (s : Bool). s && lives g a id) (has_some (subs place id part) (marked a place id part) may) ∙ live

  settled : (p i : ℕ) (q : Part) → marked b p i q ≡ (if (p == place && only id part i q) && is_watched g a subs place i q then false else marked a p i q)
  settled p i q =
      marks i p (app_part q)
      ∙ ap (λ (k : ℕ). cond (((i == id) && (p == place)) && is_in_mask k (app_part q)) false (marked a p i q)) eb
      ∙ ap (λ (k : Bool). cond (((i == id) && (p == place)) && k) false (marked a p i q)) (bit_is part q)
      ∙ settled_marks (i == id) (p == place) (is_part part q) (is_watched g a subs place i q) (marked a p i q) (watched_here i q)

  only_here : (i : ℕ) (q : Part) → only id part i q ≡ true → is_due g a subs place id part ≡ false → is_due g a subs place i q ≡ false
  only_here i q inside e =
      let both = and_parts (i == id) (is_part part q) inside in
      ap (λ (k : ℕ). is_due g a subs place k q) (eqb-true i id both.0) ∙ ap (λ (k : Part). is_due g a subs place id k) (sym (meant part q both.1)) ∙ e

  module _ (stays : application_of g b ≡ application_of g a) (meaning : g.meaning b.tree.engine ≡ g.meaning a.tree.engine)
      (steady : g.fixed b.tree.engine ≡ g.fixed a.tree.engine) (bytes : List ℕ) (is : bytes ≡ bytes_of g a id part) where
    pub passes_one : is_last bytes (subs place id part) ≡ true → Passes g a b subs place (only id part)
    passes_one ev =
        let no : is_due g a subs place id part ≡ false = verdict_is (subs place id part) (lives g a id) (marked a place id part) true bytes (bytes_of g a id part) live is may ev in
        record { stays = stays; meaning = meaning; steady = steady; none = λ i q inside. only_here i q inside no; marks = settled }

    pub gives_one : (after : Subscriptions) (count : ℕ) (into now : List ℕ) → is_last bytes (subs place id part) ≡ false
        → ((p i : ℕ) (q : Part) → after p i q ≡ with_event place id part bytes subs p i q)
        → Puts (event_bytes id (letter_of part) bytes) count into now
        → Gives g a b subs after place none_of_them id part count into now
    gives_one after count into now ev posted text = record {
      stays = stays;
      meaning = meaning;
      steady = steady;
      due = verdict_is (subs place id part) (lives g a id) (marked a place id part) false bytes (bytes_of g a id part) live is may ev;
      none = λ i q inside. absurd (let wrong : false ≡ true = inside in cc);
      marks = settled;
      posted = λ p i q. posted p i q ∙ ap (λ (x : List ℕ). with_event place id part x subs p i q) is;
      text = subst (λ (x : List ℕ). Puts (event_bytes id (letter_of part) x) count into now) is text;
    }

-- ---- whether it is compared

told : (kept : Option (Option (List ℕ))) (m n : Bool) → may_be_due kept m ≡ true → n ≡ false → (has_event kept && (m && not n)) ≡ has_event kept
told None m n may en = refl
told (Some None) m n may en = refl
told (Some (Some last)) m n may en = ap (λ (b : Bool). b && not n) may ∙ ap not en

cleared : (p s w m : Bool) → p ≡ true → s ≡ true → w ≡ true → cond ((p && s) && w) false m ≡ false
cleared p s w m ep es ew =
    ap (λ (b : Bool). cond ((b && s) && w) false m) ep ∙ ap (λ (b : Bool). cond (b && w) false m) es ∙ ap (λ (b : Bool). cond b false m) ew

clears_only : (k m n : Bool) → n ≡ cond k false m → n ≡ true → m ≡ true
clears_only true m n e set = absurd (let wrong : false ≡ true = sym e ∙ set in cc)
clears_only false m n e set = sym e ∙ set

module _ {E : Type 0} (g : Ghosts E) (a b : Linked E) (subs : Subscriptions) (place id : ℕ) (part : Part) (bit : ℕ) (live : lives g a id ≡ true)
    (may : may_be_due (subs place id part) (marked a place id part) ≡ true) (eb : bit ≡ bit_of part)
    (marks : (other at : ℕ) (q : AppPart) → is_marked b other at q ≡ (if ((other == id) && (at == place)) && is_in_mask bit q then false else is_marked a other at q)) where
  now_clear : only id part id part ≡ true → marked b place id part ≡ false
  now_clear itself =
      let both = and_parts (id == id) (is_part part part) itself in
      settled g a b subs place id part bit live may eb marks place id part
      ∙ cleared (place == place) (only id part id part) (is_watched g a subs place id part) (marked a place id part) (eq-eqb place place refl) itself
      (watched_here g a b subs place id part bit live may eb marks id part both.0 both.1)

  compared_here : (i : ℕ) (q : Part) → was_compared a b subs place i q ≡ (only id part i q && has_event (subs place id part))
  compared_here i q = elim (cases_Bool (only id part i q)) [
    | inl inside ↦
        let both = and_parts (i == id) (is_part part q) inside in
        let ei : i ≡ id = eqb-true i id both.0 in
        let ep : part ≡ q = meant part q both.1 in
        let itself : only id part id part ≡ true = ap (λ (k : ℕ). only id part k part) (sym ei) ∙ ap (λ (k : Part). only id part i k) ep ∙ inside in
        ap (λ (k : ℕ). was_compared a b subs place k q) ei ∙ ap (λ (k : Part). was_compared a b subs place id k) (sym ep)
        ∙ told (subs place id part) (marked a place id part) (marked b place id part) may (now_clear itself)
        ∙ sym (ap (λ (k : Bool). k && has_event (subs place id part)) inside)
    | inr out ↦
        unmoved (has_event (subs place i q)) (marked a place i q) (marked b place i q)
        (settled g a b subs place id part bit live may eb marks place i q
        ∙ unmarked_here (place == place) (only id part i q) (is_watched g a subs place i q) (marked a place i q) out)
        ∙ sym (ap (λ (k : Bool). k && has_event (subs place id part)) out)
  ]

  pub counts_one : (before after : ℕ) → id < 4096 → after ≡ risen before (one_if (has_event (subs place id part))) → Counts a b subs place before after
  counts_one before after bound e = record {
    clears = λ i q set.
        clears_only ((place == place && only id part i q) && is_watched g a subs place i q) (marked a place i q) (marked b place i q)
        (settled g a b subs place id part bit live may eb marks place i q) set;
    compared = e ∙ ap (risen before) (sym (count_only 4096 (was_compared a b subs place) id part (has_event (subs place id part)) compared_here bound));
  }
