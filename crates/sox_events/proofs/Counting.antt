-- Parts that are counted.
use Rattle.std.proofs.Common.{ℕ, zero, suc, ◌≡◌, ◌<◌, ◌≤◌, ◌+◌, inl, inr, Bool, true, false, cond, List, is_some, refl, sym, ◌∙◌, ap, subst, arith}
use Rattle.std.proofs.lemmas.Bool.{and_right, cases_eq, eq-eqb, ne_eqb}
use Rattle.std.specs.Prelude.{◌==◌, ◌&&◌, ◌||◌, not}
use Rattle.sed_engine.specs.declared.engine.Engine.{Ghosts}
use Rattle.link_prop.specs.Linked.{Linked, one_if}
use Rattle.sub_table.specs.declared.part.Part.{Part}
use Rattle.sub_table.specs.declared.part.Part.TheVariants.{Tree, Config, Runtime, Links}
use Rattle.sub_table.specs.declared.table.SubTable.{SubTable}
use Rattle.sub_table.specs.Parts.{is_part}
use Rattle.sub_table.specs.Table.{Subscriptions, at}
use Rattle.sox_events.specs.Compared.{Counts, count_below, how_many, of_one, risen, was_compared}
use Rattle.sox_events.specs.Due.{Gives, Passes, Those, has_event, is_watched, lives, marked, only}

-- ---- a count

pub risen_more : (a x y : ℕ) → risen (risen a x) y ≡ risen a (x + y)
risen_more a x y = omega arith

pub risen_none : (a : ℕ) → risen a 0 ≡ a
risen_none a = omega arith

pub count_sum : (n : ℕ) (s t u : Those) → ((i : ℕ) (q : Part) → one_if (u i q) ≡ one_if (s i q) + one_if (t i q)) → count_below n u ≡ count_below n s + count_below n t
unfolding count_below
count_sum zero s t u e = refl
count_sum (suc n) s t u e = omega (arith, count_sum n s t u e, e n Tree, e n Config, e n Runtime, e n Links)

pub count_none : (n : ℕ) (s : Those) → ((i : ℕ) (q : Part) → s i q ≡ false) → count_below n s ≡ 0
unfolding count_below
count_none zero s e = refl
count_none (suc n) s e = omega (arith, count_none n s e, ap one_if (e n Tree), ap one_if (e n Config), ap one_if (e n Runtime), ap one_if (e n Links))

pub settled_sum : (e x y z : Bool) → (y ≡ true → x ≡ true) → (z ≡ true → y ≡ true) → one_if (e && (x && not z)) ≡ one_if (e && (x && not y)) + one_if (e && (y && not z))
settled_sum false x y z h k = refl
settled_sum true false false false h k = refl
settled_sum true true false false h k = refl
settled_sum true true true false h k = refl
settled_sum true true true true h k = refl
settled_sum true false true z h k = absurd (let wrong : false ≡ true = h refl in cc)
settled_sum true x false true h k = absurd (let wrong : false ≡ true = k refl in cc)

one_of_four : (part : Part) (b : Bool) → one_if (is_part part Tree && b) + one_if (is_part part Config && b) + one_if (is_part part Runtime && b) + one_if (is_part part Links && b) ≡ one_if b
one_of_four Tree false = refl
one_of_four Tree true = refl
one_of_four Config false = refl
one_of_four Config true = refl
one_of_four Runtime false = refl
one_of_four Runtime true = refl
one_of_four Links false = refl
one_of_four Links true = refl

here : (s : Those) (id : ℕ) (part : Part) (b : Bool) → ((i : ℕ) (q : Part) → s i q ≡ (only id part i q && b)) → (n : ℕ) → n ≡ id → of_one s n ≡ one_if b
here s id part b e n en =
    let at : (q : Part) → one_if (s n q) ≡ one_if (is_part part q && b) = λ q. ap one_if (e n q ∙ ap (λ (k : Bool). (k && is_part part q) && b) (eq-eqb n id en)) in
    omega (arith, at Tree, at Config, at Runtime, at Links, one_of_four part b)

elsewhere : (s : Those) (id : ℕ) (part : Part) (b : Bool) → ((i : ℕ) (q : Part) → s i q ≡ (only id part i q && b)) → (n : ℕ) → (n ≡ id → ⊥) → of_one s n ≡ 0
elsewhere s id part b e n en =
    let at : (q : Part) → one_if (s n q) ≡ 0 = λ q. ap one_if (e n q ∙ ap (λ (k : Bool). (k && is_part part q) && b) (ne_eqb n id en)) in
    omega (arith, at Tree, at Config, at Runtime, at Links)

count_before : (n : ℕ) (s : Those) (id : ℕ) (part : Part) (b : Bool) → ((i : ℕ) (q : Part) → s i q ≡ (only id part i q && b)) → n ≤ id → count_below n s ≡ 0
unfolding count_below
count_before zero s id part b e le = refl
count_before (suc n) s id part b e le = omega (arith, count_before n s id part b e (omega arith), elsewhere s id part b e n (λ en. absurd (omega arith)))

pub count_only : (n : ℕ) (s : Those) (id : ℕ) (part : Part) (b : Bool) → ((i : ℕ) (q : Part) → s i q ≡ (only id part i q && b)) → id < n → count_below n s ≡ one_if b
unfolding count_below
count_only zero s id part b e lt = absurd (omega arith)
count_only (suc n) s id part b e lt = elim (cases_eq n id) [
  | inl same ↦ omega (arith, count_before n s id part b e (omega arith), here s id part b e n same)
  | inr apart ↦ omega (arith, count_only n s id part b e (omega arith), elsewhere s id part b e n apart)
]

-- ---- from one application to the next

pub unmoved : (e m n : Bool) → n ≡ m → (e && (m && not n)) ≡ false
unmoved e true n en = ap (λ (b : Bool). e && not b) en ∙ nothing e
  where
    nothing : (b : Bool) → (b && false) ≡ false
    nothing true = refl
    nothing false = refl
unmoved true false n en = refl
unmoved false false n en = refl

module _ {E : Type 0} (place : ℕ) where
  pub counts_none : (a : Linked E) (subs : Subscriptions) (count : ℕ) → Counts a a subs place count count
  counts_none a subs count = record {
    clears = λ i q set. set;
    compared = sym (ap (risen count) (count_none 4096 (was_compared a a subs place) (λ i q. unmoved (has_event (subs place i q)) (marked a place i q) (marked a place i q) refl)) ∙ risen_none count);
  }

  counts_more : (a b c : Linked E) (subs : Subscriptions) (x y z : ℕ) → Counts a b subs place x y → Counts b c subs place y z → Counts a c subs place x z
  counts_more a b c subs x y z v w = record {
    clears = λ i q set. v.clears i q (w.clears i q set);
    compared =
        w.compared ∙ ap (λ (n : ℕ). risen n (how_many (was_compared b c subs place))) v.compared
        ∙ risen_more x (how_many (was_compared a b subs place)) (how_many (was_compared b c subs place))
        ∙ ap (risen x) (sym (count_sum 4096 (was_compared a b subs place) (was_compared b c subs place) (was_compared a c subs place)
        (λ i q. settled_sum (has_event (subs place i q)) (marked a place i q) (marked b place i q) (marked c place i q) (v.clears i q) (w.clears i q))));
  }

  -- the table stays so far
  pub counts_next : (a b c : Linked E) (t u : SubTable) (x y z : ℕ) → u ≡ t → Counts a b (at t) place x y → Counts b c (at u) place y z → Counts a c (at t) place x z
  counts_next a b c t u x y z eu v w = counts_more a b c (at t) x y z v (subst (λ (s : SubTable). Counts b c (at s) place y z) eu w)

-- ---- what is not marked

not_compared : (h x y k s l : Bool) → y ≡ cond (k && (s && l)) false x → (l ≡ true → h ≡ true → x ≡ false) → (h && (x && not y)) ≡ false
not_compared true x y k s true e clear = ap (λ (b : Bool). b && not y) (clear refl refl)
not_compared false x y k s true e clear = refl
not_compared h x y k s false e clear = unmoved h x y (e ∙ ap (λ (b : Bool). cond b false x) (and_right k (s && false) (and_right s false refl)))

module _ {E : Type 0} (g : Ghosts E) (a b : Linked E) (subs : Subscriptions) (place : ℕ)
    (clear : (i : ℕ) (q : Part) → lives g a i ≡ true → has_event (subs place i q) ≡ true → marked a place i q ≡ false) where
  stays_so : (k : ℕ → Part → Bool) → ((i : ℕ) (q : Part) → marked b place i q ≡ cond (k i q && is_watched g a subs place i q) false (marked a place i q))
      → (count : ℕ) → risen count (how_many (was_compared a b subs place)) ≡ count
  stays_so k marks count =
      ap (risen count) (count_none 4096 (was_compared a b subs place)
      (λ i q. not_compared (has_event (subs place i q)) (marked a place i q) (marked b place i q) (k i q) (is_some (subs place i q)) (lives g a i) (marks i q) (clear i q)))
      ∙ risen_none count

  pub nothing_compared : (passed : Those) → Passes g a b subs place passed → (count : ℕ) → risen count (how_many (was_compared a b subs place)) ≡ count
  nothing_compared passed w = stays_so (λ i q. place == place && passed i q) (w.marks place)

  pub nothing_compared_then : (after : Subscriptions) (passed : Those) (id : ℕ) (part : Part) (length : ℕ) (into now : List ℕ) → Gives g a b subs after place passed id part length into now
      → (count : ℕ) → risen count (how_many (was_compared a b subs place)) ≡ count
  nothing_compared_then after passed id part length into now w = stays_so (λ i q. place == place && (passed i q || only id part i q)) (w.marks place)
