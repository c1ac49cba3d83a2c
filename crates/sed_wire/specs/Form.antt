-- Forms of bytes, and how forms are put together.
--
-- A form says which bytes spell a thing, and at which field bytes fault it: `faults bytes rest` where the first field
-- that is cut or not allowed stands at the front of the rest. Beside that it has a reading from left to right, which a
-- reader follows, with the proofs that reading finds just what is spelled and gets stuck just at faults. So a grammar
-- of such forms is written once: a thing has at most one spelling, bytes begin with the spelling of one thing or fault
-- at one field, and never both.
use Rattle.std.specs.Prelude.{◌≡◌, ◌⊎◌, ℕ, Bool, true, false, List, [], ◌++◌, refl}
use Rattle.std.proofs.Common.{inl, inr, ap, sym, subst, ◌∙◌}
use Rattle.std.proofs.lemmas.List.{append_assoc}
use Rattle.sed_wire.specs.FormSpelling.{Begins, IsLeft, FieldFaults, ThenSpells, ThenFaults, OnlySpells, OnlyFaults}
use Rattle.sed_wire.specs.FormSpelling.{GivenSpells, NeverFaults}
use Rattle.sed_wire.specs.FormReading.{Reading, Found, Stuck, ReadsAs, read_on}

pub record Form (A : Type 0) : Type 1 where
  pub spells : A → List ℕ → Type 0
  pub faults : List ℕ → List ℕ → Type 0
  pub reads : ReadsAs A
  pub one : (a : A) (s t : List ℕ) → spells a s → spells a t → s ≡ t
  pub sound : (bytes : List ℕ) (a : A) (rest : List ℕ) → reads bytes ≡ Found a rest → Begins (spells a) bytes rest
  pub whole : (a : A) (front rest : List ℕ) → spells a front → reads (front ++ rest) ≡ Found a rest
  pub stuck : (bytes rest : List ℕ) → reads bytes ≡ Stuck rest → faults bytes rest
  pub fault : (bytes rest : List ℕ) → faults bytes rest → reads bytes ≡ Stuck rest
  pub left : (bytes rest : List ℕ) → faults bytes rest → IsLeft bytes rest

-- ---- what readings come to

pub found_eq : {A : Type 0} (a : A) (bytes : List ℕ) (b : A) (rest : List ℕ)
    → Found a bytes ≡ Found b rest → (a ≡ b) × (bytes ≡ rest)
found_eq a bytes b rest e = (cc, cc)

pub found_again : {A : Type 0} (a : A) (bytes : List ℕ) (b : A) (rest : List ℕ)
    → a ≡ b → bytes ≡ rest → Found a bytes ≡ Found b rest
found_again a bytes b rest p q = cc

pub stuck_eq : {A : Type 0} (bytes rest : List ℕ) → ◌≡◌ {A = Reading A} (Stuck bytes) (Stuck rest) → bytes ≡ rest
stuck_eq bytes rest e = cc

pub stuck_again : {A : Type 0} (bytes rest : List ℕ) → bytes ≡ rest → ◌≡◌ {A = Reading A} (Stuck bytes) (Stuck rest)
stuck_again bytes rest e = cc

pub not_found : {A : Type 0} (bytes rest : List ℕ) (a : A) → Stuck bytes ≡ Found a rest → ⊥
not_found bytes rest a e = cc

pub not_stuck : {A : Type 0} (bytes rest : List ℕ) (a : A) → Found a bytes ≡ Stuck rest → ⊥
not_stuck bytes rest a e = cc

pub on_found : {A B : Type 0} (o : Reading A) (next : A → ReadsAs B) (b : B) (rest : List ℕ)
    → read_on o next ≡ Found b rest
    → (a : A) × (middle : List ℕ) × (o ≡ Found a middle) × (next a middle ≡ Found b rest)
on_found (Stuck far) next b rest e = absurd (not_found far rest b e)
on_found (Found a middle) next b rest e = (a, middle, refl, e)

pub on_stuck : {A B : Type 0} (o : Reading A) (next : A → ReadsAs B) (rest : List ℕ) → read_on o next ≡ Stuck rest
    → (o ≡ Stuck rest) ⊎ ((a : A) × (middle : List ℕ) × (o ≡ Found a middle) × (next a middle ≡ Stuck rest))
on_stuck {A} {B} (Stuck far) next rest e = inl (stuck_again {A = A} far rest (stuck_eq {A = B} far rest e))
on_stuck (Found a middle) next rest e = inr (a, middle, refl, e)

pub on_whole : {A B : Type 0} (o : Reading A) (next : A → ReadsAs B) (a : A) (middle : List ℕ) (answer : Reading B)
    → o ≡ Found a middle → next a middle ≡ answer → read_on o next ≡ answer
on_whole o next a middle answer p q = rw p q

pub on_none : {A B : Type 0} (o : Reading A) (next : A → ReadsAs B) (rest : List ℕ)
    → o ≡ Stuck rest → read_on o next ≡ Stuck rest
on_none o next rest p = rw p refl

-- what is begun, of equal things and with an equal rest
pub begins_again : {A : Type 0} (Spells : A → List ℕ → Type 0) (bytes : List ℕ) (a b : A) (r s : List ℕ)
    → a ≡ b → r ≡ s → Begins (Spells a) bytes r → Begins (Spells b) bytes s
begins_again {A} Spells bytes a b r s p q begun =
    subst (λ (x : A). Begins (Spells x) bytes s) p (subst (λ (x : List ℕ). Begins (Spells a) bytes x) q begun)

-- ---- a field

pub field_none : {A : Type 0} (spells : A → List ℕ → Type 0) (reads : ReadsAs A)
    → ((a : A) (front rest : List ℕ) → spells a front → reads (front ++ rest) ≡ Found a rest)
    → (bytes rest : List ℕ) (a : A) (behind : List ℕ) → reads bytes ≡ Stuck rest → Begins (spells a) bytes behind → ⊥
field_none spells reads whole bytes rest a behind e (front, spelled, parted) =
    not_found rest behind a (sym e ∙ ap reads parted ∙ whole a front behind spelled)

pub field_stuck : {A : Type 0} (spells : A → List ℕ → Type 0) (reads : ReadsAs A)
    → ((bytes : List ℕ) (a : A) (rest : List ℕ) → reads bytes ≡ Found a rest → Begins (spells a) bytes rest)
    → ((bytes rest : List ℕ) → reads bytes ≡ Stuck rest → bytes ≡ rest)
    → (bytes rest : List ℕ) → FieldFaults spells bytes rest → reads bytes ≡ Stuck rest
field_stuck {A} spells reads sound stays bytes rest h = by_answer (reads bytes) refl
  where
    by_answer : (o : Reading A) → reads bytes ≡ o → reads bytes ≡ Stuck rest
    by_answer (Found a behind) e = absurd (h.0 a behind (sound bytes a behind e))
    by_answer (Stuck far) e = e ∙ stuck_again {A = A} far rest (sym (stays bytes far e) ∙ h.1)

abbrev pub field : {A : Type 0} → (spells : A → List ℕ → Type 0) → (reads : ReadsAs A)
    → (one : (a : A) (s t : List ℕ) → spells a s → spells a t → s ≡ t)
    → (sound : (bytes : List ℕ) (a : A) (rest : List ℕ) → reads bytes ≡ Found a rest → Begins (spells a) bytes rest)
    → (whole : (a : A) (front rest : List ℕ) → spells a front → reads (front ++ rest) ≡ Found a rest)
    → (stays : (bytes rest : List ℕ) → reads bytes ≡ Stuck rest → bytes ≡ rest)
    → Form A
field spells reads one sound whole stays = record {
  spells = spells;
  faults = FieldFaults spells;
  reads = reads;
  one = one;
  sound = sound;
  whole = whole;
  stuck = λ bytes rest e. (
    λ a behind begins. field_none spells reads whole bytes rest a behind e begins,
    stays bytes rest e,
  );
  fault = field_stuck spells reads sound stays;
  left = λ bytes rest h. ([], h.1);
}

-- ---- one form behind another, which may depend on what the first one spells

abbrev pub pair_reads : {A B : Type 0} → A → Reading B → Reading (A × B)
pair_reads a second = read_on second (λ b rest. Found (a, b) rest)

abbrev pub then_reads : {A B : Type 0} → ReadsAs A → (A → ReadsAs B) → ReadsAs (A × B)
then_reads p q bytes = read_on (p bytes) (λ a middle. pair_reads a (q a middle))

pub then_sound : {A B : Type 0} (p : Form A) (f : A → Form B) (bytes : List ℕ) (both : A × B) (rest : List ℕ)
    → then_reads p.reads (λ a. (f a).reads) bytes ≡ Found both rest
    → Begins (ThenSpells p.spells (λ a. (f a).spells) both) bytes rest
then_sound {A} {B} p f bytes both rest e =
    let s = on_found (p.reads bytes) (λ a middle. pair_reads a ((f a).reads middle)) both rest e in
    let t = on_found ((f s.0).reads s.1) (λ b behind. Found (s.0, b) behind) both rest s.3 in
    let g = found_eq {A = A × B} (s.0, t.0) t.1 both rest t.3 in
    let first = p.sound bytes s.0 s.1 s.2 in
    let second = (f s.0).sound s.1 t.0 t.1 t.2 in
    let all : Begins (ThenSpells p.spells (λ a. (f a).spells) (s.0, t.0)) bytes t.1 = (
      first.0 ++ second.0,
      (first.0, second.0, first.1, second.1, refl),
      first.2 ∙ ap (λ (r : List ℕ). first.0 ++ r) second.2 ∙ sym (append_assoc first.0 second.0 t.1),
    ) in
    begins_again (ThenSpells p.spells (λ a. (f a).spells)) bytes (s.0, t.0) both t.1 rest g.0 g.1 all

pub then_whole : {A B : Type 0} (p : Form A) (f : A → Form B) (both : A × B) (front rest : List ℕ)
    → ThenSpells p.spells (λ a. (f a).spells) both front
    → then_reads p.reads (λ a. (f a).reads) (front ++ rest) ≡ Found both rest
then_whole {A} {B} p f both front rest (first, second, begun, followed, parted) =
    let together : front ++ rest ≡ first ++ (second ++ rest) =
    ap (λ (s : List ℕ). s ++ rest) parted ∙ append_assoc first second rest in
    ap (then_reads p.reads (λ a. (f a).reads)) together
    ∙ on_whole (p.reads (first ++ (second ++ rest))) (λ a middle. pair_reads a ((f a).reads middle))
    both.0 (second ++ rest) _
    (p.whole both.0 first (second ++ rest) begun)
    (on_whole ((f both.0).reads (second ++ rest)) (λ b behind. Found (both.0, b) behind)
    both.1 rest _ ((f both.0).whole both.1 second rest followed) refl)

pub then_one : {A B : Type 0} (p : Form A) (f : A → Form B) (both : A × B) (s t : List ℕ)
    → ThenSpells p.spells (λ a. (f a).spells) both s → ThenSpells p.spells (λ a. (f a).spells) both t → s ≡ t
then_one p f both s t (a, b, begun, followed, parted) (c, d, begun2, followed2, parted2) =
    let first : a ≡ c = p.one both.0 a c begun begun2 in
    let second : b ≡ d = (f both.0).one both.1 b d followed followed2 in
    parted ∙ ap (λ (x : List ℕ). x ++ b) first ∙ ap (λ (x : List ℕ). c ++ x) second ∙ sym parted2

pub then_stuck : {A B : Type 0} (p : Form A) (f : A → Form B) (bytes rest : List ℕ)
    → then_reads {B = B} p.reads (λ a. (f a).reads) bytes ≡ Stuck rest
    → ThenFaults p.spells p.faults (λ a. (f a).faults) bytes rest
then_stuck {A} {B} p f bytes rest e =
    by_first (on_stuck (p.reads bytes) (λ a middle. pair_reads a ((f a).reads middle)) rest e)
  where
    by_second : (a : A) (middle : List ℕ) → ((f a).reads middle ≡ Stuck rest)
        ⊎ ((b : B) × (behind : List ℕ) × ((f a).reads middle ≡ Found b behind)
        × (◌≡◌ {A = Reading (A × B)} (Found (a, b) behind) (Stuck rest)))
        → (f a).faults middle rest
    by_second a middle (inl h) = (f a).stuck middle rest h
    by_second a middle (inr h) = absurd (not_stuck {A = A × B} h.1 rest (a, h.0) h.3)

    by_first : (p.reads bytes ≡ Stuck rest)
        ⊎ ((a : A) × (middle : List ℕ) × (p.reads bytes ≡ Found a middle)
        × (pair_reads a ((f a).reads middle) ≡ Stuck rest))
        → ThenFaults p.spells p.faults (λ a. (f a).faults) bytes rest
    by_first (inl h) = inl (p.stuck bytes rest h)
    by_first (inr h) = inr (
      h.0,
      h.1,
      p.sound bytes h.0 h.1 h.2,
      by_second h.0 h.1 (on_stuck ((f h.0).reads h.1) (λ b behind. Found (h.0, b) behind) rest h.3),
    )

pub then_fault : {A B : Type 0} (p : Form A) (f : A → Form B) (bytes rest : List ℕ)
    → ThenFaults p.spells p.faults (λ a. (f a).faults) bytes rest
    → then_reads {B = B} p.reads (λ a. (f a).reads) bytes ≡ Stuck rest
then_fault {A} {B} p f bytes rest (inl h) =
    on_none (p.reads bytes) (λ a middle. pair_reads a ((f a).reads middle)) rest (p.fault bytes rest h)
then_fault {A} {B} p f bytes rest (inr (a, middle, (front, spelled, parted), h)) =
    ap (then_reads p.reads (λ x. (f x).reads)) parted
    ∙ on_whole (p.reads (front ++ middle)) (λ x m. pair_reads x ((f x).reads m)) a middle _
    (p.whole a front middle spelled)
    (on_none ((f a).reads middle) (λ b behind. Found (a, b) behind) rest ((f a).fault middle rest h))

pub then_left : {A B : Type 0} (p : Form A) (f : A → Form B) (bytes rest : List ℕ)
    → ThenFaults p.spells p.faults (λ a. (f a).faults) bytes rest → IsLeft bytes rest
then_left p f bytes rest (inl h) = p.left bytes rest h
then_left p f bytes rest (inr (a, middle, (front, spelled, parted), h)) =
    let l = (f a).left middle rest h in
    (front ++ l.0, parted ∙ ap (λ (r : List ℕ). front ++ r) l.1 ∙ sym (append_assoc front l.0 rest))

abbrev pub then : {A B : Type 0} → Form A → (A → Form B) → Form (A × B)
then p f = record {
  spells = ThenSpells p.spells (λ a. (f a).spells);
  faults = ThenFaults p.spells p.faults (λ a. (f a).faults);
  reads = then_reads p.reads (λ a. (f a).reads);
  one = then_one p f;
  sound = then_sound p f;
  whole = then_whole p f;
  stuck = then_stuck p f;
  fault = then_fault p f;
  left = then_left p f;
}

-- the same, where it does not depend on it
infixr 10 ◌&◌
abbrev pub ◌&◌ : {A B : Type 0} → Form A → Form B → Form (A × B)
p & q = then p (λ _. q)

-- ---- a thing seen as another, and only such as pass a test

abbrev pub as_reads : {A B : Type 0} → (A → B) → ReadsAs A → ReadsAs B
as_reads to p bytes = read_on (p bytes) (λ a rest. Found (to a) rest)

pub as_sound : {A B : Type 0} (to : A → B) (from : B → A) (p : Form A) (forth : (a : A) (s : List ℕ)
    → p.spells a s → from (to a) ≡ a)
    (bytes : List ℕ) (b : B) (rest : List ℕ) → as_reads to p.reads bytes ≡ Found b rest
    → Begins (p.spells (from b)) bytes rest
as_sound to from p forth bytes b rest e =
    let s = on_found (p.reads bytes) (λ a behind. Found (to a) behind) b rest e in
    let g = found_eq (to s.0) s.1 b rest s.3 in
    let h = p.sound bytes s.0 s.1 s.2 in
    let parts : s.0 ≡ from b = sym (forth s.0 h.0 h.1) ∙ ap from g.0 in
    begins_again p.spells bytes s.0 (from b) s.1 rest parts g.1 h

pub as_stuck : {A B : Type 0} (to : A → B) (p : Form A) (bytes rest : List ℕ)
    → as_reads to p.reads bytes ≡ Stuck rest → p.faults bytes rest
as_stuck {A} {B} to p bytes rest e = by_case (on_stuck (p.reads bytes) (λ a behind. Found (to a) behind) rest e)
  where
    by_case : (p.reads bytes ≡ Stuck rest)
        ⊎ ((a : A) × (middle : List ℕ) × (p.reads bytes ≡ Found a middle) × (Found (to a) middle ≡ Stuck rest))
        → p.faults bytes rest
    by_case (inl h) = p.stuck bytes rest h
    by_case (inr h) = absurd (not_stuck h.1 rest (to h.0) h.3)

-- `from` says which parts a thing has, and `to` makes it of them
abbrev pub seen_as : {A B : Type 0} → (to : A → B) → (from : B → A) → ((b : B) → to (from b) ≡ b)
    → (p : Form A) → ((a : A) (s : List ℕ) → p.spells a s → from (to a) ≡ a) → Form B
seen_as {A} {B} to from back p forth = record {
  spells = λ b bytes. p.spells (from b) bytes;
  faults = p.faults;
  reads = as_reads to p.reads;
  one = λ b s t. p.one (from b) s t;
  sound = as_sound to from p forth;
  whole = λ b front rest h. on_whole (p.reads (front ++ rest)) (λ a behind. Found (to a) behind)
      (from b) rest _ (p.whole (from b) front rest h) (ap (λ (x : B). Found x rest) (back b));
  stuck = as_stuck to p;
  fault = λ bytes rest h. on_none (p.reads bytes) (λ a behind. Found (to a) behind) rest (p.fault bytes rest h);
  left = p.left;
}

abbrev pub passed : {A : Type 0} → Bool → A → List ℕ → List ℕ → Reading A
passed true a rest bytes = Found a rest
passed false a rest bytes = Stuck bytes

pub passed_found : {A : Type 0} (b : Bool) (a : A) (middle bytes : List ℕ) (c : A) (rest : List ℕ)
    → passed b a middle bytes ≡ Found c rest
    → (b ≡ true) × (a ≡ c) × (middle ≡ rest)
passed_found true a middle bytes c rest e = let g = found_eq a middle c rest e in (refl, g.0, g.1)
passed_found false a middle bytes c rest e = absurd (not_found bytes rest c e)

pub passed_stuck : {A : Type 0} (b : Bool) (a : A) (middle bytes rest : List ℕ)
    → passed b a middle bytes ≡ Stuck rest → (b ≡ false) × (bytes ≡ rest)
passed_stuck true a middle bytes rest e = absurd (not_stuck middle rest a e)
passed_stuck {A} false a middle bytes rest e = (refl, stuck_eq {A = A} bytes rest e)

abbrev pub only_reads : {A : Type 0} → (A → Bool) → ReadsAs A → ReadsAs A
only_reads test p bytes = read_on (p bytes) (λ a rest. passed (test a) a rest bytes)

pub only_sound : {A : Type 0} (test : A → Bool) (p : Form A) (bytes : List ℕ) (a : A) (rest : List ℕ)
    → only_reads test p.reads bytes ≡ Found a rest → Begins (OnlySpells test p.spells a) bytes rest
only_sound {A} test p bytes a rest e =
    let s = on_found (p.reads bytes) (λ x behind. passed (test x) x behind bytes) a rest e in
    let g = passed_found (test s.0) s.0 s.1 bytes a rest s.3 in
    let h = p.sound bytes s.0 s.1 s.2 in
    begins_again (OnlySpells test p.spells) bytes s.0 a s.1 rest g.1 g.2 (h.0, (h.1, g.0), h.2)

pub only_whole : {A : Type 0} (test : A → Bool) (p : Form A) (a : A) (front rest : List ℕ)
    → OnlySpells test p.spells a front
    → only_reads test p.reads (front ++ rest) ≡ Found a rest
only_whole test p a front rest h =
    on_whole (p.reads (front ++ rest)) (λ x behind. passed (test x) x behind (front ++ rest))
    a rest _ (p.whole a front rest h.0)
    (ap (λ (b : Bool). passed b a rest (front ++ rest)) h.1)

pub only_stuck : {A : Type 0} (test : A → Bool) (p : Form A) (bytes rest : List ℕ)
    → only_reads test p.reads bytes ≡ Stuck rest → OnlyFaults test p.spells p.faults bytes rest
only_stuck {A} test p bytes rest e =
    by_case (on_stuck (p.reads bytes) (λ a behind. passed (test a) a behind bytes) rest e)
  where
    by_case : (p.reads bytes ≡ Stuck rest)
        ⊎ ((a : A) × (middle : List ℕ) × (p.reads bytes ≡ Found a middle)
        × (passed (test a) a middle bytes ≡ Stuck rest))
        → OnlyFaults test p.spells p.faults bytes rest
    by_case (inl h) = inl (p.stuck bytes rest h)
    by_case (inr h) = let g = passed_stuck (test h.0) h.0 h.1 bytes rest h.3
        in inr (h.0, h.1, p.sound bytes h.0 h.1 h.2, g.0, g.1)

pub only_fault : {A : Type 0} (test : A → Bool) (p : Form A) (bytes rest : List ℕ)
    → OnlyFaults test p.spells p.faults bytes rest → only_reads test p.reads bytes ≡ Stuck rest
only_fault test p bytes rest (inl h) =
    on_none (p.reads bytes) (λ a behind. passed (test a) a behind bytes) rest (p.fault bytes rest h)
only_fault {A} test p bytes rest (inr (a, behind, (front, spelled, parted), failed, here)) =
    on_whole (p.reads bytes) (λ x middle. passed (test x) x middle bytes) a behind _
    (ap p.reads parted ∙ p.whole a front behind spelled)
    (ap (λ (b : Bool). passed b a behind bytes) failed ∙ stuck_again {A = A} bytes rest here)

pub only_left : {A : Type 0} (test : A → Bool) (p : Form A) (bytes rest : List ℕ)
    → OnlyFaults test p.spells p.faults bytes rest → IsLeft bytes rest
only_left test p bytes rest (inl h) = p.left bytes rest h
only_left test p bytes rest (inr (a, behind, begun, failed, here)) = ([], here)

abbrev pub only : {A : Type 0} → (A → Bool) → Form A → Form A
only test p = record {
  spells = OnlySpells test p.spells;
  faults = OnlyFaults test p.spells p.faults;
  reads = only_reads test p.reads;
  one = λ a s t h i. p.one a s t h.0 i.0;
  sound = only_sound test p;
  whole = only_whole test p;
  stuck = only_stuck test p;
  fault = only_fault test p;
  left = only_left test p;
}

pub given_whole : {A : Type 0} (a b : A) (front rest : List ℕ) → b ≡ a
    → front ≡ [] → Found a (front ++ rest) ≡ Found b rest
given_whole a b front rest e none = found_again a (front ++ rest) b rest (sym e) (ap (λ (s : List ℕ). s ++ rest) none)

-- no byte, for this one value
abbrev pub given : {A : Type 0} → A → Form A
given a = record {
  spells = GivenSpells a;
  faults = NeverFaults;
  reads = λ bytes. Found a bytes;
  one = λ b s t h i. h.1 ∙ sym i.1;
  sound = λ bytes b rest e. let g = found_eq a bytes b rest e in ([], (sym g.0, refl), g.1);
  whole = λ b front rest h. given_whole a b front rest h.0 h.1;
  stuck = λ bytes rest e. not_stuck bytes rest a e;
  fault = λ bytes rest h. absurd h;
  left = λ bytes rest h. absurd h;
}

-- a size in front of what has this size
abbrev pub sized : {B : Type 0} → (size : B → ℕ) → (count : Form ℕ) → (f : ℕ → Form B)
    → ((n : ℕ) (b : B) (bytes : List ℕ) → (f n).spells b bytes → size b ≡ n) → Form B
sized {B} size count f has =
    seen_as (λ (both : ℕ × B). both.1) (λ b. (size b, b)) (λ b. refl) (then count f)
    (λ both bytes h. ap (λ (n : ℕ). (n, both.1)) (has both.0 both.1 h.1 h.3))
