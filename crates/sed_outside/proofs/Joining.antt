-- Reads, one after another, and steps that make them.
use Rattle.std.proofs.Common.{◌≡◌, ◌≤◌, ℕ, Bool, true, false, List, [], ◌∷◌, ◌++◌, Option, Result, Ok, Err, refl, sym, ap, subst, ◌∙◌, inl, inr, append_assoc, arith}
use Rattle.std.specs.Prelude.{IsSome, MatchBool, IsTrue}
use Rattle.std.proofs.lemmas.List.{append-nil}
use Rattle.std.proofs.lemmas.List.Elements.{Contains-append_left, Contains-append_right, Contains-append_cases}
use Rattle.std.proofs.lemmas.Grind.{flat_map-append}
use Rattle.sed_outside.specs.Cause.{Rose}
use Rattle.sed_outside.specs.Files.{Contents}
use Rattle.sed_outside.specs.declared.files.Files.{Ghosts}
use Rattle.sed_outside.specs.Steps.{Read, Decides, AndThen, stops, goes_on, Each, UnlessFree}
use Rattle.sed_outside.specs.Reads.{AreGiven, failed_name, failed_names, CountsMoved, HasReads}

pub both_empty : {X : Type 0} (xs ys : List X) → xs ++ ys ≡ [] → (xs ≡ []) × (ys ≡ [])
both_empty [] ys e = (refl, e)
both_empty (x ∷ xs) ys e = absurd (cc)

given_both : (known : Option Contents) (front back : List Read) → AreGiven known front → AreGiven known back → AreGiven known (front ++ back)
given_both known [] back first second = second
given_both known (read ∷ front) back first second = (first.0, given_both known front back first.1 second)

rose_then : (a b c : ℕ) → Rose a b → b ≤ c → Rose a c
rose_then a b c rose later = omega arith

then_rose : (a b c : ℕ) → a ≤ b → Rose b c → Rose a c
then_rose a b c later rose = omega arith

counts_both : (Told : Type 0) (a b c : List ℕ → ℕ) (xs ys : List (List ℕ)) → CountsMoved Told a b xs → CountsMoved Told b c ys → CountsMoved Told a c (xs ++ ys)
counts_both Told a b c xs ys first second = record {
  later = λ name. omega (arith, first.later name, second.later name);
  rose = λ name there. elim (Contains-append_cases xs ys name there) [
    | inl here ↦ rose_then (a name) (b name) (c name) (first.rose name here) (second.later name)
    | inr here ↦ then_rose (a name) (b name) (c name) (first.later name) (second.rose name here)
  ];
  steady = λ none name. let (in_first, in_second) = both_empty xs ys none in second.steady in_second name ∙ first.steady in_first name;
  apart = λ told name out.
      second.apart told name (λ here. out (Contains-append_right xs ys name here))
      ∙ first.apart told name (λ here. out (Contains-append_left xs ys name here));
}

no_counts : (Told : Type 0) (a : List ℕ → ℕ) → CountsMoved Told a a []
no_counts Told a = record {
  later = λ name. omega arith;
  rose = λ name there. absurd (omega (arith, there.1));
  steady = λ none name. refl;
  apart = λ told name out. refl;
}

-- no read
pub no_reads : {T : Type 0} (F : Ghosts T) (a : T) (P : List Read → Type 0) → P [] → HasReads F a a P
no_reads F a P holds = record {
  reads = [];
  given = tt;
  counts = no_counts (IsSome (F.known a)) (F.failed_reads a);
  holds = holds;
  files = refl;
  writes = refl;
}

-- the same reads
pub same_reads : {T : Type 0} (F : Ghosts T) (a b : T) (P Q : List Read → Type 0) → ((reads : List Read) → P reads → Q reads) → HasReads F a b P → HasReads F a b Q
same_reads F a b P Q map has = record {
  reads = has.reads;
  given = has.given;
  counts = has.counts;
  holds = map has.reads has.holds;
  files = has.files;
  writes = has.writes;
}

-- some reads, and then some
pub both_reads : {T : Type 0} (F : Ghosts T) (a b c : T) (P Q R : List Read → Type 0)
    → ((front back : List Read) → P front → Q back → R (front ++ back)) → HasReads F a b P → HasReads F b c Q → HasReads F a c R
both_reads F a b c P Q R join first second = record {
  reads = first.reads ++ second.reads;
  given = given_both (F.known a) first.reads second.reads first.given (subst (λ (known : Option Contents). AreGiven known second.reads) first.files second.given);
  counts = subst (λ (names : List (List ℕ)). CountsMoved (IsSome (F.known a)) (F.failed_reads a) (F.failed_reads c) names)
      (sym (flat_map-append failed_name first.reads second.reads))
      (counts_both (IsSome (F.known a)) (F.failed_reads a) (F.failed_reads b) (F.failed_reads c) (failed_names first.reads) (failed_names second.reads) first.counts
      (subst (λ (known : Option Contents). CountsMoved (IsSome known) (F.failed_reads b) (F.failed_reads c) (failed_names second.reads)) first.files second.counts));
  holds = join first.reads second.reads first.holds second.holds;
  files = second.files ∙ first.files;
  writes = second.writes ∙ first.writes;
}

-- ---- steps

pub unless_map : (b : Bool) (P Q : Type 0) → (P → Q) → MatchBool b (Unit {0}) P → MatchBool b (Unit {0}) Q
unless_map true P Q map p = tt
unless_map false P Q map p = map p

pub free_holds : (b : Bool) (P : Type 0) → IsTrue b → MatchBool b (Unit {0}) P
free_holds true P is = tt
free_holds false P is = absurd (cc)

-- a refusal of the first step ends both
pub stops_then : {T E X Y : Type 0} (F : Ghosts T) (a b : T) (free : E → Bool) (first : List Read → Result X E → Type 0) (next : X → List Read → Result Y E → Type 0) (refusal : E)
    → HasReads F a b (λ reads. UnlessFree free (first reads) (Err refusal)) → HasReads F a b (λ reads. UnlessFree free (AndThen first next reads) (Err refusal))
stops_then F a b free first next refusal has =
    same_reads F a b (λ reads. UnlessFree free (first reads) (Err refusal)) (λ reads. UnlessFree free (AndThen first next reads) (Err refusal))
    (λ reads held. unless_map (free refusal) (first reads (Err refusal)) (AndThen first next reads (Err refusal)) (λ h. stops refusal h refl) held) has

goes_end : {E X Y : Type 0} (free : E → Bool) (first : List Read → Result X E → Type 0) (next : X → List Read → Result Y E → Type 0) (value : X) (end : Result Y E) (front back : List Read)
    → first front (Ok value) → UnlessFree free (next value back) end → UnlessFree free (AndThen first next (front ++ back)) end
goes_end free first next value (Ok y) front back done rest = goes_on front back value refl done rest
goes_end free first next value (Err refusal) front back done rest =
    unless_map (free refusal) (next value back (Err refusal)) (AndThen first next (front ++ back) (Err refusal)) (λ h. goes_on front back value refl done h) rest

-- one step, and then another
pub goes_then : {T E X Y : Type 0} (F : Ghosts T) (a b c : T) (free : E → Bool) (first : List Read → Result X E → Type 0) (next : X → List Read → Result Y E → Type 0) (value : X) (end : Result Y E)
    → HasReads F a b (λ reads. first reads (Ok value)) → HasReads F b c (λ reads. UnlessFree free (next value reads) end)
    → HasReads F a c (λ reads. UnlessFree free (AndThen first next reads) end)
goes_then F a b c free first next value end done rest =
    both_reads F a b c (λ reads. first reads (Ok value)) (λ reads. UnlessFree free (next value reads) end) (λ reads. UnlessFree free (AndThen first next reads) end)
    (λ front back p q. goes_end free first next value end front back p q) done rest

pub decided : {E X : Type 0} (free : E → Bool) (Holds : Result X E → Type 0) (end : Result X E) → UnlessFree free Holds end → UnlessFree free (Decides {A = Read} Holds []) end
decided free Holds (Ok value) holds = record { none = refl; holds = holds }
decided free Holds (Err refusal) holds = unless_map (free refusal) (Holds (Err refusal)) (Decides {A = Read} Holds [] (Err refusal)) (λ h. record { none = refl; holds = h }) holds

-- one step, and then no read more
pub decides_then : {T E X Y : Type 0} (F : Ghosts T) (a b : T) (free : E → Bool) (first : List Read → Result X E → Type 0) (Holds : X → Result Y E → Type 0) (value : X) (end : Result Y E)
    → HasReads F a b (λ reads. first reads (Ok value)) → UnlessFree free (Holds value) end
    → HasReads F a b (λ reads. UnlessFree free (AndThen first (λ x. Decides (Holds x)) reads) end)
decides_then F a b free first Holds value end done holds =
    goes_then F a b b free first (λ x. Decides (Holds x)) value end done
    (no_reads F b (λ reads. UnlessFree free (Decides (Holds value) reads) end) (decided free (Holds value) end holds))

-- want of memory, whatever was read
pub wanted : {T E X : Type 0} (F : Ghosts T) (a b : T) (free : E → Bool) (P : List Read → Type 0) (step : List Read → Result X E → Type 0) (refusal : E) → IsTrue (free refusal)
    → HasReads F a b P → HasReads F a b (λ reads. UnlessFree free (step reads) (Err refusal))
wanted F a b free P step refusal is has =
    same_reads F a b P (λ reads. UnlessFree free (step reads) (Err refusal)) (λ reads held. free_holds (free refusal) (step reads (Err refusal)) is) has

-- ---- a step for each item

apart : {E X : Type 0} (x : X) (e : E) → ◌≡◌ {A = Result X E} (Ok x) (Err e) → ⊥
apart x e same = cc

each_more : {E X Y : Type 0} (one : X → List Read → Result Y E → Type 0) (xs : List X) (x : X) (front back : List Read) (ys : List Y) (y : Y)
    → Each one xs front (Ok ys) → one x back (Ok y) → Each one (xs ++ x ∷ []) (front ++ back) (Ok (ys ++ y ∷ []))
each_more {E} {X} {Y} one [] x front back ys y done last =
    let none : ys ≡ [] = (let same : ◌≡◌ {A = Result (List Y) E} (Ok ys) (Ok []) = done.holds in cc) in
    goes_on back [] y (ap (λ (reads : List Read). reads ++ back) done.none ∙ sym (append-nil back)) last
    (goes_on [] [] [] refl (record { none = refl; holds = refl }) (record { none = refl; holds = ap (λ (zs : List Y). Ok (zs ++ y ∷ [])) none }))
each_more {E} {X} {Y} one (z ∷ xs) x front back ys y (stops refusal h same) last = absurd (apart ys refusal same)
each_more {E} {X} {Y} one (z ∷ xs) x front back ys y (goes_on f b w parts h (stops refusal k same)) last = absurd (apart ys refusal same)
each_more {E} {X} {Y} one (z ∷ xs) x front back ys y (goes_on f b w parts h (goes_on g d ws more k end)) last =
    let all : front ≡ f ++ g = parts ∙ ap (λ (reads : List Read). f ++ reads) (more ∙ ap (λ (reads : List Read). g ++ reads) end.none ∙ append-nil g) in
    let same : ys ≡ w ∷ ws = (let e : ◌≡◌ {A = Result (List Y) E} (Ok ys) (Ok (w ∷ ws)) = end.holds in cc) in
    goes_on f (g ++ back) w (ap (λ (reads : List Read). reads ++ back) all ∙ append_assoc f g back) h
    (goes_on (g ++ back) [] (ws ++ y ∷ []) (sym (append-nil (g ++ back))) (each_more one xs x g back ws y k last)
    (record { none = refl; holds = ap (λ (zs : List Y). Ok (zs ++ y ∷ [])) same }))

each_stop : {E X Y : Type 0} (one : X → List Read → Result Y E → Type 0) (xs : List X) (x : X) (rest : List X) (front back : List Read) (ys : List Y) (refusal : E)
    → Each one xs front (Ok ys) → one x back (Err refusal) → Each one (xs ++ x ∷ rest) (front ++ back) (Err refusal)
each_stop one [] x rest front back ys refusal done last =
    stops refusal (subst (λ (reads : List Read). one x reads (Err refusal)) (sym (ap (λ (reads : List Read). reads ++ back) done.none)) last) refl
each_stop one (z ∷ xs) x rest front back ys refusal (stops other h same) last = absurd (apart ys other same)
each_stop one (z ∷ xs) x rest front back ys refusal (goes_on f b w parts h (stops other k same)) last = absurd (apart ys other same)
each_stop one (z ∷ xs) x rest front back ys refusal (goes_on f b w parts h (goes_on g d ws more k end)) last =
    let all : front ≡ f ++ g = parts ∙ ap (λ (reads : List Read). f ++ reads) (more ∙ ap (λ (reads : List Read). g ++ reads) end.none ∙ append-nil g) in
    goes_on f (g ++ back) w (ap (λ (reads : List Read). reads ++ back) all ∙ append_assoc f g back) h
    (stops refusal (each_stop one xs x rest g back ws refusal k last) refl)

pub each_none : {T E X Y : Type 0} (F : Ghosts T) (a : T) (one : X → List Read → Result Y E → Type 0) → HasReads F a a (λ reads. Each one [] reads (Ok []))
each_none F a one = no_reads F a (λ reads. Each one [] reads (Ok [])) (record { none = refl; holds = refl })

pub each_step : {T E X Y : Type 0} (F : Ghosts T) (a b c : T) (one : X → List Read → Result Y E → Type 0) (xs : List X) (x : X) (ys : List Y) (y : Y)
    → HasReads F a b (λ reads. Each one xs reads (Ok ys)) → HasReads F b c (λ reads. one x reads (Ok y))
    → HasReads F a c (λ reads. Each one (xs ++ x ∷ []) reads (Ok (ys ++ y ∷ [])))
each_step F a b c one xs x ys y done last =
    both_reads F a b c (λ reads. Each one xs reads (Ok ys)) (λ reads. one x reads (Ok y)) (λ reads. Each one (xs ++ x ∷ []) reads (Ok (ys ++ y ∷ [])))
    (λ front back p q. each_more one xs x front back ys y p q) done last

pub each_ends : {T E X Y : Type 0} (F : Ghosts T) (a b c : T) (free : E → Bool) (one : X → List Read → Result Y E → Type 0) (xs : List X) (x : X) (rest : List X) (ys : List Y) (refusal : E)
    → HasReads F a b (λ reads. Each one xs reads (Ok ys)) → HasReads F b c (λ reads. UnlessFree free (one x reads) (Err refusal))
    → HasReads F a c (λ reads. UnlessFree free (Each one (xs ++ x ∷ rest) reads) (Err refusal))
each_ends F a b c free one xs x rest ys refusal done last =
    both_reads F a b c (λ reads. Each one xs reads (Ok ys)) (λ reads. UnlessFree free (one x reads) (Err refusal)) (λ reads. UnlessFree free (Each one (xs ++ x ∷ rest) reads) (Err refusal))
    (λ front back p q. unless_map (free refusal) (one x back (Err refusal)) (Each one (xs ++ x ∷ rest) (front ++ back) (Err refusal)) (λ h. each_stop one xs x rest front back ys refusal p h) q) done last
