-- One put and then another, and puts one after another.
use Rattle.std.proofs.Common.{◌≡◌, ℕ, zero, suc, ◌+◌, ◌<◌, List, [], ◌∷◌, ◌++◌, length, take, inl, inr}
use Rattle.std.proofs.Common.{true, false, refl, sym, ap, subst, ◌∙◌, append_assoc, arith}
use Rattle.std.proofs.Common.{Option, Some, None, Result, Ok, Err}
use Rattle.std.specs.Prelude.{drop, slice_get, IsErr}
use Rattle.std.specs.List.{enumerate_from, flat_map}
use Rattle.std.proofs.Math.ListN.{get_or}
use Rattle.std.proofs.Math.Seq.{take-append-add, take-length}
use Rattle.std.proofs.lemmas.Bool.{cases_lt}
use Rattle.std.proofs.lemmas.Grind.{flat_map-append}
use Rattle.std.proofs.lemmas.List.{append-nil, flat_map_more, take-append-drop, take-append-le, take_more}
use Rattle.std.proofs.lemmas.List.FromFn.{get_or-enumerate_from, length-enumerate_from}
use Rattle.std.proofs.lemmas.Option.{get_or_from_slice_get, slice_get-get_or, slice_get_within}
use Rattle.sed_outside.specs.Cause.{HasCause}
use Rattle.sed_outside.specs.Sink.{PutsFront, with_text}
use Rattle.sed_outside.specs.declared.sink.Sink.{Ghosts}
use Rattle.sed_outside.specs.declared.sink.SinkFault.{SinkFault}
use Rattle.printed_app.specs.Puts.{Puts}

-- ---- text

pub with_more : (text : Option (List ℕ)) (first later : List ℕ) →
    with_text (with_text text first) later ≡ with_text text (first ++ later)
with_more None first later = refl
with_more (Some text) first later = ap Some (append_assoc text first later)

pub with_none : (text : Option (List ℕ)) → text ≡ with_text text []
with_none None = refl
with_none (Some text) = ap Some (sym (append-nil text))

take_beyond : (n : ℕ) (xs : List ℕ) → length xs < n → take n xs ≡ xs
take_beyond zero xs less = absurd (let no : length xs < 0 = less in omega (arith, no))
take_beyond (suc n) [] less = refl
take_beyond (suc n) (x ∷ xs) less =
    let l : suc (length xs) < suc n = less in
    ap (λ (rest : List ℕ). x ∷ rest) (take_beyond n xs (omega (arith, l)))

-- a front of a part is a front of the whole, what stands before the part with it
pub front : (n : ℕ) (first part rest : List ℕ) → (k : ℕ) × (first ++ take n part ≡ take k (first ++ (part ++ rest)))
front n first part rest = elim (cases_lt (length part) n) [
  | inl less ↦ (
    length first + length part,
    ap (λ (xs : List ℕ). first ++ xs) (take_beyond n part less ∙ sym (take-length part)
        ∙ sym (take-append-le (length part) part rest (omega arith)))
        ∙ sym (take-append-add first (part ++ rest) (length part)),
  )
  | inr le ↦ (
    length first + n,
    ap (λ (xs : List ℕ). first ++ xs) (sym (take-append-le n part rest le))
        ∙ sym (take-append-add first (part ++ rest) n),
  )
]

pub puts_front : (text middle now : Option (List ℕ)) (first part rest : List ℕ) → middle ≡ with_text text first →
    PutsFront middle now part → PutsFront text now (first ++ (part ++ rest))
puts_front text middle now first part rest before put =
    let f = front put.0 first part rest in (
      f.0,
      put.1 ∙ ap (λ (t : Option (List ℕ)). with_text t (take put.0 part)) before
          ∙ with_more text first (take put.0 part) ∙ ap (with_text text) f.1,
    )

-- ---- causes

no_fault : IsErr {T = Unit {0}} {E = SinkFault} (Ok tt) → ⊥
no_fault e = (let no : false ≡ true = e in cc)

later_cause : (first middle now : ℕ) (Failed : Type 0) → middle ≡ first → HasCause middle now Failed →
    HasCause first now Failed
later_cause first middle now Failed same cause = subst (λ (n : ℕ). HasCause n now Failed) same cause

-- ---- one put and then another

-- where nothing is put
pub nothing : {O : Type 0} (g : Ghosts O) (a : O) → Puts g a a [] (Ok tt)
nothing g a = record {
  done = with_none (g.text a);
  front = tt;
  cause = record { later = omega arith; failed = λ e. absurd (no_fault e); steady = λ none. refl };
}

pub text_is : {O : Type 0} {g : Ghosts O} {a b : O} {x y : List ℕ} {r : Result (Unit {0}) SinkFault} → x ≡ y →
    Puts g a b x r → Puts g a b y r
text_is {g = g} {a = a} {b = b} {r = r} same puts = subst (λ (t : List ℕ). Puts g a b t r) same puts

behind : {O : Type 0} (g : Ghosts O) (a b c : O) (x y : List ℕ) (r : Result (Unit {0}) SinkFault) →
    Puts g a b x (Ok tt) → Puts g b c y r → Puts g a c (x ++ y) r
behind g a b c x y (Ok u) first then = record {
  done = then.done ∙ ap (λ t. with_text t y) first.done ∙ with_more (g.text a) x y;
  front = tt;
  cause = later_cause _ _ _ _ (first.cause.steady no_fault) then.cause;
}
behind g a b c x y (Err e) first then = record {
  done = tt;
  front = subst (λ t. PutsFront (g.text a) (g.text c) (x ++ t)) (append-nil y)
      (puts_front (g.text a) (g.text b) (g.text c) x y [] first.done then.front);
  cause = later_cause _ _ _ _ (first.cause.steady no_fault) then.cause;
}

-- a put that was done, and then one
pub then_put : {O : Type 0} {g : Ghosts O} {a b c : O} {x y : List ℕ} {r : Result (Unit {0}) SinkFault} →
    Puts g a b x (Ok tt) → Puts g b c y r → Puts g a c (x ++ y) r
then_put first then = behind _ _ _ _ _ _ _ first then

failed : {O : Type 0} (g : Ghosts O) (a b : O) (x y : List ℕ) (e : SinkFault) (r : Result (Unit {0}) SinkFault) →
    Puts g a b x (Err e) → IsErr r → Puts g a b (x ++ y) r
failed g a b x y e (Ok u) puts err = absurd (no_fault err)
failed g a b x y e (Err f) puts err = record {
  done = tt;
  front = puts_front (g.text a) (g.text a) (g.text b) [] x y (with_none (g.text a)) puts.front;
  cause = puts.cause;
}

-- a put that failed, with more that was to come
pub stops : {O : Type 0} {g : Ghosts O} {a b : O} {x : List ℕ} {e : SinkFault} {r : Result (Unit {0}) SinkFault}
    (y : List ℕ) → Puts g a b x (Err e) → IsErr r → Puts g a b (x ++ y) r
stops y puts err = failed _ _ _ _ y _ _ puts err

-- ---- puts one after another

so_far_is : {X : Type 0} (f : X → List ℕ) (xs : List X) (i : ℕ) (x : X) → slice_get xs i ≡ Some x →
    flat_map f (take i xs) ++ f x ≡ flat_map f (take (i + 1) xs)
so_far_is f xs i x is =
    ap (λ y. flat_map f (take i xs) ++ f y) (sym (get_or_from_slice_get xs i x x is))
    ∙ flat_map_more f [] (take i xs) (get_or xs i x)
    ∙ ap (flat_map f) (sym (take_more xs i x (slice_get_within xs i x is)))

parted : {X : Type 0} (f : X → List ℕ) (xs : List X) (i : ℕ) (x : X) → slice_get xs i ≡ Some x →
    (flat_map f (take i xs) ++ f x) ++ flat_map f (drop (i + 1) xs) ≡ flat_map f xs
parted f xs i x is =
    ap (λ l. l ++ flat_map f (drop (i + 1) xs)) (so_far_is f xs i x is)
    ∙ sym (flat_map-append f (take (i + 1) xs) (drop (i + 1) xs))
    ∙ ap (flat_map f) (take-append-drop (i + 1) xs)

pub one_more : {O X : Type 0} {g : Ghosts O} {a b c : O} (f : X → List ℕ) (xs : List X) (i : ℕ) (x : X) →
    slice_get xs i ≡ Some x → Puts g a b (flat_map f (take i xs)) (Ok tt) → Puts g b c (f x) (Ok tt) →
    Puts g a c (flat_map f (take (i + 1) xs)) (Ok tt)
one_more f xs i x is so_far puts = text_is (so_far_is f xs i x is) (then_put so_far puts)

pub one_fails : {O X : Type 0} {g : Ghosts O} {a b c : O} {e : SinkFault} {r : Result (Unit {0}) SinkFault}
    (f : X → List ℕ) (xs : List X) (i : ℕ) (x : X) → slice_get xs i ≡ Some x →
    Puts g a b (flat_map f (take i xs)) (Ok tt) → Puts g b c (f x) (Err e) → IsErr r → Puts g a c (flat_map f xs) r
one_fails f xs i x is so_far puts err = text_is (parted f xs i x is) (stops _ (then_put so_far puts) err)

pub all_put : {O X : Type 0} {g : Ghosts O} {a b : O} (f : X → List ℕ) (xs : List X) (i : ℕ) → i ≡ length xs →
    Puts g a b (flat_map f (take i xs)) (Ok tt) → Puts g a b (flat_map f xs) (Ok tt)
all_put f xs i all puts = text_is (ap (flat_map f) (ap (λ (n : ℕ). take n xs) all ∙ take-length xs)) puts

-- the element at a place, with its place
pub placed : {X : Type 0} (xs : List X) (i : ℕ) (x : X) → i < length xs → x ≡ get_or xs i x →
    slice_get (enumerate_from 0 xs) i ≡ Some (i, x)
placed xs i x less is =
    slice_get-get_or (enumerate_from 0 xs) i (0, x) (subst (λ (n : ℕ). i < n) (sym (length-enumerate_from 0 xs)) less)
    ∙ ap Some (get_or-enumerate_from 0 xs i (0, x) less ∙ ap (λ (n : ℕ). (n, get_or xs i x)) (from_zero i)
    ∙ ap (λ y. (i, y)) (sym is))
  where
    from_zero : (n : ℕ) → 0 + n ≡ n
    from_zero n = grind arith

pub placed_all : {X : Type 0} (xs : List X) (i : ℕ) → i ≡ length xs → i ≡ length (enumerate_from 0 xs)
placed_all xs i all = all ∙ sym (length-enumerate_from 0 xs)
