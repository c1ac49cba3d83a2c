-- What the walk of the rules carries to a place are the kinds that arrive there.
use Rattle.std.proofs.Common.{◌≡◌, ℕ, ◌+◌, ◌≤◌, length, Bool, true, false, refl, sym, ◌∙◌, ap, subst, arith}
use Rattle.std.specs.Prelude.{if◌then◌else◌, Option, Some, None}
use Rattle.std.specs.Option.{option_map}
use Rattle.scode_ops.specs.declared.op.Op.{Op}
use Rattle.scode_ops.specs.Decoding.{size_of}
use Rattle.scode_image.specs.declared.image.Image.{Image}
use Rattle.scode_image.specs.declared.image.ImageEntry.{ImageEntry}
use Rattle.scode_image.specs.declared.image.ImageMethod.{ImageMethod}
use Rattle.scode_code.specs.Kinds.{Shape}
use Rattle.scode_code.specs.CodeRules.{after, carried_on, entry_at, entry_shape, first_shape, is_end, shape_at}
use Rattle.scode_code.specs.Breaks.{IsReached, first, behind, StartsAt, IsStart, KindsAt, entered, begun, left, Arrives, at_first, from_before}
use Rattle.scode_code.proofs.Places.{none_some, some_eq, size_some, same_before}

-- an instruction that does not go on stands right before a place
pub record EndsAt (m : ImageMethod) (place : ℕ) : Type 0 where
  pub before : ℕ
  pub i : Op
  pub starts : StartsAt m before i
  pub end : is_end i ≡ true
  pub next : before + size_of i ≡ place

-- the walk has come to a place, and carries what arrives there
pub record Comes (image : Image) (m : ImageMethod) (place : ℕ) (carried : Option Shape) : Type 0 where
  pub reached : IsReached m place
  pub arrives : (s : Shape) → carried ≡ Some s → Arrives image m place s
  pub all : (s : Shape) → Arrives image m place s → carried ≡ Some s
  pub ends : carried ≡ None → EndsAt m place
  -- the stack is not above its maximum
  pub low : (s : Shape) → carried ≡ Some s → length s.stack ≤ m.stack

-- kinds at a place without an entry are those that arrive there
pub arrived : (image : Image) (m : ImageMethod) (place : ℕ) (s : Shape) → entry_at m place ≡ None
    → Arrives image m place s → KindsAt image m place s
arrived image m place s none at_first = begun none
arrived image m place s none (from_before before shape i kinds starts on) = left before shape i kinds starts on none

pub kinds_are : (image : Image) (m : ImageMethod) (place : ℕ) (carried : Option Shape) (s : Shape)
    → Comes image m place carried → KindsAt image m place s → shape_at (entry_at m place) carried ≡ Some s
kinds_are image m place carried s w (entered here e start there) =
    ap (λ (o : Option ImageEntry). shape_at o carried) there
kinds_are image m place carried s w (begun none) =
    ap (λ (o : Option ImageEntry). shape_at o carried) none ∙ w.all (first_shape m) at_first
kinds_are image m place carried s w (left before shape i kinds starts on none) =
    ap (λ (o : Option ImageEntry). shape_at o carried) none
    ∙ w.all (after image shape i) (from_before before shape i kinds starts on)

pub kinds_stand : (image : Image) (m : ImageMethod) (place : ℕ) (carried : Option Shape) (s : Shape)
    → Comes image m place carried → IsStart m place → shape_at (entry_at m place) carried ≡ Some s
    → KindsAt image m place s
kinds_stand image m place carried s w start is = by_entry (entry_at m place) refl is
  where
    by_entry : (o : Option ImageEntry) → entry_at m place ≡ o → shape_at o carried ≡ Some s → KindsAt image m place s
    by_entry None none is = arrived image m place s none (w.arrives s is)
    by_entry (Some e) there is =
        subst (λ (t : Shape). KindsAt image m place t) (some_eq (entry_shape e) s is) (entered place e start there)

-- the walk begins with what the method does
pub comes_first : (image : Image) (m : ImageMethod) → Comes image m 0 (Some (first_shape m))
comes_first image m = record {
  reached = first;
  arrives = λ s is. subst (λ (t : Shape). Arrives image m 0 t) (some_eq (first_shape m) s is) at_first;
  all = λ s a. only 0 s refl a;
  ends = λ none. absurd (none_some (first_shape m) (sym none));
  low = λ s is. subst (λ (t : Shape). length t.stack ≤ m.stack) (some_eq (first_shape m) s is) (omega arith);
}
  where
    only : (place : ℕ) (s : Shape) → place ≡ 0 → Arrives image m place s → Some (first_shape m) ≡ Some s
    only place s zero at_first = refl
    only place s zero (from_before before shape i kinds starts on) =
        let some = size_some i in absurd (omega (arith, some, zero))

-- behind an instruction that does not go on, nothing arrives
pub ends_none : (image : Image) (m : ImageMethod) (place : ℕ) (s : Shape) → EndsAt m place → Arrives image m place s → ⊥
ends_none image m place s e at_first = let some = size_some e.i in let next = e.next in omega (arith, some, next)
ends_none image m place s e (from_before before shape i kinds starts on) =
    let same = same_before m before e.before i e.i starts e.starts (sym e.next) in
    let end : is_end i ≡ true = ap is_end same.1 ∙ e.end in absurd cc

-- the walk goes on with what an instruction leaves
pub comes_on : (image : Image) (m : ImageMethod) (place : ℕ) (carried : Option Shape) (i : Op) (s : Shape)
    → Comes image m place carried → StartsAt m place i → shape_at (entry_at m place) carried ≡ Some s
    → length (after image s i).stack ≤ m.stack
    → Comes image m (place + size_of i) (carried_on image (shape_at (entry_at m place) carried) i)
comes_on image m place carried i s w starts is high =
    subst (λ (o : Option Shape). Comes image m (place + size_of i) (carried_on image o i)) (sym is)
    (by_end (is_end i) refl)
  where
    next : IsReached m (place + size_of i)
    next = behind place i w.reached starts.stands

    ended : is_end i ≡ true → EndsAt m (place + size_of i)
    ended end = record { before = place; i = i; starts = starts; end = end; next = refl }

    kinds : KindsAt image m place s
    kinds = kinds_stand image m place carried s w (i, starts) is

    only : is_end i ≡ false → (at : ℕ) (t : Shape) → at ≡ place + size_of i → Arrives image m at t
        → Some (after image s i) ≡ Some t
    only on at t same at_first = let some = size_some i in absurd (omega (arith, some, same))
    only on at t same (from_before before shape j kinds_before starts_before on_before) =
        let equal = same_before m before place j i starts_before starts same in
        let here : shape_at (entry_at m place) carried ≡ Some shape =
        kinds_are image m place carried shape w (subst (λ (p : ℕ). KindsAt image m p shape) equal.0 kinds_before) in
        let shapes : s ≡ shape = some_eq s shape (sym is ∙ here) in
        ap (λ (u : Shape). Some (after image u i)) shapes ∙ ap (λ (k : Op). Some (after image shape k)) (sym equal.1)

    by_end : (b : Bool) → is_end i ≡ b
        → Comes image m (place + size_of i) (if b then None else option_map (λ t. after image t i) (Some s))
    by_end true end = record {
      reached = next;
      arrives = λ t none. absurd (none_some t none);
      all = λ t a. absurd (ends_none image m (place + size_of i) t (ended end) a);
      ends = λ none. ended end;
      low = λ t none. absurd (none_some t none);
    }
    by_end false on = record {
      reached = next;
      arrives = λ t same.
          subst (λ (u : Shape). Arrives image m (place + size_of i) u) (some_eq (after image s i) t same)
          (from_before place s i kinds starts on);
      all = λ t a. only on (place + size_of i) t refl a;
      ends = λ none. absurd (none_some (after image s i) (sym none));
      low = λ t same. subst (λ (u : Shape). length u.stack ≤ m.stack) (some_eq (after image s i) t same) high;
    }
