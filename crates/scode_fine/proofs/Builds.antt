-- Steps of instructions, by what each takes and leaves.
use Rattle.std.proofs.Common.{◌≡◌, ◌<◌, ◌≤◌, ◌⊎◌, inl, ℕ, zero, suc, ◌&&◌, not, Bool, true, false, List, [], ◌∷◌, length, nat_lt, lt-ltb, Option, Some, None, refl, sym, ap, subst, ◌∙◌, arith}
use Rattle.std.specs.Prelude.{is_none, slice_get}
use Rattle.std.specs.Option.{option_map_or}
use Rattle.std.proofs.lemmas.Bool.{and_from, and_parts, not-true}
use Rattle.std.proofs.lemmas.Option.{same_Some, slice_get_within}
use Rattle.scode_image.specs.declared.image.ImageKind.{ImageKind}
use Rattle.scode_image.specs.declared.image.Image.{Image}
use Rattle.scode_code.specs.CodeRules.{after_stack, field_missing, is_end, jumps_to, locals_after, number_missing, result_differs, with_kind}
use Rattle.scode_code.specs.Kinds.{all_go, bool, goes_to, null}
use Rattle.scode_code.specs.Wants.{constant, needs, needs_of, nothing}
use Rattle.scode_code.proofs.Verifies.{all_go_to_themselves}
use Rattle.scode_whole.proofs.Truths.{no_truth}
use Rattle.scode_ops.specs.declared.op.Op.{Op}
use Rattle.scode_ops.specs.declared.op.Op.TheVariants as op
use Rattle.scode_fine.proofs.Goings.{all_go_length}
use Rattle.scode_fine.proofs.Walks.{GoesOn, Ground, JumpsTo, Stack, Steps, has_all, here, left_by}

-- from these kinds an instruction goes on with those, wherever it stands, if they are not too many
abbrev pub Does : Ground → Op → Stack → Stack → Type 0
Does g i stack next =
    (at : ℕ) → length stack ≤ g.m.stack → length next ≤ g.m.stack → Steps g at stack i (Some next)

-- an instruction that does not jump and goes on
pub builds : {g : Ground} {at : ℕ} (stack next : Stack) (i : Op) → number_missing g.image g.m i ≡ false →
    has_all g.image (needs g.image (here g stack) i) stack ≡ true → field_missing g.image stack i ≡ false →
    result_differs g.image g.m (here g stack) i ≡ false →
    all_go g.image (locals_after (here g stack) i) g.m.locals ≡ true → is_end i ≡ false → jumps_to i ≡ None →
    all_go g.image (left_by g stack i) next ≡ true → length stack ≤ g.m.stack → length next ≤ g.m.stack →
    Steps g at stack i (Some next)
builds {g} {at} stack next i numbers cells fields result locals on jumps goes low high = record {
  fits = record {
    numbers = numbers;
    cells = cells;
    fields = fields;
    result = result;
    locals = locals;
    low = low;
    left_low = (let same = all_go_length g.image (left_by g stack i) next goes in omega (arith, same, high));
  };
  jumps = subst (λ (o : Option ℕ). JumpsTo g at (left_by g stack i) o) (sym jumps) tt;
  goes_on = subst (λ (b : Bool). GoesOn g b (left_by g stack i) (Some next)) (sym on) goes;
}

-- what is asked of one that changes no local, as one test that computes
abbrev pub quiet : Ground → Stack → Op → Bool
quiet g stack i =
    not (number_missing g.image g.m i) && (has_all g.image (needs g.image (here g stack) i) stack
    && (not (field_missing g.image stack i) && (not (result_differs g.image g.m (here g stack) i)
    && (not (is_end i) && is_none (jumps_to i)))))

no_jump : (o : Option ℕ) → is_none o ≡ true → o ≡ None
no_jump None h = refl
no_jump (Some to) h = no_truth h

pub steps : {g : Ground} {at : ℕ} (stack next : Stack) (i : Op) → quiet g stack i ≡ true →
    locals_after (here g stack) i ≡ g.m.locals → left_by g stack i ≡ next → length stack ≤ g.m.stack →
    length next ≤ g.m.stack → Steps g at stack i (Some next)
steps {g} {at} stack next i h locals left low high =
    let a = and_parts (not (number_missing g.image g.m i)) (has_all g.image (needs g.image (here g stack) i) stack && (not (field_missing g.image stack i) && (not (result_differs g.image g.m (here g stack) i) && (not (is_end i) && is_none (jumps_to i))))) h in
    let b = and_parts (has_all g.image (needs g.image (here g stack) i) stack) (not (field_missing g.image stack i) && (not (result_differs g.image g.m (here g stack) i) && (not (is_end i) && is_none (jumps_to i)))) a.1 in
    let c = and_parts (not (field_missing g.image stack i)) (not (result_differs g.image g.m (here g stack) i) && (not (is_end i) && is_none (jumps_to i))) b.1 in
    let d = and_parts (not (result_differs g.image g.m (here g stack) i)) (not (is_end i) && is_none (jumps_to i)) c.1 in
    let e = and_parts (not (is_end i)) (is_none (jumps_to i)) d.1 in
    builds stack next i (not-true (number_missing g.image g.m i) a.0) b.0 (not-true (field_missing g.image stack i) c.0)
    (not-true (result_differs g.image g.m (here g stack) i) d.0)
    (subst (λ (ks : List ImageKind). all_go g.image ks g.m.locals ≡ true) (sym locals) (all_go_to_themselves g.image g.m.locals))
    (not-true (is_end i) e.0) (no_jump (jumps_to i) e.1)
    (subst (λ (s : Stack). all_go g.image (left_by g stack i) s ≡ true) left (all_go_to_themselves g.image (left_by g stack i))) low high

-- ---- locals

no_local : (n : ℕ) (ls : List ImageKind) (k : ImageKind) → slice_get ls n ≡ Some k → not (nat_lt n (length ls)) ≡ false
no_local n ls k e = ap not (lt-ltb n (length ls) (slice_get_within ls n k e))

pub load_does : (g : Ground) (n : ℕ) (k : ImageKind) (below : Stack) → slice_get g.m.locals n ≡ Some k →
    Does g (op.Load n) below (k ∷ below)
load_does g n k below e at low high =
    builds below (k ∷ below) (op.Load n) (no_local n g.m.locals k e)
    (ap (λ (o : Option ImageKind). has_all g.image (needs_of g.image (option_map_or (λ (l : ImageKind). constant l) o nothing).takes) below) e)
    refl refl (all_go_to_themselves g.image g.m.locals) refl refl
    (ap (λ (o : Option ImageKind). all_go g.image (after_stack g.image (option_map_or (λ (l : ImageKind). constant l) o nothing) below) (k ∷ below)) e
    ∙ all_go_to_themselves g.image (k ∷ below)) low high

with_goes : (image : Image) (n : ℕ) (ls : List ImageKind) (k l : ImageKind) → slice_get ls n ≡ Some l →
    goes_to image k l ≡ true → all_go image (with_kind ls n k) ls ≡ true
with_goes image n [] k l e g = refl
with_goes image zero (j ∷ ls) k l e g =
    and_from (goes_to image k j) (all_go image ls ls)
    (subst (λ (x : ImageKind). goes_to image k x ≡ true) (sym (same_Some j l e)) g) (all_go_to_themselves image ls)
with_goes image (suc n) (j ∷ ls) k l e g =
    let all = and_parts (goes_to image j j) (all_go image ls ls) (all_go_to_themselves image (j ∷ ls)) in
    and_from (goes_to image j j) (all_go image (with_kind ls n k) ls) all.0 (with_goes image n ls k l e g)

-- what is left may be said to be what it goes to
pub store_does : (g : Ground) (n : ℕ) (k l : ImageKind) (below next : Stack) → slice_get g.m.locals n ≡ Some l →
    goes_to g.image k l ≡ true → all_go g.image below next ≡ true → Does g (op.Store n) (k ∷ below) next
store_does g n k l below next e goes rest at low high =
    builds (k ∷ below) next (op.Store n) (no_local n g.m.locals l e) refl refl refl
    (with_goes g.image n g.m.locals k l e goes) refl refl rest low high

pub dup_does : (g : Ground) (k : ImageKind) (below : Stack) → Does g op.Dup (k ∷ below) (k ∷ k ∷ below)
dup_does g k below at low high = steps (k ∷ below) (k ∷ k ∷ below) op.Dup refl refl refl low high

pub pop_does : (g : Ground) (k : ImageKind) (below : Stack) → Does g op.Pop (k ∷ below) below
pop_does g k below at low high = steps (k ∷ below) below op.Pop refl refl refl low high

-- null, which is said to be of a kind to which it goes
pub null_does : (g : Ground) (k : ImageKind) (below : Stack) → goes_to g.image null k ≡ true → Does g op.Null below (k ∷ below)
null_does g k below h at low high =
    builds below (k ∷ below) op.Null refl refl refl refl (all_go_to_themselves g.image g.m.locals) refl refl
    (and_from (goes_to g.image null k) (all_go g.image below below) h (all_go_to_themselves g.image below)) low high

-- ---- jumps

pub jump_does : (g : Ground) (at to : ℕ) (stack : Stack) → g.Told to stack → at < to → length stack ≤ g.m.stack →
    Steps g at stack (op.Jump to) None
jump_does g at to stack told less low = record {
  fits = record {
    numbers = refl;
    cells = refl;
    fields = refl;
    result = refl;
    locals = all_go_to_themselves g.image g.m.locals;
    low = low;
    left_low = low;
  };
  jumps = (told, inl less);
  goes_on = tt;
}

pub unless_does : (g : Ground) (at to : ℕ) (below : Stack) → g.Told to below → at < to → length (bool ∷ below) ≤ g.m.stack →
    Steps g at (bool ∷ below) (op.JumpFalse to) (Some below)
unless_does g at to below told less low = record {
  fits = record {
    numbers = refl;
    cells = refl;
    fields = refl;
    result = refl;
    locals = all_go_to_themselves g.image g.m.locals;
    low = low;
    left_low = (let f : length below ≤ g.m.stack = omega (arith, low) in f);
  };
  jumps = (told, inl less);
  goes_on = all_go_to_themselves g.image below;
}

pub if_does : (g : Ground) (at to : ℕ) (below : Stack) → g.Told to below → (at < to) ⊎ g.Turned to →
    length (bool ∷ below) ≤ g.m.stack → Steps g at (bool ∷ below) (op.JumpTrue to) (Some below)
if_does g at to below told may low = record {
  fits = record {
    numbers = refl;
    cells = refl;
    fields = refl;
    result = refl;
    locals = all_go_to_themselves g.image g.m.locals;
    low = low;
    left_low = (let f : length below ≤ g.m.stack = omega (arith, low) in f);
  };
  jumps = (told, may);
  goes_on = all_go_to_themselves g.image below;
}

-- ---- ends

pub return_does : (g : Ground) (at : ℕ) (stack : Stack) → result_differs g.image g.m (here g stack) op.Return ≡ false →
    length stack ≤ g.m.stack → Steps g at stack op.Return None
return_does g at stack result low = record {
  fits = record {
    numbers = refl;
    cells = refl;
    fields = refl;
    result = result;
    locals = all_go_to_themselves g.image g.m.locals;
    low = low;
    left_low = low;
  };
  jumps = tt;
  goes_on = tt;
}

pub answer_does : (g : Ground) (at : ℕ) (k : ImageKind) (below : Stack) →
    result_differs g.image g.m (here g (k ∷ below)) op.ReturnValue ≡ false → length (k ∷ below) ≤ g.m.stack →
    Steps g at (k ∷ below) op.ReturnValue None
answer_does g at k below result low = record {
  fits = record {
    numbers = refl;
    cells = refl;
    fields = refl;
    result = result;
    locals = all_go_to_themselves g.image g.m.locals;
    low = low;
    left_low = (let f : length below ≤ g.m.stack = omega (arith, low) in f);
  };
  jumps = tt;
  goes_on = tt;
}
