-- What may be assigned to: how its value is read, stored, and kept, once what is needed stands on the stack.
use Rattle.std.proofs.Common.{◌≡◌, ◌≤◌, ℕ, ◌+◌, [], ◌∷◌, length, Some, refl, sym, subst, arith}
use Rattle.std.specs.Prelude.{slice_get}
use Rattle.std.proofs.lemmas.Bool.{and_from}
use Rattle.sed_value.specs.declared.slot_type.Primitive.{Primitive}
use Rattle.sed_value.specs.declared.slot_type.Primitive.TheVariants as prim
use Rattle.sed_typed.specs.declared.kind.Kind.{Kind}
use Rattle.sed_typed.specs.declared.operators.Gives.{Gives}
use Rattle.sed_typed.specs.declared.operators.Gives.TheVariants.{Old, New}
use Rattle.sed_typed.specs.Kinds.{read_kind}
use Rattle.sed_typed.specs.TypedExpr.{Context, GoesTo}
use Rattle.scode_image.specs.declared.image.ImageKind.{ImageKind}
use Rattle.scode_code.specs.Kinds.{all_go, goes_to, int}
use Rattle.scode_code.proofs.Verifies.{all_go_to_themselves, goes_to_itself}
use Rattle.scode_ops.specs.declared.op.Op.{Op}
use Rattle.scode_ops.specs.declared.op.Op.TheVariants as op
use Rattle.scode_emit.specs.declared.storage.Storage.{Storage}
use Rattle.scode_emit.specs.declared.storage.Storage.TheVariants.{InLocal, InField, InElement}
use Rattle.scode_emit.specs.Instructions.{around, before_code, behind_code, fetch_code, get_element_op, get_op, keep_code, narrow_code, put_code, put_element_op, put_op}
use Rattle.scode_emit.specs.Site.{Site, waiting, waiting_index}
use Rattle.scode_emit.proofs.Counts.{count}
use Rattle.scode_entries.specs.Entries.{cell_of}
use Rattle.scode_fine.proofs.Builds.{Does, dup_does, load_does, store_does}
use Rattle.scode_fine.proofs.Facts.{Facts, goes_read}
use Rattle.scode_fine.proofs.PlainOps.{to_byte_does, to_short_does}
use Rattle.scode_fine.proofs.Walks.{Ground, Stack, Stops, Walks, onto, only, runs}

-- a storage with a kind, with what stands on the stack for it and what is below
pub data Stored (g : Ground) (c : Context) : Storage → Kind → Stack → Stack → Type 0 where
  AsLocal : {i : ℕ} {k : Kind} {below : Stack} → slice_get c.locals i ≡ Some k → Stored g c (InLocal i) k below below
  AsField : {p : Primitive} {offset : ℕ} {below : Stack} (o : ImageKind) →
      ((b : Stack) → Does g (get_op p offset) (o ∷ b) (cell_of (read_kind p) ∷ b)) →
      ((b : Stack) → Does g (put_op p offset) (cell_of (read_kind p) ∷ o ∷ b) b) →
      Stored g c (InField p offset) (read_kind p) (o ∷ below) below
  AsElement : {p : Primitive} {offset n : ℕ} {below : Stack} (o : ImageKind) →
      ((b : Stack) → Does g (get_element_op p offset n) (int ∷ o ∷ b) (cell_of (read_kind p) ∷ b)) →
      ((b : Stack) → Does g (put_element_op p offset n) (cell_of (read_kind p) ∷ int ∷ o ∷ b) b) →
      Stored g c (InElement p offset n) (read_kind p) (int ∷ o ∷ below) below

-- with the value before above it, which stands there twice where that of a local is wanted afterwards
abbrev pub wanted : Gives → Storage → Kind → Stack → Stack
wanted Old (InLocal i) k stack = cell_of k ∷ stack
wanted Old (InField p offset) k stack = stack
wanted Old (InElement p offset n) k stack = stack
wanted New s k stack = stack

narrow_walks : (g : Ground) (at : ℕ) (p : Primitive) (below : Stack) → length below + 1 ≤ g.m.stack →
    Walks g at (Some (cell_of (read_kind p) ∷ below)) (narrow_code p) [] [] (Some (cell_of (read_kind p) ∷ below))
narrow_walks g at prim.Bool below low = Stops
narrow_walks g at prim.Byte below low = only (to_byte_does g below at (omega (arith, low)) (omega (arith, low)))
narrow_walks g at prim.Short below low = only (to_short_does g below at (omega (arith, low)) (omega (arith, low)))
narrow_walks g at prim.Int below low = Stops
narrow_walks g at prim.Long below low = Stops

module _ (g : Ground) (c : Context) (w : Site) (f : Facts g c w) where
  wait_does : (p : Primitive) (below : Stack) → Does g (op.Store (waiting w p)) (cell_of (read_kind p) ∷ below) below
  wait_does p below =
      store_does g (waiting w p) (cell_of (read_kind p)) (cell_of (read_kind p)) below below (f.waits p)
      (goes_to_itself g.image (cell_of (read_kind p))) (all_go_to_themselves g.image below)

  waited_does : (p : Primitive) (below : Stack) → Does g (op.Load (waiting w p)) below (cell_of (read_kind p) ∷ below)
  waited_does p below = load_does g (waiting w p) (cell_of (read_kind p)) below (f.waits p)

  pub wait_int : (below : Stack) → Does g (op.Store (waiting w prim.Int)) (int ∷ below) below
  wait_int below = wait_does prim.Int below

  pub waited_int : (below : Stack) → Does g (op.Load (waiting w prim.Int)) below (int ∷ below)
  waited_int below = waited_does prim.Int below

  wait_index : (below : Stack) → Does g (op.Store (waiting_index w)) (int ∷ below) below
  wait_index below =
      store_does g (waiting_index w) int int below below f.waits_index (goes_to_itself g.image int)
      (all_go_to_themselves g.image below)

  waited_index : (below : Stack) → Does g (op.Load (waiting_index w)) below (int ∷ below)
  waited_index below = load_does g (waiting_index w) int below f.waits_index

  -- ---- the value that stands there

  element_walks : (at : ℕ) (p : Primitive) (offset n : ℕ) (o : ImageKind) (below : Stack) →
      ((b : Stack) → Does g (get_element_op p offset n) (int ∷ o ∷ b) (cell_of (read_kind p) ∷ b)) →
      length below + 3 ≤ g.m.stack →
      Walks g at (Some (int ∷ o ∷ below)) (fetch_code w (InElement p offset n)) [] []
      (Some (cell_of (read_kind p) ∷ int ∷ o ∷ below))
  element_walks at p offset n o below get low =
      runs (wait_index (o ∷ below) at (omega (arith, low)) (omega (arith, low)))
      (runs (dup_does g o below _ (omega (arith, low)) (omega (arith, low)))
      (runs (waited_index (o ∷ o ∷ below) _ (omega (arith, low)) (omega (arith, low)))
      (runs (get (o ∷ below) _ (omega (arith, low)) (omega (arith, low)))
      (runs (wait_does p (o ∷ below) _ (omega (arith, low)) (omega (arith, low)))
      (runs (waited_index (o ∷ below) _ (omega (arith, low)) (omega (arith, low)))
      (only (waited_does p (int ∷ o ∷ below) _ (omega (arith, low)) (omega (arith, low)))))))))

  pub fetch_walks : {s : Storage} {k : Kind} {stack below : Stack} (at : ℕ) → Stored g c s k stack below →
      length stack + 2 ≤ g.m.stack → Walks g at (Some stack) (fetch_code w s) [] [] (Some (cell_of k ∷ stack))
  fetch_walks at (AsLocal {i = i} {k = k} {below = below} e) low =
      only (load_does g i (cell_of k) below (f.locals i k e) at (omega (arith, low)) (omega (arith, low)))
  fetch_walks at (AsField {p = p} {below = below} o get put) low =
      runs (dup_does g o below at (omega (arith, low)) (omega (arith, low)))
      (only (get (o ∷ below) _ (omega (arith, low)) (omega (arith, low))))
  fetch_walks at (AsElement {p = p} {offset = offset} {n = n} {below = below} o get put) low =
      element_walks at p offset n o below get (omega (arith, low))

  -- ---- a value that is stored, and not kept

  pub put_walks : {s : Storage} {k : Kind} {stack below : Stack} (at : ℕ) (l : Kind) → Stored g c s k stack below →
      GoesTo c.program l k → length stack + 2 ≤ g.m.stack →
      Walks g at (Some (cell_of l ∷ stack)) (put_code s) [] [] (Some below)
  put_walks at l (AsLocal {i = i} {k = k} {below = below} e) goes low =
      only (store_does g i (cell_of l) (cell_of k) below below (f.locals i k e) (f.goes l k goes)
      (all_go_to_themselves g.image below) at (omega (arith, low)) (omega (arith, low)))
  put_walks at l (AsField {p = p} {offset = offset} {below = below} o get put) goes low =
      subst (λ (k : Kind). Walks g at (Some (cell_of k ∷ o ∷ below)) (put_op p offset ∷ []) [] [] (Some below))
      (sym (goes_read c.program l p goes)) (only (put below at (omega (arith, low)) (omega (arith, low))))
  put_walks at l (AsElement {p = p} {offset = offset} {n = n} {below = below} o get put) goes low =
      subst (λ (k : Kind). Walks g at (Some (cell_of k ∷ int ∷ o ∷ below)) (put_element_op p offset n ∷ []) [] [] (Some below))
      (sym (goes_read c.program l p goes)) (only (put below at (omega (arith, low)) (omega (arith, low))))

  -- ---- a value that is stored and stands there afterwards

  around_walks : (at : ℕ) (p : Primitive) (put : Op) (stack below : Stack) → Does g put (cell_of (read_kind p) ∷ stack) below →
      length stack + 2 ≤ g.m.stack → length below ≤ length stack →
      Walks g at (Some (cell_of (read_kind p) ∷ stack)) (around w p put) [] [] (Some (cell_of (read_kind p) ∷ below))
  around_walks at p put stack below does low less =
      onto (narrow_walks g at p stack (omega (arith, low))) refl
      (runs (wait_does p stack (at + count (narrow_code p)) (omega (arith, low)) (omega (arith, low)))
      (runs (waited_does p stack _ (omega (arith, low)) (omega (arith, low)))
      (runs (does _ (omega (arith, low)) (omega (arith, low, less)))
      (only (waited_does p below _ (omega (arith, low, less)) (omega (arith, low, less)))))))

  pub keep_walks : {s : Storage} {k : Kind} {stack below : Stack} (at : ℕ) (l : Kind) → Stored g c s k stack below →
      GoesTo c.program l k → length stack + 2 ≤ g.m.stack →
      Walks g at (Some (cell_of l ∷ stack)) (keep_code w s) [] [] (Some (cell_of k ∷ below))
  keep_walks at l (AsLocal {i = i} {k = k} {below = below} e) goes low =
      runs (dup_does g (cell_of l) below at (omega (arith, low)) (omega (arith, low)))
      (only (store_does g i (cell_of l) (cell_of k) (cell_of l ∷ below) (cell_of k ∷ below) (f.locals i k e) (f.goes l k goes)
      (and_from (goes_to g.image (cell_of l) (cell_of k)) (all_go g.image below below) (f.goes l k goes) (all_go_to_themselves g.image below))
      _ (omega (arith, low)) (omega (arith, low))))
  keep_walks at l (AsField {p = p} {offset = offset} {below = below} o get put) goes low =
      subst (λ (k : Kind). Walks g at (Some (cell_of k ∷ o ∷ below)) (around w p (put_op p offset)) [] [] (Some (cell_of (read_kind p) ∷ below)))
      (sym (goes_read c.program l p goes))
      (around_walks at p (put_op p offset) (o ∷ below) below (put below) (omega (arith, low)) (omega arith))
  keep_walks at l (AsElement {p = p} {offset = offset} {n = n} {below = below} o get put) goes low =
      subst (λ (k : Kind). Walks g at (Some (cell_of k ∷ int ∷ o ∷ below)) (around w p (put_element_op p offset n)) [] [] (Some (cell_of (read_kind p) ∷ below)))
      (sym (goes_read c.program l p goes))
      (around_walks at p (put_element_op p offset n) (int ∷ o ∷ below) below (put below) (omega (arith, low)) (omega arith))

  -- ---- before and behind the operand of a compound assignment

  pub before_walks : {s : Storage} {k : Kind} {stack below : Stack} (at : ℕ) (v : Gives) → Stored g c s k stack below →
      length stack + 2 ≤ g.m.stack → Walks g at (Some stack) (before_code w v s) [] [] (Some (cell_of k ∷ wanted v s k stack))
  before_walks at New s low = fetch_walks at s low
  before_walks at Old (AsLocal {i = i} {k = k} {below = below} e) low =
      runs (load_does g i (cell_of k) below (f.locals i k e) at (omega (arith, low)) (omega (arith, low)))
      (only (dup_does g (cell_of k) below _ (omega (arith, low)) (omega (arith, low))))
  before_walks at Old (AsField {p = p} {below = below} o get put) low =
      runs (dup_does g o below at (omega (arith, low)) (omega (arith, low)))
      (runs (get (o ∷ below) _ (omega (arith, low)) (omega (arith, low)))
      (runs (wait_does p (o ∷ below) _ (omega (arith, low)) (omega (arith, low)))
      (only (waited_does p (o ∷ below) _ (omega (arith, low)) (omega (arith, low))))))
  before_walks at Old (AsElement {p = p} {offset = offset} {n = n} {below = below} o get put) low =
      element_walks at p offset n o below get (omega (arith, low))

  pub behind_walks : {s : Storage} {k : Kind} {stack below : Stack} (at : ℕ) (v : Gives) → Stored g c s k stack below →
      GoesTo c.program k k → length stack + 2 ≤ g.m.stack →
      Walks g at (Some (cell_of k ∷ wanted v s k stack)) (behind_code w v s) [] [] (Some (cell_of k ∷ below))
  behind_walks {k = k} at New s goes low = keep_walks at k s goes low
  behind_walks at Old (AsLocal {i = i} {k = k} {below = below} e) goes low =
      only (store_does g i (cell_of k) (cell_of k) (cell_of k ∷ below) (cell_of k ∷ below) (f.locals i k e)
      (goes_to_itself g.image (cell_of k)) (all_go_to_themselves g.image (cell_of k ∷ below)) at (omega (arith, low)) (omega (arith, low)))
  behind_walks at Old (AsField {p = p} {below = below} o get put) goes low =
      runs (put below at (omega (arith, low)) (omega (arith, low)))
      (only (waited_does p below _ (omega (arith, low)) (omega (arith, low))))
  behind_walks at Old (AsElement {p = p} {below = below} o get put) goes low =
      runs (put below at (omega (arith, low)) (omega (arith, low)))
      (only (waited_does p below _ (omega (arith, low)) (omega (arith, low))))
