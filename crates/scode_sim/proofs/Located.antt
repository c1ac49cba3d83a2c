-- What may be assigned to, once its object and index are on the stack: how it is read and stored.
use Rattle.std.proofs.Common.{◌≡◌, ℕ, ℤ, ◌+◌, false, List, ◌∷◌, Some, slice_get, refl, sym, ap, ◌∙◌, subst, arith}
use Rattle.sed_value.specs.declared.slot_type.Primitive.{Primitive}
use Rattle.sed_typed.specs.declared.kind.Kind.{Kind}
use Rattle.sed_typed.specs.declared.program.Program.{Program}
use Rattle.sed_typed.specs.Kinds.{read_kind}
use Rattle.sed_engine.specs.Places.{Target, OfLocal, fetch, put}
use Rattle.sed_engine.specs.State.{State, End}
use Rattle.sed_engine.specs.Steps.{write_local}
use Rattle.sed_engine.specs.Values.{Val, Int, Spot}
use Rattle.sed_engine.proofs.Kinded.{HasKind}
use Rattle.scode_image.specs.declared.image.Image.{Image}
use Rattle.scode_code.specs.Effect.{form_number, array_number}
use Rattle.scode_code.specs.Fields.{Setting}
use Rattle.scode_code.specs.Machine.{pushed}
use Rattle.scode_emit.specs.declared.storage.Storage.{Storage}
use Rattle.scode_emit.specs.declared.storage.Storage.TheVariants.{InLocal, InField, InElement}
use Rattle.scode_emit.specs.Site.{Site, Layout}
use Rattle.scode_emit.specs.Instructions.{get_op, put_op, get_element_op, put_element_op, narrow_size, put_code, put_size, keep_code, keep_size, fetch_code, fetch_size}
use Rattle.scode_emit.proofs.Counts.{put_sized, put_element_sized, get_sized, get_element_sized}
use Rattle.scode_sim.proofs.Apart.{Apart}
use Rattle.scode_sim.proofs.Comes.{here}
use Rattle.scode_sim.proofs.Context.{Known, Body, running, site, machine, runs}
use Rattle.scode_sim.proofs.Follows.{Stands, Pushed, not_void, HasAt, Sim, same_sim, extend, to_place, end_store_sim}
use Rattle.scode_sim.proofs.Frames.{Running, IsSolid, pushed_is}
use Rattle.scode_sim.proofs.Keeping.{reads, by_dup, fetch_field_sim, fetch_element_sim}
use Rattle.scode_sim.proofs.Operations.{IsFor, IsField, element_of, get_effect, put_effect, array_get_effect, array_put_effect}
use Rattle.scode_sim.proofs.NamedReads.{local_sim, store_sim}
use Rattle.scode_sim.proofs.Stores.{writes, for_kind, read_solid, cell_of_kind}
use Rattle.scode_sim.proofs.Waiting.{around_sim, writes_apart}

-- a target that is a field, or an element, of the object on the stack
pub record FieldAt (w : Setting) (p : Primitive) (offset : ℕ) (t : Target) (o : Val) : Type 0 where
  pub base : State → End Spot
  pub apart : Apart Spot base
  pub is : IsField w o (form_number p) offset 0 base
  pub fetch_is : (s : State) → fetch t s ≡ reads base s
  pub put_is : (v : Val) (s : State) → put t v s ≡ writes p base v s

pub record ElementAt (w : Setting) (p : Primitive) (offset count : ℕ) (t : Target) (o : Val) (i : ℤ) : Type 0 where
  pub base : State → End Spot
  pub apart : Apart Spot (element_of count i base)
  pub is : IsField w o (array_number p) offset count base
  pub fetch_is : (s : State) → fetch t s ≡ reads (element_of count i base) s
  pub put_is : (v : Val) (s : State) → put t v s ≡ writes p (element_of count i base) v s

module _ (program : Program) (layout : Layout) (image : Image) (class : ℕ) (known : Known program layout image class) (b : Body) where
  abbrev w : Setting
  w = machine image class

  abbrev x : Running
  x = running b

  abbrev at_site : Site
  at_site = site program layout b

  abbrev G : State → Type 0
  G s = runs program class b s

  abbrev Has : Kind → Val → Type 0
  Has k v = HasKind program class k v

  -- what is stored there, a target, and what stands on the stack for it
  abbrev pub LocatedAs : Kind → Storage → Target → List Val → List Val → Type 0
  LocatedAs k (InLocal i) t st all = (t ≡ OfLocal k i) × (all ≡ st) × (slice_get b.frame.locals i ≡ Some k) × (b.frame.static ≡ false → i ≡ 0 → ⊥)
  LocatedAs k (InField p offset) t st all = (o : Val) × (all ≡ o ∷ st) × (read_kind p ≡ k) × FieldAt w p offset t o
  LocatedAs k (InElement p offset count) t st all = (o : Val) × (i : ℤ) × (all ≡ Int i ∷ o ∷ st) × (read_kind p ≡ k) × ElementAt w p offset count t o i

  solid_of : (p : Primitive) (k : Kind) → read_kind p ≡ k → IsSolid k
  solid_of p k e = subst IsSolid e (read_solid p)

  for_of : (p : Primitive) (k : Kind) (v : Val) → read_kind p ≡ k → Has k v → IsFor p v
  for_of p k v e h = for_kind program class p v (subst (λ (k : Kind). Has k v) (sym e) h)

  pub located_solid : (k : Kind) (sg : Storage) (t : Target) (st all : List Val) → LocatedAs k sg t st all → IsSolid k
  located_solid k (InLocal i) t st all l = b.solid i k l.2
  located_solid k (InField p offset) t st all l = solid_of p k l.2
  located_solid k (InElement p offset count) t st all l = solid_of p k l.3

  -- ---- the value there

  pub fetch_sim : (n at : ℕ) (k : Kind) (sg : Storage) (t : Target) (st all : List Val) → LocatedAs k sg t st all → HasAt w x.method at (fetch_code at_site sg) →
      Sim w G x n Val (fetch t) at all (Pushed x n k (at + fetch_size sg) all)
  fetch_sim n at k (InLocal i) t st all l has =
      subst (λ (t : Target). Sim w G x n Val (fetch t) at all (Pushed x n k (at + 2) all)) (sym l.0) (local_sim program layout image class known b n i at k all l.2 has)
  fetch_sim n at k (InField p offset) t st all l has =
      let f = l.3 in
      let got = fetch_field_sim w G x n at p (get_op p offset) l.0 st f.base (get_sized p offset) f.apart (get_effect w p offset l.0 f.base f.is) has in
      subst (λ (all : List Val). Sim w G x n Val (fetch t) at all (Pushed x n k (at + 4) all)) (sym l.1)
      (subst (λ (k : Kind). Sim w G x n Val (fetch t) at (l.0 ∷ st) (Pushed x n k (at + 4) (l.0 ∷ st))) l.2 (same_sim w G (λ s. sym (f.fetch_is s)) got))
  fetch_sim n at k (InElement p offset count) t st all l has =
      let f = l.4 in
      let got = fetch_element_sim w G x n at at_site p (get_element_op p offset count) l.0 l.1 st (element_of count l.1 f.base) refl (get_element_sized p offset count) f.apart (array_get_effect w p offset count l.0 l.1 f.base f.is) has in
      subst (λ (all : List Val). Sim w G x n Val (fetch t) at all (Pushed x n k (at + 16) all)) (sym l.2)
      (subst (λ (k : Kind). Sim w G x n Val (fetch t) at (Int l.1 ∷ l.0 ∷ st) (Pushed x n k (at + 16) (Int l.1 ∷ l.0 ∷ st))) l.3 (same_sim w G (λ s. sym (f.fetch_is s)) got))

  -- ---- a value that is stored and not kept

  pub put_sim : (n at : ℕ) (k : Kind) (sg : Storage) (t : Target) (st all : List Val) (v : Val) → LocatedAs k sg t st all → Has k v → HasAt w x.method at (put_code sg) →
      Sim w G x n Val (put t v) at (v ∷ all) (λ u s q. Stands x n (at + put_size sg) st s q)
  put_sim n at k (InLocal i) t st all v l h has =
      let cell = cell_of_kind program class k v (b.solid i k l.2) h in
      subst (λ (t : Target). Sim w G x n Val (put t v) at (v ∷ all) (λ u s q. Stands x n (at + 2) st s q)) (sym l.0)
      (subst (λ (all : List Val). Sim w G x n Val (write_local i v) at (v ∷ all) (λ u s q. Stands x n (at + 2) st s q)) (sym l.1)
      (extend w G (store_sim program layout image class known b n i at k v st l.2 l.3 cell has) (λ u s q e. here e.1)))
  put_sim n at k (InField p offset) t st all v l h has =
      let f = l.3 in
      let fits = for_of p k v l.2 h in
      subst (λ (all : List Val). Sim w G x n Val (put t v) at (v ∷ all) (λ u s q. Stands x n (at + 3) st s q)) (sym l.1)
      (same_sim w G (λ s. sym (f.put_is v s))
      (end_store_sim w G x n (writes p f.base v) at (at + 3) (put_op p offset) (v ∷ l.0 ∷ st) st has.0 (ap (λ m. at + m) (put_sized p offset)) (writes_apart f.apart p v) (put_effect w p offset l.0 v f.base f.is fits st)))
  put_sim n at k (InElement p offset count) t st all v l h has =
      let f = l.4 in
      let fits = for_of p k v l.3 h in
      subst (λ (all : List Val). Sim w G x n Val (put t v) at (v ∷ all) (λ u s q. Stands x n (at + 5) st s q)) (sym l.2)
      (same_sim w G (λ s. sym (f.put_is v s))
      (end_store_sim w G x n (writes p (element_of count l.1 f.base) v) at (at + 5) (put_element_op p offset count) (v ∷ Int l.1 ∷ l.0 ∷ st) st has.0 (ap (λ m. at + m) (put_element_sized p offset count)) (writes_apart f.apart p v) (array_put_effect w p offset count l.0 v l.1 f.base f.is fits st)))

  -- ---- a value that is stored and stands there afterwards

  pub keep_sim : (n at : ℕ) (k : Kind) (sg : Storage) (t : Target) (st all : List Val) (v : Val) → LocatedAs k sg t st all → Has k v → HasAt w x.method at (keep_code at_site sg) →
      Sim w G x n Val (put t v) at (v ∷ all) (Pushed x n k (at + keep_size sg) st)
  keep_sim n at k (InLocal i) t st all v l h has =
      let solid = b.solid i k l.2 in
      let cell = cell_of_kind program class k v solid h in
      let store = store_sim program layout image class known b n i (at + 1) k v (v ∷ st) l.2 l.3 cell (has.1.0, tt) in
      subst (λ (t : Target). Sim w G x n Val (put t v) at (v ∷ all) (Pushed x n k (at + 3) st)) (sym l.0)
      (subst (λ (all : List Val). Sim w G x n Val (write_local i v) at (v ∷ all) (Pushed x n k (at + 3) st)) (sym l.1)
      (to_place w G (at + 3) (let e : at + 1 + 2 ≡ at + 3 = omega arith in e) (record {
        comes = λ s ms g a tu.
            by_dup w x at v st ms s.shared _ has.0
            ((extend w G store (λ u s q e. here (record {
              void = not_void k u solid;
              stands = subst (λ stack. Stands x n (at + 1 + 2) stack s q) (sym (ap (λ u. pushed u st) e.0 ∙ pushed_is v st cell)) e.1;
            }))).comes s ms g a tu);
      })))
  keep_sim n at k (InField p offset) t st all v l h has =
      let f = l.3 in
      let fits = for_of p k v l.2 h in
      let kept = around_sim w G x n at 3 at_site p (put_op p offset) v (l.0 ∷ st) st f.base refl (put_sized p offset) f.apart fits (λ u fu s. put_effect w p offset l.0 u f.base f.is fu st s) has in
      subst (λ (all : List Val). Sim w G x n Val (put t v) at (v ∷ all) (Pushed x n k (at + (narrow_size p + 9)) st)) (sym l.1)
      (subst (λ (k : Kind). Sim w G x n Val (put t v) at (v ∷ l.0 ∷ st) (Pushed x n k (at + (narrow_size p + 9)) st)) l.2 (same_sim w G (λ s. sym (f.put_is v s)) kept))
  keep_sim n at k (InElement p offset count) t st all v l h has =
      let f = l.4 in
      let fits = for_of p k v l.3 h in
      let kept = around_sim w G x n at 5 at_site p (put_element_op p offset count) v (Int l.1 ∷ l.0 ∷ st) st (element_of count l.1 f.base) refl (put_element_sized p offset count) f.apart fits (λ u fu s. array_put_effect w p offset count l.0 u l.1 f.base f.is fu st s) has in
      subst (λ (all : List Val). Sim w G x n Val (put t v) at (v ∷ all) (Pushed x n k (at + (narrow_size p + 11)) st)) (sym l.2)
      (subst (λ (k : Kind). Sim w G x n Val (put t v) at (v ∷ Int l.1 ∷ l.0 ∷ st) (Pushed x n k (at + (narrow_size p + 11)) st)) l.3 (same_sim w G (λ s. sym (f.put_is v s)) kept))
