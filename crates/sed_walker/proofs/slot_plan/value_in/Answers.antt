use Rattle.std.proofs.Common.{◌≡◌, ℕ, List, zero, suc, [], ◌∷◌, Some, None, refl, sym}
use Rattle.std.specs.Prelude.{slice_get, slice_index_or}
use Rattle.sed_value.specs.declared.value.Value.TheVariants as kept
use Rattle.sed_walker.proofs.slot_plan.value_in.Goals as goal

past_get : {X : Type 0} (xs : List X) (n : ℕ) (d : X) → slice_get xs n ≡ None → slice_index_or xs n d ≡ d
past_get [] n d e = refl
past_get (x ∷ xs) zero d e = absurd (let never : Some x ≡ None = e in cc)
past_get (x ∷ xs) (suc n) d e = past_get xs n d e

pub returns-in-None : goal.returns-in-None
returns-in-None c = sym (past_get c.args.cells.now c.args.number kept.Nothing (sym c.in-None.ensures))
