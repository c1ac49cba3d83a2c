-- A root call on a component that is live or not, and may be faulted.
use Rattle.std.proofs.Common.{ℕ, ℤ, ◌≡◌, ◌≢◌, Bool, true, false, inl, inr, refl, sym, ◌∙◌, ap, arith}
use Rattle.std.specs.Prelude.{Option, Some, None, IsSome, IsSomeAnd, is_some, ◌==◌, if◌then◌else◌}
use Rattle.std.specs.Option.{option_map_or}
use Rattle.std.specs.FinMap as map
use Rattle.std.proofs.lemmas.Bool.{cases_eq}
use Rattle.std.proofs.lemmas.Bool.Decides.{nat_tests}
use Rattle.sed_value.specs.declared.value.Value.{Value}
use Rattle.sed_engine.specs.declared.call.Callback.{Callback as CallbackKind}
use Rattle.sed_engine.specs.declared.call.Root.{Root}
use Rattle.sed_engine.specs.declared.call.Root.TheVariants.{Callback}
use Rattle.sed_engine.specs.Code.{Meaning, Places, root_of}
use Rattle.comp_tree.specs.declared.entry.Entry.{Entry}
use Rattle.comp_tree.specs.Application.{ById, Component, Components, fault_of, is_live, object_of}
use Rattle.comp_tree.specs.Calls.{Call, Ran, callback_argument, ended, not_run, run_at, with_end}
use Rattle.comp_tree.specs.Told.{IsEntry}
use Rattle.sed_value.proofs.Orders.{put_at, put_beside}

-- ---- what an entry tells

pub entry_live : (live : Places) (o : Option Component) (e : Entry) → IsSomeAnd o (IsEntry live e) → IsSome o
entry_live live (Some c) e is = refl
entry_live live None e never = absurd never

pub entry_fault : (live : Places) (o : Option Component) (e : Entry) → IsSomeAnd o (IsEntry live e) → option_map_or (λ (c : Component). c.fault) o 0 ≡ e.fault
entry_fault live (Some c) e is = sym is.fault
entry_fault live None e never = absurd never

-- ---- where nothing is run

module _ (m : Meaning) (a : Components) (id : ℕ) (which : Root) (argument : Value) (turns : ℕ) (moment : ℤ) where
  abbrev run_by : Option Component → Ran
  run_by o = option_map_or (λ (c : Component). if c.fault == 0 then ended a id c (root_of m (object_of c) a.statics which argument turns moment) else not_run a turns) o (not_run a turns)

  pub run_none : map.get a.by_id id ≡ None → run_at m a id which argument turns moment ≡ not_run a turns
  run_none none = ap run_by none

  by_fault : (o : Option Component) → option_map_or (λ (c : Component). c.fault) o 0 ≢ 0 → run_by o ≡ not_run a turns
  by_fault (Some c) ne = ap (λ (b : Bool). if b then ended a id c (root_of m (object_of c) a.statics which argument turns moment) else not_run a turns) (unequal c.fault ne)
    where
      unequal : (n : ℕ) → n ≢ 0 → (n == 0) ≡ false
      unequal n ne = grind (arith, nat_tests)
  by_fault None ne = refl

  pub run_faulted : fault_of a.by_id id ≢ 0 → run_at m a id which argument turns moment ≡ not_run a turns
  run_faulted ne = by_fault (map.get a.by_id id) ne

-- ---- a root call leaves each component that is live so

put_live : (all : ById) (id : ℕ) (c d : Component) → map.get all id ≡ Some c → (q : ℕ) → is_live (map.insert all id d) q ≡ is_live all q
put_live all id c d there q = elim (cases_eq q id) [
  | inl is ↦ ap (is_live (map.insert all id d)) is ∙ ap is_some (put_at all id d) ∙ sym (ap (is_live all) is ∙ ap is_some there)
  | inr ne ↦ ap is_some (put_beside all id d q ne)
]

module _ (m : Meaning) (a : Components) (id : ℕ) (which : Root) (argument : Value) (turns : ℕ) (moment : ℤ) (q : ℕ) where
  ran : (c : Component) → map.get a.by_id id ≡ Some c → (b : Bool) → is_live (if b then ended a id c (root_of m (object_of c) a.statics which argument turns moment) else not_run a turns).left.by_id q ≡ is_live a.by_id q
  ran c there true = put_live a.by_id id c (with_end c (root_of m (object_of c) a.statics which argument turns moment)) there q
  ran c there false = refl

  ran_if : (o : Option Component) → map.get a.by_id id ≡ o → is_live (run_by m a id which argument turns moment o).left.by_id q ≡ is_live a.by_id q
  ran_if None there = refl
  ran_if (Some c) there = ran c there (c.fault == 0)

  pub run_live : is_live (run_at m a id which argument turns moment).left.by_id q ≡ is_live a.by_id q
  run_live = ran_if (map.get a.by_id id) refl

pub call_live : (m : Meaning) (a : Components) (id : ℕ) (c : CallbackKind) (slot turns : ℕ) (moment : ℤ) (q : ℕ) → is_live (Call m a id c slot turns moment).left.by_id q ≡ is_live a.by_id q
call_live m a id c slot turns moment q = run_live m a id (Callback c) (callback_argument c slot) turns moment q
