-- The laws of calls, for root calls.
use Rattle.std.proofs.Common.{◌≡◌, ◌≤◌, ℕ, ◌+◌, map, Option, Some, None, Result, Ok, Err, refl, ap, ◌∙◌}
use Rattle.sed_engine.specs.Stops.{Stop}
use Rattle.sed_engine.specs.Values.{Val}
use Rattle.sed_engine.specs.State.{Shared}
use Rattle.sed_engine.specs.Expressions.{Called, Calls}
use Rattle.sed_engine.specs.Root.{RootEnd, root_end, start_root, end_of, root_frame}
use Rattle.sed_engine.specs.declared.call.CallEnd.{CallEnd}
use Rattle.sed_engine.specs.declared.call.CallEnd.TheVariants.{Done, Trap}
use Rattle.sed_engine.specs.Turns.{IsDone, with_more}
use Rattle.sed_engine.proofs.KeepsFit.{Forms, FitsNow, CallsFit}
use Rattle.sed_engine.proofs.Within.{Within, within_self, CallsKeep}
use Rattle.sed_engine.proofs.MoreTurns.{more_shared, Unspent, CallsSame}

started_within : (calls : Calls) → CallsKeep calls → (m : Result (Option ℕ) Stop) (argument : Result Val Stop) (s : Shared) → Within s (start_root calls m argument s).shared
started_within calls keep (Ok None) (Ok v) s = within_self s
started_within calls keep (Ok (Some m)) (Ok v) s = keep.keeps m (root_frame v) s
started_within calls keep (Ok m) (Err stop) s = within_self s
started_within calls keep (Err stop) v s = within_self s

-- a call that ended normally left no more turns than these
abbrev pub LeavesAtMost : CallEnd → ℕ → Type 0
LeavesAtMost (Done left) turns = left ≤ turns
LeavesAtMost (Trap number) turns = Unit {0}

left_of : (r : Result Val Stop) (left turns : ℕ) → left ≤ turns → LeavesAtMost (end_of r left) turns
left_of (Ok v) left turns h = h
left_of (Err stop) left turns h = tt

pub run_leaves : (calls : Calls) → CallsKeep calls → (m : Result (Option ℕ) Stop) (argument : Result Val Stop) (s : Shared) → LeavesAtMost (root_end (start_root calls m argument s)).end s.turns
run_leaves calls keep m argument s =
    let c : Called = start_root calls m argument s in
    left_of c.result c.shared.turns s.turns (started_within calls keep m argument s).turns

pub run_keeps : (calls : Calls) → CallsKeep calls → (m : Result (Option ℕ) Stop) (argument : Result Val Stop) (s : Shared) →
    (map (λ e. e.0) (root_end (start_root calls m argument s)).contents ≡ map (λ e. e.0) s.contents) × (map (λ e. e.0) (root_end (start_root calls m argument s)).statics ≡ map (λ e. e.0) s.statics)
run_keeps calls keep m argument s = ((started_within calls keep m argument s).contents, (started_within calls keep m argument s).statics)

done_unspent : (r : Result Val Stop) (left : ℕ) → IsDone (end_of r left) → Unspent r
done_unspent (Ok v) left d = tt
done_unspent (Err stop) left d = absurd d

end_more : (r : Result Val Stop) (left k : ℕ) → end_of r (left + k) ≡ with_more k (end_of r left)
end_more (Ok v) left k = refl
end_more (Err stop) left k = refl

-- the parts of what a root call leaves, with more turns and without
pub record EndsAlike (k : ℕ) (a b : RootEnd) : Type 0 where
  pub contents : b.contents ≡ a.contents
  pub statics : b.statics ≡ a.statics
  pub left : b.end ≡ with_more k a.end

ends_alike : (k : ℕ) (c d : Called) → d ≡ record { result = c.result; shared = more_shared k c.shared } → EndsAlike k (root_end c) (root_end d)
ends_alike k c d same = record {
  contents = ap (λ (x : Called). x.shared.contents) same;
  statics = ap (λ (x : Called). x.shared.statics) same;
  left = ap (λ (x : Called). end_of x.result x.shared.turns) same ∙ end_more c.result c.shared.turns k;
}

pub run_alike : (k : ℕ) (calls : Calls) → CallsSame k calls → (m : Result (Option ℕ) Stop) (argument : Result Val Stop) (s : Shared) → IsDone (root_end (start_root calls m argument s)).end →
    EndsAlike k (root_end (start_root calls m argument s)) (root_end (start_root calls m argument (more_shared k s)))
run_alike k calls same (Ok None) (Ok v) s d = record { contents = refl; statics = refl; left = refl }
run_alike k calls same (Ok (Some m)) (Ok v) s d =
    let c : Called = calls m (root_frame v) s in
    ends_alike k c (calls m (root_frame v) (more_shared k s)) (same.ends m (root_frame v) s (done_unspent c.result c.shared.turns d))
run_alike k calls same (Ok m) (Err stop) s d = absurd d
run_alike k calls same (Err stop) v s d = absurd d

pub run_fits : (forms : Forms) (calls : Calls) → CallsFit forms calls → (m : Result (Option ℕ) Stop) (argument : Result Val Stop) (s : Shared) → FitsNow forms s → FitsNow forms (start_root calls m argument s).shared
run_fits forms calls fit (Ok None) (Ok v) s fits = fits
run_fits forms calls fit (Ok (Some m)) (Ok v) s fits = fit.keeps m (root_frame v) s fits
run_fits forms calls fit (Ok m) (Err stop) s fits = fits
run_fits forms calls fit (Err stop) v s fits = fits
