-- How steps end.
use Rattle.std.proofs.Common.{◌≡◌, Bool, true, false, Option, Some, None, Result, Ok, Err}
use Rattle.sedona_cli.specs.declared.refusal.Refusal.{Refusal}

pub ok_err : {X : Type 0} (x : X) (r : Refusal) → ◌≡◌ {A = Result X Refusal} (Ok x) (Err r) → ⊥
ok_err x r same = cc

pub err_ok : {X : Type 0} (r : Refusal) (x : X) → ◌≡◌ {A = Result X Refusal} (Err r) (Ok x) → ⊥
err_ok r x same = cc

pub one_refusal : {X : Type 0} (r s : Refusal) → ◌≡◌ {A = Result X Refusal} (Err r) (Err s) → r ≡ s
one_refusal r s same = cc

pub some_refusal : (r s : Refusal) → ◌≡◌ {A = Option Refusal} (Some r) (Some s) → r ≡ s
some_refusal r s same = cc

pub no_refusal : (r : Refusal) → ◌≡◌ {A = Option Refusal} (Some r) None → ⊥
no_refusal r same = cc

pub not_both : (b : Bool) → b ≡ true → b ≡ false → ⊥
not_both b is isnt = cc
