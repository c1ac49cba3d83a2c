use Rattle.std.proofs.Common.{◌≡◌, ◌-◌, ◌∙◌, ℕ, length, Ok, inl, inr, refl, sym, ap, subst}
use Rattle.sed_parser.specs.Derives.{FaultsAt}
use Rattle.sed_parser.proofs.Units.{derived, no_other, none_derives, stuck_left, left_few, faults_there, fault_eq}
use Rattle.sed_parser.proofs.parsing.parse.Goals as goal

pub returns-in-Ok-clause-found : goal.returns-in-Ok-clause-found
returns-in-Ok-clause-found c = derived _ _ _ _ c.new-parser.ensures c.in-Ok.ensures

pub returns-in-Ok-clause-only : goal.returns-in-Ok-clause-only
returns-in-Ok-clause-only c =
    λ v is. ap (λ cs. record { classes = cs }) (no_other _ _ _ _ c.new-parser.ensures c.in-Ok.ensures v is)

pub returns-in-Ok-clause-derives : goal.returns-in-Ok-clause-derives
returns-in-Ok-clause-derives c =
    λ v is. inl (ap (λ cs. Ok (record { classes = cs }))
    (sym (no_other _ _ _ _ c.new-parser.ensures c.in-Ok.ensures v is)))

pub returns-in-Err-Fault-clause-fault : goal.returns-in-Err-Fault-clause-fault
returns-in-Err-Fault-clause-fault c =
    λ token e v is. none_derives _ _ c.classes.new.self c.in-Err-Fault.field-0 c.new-parser.ensures
    c.in-Err-Fault.field-0-is c.in-Err-Fault.ensures v is

pub returns-in-Err-Fault-clause-derives : goal.returns-in-Err-Fault-clause-derives
returns-in-Err-Fault-clause-derives c =
    λ v is. absurd (none_derives _ _ c.classes.new.self c.in-Err-Fault.field-0 c.new-parser.ensures
    c.in-Err-Fault.field-0-is c.in-Err-Fault.ensures v is)

pub returns-in-Err-Memory-clause-derives : goal.returns-in-Err-Memory-clause-derives
returns-in-Err-Memory-clause-derives c = λ v is. inr refl

-- the parser is stuck at one of the last tokens
pub overflow_sub-result : goal.overflow_sub-result
overflow_sub-result c =
    let few = left_few _ _
    (stuck_left _ _ c.classes.new.self c.in-Err-Fault.field-0 c.new-parser.ensures c.in-Err-Fault.field-0-is
    c.in-Err-Fault.ensures) in
    rw (c.left.ensures, c.len.ensures) few

pub returns-in-Err-Fault-clause-token : goal.returns-in-Err-Fault-clause-token
returns-in-Err-Fault-clause-token c = λ token e.
    let there = faults_there _ _ c.classes.new.self c.in-Err-Fault.field-0 c.new-parser.ensures
    c.in-Err-Fault.field-0-is c.in-Err-Fault.ensures in
    let counted : length c.args.tokens.now - length c.classes.new.self ≡ c.len.result - c.left.result =
    rw (c.len.ensures, c.left.ensures) refl in
    subst (λ (n : ℕ). FaultsAt c.args.tokens.now n) (counted ∙ fault_eq _ _ e) there
