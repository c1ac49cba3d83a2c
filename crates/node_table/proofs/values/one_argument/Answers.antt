use Rattle.std.proofs.Common.{refl, sym, subst}
use Rattle.std.specs.Prelude.{MatchResult}
use Rattle.sed_typed.specs.declared.schema.ActionArg.TheVariants.{Bool as BoolArg, Int as IntArg, Long as LongArg}
use Rattle.sed_value.specs.declared.slot_type.Primitive.TheVariants.{Bool as BoolType, Int as IntType, Long as LongType}
use Rattle.node_table.specs.Read.{IsArgument, IsBadArgument}
use Rattle.node_table.proofs.ReadLemmas.{argument_is}
use Rattle.node_table.proofs.values.one_argument.Goals as goal

pub returns-in-Bool : goal.returns-in-Bool
returns-in-Bool c =
    subst (λ a. MatchResult c.one_value.result (IsArgument a c.args.bytes.now) (IsBadArgument a c.args.bytes.now)) (sym c.in-Bool.is)
    (argument_is BoolType BoolArg c.args.bytes.now refl (λ v of. of) c.one_value.result c.one_value.ensures.taken c.one_value.ensures.of_type)

pub returns-in-Int : goal.returns-in-Int
returns-in-Int c =
    subst (λ a. MatchResult c.one_value-in-Int.result (IsArgument a c.args.bytes.now) (IsBadArgument a c.args.bytes.now)) (sym c.in-Int.is)
    (argument_is IntType IntArg c.args.bytes.now refl (λ v of. of) c.one_value-in-Int.result c.one_value-in-Int.ensures.taken c.one_value-in-Int.ensures.of_type)

pub returns-in-Long : goal.returns-in-Long
returns-in-Long c =
    subst (λ a. MatchResult c.one_value-in-Long.result (IsArgument a c.args.bytes.now) (IsBadArgument a c.args.bytes.now)) (sym c.in-Long.is)
    (argument_is LongType LongArg c.args.bytes.now refl (λ v of. of) c.one_value-in-Long.result c.one_value-in-Long.ensures.taken c.one_value-in-Long.ensures.of_type)
