use Rattle.scode_access.proofs.Ops.{does_each, may_some}
use Rattle.scode_engine.proofs.frequent.frequent_field.Goals as goal

pub get_field-requires : goal.get_field-requires
get_field-requires c = may_some c.args.image.now c.args.op _ c.in-GetInt.is _ _ c.requires.may

pub returns-in-GetInt : goal.returns-in-GetInt
returns-in-GetInt c = does_each c.args.image.now c.args.op _ c.in-GetInt.is _ _ _ _ _ c.get_field.ensures

pub put_field-requires : goal.put_field-requires
put_field-requires c = may_some c.args.image.now c.args.op _ c.in-PutInt.is _ _ c.requires.may

pub returns-in-PutInt : goal.returns-in-PutInt
returns-in-PutInt c = does_each c.args.image.now c.args.op _ c.in-PutInt.is _ _ _ _ _ c.put_field.ensures
