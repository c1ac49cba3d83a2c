use Rattle.scode_access.proofs.Ops.{does_each, may_some}
use Rattle.scode_access.proofs.fields.field_instruction.Goals as goal

pub get_field-requires : goal.get_field-requires
get_field-requires c = may_some c.args.image.now c.args.op _ c.in-GetBool.is _ _ c.requires.may

pub returns-in-GetBool : goal.returns-in-GetBool
returns-in-GetBool c = does_each c.args.image.now c.args.op _ c.in-GetBool.is _ _ _ _ _ c.get_field.ensures

pub get_field-requires-in-GetByte : goal.get_field-requires-in-GetByte
get_field-requires-in-GetByte c = may_some c.args.image.now c.args.op _ c.in-GetByte.is _ _ c.requires.may

pub returns-in-GetByte : goal.returns-in-GetByte
returns-in-GetByte c = does_each c.args.image.now c.args.op _ c.in-GetByte.is _ _ _ _ _ c.get_field-in-GetByte.ensures

pub get_field-requires-in-GetShort : goal.get_field-requires-in-GetShort
get_field-requires-in-GetShort c = may_some c.args.image.now c.args.op _ c.in-GetShort.is _ _ c.requires.may

pub returns-in-GetShort : goal.returns-in-GetShort
returns-in-GetShort c = does_each c.args.image.now c.args.op _ c.in-GetShort.is _ _ _ _ _ c.get_field-in-GetShort.ensures

pub get_field-requires-in-GetInt : goal.get_field-requires-in-GetInt
get_field-requires-in-GetInt c = may_some c.args.image.now c.args.op _ c.in-GetInt.is _ _ c.requires.may

pub returns-in-GetInt : goal.returns-in-GetInt
returns-in-GetInt c = does_each c.args.image.now c.args.op _ c.in-GetInt.is _ _ _ _ _ c.get_field-in-GetInt.ensures

pub get_field-requires-in-GetLong : goal.get_field-requires-in-GetLong
get_field-requires-in-GetLong c = may_some c.args.image.now c.args.op _ c.in-GetLong.is _ _ c.requires.may

pub returns-in-GetLong : goal.returns-in-GetLong
returns-in-GetLong c = does_each c.args.image.now c.args.op _ c.in-GetLong.is _ _ _ _ _ c.get_field-in-GetLong.ensures

pub put_field-requires : goal.put_field-requires
put_field-requires c = may_some c.args.image.now c.args.op _ c.in-PutBool.is _ _ c.requires.may

pub returns-in-PutBool : goal.returns-in-PutBool
returns-in-PutBool c = does_each c.args.image.now c.args.op _ c.in-PutBool.is _ _ _ _ _ c.put_field.ensures

pub put_field-requires-in-PutByte : goal.put_field-requires-in-PutByte
put_field-requires-in-PutByte c = may_some c.args.image.now c.args.op _ c.in-PutByte.is _ _ c.requires.may

pub returns-in-PutByte : goal.returns-in-PutByte
returns-in-PutByte c = does_each c.args.image.now c.args.op _ c.in-PutByte.is _ _ _ _ _ c.put_field-in-PutByte.ensures

pub put_field-requires-in-PutShort : goal.put_field-requires-in-PutShort
put_field-requires-in-PutShort c = may_some c.args.image.now c.args.op _ c.in-PutShort.is _ _ c.requires.may

pub returns-in-PutShort : goal.returns-in-PutShort
returns-in-PutShort c = does_each c.args.image.now c.args.op _ c.in-PutShort.is _ _ _ _ _ c.put_field-in-PutShort.ensures

pub put_field-requires-in-PutInt : goal.put_field-requires-in-PutInt
put_field-requires-in-PutInt c = may_some c.args.image.now c.args.op _ c.in-PutInt.is _ _ c.requires.may

pub returns-in-PutInt : goal.returns-in-PutInt
returns-in-PutInt c = does_each c.args.image.now c.args.op _ c.in-PutInt.is _ _ _ _ _ c.put_field-in-PutInt.ensures

pub put_field-requires-in-PutLong : goal.put_field-requires-in-PutLong
put_field-requires-in-PutLong c = may_some c.args.image.now c.args.op _ c.in-PutLong.is _ _ c.requires.may

pub returns-in-PutLong : goal.returns-in-PutLong
returns-in-PutLong c = does_each c.args.image.now c.args.op _ c.in-PutLong.is _ _ _ _ _ c.put_field-in-PutLong.ensures

pub object_inside-requires : goal.object_inside-requires
object_inside-requires c = may_some c.args.image.now c.args.op _ c.in-Inner.is _ _ c.requires.may

pub returns-in-Inner : goal.returns-in-Inner
returns-in-Inner c = does_each c.args.image.now c.args.op _ c.in-Inner.is _ _ _ _ _ c.object_inside.ensures

pub str_inside-requires : goal.str_inside-requires
str_inside-requires c = may_some c.args.image.now c.args.op _ c.in-Str.is _ _ c.requires.may

pub returns-in-Str : goal.returns-in-Str
returns-in-Str c = does_each c.args.image.now c.args.op _ c.in-Str.is _ _ _ _ _ c.str_inside.ensures

pub size_of_buf-requires : goal.size_of_buf-requires
size_of_buf-requires c = may_some c.args.image.now c.args.op _ c.in-BufSize.is _ _ c.requires.may

pub returns-in-BufSize : goal.returns-in-BufSize
returns-in-BufSize c = does_each c.args.image.now c.args.op _ c.in-BufSize.is _ _ _ _ _ c.size_of_buf.ensures

pub byte_of_buf-requires : goal.byte_of_buf-requires
byte_of_buf-requires c = may_some c.args.image.now c.args.op _ c.in-BufGet.is _ _ c.requires.may

pub returns-in-BufGet : goal.returns-in-BufGet
returns-in-BufGet c = does_each c.args.image.now c.args.op _ c.in-BufGet.is _ _ _ _ _ c.byte_of_buf.ensures
