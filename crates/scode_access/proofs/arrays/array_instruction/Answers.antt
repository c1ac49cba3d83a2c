use Rattle.scode_access.proofs.Ops.{does_each, may_some}
use Rattle.scode_access.proofs.arrays.array_instruction.Goals as goal

pub get_element-requires : goal.get_element-requires
get_element-requires c = may_some c.args.image.now c.args.op _ c.in-ArrayGetBool.is _ _ c.requires.may

pub returns-in-ArrayGetBool : goal.returns-in-ArrayGetBool
returns-in-ArrayGetBool c = does_each c.args.image.now c.args.op _ c.in-ArrayGetBool.is _ _ _ _ _ c.get_element.ensures

pub get_element-requires-in-ArrayGetByte : goal.get_element-requires-in-ArrayGetByte
get_element-requires-in-ArrayGetByte c = may_some c.args.image.now c.args.op _ c.in-ArrayGetByte.is _ _ c.requires.may

pub returns-in-ArrayGetByte : goal.returns-in-ArrayGetByte
returns-in-ArrayGetByte c = does_each c.args.image.now c.args.op _ c.in-ArrayGetByte.is _ _ _ _ _ c.get_element-in-ArrayGetByte.ensures

pub get_element-requires-in-ArrayGetShort : goal.get_element-requires-in-ArrayGetShort
get_element-requires-in-ArrayGetShort c = may_some c.args.image.now c.args.op _ c.in-ArrayGetShort.is _ _ c.requires.may

pub returns-in-ArrayGetShort : goal.returns-in-ArrayGetShort
returns-in-ArrayGetShort c = does_each c.args.image.now c.args.op _ c.in-ArrayGetShort.is _ _ _ _ _ c.get_element-in-ArrayGetShort.ensures

pub get_element-requires-in-ArrayGetInt : goal.get_element-requires-in-ArrayGetInt
get_element-requires-in-ArrayGetInt c = may_some c.args.image.now c.args.op _ c.in-ArrayGetInt.is _ _ c.requires.may

pub returns-in-ArrayGetInt : goal.returns-in-ArrayGetInt
returns-in-ArrayGetInt c = does_each c.args.image.now c.args.op _ c.in-ArrayGetInt.is _ _ _ _ _ c.get_element-in-ArrayGetInt.ensures

pub get_element-requires-in-ArrayGetLong : goal.get_element-requires-in-ArrayGetLong
get_element-requires-in-ArrayGetLong c = may_some c.args.image.now c.args.op _ c.in-ArrayGetLong.is _ _ c.requires.may

pub returns-in-ArrayGetLong : goal.returns-in-ArrayGetLong
returns-in-ArrayGetLong c = does_each c.args.image.now c.args.op _ c.in-ArrayGetLong.is _ _ _ _ _ c.get_element-in-ArrayGetLong.ensures

pub put_element-requires : goal.put_element-requires
put_element-requires c = may_some c.args.image.now c.args.op _ c.in-ArrayPutBool.is _ _ c.requires.may

pub returns-in-ArrayPutBool : goal.returns-in-ArrayPutBool
returns-in-ArrayPutBool c = does_each c.args.image.now c.args.op _ c.in-ArrayPutBool.is _ _ _ _ _ c.put_element.ensures

pub put_element-requires-in-ArrayPutByte : goal.put_element-requires-in-ArrayPutByte
put_element-requires-in-ArrayPutByte c = may_some c.args.image.now c.args.op _ c.in-ArrayPutByte.is _ _ c.requires.may

pub returns-in-ArrayPutByte : goal.returns-in-ArrayPutByte
returns-in-ArrayPutByte c = does_each c.args.image.now c.args.op _ c.in-ArrayPutByte.is _ _ _ _ _ c.put_element-in-ArrayPutByte.ensures

pub put_element-requires-in-ArrayPutShort : goal.put_element-requires-in-ArrayPutShort
put_element-requires-in-ArrayPutShort c = may_some c.args.image.now c.args.op _ c.in-ArrayPutShort.is _ _ c.requires.may

pub returns-in-ArrayPutShort : goal.returns-in-ArrayPutShort
returns-in-ArrayPutShort c = does_each c.args.image.now c.args.op _ c.in-ArrayPutShort.is _ _ _ _ _ c.put_element-in-ArrayPutShort.ensures

pub put_element-requires-in-ArrayPutInt : goal.put_element-requires-in-ArrayPutInt
put_element-requires-in-ArrayPutInt c = may_some c.args.image.now c.args.op _ c.in-ArrayPutInt.is _ _ c.requires.may

pub returns-in-ArrayPutInt : goal.returns-in-ArrayPutInt
returns-in-ArrayPutInt c = does_each c.args.image.now c.args.op _ c.in-ArrayPutInt.is _ _ _ _ _ c.put_element-in-ArrayPutInt.ensures

pub put_element-requires-in-ArrayPutLong : goal.put_element-requires-in-ArrayPutLong
put_element-requires-in-ArrayPutLong c = may_some c.args.image.now c.args.op _ c.in-ArrayPutLong.is _ _ c.requires.may

pub returns-in-ArrayPutLong : goal.returns-in-ArrayPutLong
returns-in-ArrayPutLong c = does_each c.args.image.now c.args.op _ c.in-ArrayPutLong.is _ _ _ _ _ c.put_element-in-ArrayPutLong.ensures
