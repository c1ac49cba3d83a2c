use Rattle.scode_access.proofs.Ops.{does_each, does_one, may_one, may_some}
use Rattle.scode_access.proofs.str_stores.str_instruction.Goals as goal

pub length_of_str-requires : goal.length_of_str-requires
length_of_str-requires c = may_one c.args.image.now c.args.op _ c.in-StrLen.is _ _ c.requires.may

pub returns-in-StrLen : goal.returns-in-StrLen
returns-in-StrLen c = does_one c.args.image.now c.args.op _ c.in-StrLen.is _ _ _ _ _ c.length_of_str.ensures

pub get_character-requires : goal.get_character-requires
get_character-requires c = may_one c.args.image.now c.args.op _ c.in-StrGet.is _ _ c.requires.may

pub returns-in-StrGet : goal.returns-in-StrGet
returns-in-StrGet c = does_one c.args.image.now c.args.op _ c.in-StrGet.is _ _ _ _ _ c.get_character.ensures

pub equal_strs-requires : goal.equal_strs-requires
equal_strs-requires c = may_one c.args.image.now c.args.op _ c.in-StrEq.is _ _ c.requires.may

pub returns-in-StrEq : goal.returns-in-StrEq
returns-in-StrEq c = does_one c.args.image.now c.args.op _ c.in-StrEq.is _ _ _ _ _ c.equal_strs.ensures

pub copy_str-requires : goal.copy_str-requires
copy_str-requires c = may_one c.args.image.now c.args.op _ c.in-StrCopy.is _ _ c.requires.may

pub returns-in-StrCopy : goal.returns-in-StrCopy
returns-in-StrCopy c = does_one c.args.image.now c.args.op _ c.in-StrCopy.is _ _ _ _ _ c.copy_str.ensures

pub put_character-requires : goal.put_character-requires
put_character-requires c = may_some c.args.image.now c.args.op _ c.in-StrSet.is _ _ c.requires.may

pub returns-in-StrSet : goal.returns-in-StrSet
returns-in-StrSet c = does_each c.args.image.now c.args.op _ c.in-StrSet.is _ _ _ _ _ c.put_character.ensures
