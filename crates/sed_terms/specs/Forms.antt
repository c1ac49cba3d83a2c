-- What an index, a store or a call on a Buf makes of a term. A static through an instance stays behind that instance.
use Rattle.std.specs.Prelude.{Bool, true, false}
use Rattle.sed_typed.specs.declared.operators.Arithmetic.{Arithmetic}
use Rattle.sed_typed.specs.declared.operators.Gives.TheVariants.{Old}
use Rattle.sed_typed.specs.declared.operators.Update.{Update}
use Rattle.sed_typed.specs.declared.operators.Width.{Width}
use Rattle.sed_terms.specs.declared.sign.Sign.TheVariants as sign
use Rattle.sed_terms.specs.declared.sort.Sort.{Sort}
use Rattle.sed_terms.specs.declared.sort.Sort.TheVariants.{Array, Bytes}
use Rattle.sed_terms.specs.Ones.{one_in}
use Rattle.sed_terms.specs.Term.{Term, Absent, Node, leaf}

-- what an index may stand behind
abbrev pub has_elements : Sort → Bool
has_elements (Array p) = true
has_elements Bytes = true
has_elements s = false

-- an element of an array, or a byte of a Buf's `bytes`
abbrev pub indexed : Term → Term → Term
indexed (Node (sign.Array p n i) e b) index = Node (sign.Element p n i) e index
indexed (Node (sign.StaticArray p n i) a b) index = Node (sign.StaticElement p n i) index Absent
indexed (Node (sign.Bytes i) e b) index = Node (sign.Byte i) e index
indexed (Node sign.After e t) index = Node sign.After e (indexed t index)
indexed t index = t

-- `bytes` and `size` of a Buf
abbrev pub bytes_of : Term → Term
bytes_of (Node (sign.Buf i) e b) = Node (sign.Bytes i) e b
bytes_of (Node sign.After e t) = Node sign.After e (bytes_of t)
bytes_of t = t

abbrev pub size_of : Term → Term
size_of (Node (sign.Buf i) e b) = Node (sign.Size i) e b
size_of (Node sign.After e t) = Node sign.After e (size_of t)
size_of t = t

-- `=`
abbrev pub stored : Term → Term → Term
stored (Node sign.After e target) value = Node sign.After e (stored target value)
stored target value = Node sign.Set target value

-- what stands behind no instance
abbrev pub is_alone : Term → Bool
is_alone (Node sign.After a b) = false
is_alone t = true

-- `op=`, and `++` and `--` in front
abbrev pub updated : Update → Term → Term → Term
updated u (Node sign.After e target) operand = Node sign.After e (updated u target operand)
updated u target operand = Node (sign.Update u) target operand

-- `x++` and `x--`, which give the value before
abbrev pub counted : Arithmetic → Width → Term → Term
counted a w target = updated (record { arithmetic = a; width = w; gives = Old }) target (one_in w)

-- What is evaluated of an expression whose value is not used: of one that only names an array or a Buf its receiver, if
-- it has one. A static is named behind an instance.
abbrev pub evaluated_after : Term → Term → Term
evaluated_after e Absent = e
evaluated_after e (Node s a b) = Node sign.After e (Node s a b)

abbrev pub discarded : Term → Term
discarded (Node sign.Nothing a b) = Absent
discarded (Node (sign.Array p n i) e b) = e
discarded (Node (sign.StaticArray p n i) a b) = Absent
discarded (Node (sign.Buf i) e b) = e
discarded (Node (sign.Bytes i) e b) = e
discarded (Node sign.After e t) = evaluated_after e (discarded t)
discarded t = t

-- a statement that evaluates this, if it is anything
abbrev pub evaluating : Term → Term
evaluating Absent = leaf sign.Empty
evaluating (Node s a b) = Node sign.Do (Node s a b) Absent
