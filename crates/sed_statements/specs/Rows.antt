-- What statements one after another come to, and an expression as a statement.
use Rattle.sed_terms.specs.declared.judged.Judged.{Judged}
use Rattle.sed_terms.specs.declared.judged.Judged.TheVariants.{Sound}
use Rattle.sed_terms.specs.declared.sign.Sign.TheVariants as sign
use Rattle.sed_terms.specs.Faults.{Marks, after, joined}
use Rattle.sed_terms.specs.Forms.{discarded, evaluating}
use Rattle.sed_terms.specs.Term.{Term, Absent, Node, with_item}

-- Its value is not used. One that only names an array or a Buf evaluates its receiver.
abbrev pub evaluated : {F : Type 0} → Judged Term F → Judged Term F
evaluated x = after x (λ t. Sound (evaluating (discarded t)))

-- the statements so far, with one more
abbrev pub followed : {F : Type 0} → Marks F → Judged Term F → Judged Term F → Judged Term F
followed m xs x = joined m xs x (λ ts t. Sound (with_item ts t))

abbrev pub blocked : {F : Type 0} → Judged Term F → Judged Term F
blocked xs = after xs (λ ts. Sound (Node sign.Block ts Absent))
