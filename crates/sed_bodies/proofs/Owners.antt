-- What has an owner is a value, or a Buf.
use Rattle.std.proofs.Common.{◌≡◌, true, refl}
use Rattle.sed_typed.specs.declared.kind.Kind.TheVariants as kind
use Rattle.sed_typed.specs.declared.number.TypeNo.{TypeNo}
use Rattle.sed_terms.specs.declared.sort.Sort.{Sort}
use Rattle.sed_terms.specs.declared.sort.Sort.TheVariants.{Of, Nothing, Array, Buf, Bytes}
use Rattle.sed_terms.specs.Sorts.{is_kind}
use Rattle.sed_bodies.specs.declared.context.Owner.TheVariants as owner
use Rattle.sed_bodies.specs.Members.{owner_of}

pub object_value : (s : Sort) (class : TypeNo) → owner_of s ≡ owner.Object class → is_kind s ≡ true
object_value (Of k) class h = refl
object_value Nothing class h = absurd (let k : owner.Nothing ≡ owner.Object class = h in cc)
object_value (Array p) class h = absurd (let k : owner.Nothing ≡ owner.Object class = h in cc)
object_value Buf class h = absurd (let k : owner.Buf ≡ owner.Object class = h in cc)
object_value Bytes class h = absurd (let k : owner.Nothing ≡ owner.Object class = h in cc)

pub text_value : (s : Sort) → owner_of s ≡ owner.Text → is_kind s ≡ true
text_value (Of k) h = refl
text_value Nothing h = absurd (let k : owner.Nothing ≡ owner.Text = h in cc)
text_value (Array p) h = absurd (let k : owner.Nothing ≡ owner.Text = h in cc)
text_value Buf h = absurd (let k : owner.Buf ≡ owner.Text = h in cc)
text_value Bytes h = absurd (let k : owner.Nothing ≡ owner.Text = h in cc)

pub buf_is : (s : Sort) → owner_of s ≡ owner.Buf → s ≡ Buf
buf_is Buf h = refl
buf_is Nothing h = absurd (let k : owner.Nothing ≡ owner.Buf = h in cc)
buf_is (Array p) h = absurd (let k : owner.Nothing ≡ owner.Buf = h in cc)
buf_is Bytes h = absurd (let k : owner.Nothing ≡ owner.Buf = h in cc)
buf_is (Of (kind.Object class)) h = absurd (let k : owner.Object class ≡ owner.Buf = h in cc)
buf_is (Of kind.Text) h = absurd (let k : owner.Text ≡ owner.Buf = h in cc)
buf_is (Of kind.Void) h = absurd (let k : owner.Nothing ≡ owner.Buf = h in cc)
buf_is (Of kind.Bool) h = absurd (let k : owner.Nothing ≡ owner.Buf = h in cc)
buf_is (Of kind.Int) h = absurd (let k : owner.Nothing ≡ owner.Buf = h in cc)
buf_is (Of kind.Long) h = absurd (let k : owner.Nothing ≡ owner.Buf = h in cc)
