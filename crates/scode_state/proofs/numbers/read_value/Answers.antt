use Rattle.std.proofs.Common.{◌≡◌, ℕ, List, subst}
use Rattle.std.specs.Prelude.{IfSome}
use Rattle.sed_value.specs.SlotType.{width_of}
use Rattle.sed_wire.specs.Number.{number_of}
use Rattle.scode_code.specs.Contents.{primitive_at}
use Rattle.scode_mem.specs.Blocks.{bytes_at, bytes_of}
use Rattle.scode_state.proofs.Putting.{prim_read}
use Rattle.scode_state.proofs.Stored.{if_some}
use Rattle.scode_state.proofs.numbers.read_value.Goals as goal

module _ (c : goal.After-value_of) where
  is_number : IfSome (bytes_of c.args.pool.now c.args.b)
      (λ bytes. c.read.result ≡ number_of (bytes_at bytes c.args.at (width_of c.args.p)))
  is_number =
      subst (λ (w : ℕ). IfSome (bytes_of c.args.pool.now c.args.b)
      (λ bytes. c.read.result ≡ number_of (bytes_at bytes c.args.at w))) c.width.ensures c.read.ensures.number

  is_value : IfSome (bytes_of c.args.pool.now c.args.b)
      (λ bytes. c.value_of.result ≡ primitive_at c.args.p bytes c.args.at)
  is_value =
      if_some (bytes_of c.args.pool.now c.args.b)
      (λ bytes. c.read.result ≡ number_of (bytes_at bytes c.args.at (width_of c.args.p)))
      (λ bytes. c.value_of.result ≡ primitive_at c.args.p bytes c.args.at)
      (λ bytes e. c.value_of.ensures (bytes_at bytes c.args.at (width_of c.args.p)) e) is_number

pub returns-clause-bytes : goal.returns-clause-bytes
returns-clause-bytes c = is_value c

pub returns-clause-path : goal.returns-clause-path
returns-clause-path c = λ image class base path at.
    prim_read image class base path c.args.pool.now c.args.b c.args.at c.args.p at c.value_of.result
    (is_value c)
