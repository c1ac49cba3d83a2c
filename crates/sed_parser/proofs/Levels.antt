-- An expression of a level is one of the form of that level.
use Rattle.std.proofs.Common.{◌≡◌, ℕ, zero, suc, ◌-◌, ◌<◌, ◌==◌, Bool, false, List, [], ◌∷◌, length, codes, refl, arith}
use Rattle.sed_lexer.specs.Token.{Token}
use Rattle.sed_units.specs.Tree.{Tree}
use Rattle.sed_parser.specs.Reading.{Stuck, many_at}
use Rattle.sed_parser.specs.Rule.{Rule}
use Rattle.sed_parser.specs.Next.{next_mark}
use Rattle.sed_parser.specs.Expressions.{Inner, expression_in, deeper, postfix, prefixed, conditional, assigned, operands, access, access_links, next_access, operand, operand_links, next_operand, more_arguments, next_argument}
use Rattle.sed_parser.proofs.Repeats.{with_front}

pub lowest : (inner : Inner) (inside : Bool) (tokens : List Token)
    → (expression_in inner 0 inside).reads tokens ≡ (postfix inner inside).reads tokens
unfolding expression_in
lowest inner inside tokens = refl

pub whole_level : (inner : Inner) (inside : Bool) (tokens : List Token)
    → (expression_in inner 13 inside).reads tokens ≡ (assigned inner inside (expression_in inner 12 inside)).reads
    tokens
unfolding expression_in
whole_level inner inside tokens = refl

pub conditional_level : (inner : Inner) (inside : Bool) (tokens : List Token)
    → (expression_in inner 12 inside).reads tokens ≡ (conditional inner inside (expression_in inner 11 inside)).reads
    tokens
unfolding expression_in
conditional_level inner inside tokens = refl

pub prefix_level : (inner : Inner) (inside : Bool) (tokens : List Token)
    → (expression_in inner 1 inside).reads tokens ≡ (prefixed inner inside (expression_in inner 0 inside)).reads tokens
unfolding expression_in
prefix_level inner inside tokens = refl

pub operand_level : (inner : Inner) (level : ℕ) (inside : Bool) (tokens : List Token) → 1 < level → level < 12
    → (expression_in inner level inside).reads tokens
    ≡ (operands level inside (expression_in inner (level - 1) inside)).reads tokens
unfolding expression_in
operand_level inner zero inside tokens above below = absurd (omega arith)
operand_level inner (suc level) inside tokens above below =
    let whole : (suc level == 13) ≡ false = grind arith in
    let conditional : (suc level == 12) ≡ false = grind arith in
    let prefix : (suc level == 1) ≡ false = grind arith in
    let less : suc level - 1 ≡ level = omega arith in
    rw (whole, conditional, prefix, less) refl

pub no_room : (level : ℕ) (inside : Bool) (tokens : List Token) → (deeper 0 level inside).reads tokens ≡ Stuck tokens
unfolding deeper
no_room level inside tokens = refl

pub room : (n level : ℕ) (inside : Bool) (tokens : List Token) → 0 < n
    → (deeper n level inside).reads tokens ≡ (expression_in (deeper (n - 1)) level inside).reads tokens
unfolding deeper
room zero level inside tokens some = absurd (omega arith)
room (suc n) level inside tokens some =
    let less : suc n - 1 ≡ n = omega arith in
    rw less refl

pub access_links_are : (inner : Inner) (inside : Bool) (tokens : List Token)
    → (access_links inner inside).reads tokens ≡ many_at (next_access inside) (access inner inside).reads
    (length tokens) tokens
unfolding access_links
access_links_are inner inside tokens = refl

pub operand_links_are : (level : ℕ) (inside : Bool) (tighter : Rule Tree) (tokens : List Token)
    → (operand_links level inside tighter).reads tokens
    ≡ many_at (next_operand inside level) (operand level tighter).reads (length tokens) tokens
unfolding operand_links
operand_links_are level inside tighter tokens = refl

pub more_arguments_are : (inner : Inner) (first : Tree) (tokens : List Token)
    → (more_arguments inner first).reads tokens
    ≡ with_front (first ∷ []) (many_at (next_mark (codes ",")) (next_argument inner).reads (length tokens) tokens)
unfolding more_arguments
more_arguments_are inner first tokens = refl
