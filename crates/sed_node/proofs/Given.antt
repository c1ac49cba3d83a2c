-- The values that a command gives are bytes, where its payload's are.
use Rattle.std.proofs.Common.{◌≡◌, ◌∙◌, ℕ, suc, Bool, Fits, w8, get_or, true, List, [], ◌∷◌, refl, sym, ap}
use Rattle.std.specs.Prelude.{◌&&◌, nat_lt}
use Rattle.std.proofs.lemmas.Bool.{lt-ltb}
use Rattle.sed_value.specs.Value.{are_bytes}
use Rattle.sox_msg.specs.Command.{Asked, body_of}
use Rattle.sox_serve.specs.Answer.{command_of}
use Rattle.app_file.specs.Bytes.{GivesBytes}
use Rattle.node_events.proofs.Gives.{behind_one, of_body}

-- numbers that fit a byte each
pub bytes_fit : (xs : List ℕ) → ((i : ℕ) → Fits w8 (get_or xs i 0)) → are_bytes xs ≡ true
bytes_fit [] fits = refl
bytes_fit (x ∷ xs) fits =
    ap (λ (b : Bool). b && are_bytes xs) (let first : Fits w8 x = fits 0 in let less : nat_lt x 256
    ≡ true = lt-ltb _ _ first.fits in less) ∙ bytes_fit xs (λ i. fits (suc i))

-- what stands behind the letter and the number
pub of_request : (payload : List ℕ) (letter number : ℕ) (command : Asked) → payload ≡ letter ∷ number ∷ body_of command
    → are_bytes payload ≡ true
    → GivesBytes (command_of command)
of_request payload letter number command is all =
    of_body command (behind_one number (body_of command)
    (behind_one letter (number ∷ body_of command) (ap are_bytes (sym is) ∙ all)))
