use Rattle.std.proofs.Common.{◌≡◌, ◌+◌, ◌-◌, ℕ, List, ◌++◌, length, drop, sym, ◌∙◌, ap, arith, append_assoc, length-append}
use Rattle.std.proofs.Math.Seq.{drop-append_seam}
use Rattle.dasp_msg.specs.Message.{IsMessage}
use Rattle.dasp_msg.specs.Shown.{Message}
use Rattle.dasp_session.proofs.looking.start_of.Goals as goal

-- a message's payload stands at the end of its bytes
record Ends (bytes payload : List ℕ) : Type 0 where
  front : List ℕ
  whole : bytes ≡ front ++ payload

ends_of : (bytes : List ℕ) (message : Message) → IsMessage bytes message → Ends bytes message.payload
ends_of bytes message is = record {
  front = is.spelled.head ++ is.spelled.body;
  whole =
      is.spelled.whole ∙ sym (append_assoc is.spelled.head is.spelled.body is.payload)
      ∙ ap (λ (xs : List ℕ). (is.spelled.head ++ is.spelled.body) ++ xs) (sym (ap (λ (m : Message). m.payload) is.shown));
}

long : (bytes payload : List ℕ) (ends : Ends bytes payload) → length bytes ≡ length ends.front + length payload
long bytes payload ends = ap length ends.whole ∙ length-append ends.front payload

behind : (bytes payload : List ℕ) → Ends bytes payload → drop (length bytes - length payload) bytes ≡ payload
behind bytes payload ends =
    let at : length bytes - length payload ≡ length ends.front = omega (arith, long bytes payload ends) in
    ap (λ (n : ℕ). drop n bytes) at ∙ ap (drop (length ends.front)) ends.whole ∙ drop-append_seam ends.front payload

pub overflow_sub-result : goal.overflow_sub-result
overflow_sub-result c = omega (arith, long _ _ (ends_of _ _ c.requires))

pub returns-clause-behind : goal.returns-clause-behind
returns-clause-behind c = behind _ _ (ends_of _ _ c.requires)
