use Rattle.dasp_msg.proofs.HeaderLemmas.{header-no_kind, header-read}
use Rattle.dasp_msg.proofs.header.read_header.Goals as goal

pub returns-in-Some : goal.returns-in-Some
returns-in-Some c =
    header-read _ _ _ _ _ _ _ _ c.in_ok-to.ensures.found c.in_ok-sequence.ensures.found c.in_ok-byte.ensures.found
    c.in-Some.ensures.found

pub returns-in-None : goal.returns-in-None
returns-in-None c =
    header-no_kind _ _ _ _ _ _ _ c.in_ok-to.ensures.found c.in_ok-sequence.ensures.found c.in_ok-byte.ensures.found
    c.in-None.ensures.none
