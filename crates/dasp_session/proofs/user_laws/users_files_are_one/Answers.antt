use Rattle.std.proofs.Common.{sym, ◌∙◌}
use Rattle.std.proofs.lemmas.List.{append-nil}
use Rattle.dasp_session.specs.UsersFile.{text_of}
use Rattle.dasp_session.proofs.FileLemmas.{read_only}
use Rattle.dasp_session.proofs.user_laws.users_files_are_one.Goals as goal

pub returns : goal.returns
returns c = λ users others text is are.
    read_only users text (record { are = is.are; lines = is.lines ∙ sym (append-nil (text_of users)) }) others are
