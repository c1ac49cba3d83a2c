use Rattle.std.proofs.Common.{sym, subst}
use Rattle.std.specs.Prelude.{All}
use Rattle.scode_entries.specs.Cases.{EachCase, HasLabel, Has32Bits}
use Rattle.scode_entries.proofs.CaseRows.{cases_hidden}
use Rattle.scode_entries.proofs.cases.+cases.Goals as goal

pub stmt_has_cases-returns-in-Block : goal.stmt_has_cases-returns-in-Block
stmt_has_cases-returns-in-Block t c =
    subst (λ s. EachCase Has32Bits s) (sym c.in-Block.is)
    (cases_hidden Has32Bits c.in-Block.all (subst (λ ss. All (EachCase Has32Bits) ss) c.deref.ensures.value c.all_have_cases.ensures))

pub stmt_has_cases-returns-in-Switch : goal.stmt_has_cases-returns-in-Switch
stmt_has_cases-returns-in-Switch t c =
    subst (λ s. EachCase Has32Bits s) (sym c.in-Switch.is) (
      subst (λ ls. All (HasLabel Has32Bits) ls) c.deref-in-Switch.ensures.value c.labels_have_cases.ensures,
      cases_hidden Has32Bits c.in-Switch.all (subst (λ ss. All (EachCase Has32Bits) ss) c.deref-in-Switch-2.ensures.value c.all_have_cases-in-Switch.ensures),
    )
