use Rattle.app_front.proofs.RowsAnswered.{is_none, is_outcome, is_rows, is_wrong, keeps_ours, ours}
use Rattle.app_front.proofs.reading.read_rows.Goals as goal

pub returns-clause-outcome : goal.returns-clause-outcome
returns-clause-outcome c = λ m same.
    is_outcome m (keeps_ours m c.args.schema.now same c.requires) c.args.bytes.now c.rows_or_refusal.result (ours m c.args.schema.now _ _ same c.rows_or_refusal.ensures)

pub returns-clause-rows : goal.returns-clause-rows
returns-clause-rows c = λ m f same are.
    is_rows m (keeps_ours m c.args.schema.now same c.requires) c.args.bytes.now c.rows_or_refusal.result (ours m c.args.schema.now _ _ same c.rows_or_refusal.ensures) f are

pub returns-clause-wrong : goal.returns-clause-wrong
returns-clause-wrong c = λ m place in_file in_kits same has.
    is_wrong m (keeps_ours m c.args.schema.now same c.requires) c.args.bytes.now c.rows_or_refusal.result (ours m c.args.schema.now _ _ same c.rows_or_refusal.ensures) place in_file in_kits has

pub returns-clause-none : goal.returns-clause-none
returns-clause-none c = λ m same why.
    is_none m (keeps_ours m c.args.schema.now same c.requires) c.args.bytes.now c.rows_or_refusal.result (ours m c.args.schema.now _ _ same c.rows_or_refusal.ensures) why
