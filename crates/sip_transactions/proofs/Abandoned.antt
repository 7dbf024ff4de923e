-- A transaction that the user gives up.
use Rattle.std.proofs.Common.{refl}
use Rattle.std.specs.Prelude.{codes}
use Rattle.std.specs.Str.{bytes_eq}
use Rattle.sip_transactions.specs.Abandoned.{AbandonEnds, LateResponseIsDropped}
use Rattle.sip_transactions.specs.Machine.{transaction_machine}
use Rattle.sip_transactions.specs.Rules.Step.{row_applied, step_at}
use Rattle.sip_transactions.specs.Rules.Tables.{table}
use Rattle.sip_transactions.proofs.RowFacts.{by_test}

pub abandon_ends : AbandonEnds transaction_machine
unfolding step_at
abandon_ends key held now = refl

pub late_response : LateResponseIsDropped transaction_machine
unfolding step_at row_applied table
late_response branch method held now later id response reply_to status reason is =
    by_test (bytes_eq method (codes "INVITE")) (λ hit. rw is (rw hit refl))
    (λ miss. rw is (rw miss refl))
