-- What is said by each key's own inputs is what is told by the states of all keys.
use Rattle.std.proofs.Common.{◌≡◌, ◌∙◌, ℕ, List, sym}
use Rattle.std.proofs.lemmas.Cmp.{nat_list_cmp_total}
use Rattle.std.proofs.lemmas.Map.Lookups.{exact_bytes}
use Rattle.sip_message.specs.declared.key.Key.{Key}
use Rattle.sip_message.specs.Key.{key_cmp, keys_total}
use Rattle.keyed_machine.specs.Laws.{EachKeyAlone}
use Rattle.keyed_machine.specs.Machine.{Timed, outputs_from, tick_at}
use Rattle.keyed_machine.specs.Phase.{Phase, PhaseOutputs, history, states_after, told_next}
use Rattle.keyed_machine.specs.Rules.{said_since}
use Rattle.keyed_machine.proofs.Rules.{said_by_a_key, said_by_histories}
use Rattle.sip_message.specs.Keys.{exact_keys}
use Rattle.sip_transactions.specs.declared.input.Input.{Input}
use Rattle.sip_transactions.specs.declared.output.Out.{Out}
use Rattle.sip_transactions.specs.Machine.{transaction_machine}
use Rattle.sip_user.specs.declared.item.CallOut.{CallOut}
use Rattle.sip_calls.specs.declared.calls.Calls.{Calls}
use Rattle.sip_calls.specs.Call.{CallItem, call_machine}
use Rattle.sip_calls.specs.CallShard.{call_cmp}
use Rattle.sip_round.specs.Answers.{said_by_calls, said_by_transactions}

-- ---- a phase, as the code tells it and as the rules say it

abbrev pub told_by_transactions : List (Phase Key (Timed Input)) → Phase Key (Timed Input)
    → PhaseOutputs Key Out
told_by_transactions = told_next key_cmp transaction_machine tick_at

pub transactions_say : (past : List (Phase Key (Timed Input))) (phase : Phase Key (Timed Input))
    → told_by_transactions past phase ≡ said_by_transactions past phase
transactions_say past phase =
    sym (said_by_histories keys_total exact_keys transaction_machine tick_at past phase)

abbrev pub told_by_calls : Calls → List (Phase (List ℕ) (Timed CallItem))
    → Phase (List ℕ) (Timed CallItem) → PhaseOutputs (List ℕ) CallOut
told_by_calls calls = told_next call_cmp (call_machine calls) tick_at

pub calls_say : (calls : Calls) (past : List (Phase (List ℕ) (Timed CallItem)))
    (phase : Phase (List ℕ) (Timed CallItem))
    → told_by_calls calls past phase ≡ said_by_calls calls past phase
calls_say calls past phase =
    sym (said_by_histories nat_list_cmp_total exact_bytes (call_machine calls) tick_at past phase)

-- ---- one key: what phases say for it is what its own inputs add

pub transaction_alone : EachKeyAlone key_cmp transaction_machine tick_at
    → (before phases : List (Phase Key (Timed Input))) (key : Key)
    → said_since key_cmp transaction_machine tick_at key before phases
    ≡ outputs_from transaction_machine key
    (states_after key_cmp transaction_machine tick_at before key)
    (history key_cmp tick_at phases key)
transaction_alone alone before phases key =
    said_by_a_key keys_total exact_keys transaction_machine tick_at key before phases
    ∙ alone before phases key

pub call_alone : (calls : Calls) → EachKeyAlone call_cmp (call_machine calls) tick_at
    → (before phases : List (Phase (List ℕ) (Timed CallItem))) (call_id : List ℕ)
    → said_since call_cmp (call_machine calls) tick_at call_id before phases
    ≡ outputs_from (call_machine calls) call_id
    (states_after call_cmp (call_machine calls) tick_at before call_id)
    (history call_cmp tick_at phases call_id)
call_alone calls alone before phases call_id =
    said_by_a_key nat_list_cmp_total exact_bytes (call_machine calls) tick_at call_id before phases
    ∙ alone before phases call_id
