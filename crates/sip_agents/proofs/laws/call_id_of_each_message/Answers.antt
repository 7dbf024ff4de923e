-- The law `call_id_of_each_message`.
use Rattle.std.proofs.Common.{◌≡◌, ℕ, List, [], ◌∷◌, Some, drop, refl, sym, ap, subst}
use Rattle.std.specs.Prelude.{IfOk}
use Rattle.std.specs.List.{AllZip, slice_get}
use Rattle.sip_grammar.specs.HeaderEntry.{entry}
use Rattle.sip_grammar.specs.declared.header_name.HeaderName.{HeaderName}
use Rattle.sip_grammar.specs.declared.header_name.HeaderName.TheVariants as header
use Rattle.sip_header_values.specs.Sequence.{IsCallId}
use Rattle.sip_message.specs.declared.message.Message.{Message}
use Rattle.sip_reader.specs.ReadMessage.{message_at}
use Rattle.sip_reader.specs.Spells.{Spells}
use Rattle.sip_reader.specs.Steps.ReadHead.{head_at, values_at}
use Rattle.sip_reader.proofs.Answering.{gives_itself, is_found}
use Rattle.sip_reader.proofs.HeadMessages.{known_said}
use Rattle.sip_reader.proofs.HeadValues.{has_values}
use Rattle.sip_agents.specs.Destination.{call_id_in}
use Rattle.sip_agents.proofs.laws.call_id_of_each_message.Goals as goal

-- the only value of a header with one
only_value : (call_id : List ℕ) (values : List (List ℕ)) → AllZip IsCallId (call_id ∷ []) values
    → slice_get values 0 ≡ Some call_id
only_value call_id [] all = absurd all
only_value call_id (value ∷ values) all = ap Some (sym all.0.0)

said : (bytes : List ℕ) (m : Message) → Spells m bytes → call_id_in bytes ≡ Some m.call_id
unfolding call_id_in
said bytes m spells =
    let lines : List (List ℕ) = drop 1 (head_at bytes) in
    let values : HeaderName → List (List ℕ) = λ h. values_at (entry h).name lines in
    let rows = known_said bytes m values spells (λ h. has_values (entry h).name bytes (values h) refl)
    in
    only_value m.call_id (values header.CallId) rows.call_id

pub returns : goal.returns
returns c bytes m read =
    said bytes m (subst (λ r. IfOk r (λ found. Spells found bytes)) read
    (is_found bytes (message_at bytes) (gives_itself (message_at bytes))))
