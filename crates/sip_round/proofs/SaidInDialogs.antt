-- What a call says to send in a dialog ends with the requests that have gone out in it since it
-- opened.
use Rattle.std.proofs.Common.{◌≡◌, ℕ, Bool, true, false, List, [], ◌∷◌, ◌++◌, refl, sym, ap, subst, ◌∙◌, append-nil, append_assoc}
use Rattle.std.specs.Prelude.{Option, None, Some, if◌then◌else◌}
use Rattle.std.specs.Option.{option_map}
use Rattle.sip_message.specs.declared.cseq.CSeq.{CSeq}
use Rattle.keyed_machine.specs.Machine.{Timed, outputs_from}
use Rattle.sip_dialog.specs.Life.{Happening}
use Rattle.sip_dialog.specs.Opening.{Opening}
use Rattle.sip_held_dialogs.specs.declared.held_dialog.DialogId.{DialogId}
use Rattle.sip_held_dialogs.specs.Dialogs.{dialog_at}
use Rattle.sip_held_dialogs.specs.Sent.{cseqs_in}
use Rattle.sip_held_dialogs.proofs.Starts.{cseqs_both}
use Rattle.std.specs.Option.{option_map_or}
use Rattle.sip_calls.specs.declared.call.Call.{Call}
use Rattle.sip_calls.specs.declared.calls.Calls.{Calls}
use Rattle.sip_calls.specs.Call.{CallItem, call_machine, call_step}
use Rattle.sip_calls.specs.Histories.{History, begun_with, history_after, history_from, history_of, is_born_of, happens_in, opening_in, with_more}
use Rattle.sip_calls.specs.Provisionals.{event_in, side_held}

-- what was said ends with what has been sent since the dialog opened
abbrev EndsSo : List CSeq → Option History → Type 0
EndsSo said None = Unit {0}
EndsSo said (Some history) = (earlier : List CSeq) × (said ≡ earlier ++ history.sent)

ends_on : (said cseqs : List CSeq) (created_by : Bool) (start : Option Opening)
    (more : List Happening)
    (history : Option History) → EndsSo said history
    → EndsSo (said ++ cseqs) (if created_by then option_map (begun_with cseqs) start
    else option_map (with_more more cseqs) history)
ends_on said cseqs true None more history ends = tt
ends_on said cseqs true (Some opening) more history ends = (said, refl)
ends_on said cseqs false start more None ends = tt
ends_on said cseqs false start more (Some history) ends = (
  ends.0,
  ap (λ all. all ++ cseqs) ends.1 ∙ append_assoc ends.0 history.sent cseqs,
)

module _ (calls : Calls) (key : List ℕ) (name : DialogId) where
  ends_from : (inputs : List (Timed CallItem)) (call : Option Call) (history : Option History)
      (said : List CSeq) → EndsSo said history
      → EndsSo (said ++ cseqs_in name (outputs_from (call_machine calls) key call inputs))
      (history_from calls name call history inputs)
  ends_from [] call history said ends =
      subst (λ all. EndsSo all history) (sym (append-nil said)) ends
  ends_from (input ∷ inputs) call history said ends =
      let done = call_step calls call input.input input.moment in
      let here = cseqs_in name done.1 in
      let outs = outputs_from (call_machine calls) key done.0 inputs in
      let next = history_after calls name call history input in
      subst (λ all. EndsSo all (history_from calls name done.0 next inputs))
      (append_assoc said here (cseqs_in name outs)
      ∙ ap (λ all. said ++ all) (sym (cseqs_both name done.1 outs)))
      (ends_from inputs done.0 next (said ++ here)
      (ends_on said here (is_born_of name (event_in input.input) (side_held done.0).dialogs)
      (opening_in call input.input)
      (option_map_or (happens_in call input.input done.1 name)
      (dialog_at name (side_held call).dialogs) []) history ends))

  ends_with : (said : List CSeq) (o : Option History) (history : History) → o ≡ Some history
      → EndsSo said o → (earlier : List CSeq) × (said ≡ earlier ++ history.sent)
  ends_with said o history is ends = subst (EndsSo said) is ends

  pub said_in_dialog : (inputs : List (Timed CallItem)) (history : History)
      → history_of calls name inputs ≡ Some history
      → (earlier : List CSeq)
      × (cseqs_in name (outputs_from (call_machine calls) key None inputs)
      ≡ earlier ++ history.sent)
  said_in_dialog inputs history is =
      ends_with (cseqs_in name (outputs_from (call_machine calls) key None inputs))
      (history_of calls name inputs) history is (ends_from inputs None None [] tt)
