-- A request that is made in a dialog goes out in the dialog of its name.
use Rattle.std.proofs.Common.{◌≡◌, ℕ, Bool, true, not, ◌&&◌, ◌||◌, List, refl, sym, ◌∙◌}
use Rattle.std.specs.Prelude.{Option, None, Some, codes, if◌then◌else◌}
use Rattle.std.specs.Str.{bytes_eq}
use Rattle.sip_grammar.specs.Parameters.{value_named}
use Rattle.sip_message.specs.declared.addr.Addr.{Addr}
use Rattle.sip_message.specs.declared.cseq.CSeq.{CSeq}
use Rattle.sip_message.specs.declared.message.Message.{Message}
use Rattle.sip_message.specs.Content.{Content, with_content_of}
use Rattle.sip_message.specs.Party.{party_of, tag_of}
use Rattle.sip_dialog.specs.declared.dialog.Dialog.{Dialog}
use Rattle.sip_dialog.specs.Request.{bare_request_in, request_in}
use Rattle.sip_held_dialogs.specs.declared.held_dialog.DialogId.{DialogId}
use Rattle.sip_held_dialogs.specs.Dialogs.{is_dialog_id, tag_text}
use Rattle.sip_held_dialogs.specs.Requests.{dialog_id_of_tags}
use Rattle.sip_held_dialogs.specs.Sent.{cseq_of_request, name_of_dialog}
use Rattle.sip_held_dialogs.proofs.Heard.{name_laws}

content_kept : (name : DialogId) (message : Message) (content : Content)
    → cseq_of_request name (with_content_of message content) ≡ cseq_of_request name message
unfolding with_content_of
content_kept name message content = refl

party_tag : (uri : List ℕ) (tag : Option (List ℕ)) → tag_of (party_of uri tag) ≡ tag_text tag
unfolding value_named
party_tag uri None = refl
party_tag uri (Some tag) = refl

-- neither ACK nor CANCEL
abbrev pub numbered : List ℕ → Bool
numbered method = not (bytes_eq method (codes "ACK") || bytes_eq method (codes "CANCEL"))

abbrev pub cseq_for : ℕ → List ℕ → CSeq
cseq_for number method = record { number = number; method = method }

pub made_in : (name own : DialogId) (dialog : Dialog) (method : List ℕ) (number : ℕ)
    (content : Content) (branch : List ℕ) (local : Addr)
    → is_dialog_id own (name_of_dialog dialog) ≡ true
    → cseq_of_request name (request_in dialog method number content branch local)
    ≡ (if numbered method && is_dialog_id own name then Some (cseq_for number method) else None)
made_in name own dialog method number content branch local named =
    let tags = name_of_dialog dialog in
    let same : is_dialog_id name tags ≡ is_dialog_id own name =
    name_laws.symm name tags ∙ sym (name_laws.congr own tags name named) in
    content_kept name (bare_request_in dialog method number branch local) content
    ∙ (λ i. if numbered method && is_dialog_id name (dialog_id_of_tags
    (party_tag dialog.local.uri dialog.local.tag i)
    (party_tag dialog.remote.uri dialog.remote.tag i)) then Some (cseq_for number method) else None)
    ∙ (λ i. if numbered method && same i then Some (cseq_for number method) else None)
