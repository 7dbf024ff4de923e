-- What the types of a user's command say of its parts. Each command that a program can give
-- satisfies this: no other value of these types can be made.
use Rattle.std.specs.Prelude.{IsTrue, List}
use Rattle.std.specs.List.{AllByRecursion}
use Rattle.sip_text.specs.Token.{is_token}
use Rattle.sip_grammar.specs.Reason.{is_reason}
use Rattle.sip_grammar.specs.Uri.{is_uri}
use Rattle.sip_grammar.specs.Word.{is_word}
use Rattle.sip_message.specs.Content.{Content}
use Rattle.sip_message.specs.Rules.{IsNameAddr, IsOtherHeader}
use Rattle.sip_user.specs.declared.command.Invite.{Invite}
use Rattle.sip_user.specs.declared.command.Plain.{Plain}
use Rattle.sip_user.specs.declared.command.Respond.{Respond}
use Rattle.sip_user.specs.declared.command.UserCommand.{UserCommand}
use Rattle.sip_user.specs.declared.command.UserCommand.TheVariants as user
use Rattle.sip_round.specs.declared.round.Event.{Event}
use Rattle.sip_round.specs.declared.round.Event.TheVariants.{Command, Datagram, Failed}
use Rattle.sip_conversation.specs.Conversation.{Turn}

-- the user's headers (RFC 3261, section 7.3)
pub record IsContent (content : Content) : Type 0 where
  pub contacts : AllByRecursion IsNameAddr content.contacts
  pub require : AllByRecursion (λ token. IsTrue (is_token token)) content.require
  pub supported : AllByRecursion (λ token. IsTrue (is_token token)) content.supported
  pub others : AllByRecursion IsOtherHeader content.others

-- a first INVITE
pub record IsInvite (invite : Invite) : Type 0 where
  pub call_id : IsTrue (is_word invite.call_id)
  pub request_uri : IsTrue (is_uri invite.request_uri)
  pub from : IsTrue (is_uri invite.from)
  pub to : IsTrue (is_uri invite.to)
  pub routes : AllByRecursion IsNameAddr invite.routes
  pub content : IsContent invite.content

-- another request outside of dialogs
pub record IsPlain (plain : Plain) : Type 0 where
  pub call_id : IsTrue (is_word plain.call_id)
  pub method : IsTrue (is_token plain.method)
  pub request_uri : IsTrue (is_uri plain.request_uri)
  pub from : IsTrue (is_uri plain.from)
  pub to : IsTrue (is_uri plain.to)
  pub routes : AllByRecursion IsNameAddr plain.routes
  pub content : IsContent plain.content

-- an answer
pub record IsRespond (respond : Respond) : Type 0 where
  pub reason : IsTrue (is_reason respond.reason)
  pub content : IsContent respond.content

abbrev pub KeepsTypes : UserCommand → Type 0
KeepsTypes (user.Invite invite) = IsInvite invite
KeepsTypes (user.Plain plain) = IsPlain plain
KeepsTypes (user.Request request) = IsTrue (is_token request.method) × IsContent request.content
KeepsTypes (user.Respond respond) = IsRespond respond
KeepsTypes (user.Ack ack) = IsContent ack.content
KeepsTypes (user.Prack prack) = IsContent prack.content
KeepsTypes (user.Cancel cancel) = Unit {0}
KeepsTypes (user.AbandonRequest abandon) = Unit {0}
KeepsTypes (user.AbandonDialog abandon) = Unit {0}

abbrev pub EventKeepsTypes : Event → Type 0
EventKeepsTypes (Command command) = KeepsTypes command
EventKeepsTypes (Datagram from bytes) = Unit {0}
EventKeepsTypes (Failed key) = Unit {0}

-- so does each command of these turns
abbrev pub CommandsKeepTypes : List Turn → Type 0
CommandsKeepTypes turns =
    AllByRecursion (λ turn. AllByRecursion EventKeepsTypes (turn.round).events) turns
