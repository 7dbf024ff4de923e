-- Header lines, gathered one after another.
use Rattle.std.proofs.Common.{◌≡◌, ℕ, true, false, cond, eqb, length, Option, Some, None, Result, Ok, Err, IfOk, List, [], ◌∷◌, ◌++◌, sym, ap, ◌∙◌, append_assoc, append-nil}
use Rattle.std.specs.Prelude.{fold}
use Rattle.std.specs.List.{flat_map}
use Rattle.sip_message.specs.declared.header.Header.{Header}
use Rattle.sip_message.specs.declared.name_addr.NameAddr.{NameAddr}
use Rattle.std.specs.Option.{option_map}
use Rattle.sip_user.specs.declared.command.UserCommand.{UserCommand}
use Rattle.sip_round.specs.declared.round.Event.TheVariants.{Command}
use Rattle.sip_files.specs.declared.event_line.EventLine.{EventLine}
use Rattle.sip_files.specs.declared.event_line.EventLine.TheVariants as line
use Rattle.sip_files.specs.declared.given_header.GivenHeader.{GivenHeader}
use Rattle.sip_files.specs.declared.given_header.GivenHeader.TheVariants as given
use Rattle.sip_files.specs.declared.given_headers.GivenHeaders.{GivenHeaders}
use Rattle.sip_files.specs.Given.{contacts_in, routes_in, supported_in, require_in, others_in, gathered, with_one, command_with, with_given, with_headers}
use Rattle.sip_files.specs.Unregister.{contacts_fit}

abbrev with_all : GivenHeaders → List GivenHeader → GivenHeaders
with_all all headers = record {
  contacts = all.contacts ++ flat_map contacts_in headers;
  routes = all.routes ++ flat_map routes_in headers;
  supported = all.supported ++ flat_map supported_in headers;
  require = all.require ++ flat_map require_in headers;
  others = all.others ++ flat_map others_in headers;
}

one_first : (all : GivenHeaders) (header : GivenHeader) (headers : List GivenHeader)
    → with_all (with_one all header) headers ≡ with_all all (header ∷ headers)
one_first all (given.Contact addresses) headers =
    ap (λ (xs : List NameAddr). record (with_all all headers) { contacts = xs })
    (append_assoc all.contacts addresses (flat_map contacts_in headers))
one_first all (given.Route addresses) headers =
    ap (λ (xs : List NameAddr). record (with_all all headers) { routes = xs })
    (append_assoc all.routes addresses (flat_map routes_in headers))
one_first all (given.Supported tokens) headers =
    ap (λ (xs : List (List ℕ)). record (with_all all headers) { supported = xs })
    (append_assoc all.supported tokens (flat_map supported_in headers))
one_first all (given.Require tokens) headers =
    ap (λ (xs : List (List ℕ)). record (with_all all headers) { require = xs })
    (append_assoc all.require tokens (flat_map require_in headers))
one_first all (given.Other header) headers =
    ap (λ (xs : List Header). record (with_all all headers) { others = xs })
    (append_assoc all.others (header ∷ []) (flat_map others_in headers))

folded : (all : GivenHeaders) (headers : List GivenHeader)
    → fold with_one all headers ≡ with_all all headers
folded all [] = λ i. record {
  contacts = sym (append-nil all.contacts) i;
  routes = sym (append-nil all.routes) i;
  supported = sym (append-nil all.supported) i;
  require = sym (append-nil all.require) i;
  others = sym (append-nil all.others) i;
}
folded all (header ∷ headers) =
    folded (with_one all header) headers ∙ one_first all header headers

pub all_gathered : (headers : List GivenHeader)
    → fold with_one (gathered []) headers ≡ gathered headers
all_gathered headers = folded (gathered []) headers

-- a command with at least one header before it
pub headed_command : (headers : List GivenHeader) (item : EventLine) (c made : UserCommand)
    → eqb (length headers) 0 ≡ false → item ≡ line.Event (Command c)
    → with_given headers c ≡ Some made
    → with_headers headers item ≡ Some (line.Event (Command made))
headed_command [] item c made some is e = absurd cc
headed_command (header ∷ headers) item c made some is e =
    ap (with_headers (header ∷ headers)) is ∙ ap (option_map (λ d. line.Event (Command d))) e

-- the same for any result, if the Contacts may stand there
pub given_by : {E : Type 0} (result : Result (Option UserCommand) E) (headers : List GivenHeader)
    (all : GivenHeaders) (c : UserCommand) → eqb (length headers) 0 ≡ false
    → all ≡ gathered headers → contacts_fit all c ≡ true
    → IfOk result (λ made. made ≡ command_with all c)
    → IfOk result (λ made. made ≡ with_given headers c)
given_by (Err fault) headers all c some is fit made = tt
given_by (Ok made) [] all c some is fit e = absurd cc
given_by (Ok made) (header ∷ headers) all c some is fit e =
    e ∙ ap (λ (g : GivenHeaders). command_with g c) is
    ∙ sym (ap (λ r. cond r (command_with (gathered (header ∷ headers)) c) None)
    (sym (ap (λ (g : GivenHeaders). contacts_fit g c) is) ∙ fit))

-- and if they may not
pub not_given : (headers : List GivenHeader) (all : GivenHeaders) (c : UserCommand)
    → eqb (length headers) 0 ≡ false → all ≡ gathered headers → contacts_fit all c ≡ false
    → ◌≡◌ {A = Option UserCommand} None (with_given headers c)
not_given [] all c some is unfit = absurd cc
not_given (header ∷ headers) all c some is unfit =
    sym (ap (λ r. cond r (command_with (gathered (header ∷ headers)) c) None)
    (sym (ap (λ (g : GivenHeaders). contacts_fit g c) is) ∙ unfit))
