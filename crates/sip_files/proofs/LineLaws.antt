-- The lines of an event file: what is read is spelled that way, and that spelling is read.
use Rattle.std.proofs.Common.{◌≡◌, ℕ, true, cond, eqb, List, ◌∷◌, ◌++◌, length, Option, Some, refl, sym, ap, subst, ◌∙◌, arith, inl, inr, codes, decimal}
use Rattle.std.specs.List.{flat_map}
use Rattle.std.specs.Option.{option_map}
use Rattle.std.specs.Str.{bytes_eq}
use Rattle.std.proofs.lemmas.Bool.{eqb-true}
use Rattle.std.proofs.lemmas.List.{nil_from_length}
use Rattle.sip_text.proofs.Numerals.{number_reads}
use Rattle.sip_text.proofs.Cuts.{cut_took, field_took, field_again}
use Rattle.sip_text.proofs.Options.{bind_some, chosen, same_some}
use Rattle.sip_text.specs.Number.{number_at}
use Rattle.sip_text.specs.Options.{◌>>=◌}
use Rattle.sip_text.specs.Cut.{cut_at, field_at}
use Rattle.sip_message.specs.declared.addr.Addr.{Addr}
use Rattle.sip_message.specs.declared.key.Key.{Key}
use Rattle.sip_message.specs.Addr.{addr_text, IsAddr}
use Rattle.sip_user.specs.declared.command.UserCommand.{UserCommand}
use Rattle.sip_user.specs.declared.command.UserCommand.TheVariants as command
use Rattle.sip_round.specs.declared.round.Event.{Event}
use Rattle.sip_round.specs.declared.round.Event.TheVariants.{Datagram, Failed, Command}
use Rattle.sip_files.specs.declared.version.Version.{Version}
use Rattle.sip_files.specs.declared.version.Version.TheVariants.{One, Two, SessionOne}
use Rattle.sip_files.specs.declared.given_header.GivenHeader.{GivenHeader}
use Rattle.sip_files.specs.declared.event_line.EventLine.{EventLine}
use Rattle.sip_files.specs.declared.event_line.EventLine.TheVariants as line
use Rattle.sip_files.specs.Word.{hex_pair, are_bytes, spelled_rest}
use Rattle.sip_files.specs.Field.{plain_field, number_field, address_field, rest_field}
use Rattle.sip_files.specs.Events.{IsCommandLine, command_text, SpellsClient, SpellsServer, SpellsEvent, SpellsHeaderIn, SpellsLine}
use Rattle.sip_files.specs.Given.{given_at}
use Rattle.sip_files.specs.Steps.Reading.{rest_at, address_at, seed_at}
use Rattle.sip_files.specs.Steps.ReadLine.{command_at, datagram_at, client_key_of, client_at, server_of, server_at, failed_at, event_at, header_at, header_in, keyword_line, parts_line, line_at}
use Rattle.sip_files.proofs.CommandLines.{abandon_reads_in, abandon_text, ack_text, body_reads, cancel_reads_in, cancel_text, command_took, invite_reads, invite_text, mapped, plain_reads, plain_text, prack_text, request_reads, request_text, respond_reads, respond_text}
use Rattle.sip_files.proofs.FailedLines.{client_fields, client_words, client_text, server_fields, server_words, server_text, failed_took}
use Rattle.sip_files.proofs.WordLaws.{rest_took, rest_again}
use Rattle.sip_files.proofs.NumberLaws.{address_reads, seed_reads, address_no}
use Rattle.sip_files.proofs.FieldLaws.{same_text}
use Rattle.sip_files.proofs.GivenLaws.{given_took, given_again}

-- ---- a datagram

datagram_took : (version : Version) (fields : List ℕ) (event : Event)
    → datagram_at fields ≡ Some event → SpellsEvent version (codes "datagram" ++ 32 ∷ fields) event
unfolding datagram_at address_field rest_field
datagram_took version fields event e =
    let a = bind_some (field_at 32 address_at fields)
    (λ from. rest_at from.1 >>= λ bytes. Some (Datagram from.0 bytes)) event e in
    let b = bind_some (rest_at a.0.1) (λ bytes. Some (Datagram a.0.0 bytes)) event a.2 in
    let from = field_took 32 IsAddr addr_text address_at address_reads fields a.0 a.1 in
    let bytes = rest_took a.0.1 b.0 b.1 in
    let whole : fields ≡ addr_text a.0.0 ++ 32 ∷ spelled_rest b.0 =
    from.1 ∙ ap (λ (x : List ℕ). addr_text a.0.0 ++ 32 ∷ x) bytes.1 in
    let P : Event → Type 0 = SpellsEvent version (codes "datagram" ++ 32 ∷ fields) in
    subst P (same_some (Datagram a.0.0 b.0) event b.2)
    ((from.0, bytes.0), ap (λ (x : List ℕ). codes "datagram" ++ 32 ∷ x) whole)

datagram_again : (from : Addr) (bytes : List ℕ) → IsAddr from → are_bytes bytes ≡ true
    → datagram_at (addr_text from ++ 32 ∷ spelled_rest bytes) ≡ Some (Datagram from bytes)
unfolding datagram_at
datagram_again from bytes fits bytes_fit =
    ap (λ o. o >>= λ from. rest_at from.1 >>= λ bytes. Some (Datagram from.0 bytes))
    (field_again 32 IsAddr addr_text address_at address_reads from (spelled_rest bytes) fits
    (address_no 32 from refl refl refl fits))
    ∙ ap (λ o. o >>= λ bytes. Some (Datagram from bytes)) (rest_again bytes bytes_fit)

-- ---- a line

event_took : (version : Version) (keyword fields : List ℕ) (event : Event)
    → event_at version keyword fields ≡ Some event
    → SpellsEvent version (keyword ++ 32 ∷ fields) event
unfolding event_at
event_took version keyword fields event e =
    let P : Event → Type 0 = SpellsEvent version (keyword ++ 32 ∷ fields) in
    let Q : List ℕ → Type 0 = λ k. SpellsEvent version (k ++ 32 ∷ fields) event in
    elim (chosen (bytes_eq keyword (codes "datagram")) (datagram_at fields)
    (cond (bytes_eq keyword (codes "failed")) (option_map Failed (failed_at fields))
    (option_map Command (command_at version keyword fields))) (Some event) e) [
      | inl a ↦ subst Q (sym (same_text keyword (codes "datagram") a.0))
          (datagram_took version fields event a.1)
      | inr a ↦ elim (chosen (bytes_eq keyword (codes "failed"))
          (option_map Failed (failed_at fields))
          (option_map Command (command_at version keyword fields)) (Some event) a.1) [
            | inl b ↦ subst Q (sym (same_text keyword (codes "failed") b.0))
                (let x = mapped Failed (failed_at fields) event b.1 in
                subst (λ (y : Event). SpellsEvent version (codes "failed" ++ 32 ∷ fields) y) x.2
                (failed_took fields x.0 x.1))
            | inr b ↦ (let x = mapped Command (command_at version keyword fields) event b.1 in
                subst P x.2 (command_took version keyword fields x.0 x.1))
          ]
    ]

keyword_took : (version : Version) (keyword fields : List ℕ) (item : EventLine)
    → keyword_line version keyword fields ≡ Some item
    → SpellsLine version (keyword ++ 32 ∷ fields) item
unfolding keyword_line address_field plain_field number_field
keyword_took version keyword fields item e =
    let P : EventLine → Type 0 = SpellsLine version (keyword ++ 32 ∷ fields) in
    let spelled : (k x : List ℕ) → bytes_eq keyword k ≡ true → fields ≡ x
    → keyword ++ 32 ∷ fields ≡ k ++ 32 ∷ x =
    λ k x p q. ap (λ (y : List ℕ). y ++ 32 ∷ fields) (same_text keyword k p)
    ∙ ap (λ (y : List ℕ). k ++ 32 ∷ y) q in
    elim (chosen (bytes_eq keyword (codes "local")) (option_map line.Local (address_at fields))
    (cond (bytes_eq keyword (codes "seed")) (option_map line.Seed (seed_at fields))
    (cond (bytes_eq keyword (codes "first"))
    (option_map line.First (number_at 4611686018427387904 fields))
    (cond (bytes_eq keyword (codes "round"))
    (option_map line.Round (number_at 18446744073709551615 fields))
    (option_map line.Event (event_at version keyword fields))))) (Some item) e) [
      | inl a ↦ (let x = mapped line.Local (address_at fields) item a.1 in
          let t = address_reads.took fields x.0 x.1 in
          subst P x.2 (t.0, spelled (codes "local") (addr_text x.0) a.0 t.1))
      | inr a ↦ elim (chosen (bytes_eq keyword (codes "seed"))
          (option_map line.Seed (seed_at fields))
          (cond (bytes_eq keyword (codes "first"))
          (option_map line.First (number_at 4611686018427387904 fields))
          (cond (bytes_eq keyword (codes "round"))
          (option_map line.Round (number_at 18446744073709551615 fields))
          (option_map line.Event (event_at version keyword fields)))) (Some item) a.1) [
            | inl b ↦ (let x = mapped line.Seed (seed_at fields) item b.1 in
                let t = seed_reads.took fields x.0 x.1 in
                subst P x.2 (t.0, spelled (codes "seed") (flat_map hex_pair x.0) b.0 t.1))
            | inr b ↦ elim (chosen (bytes_eq keyword (codes "first"))
                (option_map line.First (number_at 4611686018427387904 fields))
                (cond (bytes_eq keyword (codes "round"))
                (option_map line.Round (number_at 18446744073709551615 fields))
                (option_map line.Event (event_at version keyword fields))) (Some item) b.1) [
                  | inl c ↦ (let x = mapped line.First
                      (number_at 4611686018427387904 fields) item c.1 in
                      let t = (number_reads 4611686018427387904 (omega arith)).took fields x.0
                      x.1 in
                      subst P x.2 (t.0, spelled (codes "first") (decimal x.0) c.0 t.1))
                  | inr c ↦ elim (chosen (bytes_eq keyword (codes "round"))
                      (option_map line.Round (number_at 18446744073709551615 fields))
                      (option_map line.Event (event_at version keyword fields)) (Some item) c.1) [
                        | inl d ↦ (let x = mapped line.Round
                            (number_at 18446744073709551615 fields) item d.1 in
                            let t = (number_reads 18446744073709551615 (omega arith)).took fields
                            x.0 x.1 in
                            subst P x.2 (t.0, spelled (codes "round") (decimal x.0) d.0 t.1))
                        | inr d ↦ (let x = mapped line.Event (event_at version keyword fields)
                            item d.1 in
                            subst P x.2 (event_took version keyword fields x.0 x.1))
                      ]
                ]
          ]
    ]

header_took : (version : Version) (fields : List ℕ) (header : GivenHeader)
    → header_in version fields ≡ Some header → SpellsHeaderIn version (32 ∷ fields) header
unfolding header_at rest_field
header_took One fields header e = absurd cc
header_took Two fields header e = absurd cc
header_took SessionOne fields header e =
    let read = bind_some (rest_at fields) given_at header e in
    let rest = rest_took fields read.0 read.1 in
    record {
      header_line = read.0;
      bytes = rest.0;
      given = given_took read.0 header read.2;
      spelled = ap (λ (x : List ℕ). 32 ∷ x) rest.1;
    }

parts_took : (version : Version) (keyword fields : List ℕ) (item : EventLine)
    → parts_line version keyword fields ≡ Some item
    → SpellsLine version (keyword ++ 32 ∷ fields) item
parts_took version keyword fields item e =
    elim (chosen (eqb (length keyword) 0) (option_map line.Header (header_in version fields))
    (keyword_line version keyword fields) (Some item) e) [
      | inl a ↦ (let x = mapped line.Header (header_in version fields) item a.1 in
          let none = nil_from_length keyword (eqb-true (length keyword) 0 a.0) in
          let P : List ℕ → Type 0 = λ k. SpellsLine version (k ++ 32 ∷ fields) item in
          let Q : EventLine → Type 0 = SpellsLine version (32 ∷ fields) in
          subst P (sym none) (subst Q x.2 (header_took version fields x.0 x.1)))
      | inr a ↦ keyword_took version keyword fields item a.1
    ]

-- the text says what is read
pub line_took : (version : Version) (text : List ℕ) (item : EventLine)
    → line_at version text ≡ Some item → SpellsLine version text item
unfolding line_at
line_took version text item e =
    let p = bind_some (cut_at 32 text) (λ p. parts_line version p.0 p.1) item e in
    let P : List ℕ → Type 0 = λ t. SpellsLine version t item in
    subst P (sym (cut_took 32 text p.0 p.1).whole) (parts_took version p.0.0 p.0.1 item p.2)

abbrev as_line : {A : Type 0} → (A → UserCommand) → Option A → Option EventLine
as_line make o = option_map line.Event (option_map Command (option_map make o))

command_again : (version : Version) (c : UserCommand) → IsCommandLine version c
    → line_at version (command_text c) ≡ Some (line.Event (Command c))
unfolding line_at keyword_line event_at
command_again version (command.Invite c) fits =
    ap (line_at version) (invite_text c) ∙ ap (as_line command.Invite) (invite_reads.again c fits)
command_again version (command.Plain c) fits =
    ap (line_at version) (plain_text c) ∙ ap (as_line command.Plain) (plain_reads.again c fits)
command_again version (command.Request c) fits =
    ap (line_at version) (request_text c)
    ∙ ap (as_line command.Request) (request_reads.again c fits)
command_again version (command.Respond c) fits =
    ap (line_at version) (respond_text c)
    ∙ ap (as_line command.Respond) (respond_reads.again c fits)
command_again version (command.Ack c) fits =
    ap (line_at version) (ack_text c) ∙ ap (as_line command.Ack) (body_reads.again c fits)
command_again version (command.Prack c) fits =
    ap (line_at version) (prack_text c) ∙ ap (as_line command.Prack) (body_reads.again c fits)
command_again version (command.Cancel c) fits =
    ap (line_at version) (cancel_text c)
    ∙ ap (as_line command.Cancel) ((cancel_reads_in version).again c fits)
command_again version (command.AbandonRequest c) fits =
    ap (line_at version) (abandon_text (command.AbandonRequest c) fits.1)
    ∙ ap (λ o. option_map line.Event (option_map Command o))
    ((abandon_reads_in version).again (command.AbandonRequest c) fits)
command_again version (command.AbandonDialog c) fits =
    ap (line_at version) (abandon_text (command.AbandonDialog c) fits.1)
    ∙ ap (λ o. option_map line.Event (option_map Command o))
    ((abandon_reads_in version).again (command.AbandonDialog c) fits)

-- what an equal text says is read from it
read_from : (version : Version) (text other : List ℕ) (item : EventLine) → text ≡ other
    → line_at version other ≡ Some item → line_at version text ≡ Some item
read_from version text other item is read = ap (line_at version) is ∙ read

client_again : (version : Version) (text : List ℕ) (key : Key) → SpellsClient text key
    → line_at version text ≡ Some (line.Event (Failed key))
unfolding line_at keyword_line event_at failed_at client_at
client_again version text key s =
    read_from version text (codes "failed client" ++ 32 ∷ client_fields (s.branch, s.method))
    (line.Event (Failed key))
    (s.spelled ∙ client_text s.branch s.method)
    (ap (λ o. option_map line.Event (option_map Failed (option_map client_key_of o)))
    (client_words.again (s.branch, s.method) (s.bytes, s.token))
    ∙ ap (λ (k : Key). Some (line.Event (Failed k))) (sym s.named))

server_again : (version : Version) (text : List ℕ) (key : Key) → SpellsServer text key
    → line_at version text ≡ Some (line.Event (Failed key))
unfolding line_at keyword_line event_at failed_at server_at
server_again version text key s =
    read_from version text (codes "failed server"
    ++ 32 ∷ server_fields (((s.branch, s.host), s.port), s.method)) (line.Event (Failed key))
    (s.spelled ∙ server_text s.branch s.host s.port s.method)
    (ap (λ o. option_map line.Event (option_map Failed (option_map server_of o)))
    (server_words.again (((s.branch, s.host), s.port), s.method)
    (((s.bytes, s.host_bytes), s.bound), s.token))
    ∙ ap (λ (k : Key). Some (line.Event (Failed k))) (sym s.named))

header_again : (version : Version) (text : List ℕ) (header : GivenHeader)
    → SpellsHeaderIn version text header → line_at version text ≡ Some (line.Header header)
unfolding line_at header_at rest_field
header_again One text header s = elim s [ ]
header_again Two text header s = elim s [ ]
header_again SessionOne text header s =
    ap (line_at SessionOne) s.spelled
    ∙ ap (λ o. option_map line.Header (o >>= given_at)) (rest_again s.header_line s.bytes)
    ∙ ap (option_map line.Header) (given_again s.header_line header s.given)

-- what a text says is read from it
pub line_again : (version : Version) (text : List ℕ) (item : EventLine)
    → SpellsLine version text item → line_at version text ≡ Some item
unfolding line_at keyword_line event_at address_field plain_field number_field rest_field
line_again version text (line.Local address) s =
    ap (line_at version) s.1 ∙ ap (option_map line.Local) (address_reads.again address s.0)
line_again version text (line.Seed seed) s =
    ap (line_at version) s.1 ∙ ap (option_map line.Seed) (seed_reads.again seed s.0)
line_again version text (line.First number) s =
    ap (line_at version) s.1 ∙ ap (option_map line.First)
    ((number_reads 4611686018427387904 (omega arith)).again number s.0)
line_again version text (line.Round moment) s =
    ap (line_at version) s.1 ∙ ap (option_map line.Round)
    ((number_reads 18446744073709551615 (omega arith)).again moment s.0)
line_again version text (line.Event (Datagram from bytes)) s =
    ap (line_at version) s.1 ∙ ap (option_map line.Event) (datagram_again from bytes s.0.0 s.0.1)
line_again version text (line.Event (Failed key)) s =
    elim s [
      | inl client ↦ client_again version text key client
      | inr server ↦ server_again version text key server
    ]
line_again version text (line.Event (Command c)) s =
    ap (line_at version) s.1 ∙ command_again version c s.0
line_again version text (line.Header header) s = header_again version text header s

-- ---- a line means the same in all versions

command_in_session : (version : Version) (c : UserCommand) → IsCommandLine version c
    → IsCommandLine SessionOne c
command_in_session version (command.Invite c) fits = fits
command_in_session version (command.Plain c) fits = fits
command_in_session version (command.Request c) fits = fits
command_in_session version (command.Respond c) fits = fits
command_in_session version (command.Ack c) fits = fits
command_in_session version (command.Prack c) fits = fits
command_in_session version (command.Cancel c) fits = (refl, fits.1)
command_in_session version (command.AbandonRequest c) fits = (refl, fits.1)
command_in_session version (command.AbandonDialog c) fits = (refl, fits.1)

header_in_session : (version : Version) (text : List ℕ) (header : GivenHeader)
    → SpellsHeaderIn version text header → SpellsHeaderIn SessionOne text header
header_in_session One text header s = elim s [ ]
header_in_session Two text header s = elim s [ ]
header_in_session SessionOne text header s = s

-- a session may have every line
pub in_session : (version : Version) (text : List ℕ) (item : EventLine)
    → SpellsLine version text item → SpellsLine SessionOne text item
in_session version text (line.Local address) s = s
in_session version text (line.Seed seed) s = s
in_session version text (line.First number) s = s
in_session version text (line.Round moment) s = s
in_session version text (line.Event (Datagram from bytes)) s = s
in_session version text (line.Event (Failed key)) s = s
in_session version text (line.Event (Command c)) s = (command_in_session version c s.0, s.1)
in_session version text (line.Header header) s = header_in_session version text header s

pub one_meaning : (version another : Version) (text : List ℕ) (item other : EventLine)
    → SpellsLine version text item → SpellsLine another text other → item ≡ other
one_meaning version another text item other says others =
    same_some item other (sym (line_again SessionOne text item (in_session version text item says))
    ∙ line_again SessionOne text other (in_session another text other others))
