-- Words in lower case are the words of texts in lower case. So the texts of one line differ only in
-- the case of letters.
use Rattle.std.proofs.Common.{◌≡◌, ℕ, ◌/◌, ◌%◌, Bool, true, false, eqb, List, [], ◌∷◌, ◌++◌, length, Option, Some, None, refl, sym, ap, subst, ◌∙◌, arith, inl, inr, codes, decimal}
use Rattle.std.specs.Char.{to_ascii_lowercase}
use Rattle.std.specs.Str.{bytes_eq, str_to_ascii_lowercase}
use Rattle.std.proofs.lemmas.Bool.{eqb-true, cases_Bool, false≢true, false_from_ne_true}
use Rattle.std.proofs.lemmas.Bool.Decides.{nat_tests}
use Rattle.std.proofs.lemmas.List.{map-append, length-map, nil_from_length}
use Rattle.std.proofs.lemmas.Slice.Eq.{bytes_eq-Decides}
use Rattle.sip_message.specs.declared.key.Key.{Key}
use Rattle.sip_message.specs.Key.{client_key, server_key, branch_in, host_in, port_in, method_in}
use Rattle.sip_round.specs.declared.round.Event.TheVariants.{Datagram, Failed, Command}
use Rattle.sip_files.specs.declared.version.Version.{Version}
use Rattle.sip_files.specs.declared.event_line.EventLine.{EventLine}
use Rattle.sip_files.specs.declared.event_line.EventLine.TheVariants as line
use Rattle.sip_text.specs.Number.{hex_digit}
use Rattle.sip_files.specs.Word.{is_plain, letter_of, spelled_byte, spelled_bytes, spelled_word}
use Rattle.sip_files.specs.Events.{SpellsClient, SpellsServer, SpellsLine, AreAlike}
use Rattle.sip_files.proofs.Escapes.{spelled_itself, spelled_letter, spelled_hex}
use Rattle.sip_files.proofs.WordLaws.{hyphen, word_is}
use Rattle.sip_files.proofs.FailedLines.{client_text, server_text}

abbrev lower : List ℕ → List ℕ
lower = str_to_ascii_lowercase

-- ---- words

plain_lower : (b : ℕ) → is_plain (to_ascii_lowercase b) ≡ is_plain b
plain_lower b = grind (arith, nat_tests)

-- a byte that doesn't stand for itself isn't a letter
no_letter : (b : ℕ) → is_plain b ≡ false → to_ascii_lowercase b ≡ b
no_letter b h = grind (arith, nat_tests)

letter_low : (b l : ℕ) → letter_of b ≡ Some l → to_ascii_lowercase l ≡ l
letter_low b l h = grind (arith, nat_tests)

digit_low : (v : ℕ) → to_ascii_lowercase (hex_digit v) ≡ hex_digit v
digit_low v = grind (arith, nat_tests)

escape_low : (b : ℕ) (o : Option ℕ) → is_plain b ≡ false → letter_of b ≡ o
    → lower (spelled_byte is_plain b) ≡ spelled_byte is_plain b
escape_low b (Some l) h g =
    ap lower (spelled_letter is_plain b l h g) ∙ ap (λ x. 92 ∷ x ∷ []) (letter_low b l g)
    ∙ sym (spelled_letter is_plain b l h g)
escape_low b None h g =
    ap lower (spelled_hex is_plain b h g)
    ∙ ap (λ x. 92 ∷ 120 ∷ x ∷ to_ascii_lowercase (hex_digit (b % 16)) ∷ []) (digit_low (b / 16))
    ∙ ap (λ x. 92 ∷ 120 ∷ hex_digit (b / 16) ∷ x ∷ []) (digit_low (b % 16))
    ∙ sym (spelled_hex is_plain b h g)

byte_by : (b : ℕ) (r : Bool) → is_plain b ≡ r
    → lower (spelled_byte is_plain b) ≡ spelled_byte is_plain (to_ascii_lowercase b)
byte_by b true h =
    ap lower (spelled_itself is_plain b h)
    ∙ sym (spelled_itself is_plain (to_ascii_lowercase b) (plain_lower b ∙ h))
byte_by b false h =
    escape_low b (letter_of b) h refl ∙ ap (spelled_byte is_plain) (sym (no_letter b h))

bytes_low : (text : List ℕ) → lower (spelled_bytes is_plain text)
    ≡ spelled_bytes is_plain (lower text)
bytes_low [] = refl
bytes_low (b ∷ bs) =
    map-append to_ascii_lowercase (spelled_byte is_plain b) (spelled_bytes is_plain bs)
    ∙ ap (λ (x : List ℕ). x ++ lower (spelled_bytes is_plain bs)) (byte_by b (is_plain b) refl)
    ∙ ap (λ (x : List ℕ). spelled_byte is_plain (to_ascii_lowercase b) ++ x) (bytes_low bs)

hyphen_byte : (b : ℕ) → to_ascii_lowercase b ≡ 45 → b ≡ 45
hyphen_byte b e = grind (arith, nat_tests)

hyphen_low : (text : List ℕ) → lower text ≡ hyphen → text ≡ hyphen
hyphen_low [] e = absurd cc
hyphen_low (b ∷ []) e =
    let first : to_ascii_lowercase b ≡ 45 = cc in
    ap (λ x. x ∷ []) (hyphen_byte b first)
hyphen_low (b ∷ c ∷ bs) e = absurd cc

abbrev IsLow : List ℕ → Type 0
IsLow text = lower (spelled_word text) ≡ spelled_word (lower text)

low_nothing : IsLow []
unfolding spelled_word
low_nothing = refl

low_hyphen : IsLow hyphen
unfolding spelled_word
low_hyphen = refl

low_other : (text : List ℕ) → eqb (length text) 0 ≡ false → bytes_eq text hyphen ≡ false
    → IsLow text
low_other text some unlike =
    let some_low = ap (λ n. eqb n 0) (length-map text to_ascii_lowercase) ∙ some in
    let unlike_low = false_from_ne_true _
    (λ e. false≢true (sym unlike ∙ (bytes_eq-Decides text hyphen).1
    (hyphen_low text ((bytes_eq-Decides (lower text) hyphen).0 e)))) in
    ap lower (word_is text false false some unlike) ∙ bytes_low text
    ∙ sym (word_is (lower text) false false some_low unlike_low)

pub word_low : (text : List ℕ) → IsLow text
word_low text =
    elim (cases_Bool (eqb (length text) 0)) [
      | inl e ↦ subst IsLow (sym (nil_from_length text (eqb-true (length text) 0 e))) low_nothing
      | inr e ↦ elim (cases_Bool (bytes_eq text hyphen)) [
        | inl h ↦ subst IsLow (sym ((bytes_eq-Decides text hyphen).0 h)) low_hyphen
        | inr h ↦ low_other text e h
      ]
    ]

-- ---- lines

low_behind : (x y : List ℕ) → lower (x ++ 32 ∷ y) ≡ lower x ++ 32 ∷ lower y
low_behind x y = map-append to_ascii_lowercase x (32 ∷ y)

low_fields : (text : List ℕ) (rest : List ℕ)
    → lower (spelled_word text ++ 32 ∷ rest) ≡ spelled_word (lower text) ++ 32 ∷ lower rest
low_fields text rest =
    low_behind (spelled_word text) rest ∙ ap (λ (x : List ℕ). x ++ 32 ∷ lower rest) (word_low text)

-- the line of a client's key in lower case
abbrev client_low : List ℕ → List ℕ → List ℕ
client_low branch method = codes "failed client" ++ 32 ∷ (spelled_word branch ++ 32 ∷ lower method)

client_lower : (text : List ℕ) (key : Key) (s : SpellsClient text key)
    → lower text ≡ client_low (lower s.branch) s.method
client_lower text key s =
    ap lower (s.spelled ∙ client_text s.branch s.method)
    ∙ ap (λ (x : List ℕ). codes "failed client" ++ 32 ∷ x) (low_fields s.branch s.method)

abbrev server_low : List ℕ → List ℕ → ℕ → List ℕ → List ℕ
server_low branch host port method =
    codes "failed server" ++ 32 ∷ (((spelled_word branch ++ 32 ∷ spelled_word host)
    ++ 32 ∷ lower (decimal port)) ++ 32 ∷ lower method)

server_lower : (text : List ℕ) (key : Key) (s : SpellsServer text key)
    → lower text ≡ server_low (lower s.branch) (lower s.host) s.port s.method
server_lower text key s =
    let two = spelled_word s.branch ++ 32 ∷ spelled_word s.host in
    let low = low_fields s.branch (spelled_word s.host)
    ∙ ap (λ (x : List ℕ). spelled_word (lower s.branch) ++ 32 ∷ x) (word_low s.host) in
    ap lower (s.spelled ∙ server_text s.branch s.host s.port s.method)
    ∙ ap (λ (x : List ℕ). codes "failed server" ++ 32 ∷ x)
    (low_behind (two ++ 32 ∷ decimal s.port) s.method
    ∙ ap (λ (x : List ℕ). x ++ 32 ∷ lower s.method)
    (low_behind two (decimal s.port) ∙ ap (λ (x : List ℕ). x ++ 32 ∷ lower (decimal s.port)) low))

module _ (text other : List ℕ) (key : Key) where
  two_clients : SpellsClient text key → SpellsClient other key → lower text ≡ lower other
  two_clients s t =
      let same : client_key s.branch s.method ≡ client_key t.branch t.method =
      sym s.named ∙ t.named in
      let branch : lower s.branch ≡ lower t.branch = ap branch_in same in
      let method : s.method ≡ t.method = ap method_in same in
      client_lower text key s ∙ ap (λ (b : List ℕ). client_low b s.method) branch
      ∙ ap (client_low (lower t.branch)) method ∙ sym (client_lower other key t)

  two_servers : SpellsServer text key → SpellsServer other key → lower text ≡ lower other
  two_servers s t =
      let same : server_key s.branch s.host s.port s.method
      ≡ server_key t.branch t.host t.port t.method = sym s.named ∙ t.named in
      let branch : lower s.branch ≡ lower t.branch = ap branch_in same in
      let host : lower s.host ≡ lower t.host = ap host_in same in
      let port : s.port ≡ t.port = ap port_in same in
      let method : s.method ≡ t.method = ap method_in same in
      server_lower text key s
      ∙ ap (λ (b : List ℕ). server_low b (lower s.host) s.port s.method) branch
      ∙ ap (λ (h : List ℕ). server_low (lower t.branch) h s.port s.method) host
      ∙ ap (λ p. server_low (lower t.branch) (lower t.host) p s.method) port
      ∙ ap (server_low (lower t.branch) (lower t.host) t.port) method
      ∙ sym (server_lower other key t)

  other_sides : SpellsClient text key → SpellsServer other key → ⊥
  other_sides s t =
      let same : client_key s.branch s.method ≡ server_key t.branch t.host t.port t.method =
      sym s.named ∙ t.named in
      cc

other_sides_back : (text other : List ℕ) (key : Key) → SpellsServer text key
    → SpellsClient other key → ⊥
other_sides_back text other key s t = other_sides other text key t s

pub one_text : (version another : Version) (item : EventLine) (text other : List ℕ)
    → SpellsLine version text item → SpellsLine another other item → AreAlike item text other
one_text version another (line.Local address) text other s t = s.1 ∙ sym t.1
one_text version another (line.Seed seed) text other s t = s.1 ∙ sym t.1
one_text version another (line.First number) text other s t = s.1 ∙ sym t.1
one_text version another (line.Round moment) text other s t = s.1 ∙ sym t.1
one_text version another (line.Event (Datagram from bytes)) text other s t = s.1 ∙ sym t.1
one_text version another (line.Event (Failed key)) text other s t =
    elim s [
      | inl a ↦ elim t [
        | inl b ↦ two_clients text other key a b
        | inr b ↦ absurd (other_sides text other key a b)
      ]
      | inr a ↦ elim t [
        | inl b ↦ absurd (other_sides_back text other key a b)
        | inr b ↦ two_servers text other key a b
      ]
    ]
one_text version another (line.Event (Command c)) text other s t = s.1 ∙ sym t.1
one_text version another (line.Header header) text other s t = tt
