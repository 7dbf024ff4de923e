-- The lines of failed sends: what is read is spelled that way, and that spelling is read.
use Rattle.std.proofs.Common.{◌≡◌, ℕ, ◌≤◌, true, cond, List, ◌∷◌, ◌++◌, ◌⊎◌, Option, Some, None, sym, ap, subst, ◌∙◌, inl, inr, codes, decimal}
use Rattle.std.specs.Str.{bytes_eq}
use Rattle.sip_text.proofs.Cuts.{Reads, cut_took}
use Rattle.sip_text.proofs.Options.{bind_some, chosen}
use Rattle.sip_text.specs.Number.{number_at}
use Rattle.sip_text.specs.Cut.{cut_at, field_at}
use Rattle.sip_message.specs.declared.key.Key.{Key}
use Rattle.sip_files.specs.Word.{are_bytes, spelled_word}
use Rattle.sip_files.specs.Field.{plain_field, number_field, word_field}
use Rattle.sip_files.specs.Events.{IsMethod, SpellsClient, SpellsServer}
use Rattle.sip_files.specs.Steps.Reading.{word_at, both_at, ended_by}
use Rattle.sip_files.specs.Steps.ReadLine.{method_at, client_key_of, client_at, server_of, server_at, key_at, failed_at}
use Rattle.sip_files.proofs.CommandLines.{mapped, two_fields, four_fields}
use Rattle.sip_files.proofs.Cuts.{both_front, ended_reads}
use Rattle.sip_files.proofs.FieldLaws.{same_text, word_front, method_reads, port_front}

abbrev FitClient : List ℕ × List ℕ → Type 0
FitClient x = (are_bytes x.0 ≡ true) × IsMethod x.1

abbrev pub client_fields : List ℕ × List ℕ → List ℕ
client_fields x = spelled_word x.0 ++ 32 ∷ x.1

pub client_words : Reads FitClient client_fields (ended_by (field_at 32 word_at) method_at)
client_words = ended_reads word_front method_reads

pub client_text : (branch method : List ℕ)
    → codes "failed client" ++ word_field branch ++ plain_field method ≡ codes "failed client"
    ++ 32 ∷ client_fields (branch, method)
unfolding word_field plain_field
client_text branch method = sym (two_fields (codes "failed client") (spelled_word branch) method)

abbrev FitServer : ((List ℕ × List ℕ) × ℕ) × List ℕ → Type 0
FitServer x = (((are_bytes ((x.0).0).0 ≡ true) × (are_bytes ((x.0).0).1 ≡ true))
    × ((x.0).1 ≤ 65535)) × IsMethod x.1

abbrev pub server_fields : ((List ℕ × List ℕ) × ℕ) × List ℕ → List ℕ
server_fields x = ((spelled_word ((x.0).0).0 ++ 32 ∷ spelled_word ((x.0).0).1)
    ++ 32 ∷ decimal (x.0).1) ++ 32 ∷ x.1

pub server_words : Reads FitServer server_fields
    (ended_by (both_at (both_at (field_at 32 word_at) (field_at 32 word_at))
    (field_at 32 (number_at 65535))) method_at)
server_words = ended_reads (both_front (both_front word_front word_front) port_front) method_reads

pub server_text : (branch host : List ℕ) (port : ℕ) (method : List ℕ)
    → codes "failed server" ++ word_field branch ++ word_field host ++ number_field port
    ++ plain_field method ≡ codes "failed server"
    ++ 32 ∷ server_fields (((branch, host), port), method)
unfolding word_field number_field plain_field
server_text branch host port method =
    sym (four_fields (codes "failed server") (spelled_word branch) (spelled_word host)
    (decimal port) method)

module _ (fields : List ℕ) (key : Key) where
  client_took : client_at fields ≡ Some key
      → SpellsClient (codes "failed client" ++ 32 ∷ fields) key
  unfolding client_at
  client_took e =
      let x = mapped client_key_of (ended_by (field_at 32 word_at) method_at fields) key e in
      let t = client_words.took fields x.0 x.1 in
      record {
        branch = (x.0).0;
        method = (x.0).1;
        bytes = (t.0).0;
        token = (t.0).1;
        named = sym x.2;
        spelled = ap (λ (w : List ℕ). codes "failed client" ++ 32 ∷ w) t.1
            ∙ sym (client_text (x.0).0 (x.0).1);
      }

  server_took : server_at fields ≡ Some key
      → SpellsServer (codes "failed server" ++ 32 ∷ fields) key
  unfolding server_at
  server_took e =
      let x = mapped server_of (ended_by
      (both_at (both_at (field_at 32 word_at) (field_at 32 word_at))
      (field_at 32 (number_at 65535))) method_at fields) key e in
      let t = server_words.took fields x.0 x.1 in
      record {
        branch = (((x.0).0).0).0;
        host = (((x.0).0).0).1;
        port = ((x.0).0).1;
        method = (x.0).1;
        bytes = (((t.0).0).0).0;
        host_bytes = (((t.0).0).0).1;
        bound = ((t.0).0).1;
        token = (t.0).1;
        named = sym x.2;
        spelled = ap (λ (w : List ℕ). codes "failed server" ++ 32 ∷ w) t.1
            ∙ sym (server_text (((x.0).0).0).0 (((x.0).0).0).1 ((x.0).0).1 (x.0).1);
      }

abbrev SpellsFailed : List ℕ → Key → Type 0
SpellsFailed text key = SpellsClient text key ⊎ SpellsServer text key

key_took : (side fields : List ℕ) (key : Key) → key_at side fields ≡ Some key
    → SpellsFailed (codes "failed" ++ 32 ∷ (side ++ 32 ∷ fields)) key
key_took side fields key e =
    let P : List ℕ → Type 0 = λ k. SpellsFailed (codes "failed" ++ 32 ∷ (k ++ 32 ∷ fields)) key in
    elim (chosen (bytes_eq side (codes "client")) (client_at fields)
    (cond (bytes_eq side (codes "server")) (server_at fields) None) (Some key) e) [
      | inl a ↦ subst P (sym (same_text side (codes "client") a.0))
          (inl (client_took fields key a.1))
      | inr a ↦ elim (chosen (bytes_eq side (codes "server")) (server_at fields) None
          (Some key) a.1) [
            | inl b ↦ subst P (sym (same_text side (codes "server") b.0))
                (inr (server_took fields key b.1))
            | inr b ↦ absurd (let none : ◌≡◌ {A = Option Key} None (Some key) = b.1 in cc)
          ]
    ]

pub failed_took : (fields : List ℕ) (key : Key) → failed_at fields ≡ Some key
    → SpellsFailed (codes "failed" ++ 32 ∷ fields) key
unfolding failed_at
failed_took fields key e =
    let p = bind_some (cut_at 32 fields) (λ p. key_at p.0 p.1) key e in
    let whole = (cut_took 32 fields p.0 p.1).whole in
    subst (λ (f : List ℕ). SpellsFailed (codes "failed" ++ 32 ∷ f) key) (sym whole)
    (key_took p.0.0 p.0.1 key p.2)
